-- No line but those named changes a thread's open items, frames, capacities, pending exception or monitors. Assumes nothing.
use Prim.Native.Nat.{ℕ, ◌-◌}
use mathlib.Core.Path.{◌≡◌, refl, sym, ap, ◌∙◌, subst}
use mathlib.Core.Logic.{◌≢◌}
use mathlib.Core.Bool.{true, false, false≢true, and-false}
use mathlib.Core.List.{List, [], ◌∷◌}
use lib.Dec.{eqb}
use lib.IntN.{ℤ, pos, negsuc}
use lib.ListN.{length, drop}
use borrow.Author.Tests.{eqb-true}
use Rattle.facts.specs.Named.{PushLocalFrame, PopLocalFrame, EnsureLocalCapacity, MonitorEnter, MonitorExit}
use Rattle.lines.specs.Line.{Line, N, X, C, R, A, D, Z, states, is_zero}
use Rattle.history.specs.Past.{History, thread_of, is_of, through}
use Rattle.history.specs.Items.{Item, items, items_after}
use Rattle.history.specs.Frames.{Frame, entered, pushed, frames, frames_after, without_pushed, depth}
use Rattle.history.specs.Capacities.{capacities}
use Rattle.history.specs.Thread.{pending, pending_after, monitors, monitors_after}
use Rattle.history.specs.Changes.{ChangesItems, opens_native, opens_call, closes_native, closes_call, attaches, detaches, ChangesFrames, opens_frame, opens_attached, ends_frames, ends_all_frames, pops_frame, pushes_frame, ChangesCapacities, with_frames, raises_capacity, ChangesPending, clears_pending, clears_attached, sets_pending, ChangesMonitors, adds_monitor, takes_monitor, drops_monitors}
use Rattle.history.proofs.Tests.{never_true, whether}
use Rattle.history.proofs.Threads.{own_items, other_items, own_frames, other_frames, own_capacities, other_capacities, own_pending, other_pending, own_monitors, other_monitors, thread_is}
use Rattle.history.proofs.Capacities.{nothing_dropped}

-- at a start a thread has nothing
pub nothing_at_start : (t : ℕ) → (items t [] ≡ []) × (frames t [] ≡ []) × (capacities t [] ≡ []) × (pending t [] ≡ 0) × (monitors t [] ≡ 0)
unfolding items frames capacities pending monitors through
nothing_at_start t = (refl, refl, refl, refl, refl)

zero_is : (r : ℤ) → is_zero r ≡ true → r ≡ pos 0
zero_is (pos n) h = ap pos (eqb-true n 0 h)
zero_is (negsuc n) h = absurd (false≢true h)

-- where R of g with status 0 would be such a line, and R of f is none, f is not g
another_function : (P : Line → Type 0) (t f g p : ℕ) (r : ℤ) → ¬ P (R t f r p) → P (R t g (pos 0) p) → is_zero r ≡ true → eqb f g ≡ false
another_function P t f g p r k h z = never_true (eqb f g) (λ is. k (rw (eqb-true f g is, zero_is r z) h))

-- ---- open items

items_line : (e : Line) (is : List Item) → ¬ ChangesItems (thread_of e) e → items_after e is ≡ is
items_line (N t env hs) is k = absurd (k (opens_native env hs))
items_line (X t r) is k = absurd (k (closes_native r))
items_line (C t env f a b c n) is k = absurd (k (opens_call env f a b c n))
items_line (R t f r p) is k = absurd (k (closes_call f p r))
items_line (A t env) is k = absurd (k (attaches env))
items_line (D t) is k = absurd (k detaches)
items_line Z is k = refl
items_line (states s) is k = refl

pub items_kept : (t : ℕ) (e : Line) (past : History) → ¬ ChangesItems t e → items t (e ∷ past) ≡ items t past
items_kept t e past k =
    whether (is_of t e) (λ o. own_items t e past o ∙ items_line e (items t past) (subst (λ (s : ℕ). ¬ ChangesItems s e) (sym (thread_is t e o)) k)) (other_items t e past)

-- ---- frames

not_popped : (fs : List Frame) → ((below : List Frame) → fs ≢ pushed ∷ below) → without_pushed fs ≡ fs
not_popped [] h = refl
not_popped (entered ∷ fs) h = refl
not_popped (pushed ∷ fs) h = absurd (h fs refl)

frames_line : (e : Line) (past : History) → ¬ ChangesFrames (thread_of e) past e → frames_after e (frames (thread_of e) past) ≡ frames (thread_of e) past
frames_line (N t env hs) past k = absurd (k (opens_frame env hs))
frames_line (X t r) past k = absurd (k (ends_frames r))
frames_line (C t env f a b c n) past k =
    whether (eqb f PopLocalFrame)
    (λ is. rw is (not_popped (frames t past) (λ below top. k (rw (eqb-true f PopLocalFrame is) (pops_frame env a b c n below top)))))
    (λ is. rw is)
frames_line (R t f r p) past k =
    whether (is_zero r)
    (λ z. simp (another_function (ChangesFrames t past) t f PushLocalFrame p r k (pushes_frame p) z))
    (λ z. simp (z, and-false))
frames_line (A t env) past k = absurd (k (opens_attached env))
frames_line (D t) past k = absurd (k ends_all_frames)
frames_line Z past k = refl
frames_line (states s) past k = refl

pub frames_kept : (t : ℕ) (e : Line) (past : History) → ¬ ChangesFrames t past e → frames t (e ∷ past) ≡ frames t past
frames_kept t e past k =
    whether (is_of t e)
    (λ o. own_frames t e past o ∙ subst (λ (s : ℕ). ¬ ChangesFrames s past e → frames_after e (frames s past) ≡ frames s past) (thread_is t e o) (frames_line e past) k)
    (other_frames t e past)

-- ---- capacities

capacities_line : (e : Line) (past : History) → is_of (thread_of e) e ≡ true → ¬ ChangesCapacities (thread_of e) past e
    → capacities (thread_of e) (e ∷ past) ≡ capacities (thread_of e) past
unfolding depth
capacities_line (N t env hs) past o k = absurd (k (with_frames (N t env hs) (opens_frame env hs)))
capacities_line (X t r) past o k = absurd (k (with_frames (X t r) (ends_frames r)))
capacities_line (C t env f a b c n) past o k =
    own_capacities t (C t env f a b c n) past o
    ∙ ap (λ (fs : List Frame). drop (length (frames t past) - length fs) (capacities t past)) (frames_kept t (C t env f a b c n) past (λ x. k (with_frames (C t env f a b c n) x)))
    ∙ nothing_dropped (length (frames t past)) (capacities t past)
capacities_line (R t f r p) past o k =
    own_capacities t (R t f r p) past o
    ∙ whether (is_zero r)
    (λ z. simp (
      z,
      another_function (ChangesCapacities t past) t f PushLocalFrame p r k (with_frames (R t PushLocalFrame (pos 0) p) (pushes_frame p)) z,
      another_function (ChangesCapacities t past) t f EnsureLocalCapacity p r k (raises_capacity p) z,
    ))
    (λ z. simp z)
capacities_line (A t env) past o k = absurd (k (with_frames (A t env) (opens_attached env)))
capacities_line (D t) past o k = absurd (k (with_frames (D t) ends_all_frames))
capacities_line Z past o k = absurd (false≢true o)
capacities_line (states s) past o k = absurd (false≢true o)

pub capacities_kept : (t : ℕ) (e : Line) (past : History) → ¬ ChangesCapacities t past e → capacities t (e ∷ past) ≡ capacities t past
capacities_kept t e past k =
    whether (is_of t e)
    (λ o. subst (λ (s : ℕ). is_of s e ≡ true → ¬ ChangesCapacities s past e → capacities s (e ∷ past) ≡ capacities s past) (thread_is t e o) (capacities_line e past) o k)
    (other_capacities t e past)

-- ---- pending

pending_line : (e : Line) (p : ℕ) → ¬ ChangesPending (thread_of e) e → pending_after e p ≡ p
pending_line (N t env hs) p k = absurd (k (clears_pending env hs))
pending_line (X t r) p k = refl
pending_line (C t env f a b c n) p k = refl
pending_line (R t f r q) p k = absurd (k (sets_pending f q r))
pending_line (A t env) p k = absurd (k (clears_attached env))
pending_line (D t) p k = refl
pending_line Z p k = refl
pending_line (states s) p k = refl

pub pending_kept : (t : ℕ) (e : Line) (past : History) → ¬ ChangesPending t e → pending t (e ∷ past) ≡ pending t past
pending_kept t e past k =
    whether (is_of t e) (λ o. own_pending t e past o ∙ pending_line e (pending t past) (subst (λ (s : ℕ). ¬ ChangesPending s e) (sym (thread_is t e o)) k)) (other_pending t e past)

-- ---- monitors

monitors_line : (e : Line) (m : ℕ) → ¬ ChangesMonitors (thread_of e) e → monitors_after e m ≡ m
monitors_line (N t env hs) m k = refl
monitors_line (X t r) m k = refl
monitors_line (C t env f a b c n) m k = refl
monitors_line (R t f r p) m k =
    whether (is_zero r)
    (λ z. simp (
      z,
      another_function (ChangesMonitors t) t f MonitorEnter p r k (adds_monitor p) z,
      another_function (ChangesMonitors t) t f MonitorExit p r k (takes_monitor p) z,
    ))
    (λ z. simp z)
monitors_line (A t env) m k = refl
monitors_line (D t) m k = absurd (k drops_monitors)
monitors_line Z m k = refl
monitors_line (states s) m k = refl

pub monitors_kept : (t : ℕ) (e : Line) (past : History) → ¬ ChangesMonitors t e → monitors t (e ∷ past) ≡ monitors t past
monitors_kept t e past k =
    whether (is_of t e) (λ o. own_monitors t e past o ∙ monitors_line e (monitors t past) (subst (λ (s : ℕ). ¬ ChangesMonitors s e) (sym (thread_is t e o)) k)) (other_monitors t e past)
