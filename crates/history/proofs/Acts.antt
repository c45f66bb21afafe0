-- What lines do to a thread's stacks, pending exception and monitors, sentence by sentence. Assumes nothing.
use Prim.Native.Nat.{ℕ, suc, pred, ◌+◌, ◌-◌, max}
use mathlib.Core.Path.{◌≡◌, ap, ap₂, ◌∙◌}
use mathlib.Core.Bool.{Bool, false, ◌&&◌, and-false}
use mathlib.Core.List.{List, ◌∷◌, tail}
use lib.Dec.{eqb}
use lib.IntN.{ℤ, pos}
use lib.ListN.{length, drop}
use Rattle.words.specs.Choice.{if_true◌then◌else◌}
use Rattle.facts.specs.Named.{PushLocalFrame, PopLocalFrame, EnsureLocalCapacity, MonitorEnter, MonitorExit}
use Rattle.lines.specs.Line.{N, X, C, R, is_zero, above_zero}
use Rattle.history.specs.Past.{History}
use Rattle.history.specs.Items.{in_native, in_call, items, top_of, asked}
use Rattle.history.specs.Frames.{Frame, entered, pushed, frames, depth, without_native, without_pushed}
use Rattle.history.specs.Handles.{alive_in}
use Rattle.history.specs.Capacities.{capacities, raised}
use Rattle.history.specs.Thread.{pending, monitors}
use Rattle.history.proofs.Tests.{eqb_self}
use Rattle.history.proofs.Threads.{own_items, own_frames, own_capacities, own_pending, own_monitors}
use Rattle.history.proofs.Capacities.{one_dropped}

-- ---- N

module _ (t env : ℕ) (hs : List ℕ) (past : History) where
  -- N opens a native
  pub enter_items : items t (N t env hs ∷ past) ≡ in_native ∷ items t past
  enter_items = own_items t (N t env hs) past (eqb_self t)

  -- and a frame
  pub enter_frames : frames t (N t env hs ∷ past) ≡ entered ∷ frames t past
  enter_frames = own_frames t (N t env hs) past (eqb_self t)

  -- of capacity 16 plus the number of its handles
  pub enter_capacities : capacities t (N t env hs ∷ past) ≡ (16 + length hs) ∷ capacities t past
  enter_capacities = own_capacities t (N t env hs) past (eqb_self t)

  -- pending becomes 0
  pub enter_pending : pending t (N t env hs ∷ past) ≡ 0
  enter_pending = own_pending t (N t env hs) past (eqb_self t)

-- ---- X

module _ (t r : ℕ) (past : History) where
  -- X closes it
  pub leave_items : items t (X t r ∷ past) ≡ tail (items t past)
  leave_items = own_items t (X t r) past (eqb_self t)

  -- and ends all its frames
  pub leave_frames : frames t (X t r ∷ past) ≡ without_native (frames t past)
  leave_frames = own_frames t (X t r) past (eqb_self t)

  -- pending is as it was
  pub leave_pending : pending t (X t r ∷ past) ≡ pending t past
  leave_pending = own_pending t (X t r) past (eqb_self t)

-- ---- C

module _ (t env f a b c : ℕ) (n : ℤ) (past : History) where
  -- C opens a call, with max(n,0)
  pub call_items : items t (C t env f a b c n ∷ past) ≡ in_call f (above_zero n) ∷ items t past
  call_items = own_items t (C t env f a b c n) past (eqb_self t)

  -- no function clears what is pending by its call: the R line says what is pending
  pub call_pending : pending t (C t env f a b c n ∷ past) ≡ pending t past
  call_pending = own_pending t (C t env f a b c n) past (eqb_self t)

-- C of 20 ends the top frame, if that frame was pushed
pub pop_frames : (t env a b c : ℕ) (n : ℤ) (past : History) (below : List Frame) → frames t past ≡ pushed ∷ below
    → frames t (C t env PopLocalFrame a b c n ∷ past) ≡ below
pop_frames t env a b c n past below is = own_frames t (C t env PopLocalFrame a b c n) past (eqb_self t) ∙ ap without_pushed is

-- and else none
pub pop_nothing : (t env a b c : ℕ) (n : ℤ) (past : History) (below : List Frame) → frames t past ≡ entered ∷ below
    → frames t (C t env PopLocalFrame a b c n ∷ past) ≡ entered ∷ below
pop_nothing t env a b c n past below is = own_frames t (C t env PopLocalFrame a b c n) past (eqb_self t) ∙ ap without_pushed is

-- the capacity of the frame that it ends goes with it
pub pop_capacities : (t env a b c : ℕ) (n : ℤ) (past : History) (below : List Frame) → frames t past ≡ pushed ∷ below
    → capacities t (C t env PopLocalFrame a b c n ∷ past) ≡ tail (capacities t past)
unfolding depth
pop_capacities t env a b c n past below is =
    own_capacities t (C t env PopLocalFrame a b c n) past (eqb_self t)
    ∙ ap₂ (λ (fs gs : List Frame). drop (length fs - length gs) (capacities t past)) is (pop_frames t env a b c n past below is)
    ∙ one_dropped (length below) (capacities t past)

-- ---- R

module _ (t f p : ℕ) (r : ℤ) (past : History) where
  -- R closes its call
  pub return_items : items t (R t f r p ∷ past) ≡ tail (items t past)
  return_items = own_items t (R t f r p) past (eqb_self t)

  -- and sets pending
  pub return_pending : pending t (R t f r p ∷ past) ≡ p
  return_pending = own_pending t (R t f r p) past (eqb_self t)

  -- another status pushes no frame
  pub other_status_frames : is_zero r ≡ false → frames t (R t f r p ∷ past) ≡ frames t past
  other_status_frames z =
      own_frames t (R t f r p) past (eqb_self t)
      ∙ ap (λ (q : Bool). if_true eqb f PushLocalFrame && q then pushed ∷ frames t past else frames t past) z
      ∙ ap (λ (q : Bool). if_true q then pushed ∷ frames t past else frames t past) (and-false (eqb f PushLocalFrame))

  -- and raises no capacity
  pub other_status_capacities : is_zero r ≡ false → capacities t (R t f r p ∷ past) ≡ capacities t past
  other_status_capacities z = own_capacities t (R t f r p) past (eqb_self t) ∙ rw z

  -- and changes no monitor
  pub other_status_monitors : is_zero r ≡ false → monitors t (R t f r p ∷ past) ≡ monitors t past
  other_status_monitors z = own_monitors t (R t f r p) past (eqb_self t) ∙ rw z

module _ (t p : ℕ) (past : History) where
  -- with status 0, 19 pushes a frame
  pub push_frames : frames t (R t PushLocalFrame (pos 0) p ∷ past) ≡ pushed ∷ frames t past
  push_frames = own_frames t (R t PushLocalFrame (pos 0) p) past (eqb_self t)

  -- of capacity max(n,0), n being that of the matching C
  pub push_capacities : capacities t (R t PushLocalFrame (pos 0) p ∷ past) ≡ asked (top_of (items t past)) ∷ capacities t past
  push_capacities = own_capacities t (R t PushLocalFrame (pos 0) p) past (eqb_self t)

  -- 26 raises the top frame's capacity to max(old, locals alive in it + max(n,0))
  pub ensure_capacities : (old : ℕ) (lower : List ℕ) → capacities t past ≡ old ∷ lower
      → capacities t (R t EnsureLocalCapacity (pos 0) p ∷ past) ≡ max old (alive_in t (depth t past) past + asked (top_of (items t past))) ∷ lower
  ensure_capacities old lower is =
      own_capacities t (R t EnsureLocalCapacity (pos 0) p) past (eqb_self t)
      ∙ ap (λ (cs : List ℕ). raised (alive_in t (depth t past) past + asked (top_of (items t past))) cs) is

  -- 217 adds one to the thread's monitors
  pub enter_monitors : monitors t (R t MonitorEnter (pos 0) p ∷ past) ≡ suc (monitors t past)
  enter_monitors = own_monitors t (R t MonitorEnter (pos 0) p) past (eqb_self t)

  -- 218 takes one if there is any
  pub exit_monitors : monitors t (R t MonitorExit (pos 0) p ∷ past) ≡ pred (monitors t past)
  exit_monitors = own_monitors t (R t MonitorExit (pos 0) p) past (eqb_self t)
