-- After an accepted line the lent thread book says what the history with the line says; the open items are as they were. Assumes nothing.
use Prim.Native.Nat.{ℕ, suc, pred, ◌+◌, ◌-◌, ◌≤◌, ◌<◌}
use mathlib.Core.Path.{◌≡◌, refl, sym, ap, ◌∙◌}
use mathlib.Core.Bool.{Bool, true, false, ◌&&◌}
use mathlib.Core.List.{List, [], ◌∷◌}
use native.Mathlib.Omega.{arith}
use lib.Dec.{eqb}
use lib.IntN.{ℤ}
use lib.ListN.{length}
use borrow.Author.Tests.{eqb-true}
use Rattle.words.specs.Choice.{if_true◌then◌else◌}
use Rattle.facts.specs.Named.{PushLocalFrame, PopLocalFrame, EnsureLocalCapacity, MonitorEnter, MonitorExit}
use Rattle.lines.specs.Line.{Line, N, X, C, R, A, D, is_zero}
use Rattle.history.specs.Past.{History, is_of}
use Rattle.history.specs.Items.{items, top_of, asked}
use Rattle.history.specs.Frames.{entered, pushed, frames, frames_after, without_pushed, depth}
use Rattle.history.specs.Handles.{alive_in}
use Rattle.history.specs.Capacities.{native_capacity, Finds, capacities, capacities_after}
use Rattle.history.specs.Thread.{pending, pending_after, monitors, monitors_after, env_after}
use Rattle.history.specs.Acceptance.{deepest}
use Rattle.history.specs.Replies.{most_lines}
use Rattle.history.proofs.Threads.{own_frames, own_capacities, own_pending, own_monitors, own_env, other_frames, other_capacities, other_pending, other_monitors, other_env_of, own_depth}
use Rattle.book.specs.Layout.{Stands}
use Rattle.book.specs.Threads.{Thread, thread_in}
use Rattle.book.specs.Moves.{frame_pushed, native_left, frames_ended, frame_popped, capacity_raised, env_set, pending_set, monitor_added, monitor_taken}
use Rattle.book.specs.Changes.{with_frame, cut_to, with_raised, with_pending, with_monitors, with_env, stay, Changes}
use Rattle.book.proofs.Changing.{frame_pushed_changes, native_left_changes, frames_ended_changes, frame_popped_changes, capacity_raised_changes, env_set_changes, pending_set_changes, monitor_added_changes, monitor_taken_changes, monitors_dropped_changes, and_then}
use Rattle.tables.specs.Acting.{env_kept, native_entered, detached, status_acted}
use Rattle.demands.specs.Tied.{past_thread}

-- ---- a thread after a line of its own: `held` locals are alive in its top frame, and `n` was asked of its open call

unfoldable pub thread_after : Line → ℕ → ℕ → Thread → Thread
thread_after e held n x =
    record {
      frames = frames_after e x.frames;
      capacities = capacities_after e (record { gone = length x.frames - length (frames_after e x.frames); held = held; asked = n }) x.capacities;
      pending = pending_after e x.pending;
      monitors = monitors_after e x.monitors;
      env = env_after e x.env;
    }

module _ (t : ℕ) (e : Line) (past : History) where
  pub past_thread_own : is_of t e ≡ true → past_thread t (e ∷ past) ≡ thread_after e (alive_in t (depth t past) past) (asked (top_of (items t past))) (past_thread t past)
  unfolding past_thread thread_after depth
  past_thread_own o =
      λ i.
      record {
        frames = own_frames t e past o i;
        capacities = with_depth i;
        pending = own_pending t e past o i;
        monitors = own_monitors t e past o i;
        env = own_env t e past o i;
      }
    where
      finds : ℕ → Finds
      finds d = record { gone = length (frames t past) - d; held = alive_in t (length (frames t past)) past; asked = asked (top_of (items t past)) }

      with_depth : capacities t (e ∷ past)
          ≡ capacities_after e (finds (length (frames_after e (frames t past)))) (capacities t past)
      with_depth =
          own_capacities t e past o
          ∙ ap (λ (d : ℕ). capacities_after e (finds d) (capacities t past)) (own_depth t e past o)

  pub past_thread_other : is_of t e ≡ false → past_thread t (e ∷ past) ≡ past_thread t past
  unfolding past_thread
  past_thread_other o =
      λ i.
      record {
        frames = other_frames t e past o i;
        capacities = other_capacities t e past o i;
        pending = other_pending t e past o i;
        monitors = other_monitors t e past o i;
        env = other_env_of t e past o i;
      }

-- ---- what is done to the book

module _ {b : List ℕ} {t : ℕ} where
  unchanged : Changes b b t stay stay
  unchanged =
      record {
        here = refl;
        items = refl;
        others = λ s n. refl;
        other_items = λ s n. refl;
        lines = refl;
        end_mark = refl;
        as_long = refl;
        kept = λ s k. k;
        as_fit = λ s n. refl;
      }

  -- said otherwise of the thread
  becomes : {e : List ℕ} {to : Thread → Thread} (to' : Thread → Thread) → Changes b e t to stay → to (thread_in b t) ≡ to' (thread_in b t) → Changes b e t to' stay
  becomes to' c is =
      record {
        here = c.here ∙ is;
        items = c.items;
        others = c.others;
        other_items = c.other_items;
        lines = c.lines;
        end_mark = c.end_mark;
        as_long = c.as_long;
        kept = c.kept;
        as_fit = c.as_fit;
      }

module _ (b : List ℕ) (t : ℕ) (stands : Stands b t) (held n : ℕ) where
  -- ---- N

  env_keeps : (d : List ℕ) → Stands d t → (env : ℕ) (q : Bool) → Changes d (if_true q then env_set d t env else d) t (λ x. if_true q then with_env env x else x) stay
  env_keeps d h env true = env_set_changes d t env h
  env_keeps d h env false = unchanged

  entered_thread : (env : ℕ) (hs : List ℕ) (x : Thread) (q : Bool) → eqb x.env 0 ≡ q
      → with_pending 0 (if_true q then with_env env (with_frame (native_capacity hs) entered x) else with_frame (native_capacity hs) entered x) ≡ thread_after (N t env hs) held n x
  unfolding with_pending with_env with_frame thread_after
  entered_thread env hs x true is = rw is
  entered_thread env hs x false is = rw is

  pub enter_changes : (env : ℕ) (hs : List ℕ) → length (thread_in b t).frames < deepest
      → Changes b (native_entered b t env hs) t (thread_after (N t env hs) held n) stay
  enter_changes env hs few =
      let d = frame_pushed b t (native_capacity hs) false in
      let q = eqb (thread_in d t).env 0 in
      let first = frame_pushed_changes b t (native_capacity hs) false stands few in
      let second = env_keeps d (omega (arith, first.as_long)) env q in
      let third = pending_set_changes (env_kept d t env) t 0 (omega (arith, first.as_long, second.as_long)) in
      becomes (thread_after (N t env hs) held n) (and_then (and_then first second) third)
      (entered_thread env hs (thread_in b t) q (sym (ap (λ (v : ℕ). eqb v 0) (ap (λ (x : Thread). x.env) first.here ∙ same_env (native_capacity hs) (thread_in b t)))))
    where
      same_env : (k : ℕ) (x : Thread) → (with_frame k entered x).env ≡ x.env
      same_env k x = unfold with_frame in refl

  -- ---- A: as N with no handles

  pub attach_changes : (env : ℕ) → length (thread_in b t).frames < deepest → Changes b (native_entered b t env []) t (thread_after (A t env) held n) stay
  attach_changes env few = becomes (thread_after (A t env) held n) (enter_changes env [] few) (unfold thread_after in refl)

  -- ---- D

  detached_thread : (x : Thread) → with_monitors 0 (cut_to [] x) ≡ thread_after (D t) held n x
  unfolding with_monitors cut_to thread_after
  detached_thread x = refl

  pub detach_changes : Changes b (detached b t) t (thread_after (D t) held n) stay
  detach_changes =
      let first = frames_ended_changes b t stands in
      becomes (thread_after (D t) held n) (and_then first (monitors_dropped_changes (frames_ended b t) t (omega (arith, first.as_long)))) (detached_thread (thread_in b t))

  -- ---- X

  pub leave_changes : (r : ℕ) → Changes b (native_left b t) t (thread_after (X t r) held n) stay
  unfolding cut_to thread_after
  leave_changes r = becomes (thread_after (X t r) held n) (native_left_changes b t stands) refl

  -- ---- C

  called_thread : (env f a c d : ℕ) (m : ℤ) (x : Thread) (q : Bool) → eqb f PopLocalFrame ≡ q
      → (if_true q then cut_to (without_pushed x.frames) x else x) ≡ thread_after (C t env f a c d m) held n x
  unfolding cut_to thread_after
  called_thread env f a c d m x true is = rw is
  called_thread env f a c d m x false is =
      let none : length x.frames - length x.frames ≡ 0 = omega arith in
      rw (is, none)

  pub call_changes : (env f a c d : ℕ) (m : ℤ) → Changes b (if_true eqb f PopLocalFrame then frame_popped b t else b) t (thread_after (C t env f a c d m) held n) stay
  call_changes env f a c d m = go (eqb f PopLocalFrame) refl
    where
      go : (q : Bool) → eqb f PopLocalFrame ≡ q → Changes b (if_true q then frame_popped b t else b) t (thread_after (C t env f a c d m) held n) stay
      go true is = becomes (thread_after (C t env f a c d m) held n) (frame_popped_changes b t stands) (called_thread env f a c d m (thread_in b t) true is)
      go false is = becomes (thread_after (C t env f a c d m) held n) unchanged (called_thread env f a c d m (thread_in b t) false is)

  -- ---- R

  abbrev status_thread : (push raise add take : Bool) → Thread → Thread
  status_thread push raise add take x =
      if_true push then with_frame n pushed x
      else if_true raise then with_raised (held + n) x
      else if_true add then with_monitors (suc x.monitors) x
      else if_true take then with_monitors (pred x.monitors) x
      else x

  status_changes : (push raise add take : Bool) → (push ≡ true → length (thread_in b t).frames < deepest) → (thread_in b t).monitors ≤ most_lines
      → Changes b
      (if_true push then frame_pushed b t n true
      else if_true raise then capacity_raised b t (held + n)
      else if_true add then monitor_added b t
      else if_true take then monitor_taken b t
      else b)
      t
      (status_thread push raise add take)
      stay
  status_changes true raise add take few fits = frame_pushed_changes b t n true stands (few refl)
  status_changes false true add take few fits = capacity_raised_changes b t (held + n) stands
  status_changes false false true take few fits = monitor_added_changes b t stands fits
  status_changes false false false true few fits = monitor_taken_changes b t stands
  status_changes false false false false few fits = unchanged

  -- a push or a raise is no monitor's
  record Apart (push raise add take : Bool) : Type 0 where
    by_push : push ≡ true → (add ≡ false) × (take ≡ false)
    by_raise : raise ≡ true → (add ≡ false) × (take ≡ false)

  returned_thread : (f p : ℕ) (r : ℤ) (x : Thread) (acts push raise add take : Bool) → is_zero r ≡ acts → eqb f PushLocalFrame ≡ push → eqb f EnsureLocalCapacity ≡ raise
      → eqb f MonitorEnter ≡ add → eqb f MonitorExit ≡ take → Apart push raise add take
      → with_pending p (if_true acts then status_thread push raise add take x else x) ≡ thread_after (R t f r p) held n x
  unfolding with_pending with_frame with_raised with_monitors thread_after
  returned_thread f p r x false true raise add take z a b c d apart = rw (z, a)
  returned_thread f p r x false false raise add take z a b c d apart = rw (z, a)
  returned_thread f p r x true true raise add take z a b c d apart = rw (z, a, c ∙ (apart.by_push refl).0, d ∙ (apart.by_push refl).1)
  returned_thread f p r x true false true add take z a b c d apart = rw (z, a, b, c ∙ (apart.by_raise refl).0, d ∙ (apart.by_raise refl).1)
  returned_thread f p r x true false false true take z a b c d apart = rw (z, a, b, c)
  returned_thread f p r x true false false false true z a b c d apart = rw (z, a, b, c, d)
  returned_thread f p r x true false false false false z a b c d apart = rw (z, a, b, c, d)

  functions_apart : (f : ℕ) → Apart (eqb f PushLocalFrame) (eqb f EnsureLocalCapacity) (eqb f MonitorEnter) (eqb f MonitorExit)
  functions_apart f =
      record {
        by_push = λ k. (rw (eqb-true f PushLocalFrame k), rw (eqb-true f PushLocalFrame k));
        by_raise = λ k. (rw (eqb-true f EnsureLocalCapacity k), rw (eqb-true f EnsureLocalCapacity k));
      }

  pub return_changes : (f p : ℕ) (r : ℤ) → ((eqb f PushLocalFrame && is_zero r) ≡ true → length (thread_in b t).frames < deepest) → (thread_in b t).monitors ≤ most_lines
      → Changes b (pending_set (if_true is_zero r then status_acted b t f held n else b) t p) t (thread_after (R t f r p) held n) stay
  return_changes f p r few fits = go (is_zero r) refl few
    where
      all : Bool → Thread → Thread
      all acts = λ x. if_true acts then status_thread (eqb f PushLocalFrame) (eqb f EnsureLocalCapacity) (eqb f MonitorEnter) (eqb f MonitorExit) x else x

      status : (acts : Bool) → ((eqb f PushLocalFrame && acts) ≡ true → length (thread_in b t).frames < deepest)
          → Changes b (if_true acts then status_acted b t f held n else b) t (all acts) stay
      status true few = status_changes (eqb f PushLocalFrame) (eqb f EnsureLocalCapacity) (eqb f MonitorEnter) (eqb f MonitorExit) (λ k. few (ap (λ (q : Bool). q && true) k)) fits
      status false few = unchanged

      go : (acts : Bool) → is_zero r ≡ acts → ((eqb f PushLocalFrame && acts) ≡ true → length (thread_in b t).frames < deepest)
          → Changes b (pending_set (if_true acts then status_acted b t f held n else b) t p) t (thread_after (R t f r p) held n) stay
      go acts is few =
          let d = if_true acts then status_acted b t f held n else b in
          let first = status acts few in
          becomes (thread_after (R t f r p) held n) (and_then first (pending_set_changes d t p (omega (arith, first.as_long))))
          (returned_thread f p r (thread_in b t) acts (eqb f PushLocalFrame) (eqb f EnsureLocalCapacity) (eqb f MonitorEnter) (eqb f MonitorExit) is refl refl refl refl (functions_apart f))
