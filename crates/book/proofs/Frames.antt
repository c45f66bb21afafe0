-- What is written to a row changes the thread that it stands for, its open items apart. Assumes nothing.
use Rattle.std.proofs.Common.{◌≡◌, ℕ, zero, suc, ◌+◌, ◌-◌, ◌<◌, ◌≤◌, min, max, Bool, true, false, eqb, ltb, List, [], ◌∷◌, length, sym, refl, ap, ◌∙◌, ap₂, inl, arith, lt-ltb, eq-eqb, ne_eqb}
use Rattle.words.specs.Choice.{if_true◌then◌else◌, one}
use Rattle.history.specs.Frames.{Frame, without_native, without_pushed}
use Rattle.history.specs.Acceptance.{deepest}
use Rattle.book.specs.Layout.{env_at, pending_at, monitors_at, frames_at, capacity_at, pushed_at, items_at, Write, into}
use Rattle.book.specs.Threads.{Row, stack, depth, frame_is, is_pushed, thread_of, top_capacity}
use Rattle.book.specs.Moves.{push_frame, leave_native, pop_frame, raise_capacity}
use Rattle.book.specs.Changes.{with_frame, cut_to, with_raised, with_pending, with_monitors, with_env}
use Rattle.book.proofs.Rows.{after, Among, none, more, after_apart}
use Rattle.book.proofs.Stacks.{stack_ext, length_stack, drop_stack, Lowest, native_lowest, pushed_lowest}

-- ---- what a written row holds in a column
pub hit : (j v x : ℕ) → (if_true eqb j j then v else x) ≡ v
hit j v x = rw (eq-eqb j j refl)

pub miss : (j v k x : ℕ) → (k ≡ j → ⊥) → (if_true eqb k j then v else x) ≡ x
miss j v k x n = rw (ne_eqb k j n)

-- ---- a thread by its parts
pub depth_most : (c : Row) → depth c ≤ deepest
unfolding depth
depth_most c = omega arith

-- the frames that stand
abbrev pub frame_in : Row → ℕ → Frame
frame_in c i = frame_is (is_pushed c i)

pub length_frames : (c : Row) → length (thread_of c).frames ≡ depth c
unfolding thread_of
length_frames c = length_stack (frame_in c) (depth c)

frame_same : (c e : Row) (i : ℕ) → e (pushed_at i) ≡ c (pushed_at i) → frame_in e i ≡ frame_in c i
unfolding is_pushed
frame_same c e i h = rw h

-- a thread of m frames
thread_is : (e : Row) (fs : List Frame) (ks : List ℕ) (p q r m : ℕ) → depth e ≡ m → stack (frame_in e) m ≡ fs → stack (λ i. e (capacity_at i)) m ≡ ks
    → e pending_at ≡ p → e monitors_at ≡ q → e env_at ≡ r
    → thread_of e ≡ record { frames = fs; capacities = ks; pending = p; monitors = q; env = r }
unfolding thread_of
thread_is e fs ks p q r m d f k x y z = rw (d, f, k, x, y, z)

-- it hangs on its own columns alone
pub thread_by : (c e : Row) → ((k : ℕ) → env_at ≤ k → k < items_at → c k ≡ e k) → thread_of c ≡ thread_of e
unfolding thread_of depth
thread_by c e h =
    let n : min (c frames_at) deepest ≡ min (e frames_at) deepest = ap (λ (x : ℕ). min x deepest) (h frames_at (omega arith) (omega arith)) in
    let f : stack (frame_in c) (min (c frames_at) deepest) ≡ stack (frame_in e) (min (c frames_at) deepest) =
    stack_ext _ _ (min (c frames_at) deepest) (λ i l. frame_same e c i (h (pushed_at i) (omega arith) (omega arith))) in
    let k : stack (λ i. c (capacity_at i)) (min (c frames_at) deepest) ≡ stack (λ i. e (capacity_at i)) (min (c frames_at) deepest) =
    stack_ext _ _ (min (c frames_at) deepest) (λ i l. h (capacity_at i) (omega arith) (omega arith)) in
    rw (f, k, n, h pending_at (omega arith) (omega arith), h monitors_at (omega arith) (omega arith), h env_at (omega arith) (omega arith))

-- ---- fewer frames
fewer : (c : Row) (m : ℕ) → m ≤ depth c → thread_of (after c (into frames_at m ∷ [])) ≡ cut_to (stack (frame_in c) m) (thread_of c)
unfolding thread_of cut_to depth
fewer c m h =
    let e = after c (into frames_at m ∷ []) in
    let n : min m deepest ≡ m = omega arith in
    let k = drop_stack (λ i. c (capacity_at i)) (min (c frames_at) deepest) m h in
    rw (length_stack (frame_in c) (min (c frames_at) deepest), length_stack (frame_in c) m, k)
    (thread_is e _ _ _ _ _ m n
    (stack_ext _ _ m (λ i l. frame_same c e i (miss frames_at m (pushed_at i) (c (pushed_at i)) (λ q. absurd (omega arith)))))
    (stack_ext _ _ m (λ i l. miss frames_at m (capacity_at i) (c (capacity_at i)) (λ q. absurd (omega arith))))
    refl
    refl
    refl)

lowest_left : (c : Row) (fs : List Frame) → Lowest (frame_in c) (depth c) fs
    → thread_of (after c (into frames_at (length fs) ∷ [])) ≡ cut_to fs (thread_of c)
lowest_left c fs l = fewer c (length fs) l.within ∙ ap (λ (gs : List Frame). cut_to gs (thread_of c)) (sym l.same)

-- X
pub thread_left : (c : Row) → thread_of (after c (leave_native (thread_of c))) ≡ cut_to (without_native (thread_of c).frames) (thread_of c)
unfolding leave_native
thread_left c = lowest_left c (without_native (thread_of c).frames) (unfold thread_of in native_lowest (frame_in c) (depth c))

pub left_within : (c : Row) → length (without_native (thread_of c).frames) ≤ deepest
unfolding thread_of
left_within c = omega (arith, (native_lowest (frame_in c) (depth c)).within, depth_most c)

-- D
pub thread_bare : (c : Row) → thread_of (after c (into frames_at 0 ∷ [])) ≡ cut_to [] (thread_of c)
thread_bare c = fewer c 0 (omega arith)

-- C of 20
pub thread_popped : (c : Row) → thread_of (after c (pop_frame (thread_of c))) ≡ cut_to (without_pushed (thread_of c).frames) (thread_of c)
unfolding pop_frame
thread_popped c = lowest_left c (without_pushed (thread_of c).frames) (unfold thread_of in pushed_lowest (frame_in c) (depth c))

pub popped_within : (c : Row) → length (without_pushed (thread_of c).frames) ≤ deepest
unfolding thread_of
popped_within c = omega (arith, (pushed_lowest (frame_in c) (depth c)).within, depth_most c)

-- ---- a frame more

-- the writes that push frame d, counted from 0
abbrev pub pushing : ℕ → Bool → ℕ → List Write
pushing n p d = into (capacity_at d) n ∷ into (pushed_at d) (one p) ∷ into frames_at (d + 1) ∷ []

pub pushing_among : (n : ℕ) (p : Bool) (d : ℕ) → d < deepest → Among frames_at items_at (pushing n p d)
pushing_among n p d h =
    more {j = capacity_at d} (omega arith) (omega arith) (more {j = pushed_at d} (omega arith) (omega arith) (more {j = frames_at} (omega arith) (omega arith) none))

pushing_depth : (c : Row) (n : ℕ) (p : Bool) (d : ℕ) → d < deepest → depth (after c (pushing n p d)) ≡ suc d
unfolding depth
pushing_depth c n p d h = omega arith

pushing_pushed : (c : Row) (n : ℕ) (p : Bool) (d i : ℕ) → d < deepest → i ≤ d
    → after c (pushing n p d) (pushed_at i) ≡ (if_true eqb (pushed_at i) (pushed_at d) then one p else c (pushed_at i))
pushing_pushed c n p d i k h =
    miss frames_at (d + 1) (pushed_at i) _ (λ q. absurd (omega arith))
    ∙ ap (λ (x : ℕ). if_true eqb (pushed_at i) (pushed_at d) then one p else x) (miss (capacity_at d) n (pushed_at i) (c (pushed_at i)) (λ q. absurd (omega arith)))

pushing_capacity : (c : Row) (n : ℕ) (p : Bool) (d i : ℕ) → d < deepest → i ≤ d
    → after c (pushing n p d) (capacity_at i) ≡ (if_true eqb (capacity_at i) (capacity_at d) then n else c (capacity_at i))
pushing_capacity c n p d i k h =
    miss frames_at (d + 1) (capacity_at i) _ (λ q. absurd (omega arith)) ∙ miss (pushed_at d) (one p) (capacity_at i) _ (λ q. absurd (omega arith))

marked : (e : Row) (p : Bool) (d : ℕ) → e (pushed_at d) ≡ one p → frame_in e d ≡ frame_is p
unfolding is_pushed
marked e true d h = rw h
marked e false d h = rw h

pushed_more : (c : Row) (n : ℕ) (p : Bool) (d : ℕ) → depth c ≡ d → d < deepest → thread_of (after c (pushing n p d)) ≡ with_frame n (frame_is p) (thread_of c)
unfolding with_frame thread_of
pushed_more c n p d e h =
    let a = after c (pushing n p d) in
    let w = pushing_among n p d h in
    let f : stack (frame_in a) (suc d) ≡ frame_is p ∷ stack (frame_in c) d =
    ap₂ {C = List Frame} (λ x l. x ∷ l) (marked a p d (pushing_pushed c n p d d h (omega arith) ∙ hit (pushed_at d) (one p) _))
    (stack_ext _ _ d
    (λ i l. frame_same c a i (pushing_pushed c n p d i h (omega arith) ∙ miss (pushed_at d) (one p) (pushed_at i) (c (pushed_at i)) (λ q. absurd (omega arith))))) in
    let k : stack (λ i. a (capacity_at i)) (suc d) ≡ n ∷ stack (λ i. c (capacity_at i)) d =
    ap₂ {C = List ℕ} (λ x l. x ∷ l) (pushing_capacity c n p d d h (omega arith) ∙ hit (capacity_at d) n _)
    (stack_ext _ _ d (λ i l. pushing_capacity c n p d i h (omega arith) ∙ miss (capacity_at d) n (capacity_at i) (c (capacity_at i)) (λ q. absurd (omega arith)))) in
    rw e
    (thread_is a _ _ _ _ _ (suc d) (pushing_depth c n p d h) f k
    (after_apart c pending_at w (inl (omega arith)))
    (after_apart c monitors_at w (inl (omega arith)))
    (after_apart c env_at w (inl (omega arith))))

pub thread_pushed : (c : Row) (n : ℕ) (p : Bool) → length (thread_of c).frames < deepest
    → thread_of (after c (push_frame (thread_of c) n p)) ≡ with_frame n (frame_is p) (thread_of c)
unfolding push_frame
thread_pushed c n p h =
    rw (lt-ltb (length (thread_of c).frames) deepest h)
    (pushed_more c n p (length (thread_of c).frames) (sym (length_frames c)) h)

-- ---- the top frame's capacity raised
raised_none : (c : Row) (k : ℕ) → depth c ≡ 0 → thread_of c ≡ with_raised k (thread_of c)
unfolding with_raised thread_of
raised_none c k e = rw e

depth_same : (c e : Row) → e frames_at ≡ c frames_at → depth e ≡ depth c
unfolding depth
depth_same c e h = rw h

-- the write that raises the capacity of frame d, counted from 0
raised_at : (c : Row) (k d : ℕ) → depth c ≡ suc d → thread_of (after c (into (capacity_at d) (max (c (capacity_at d)) k) ∷ [])) ≡ with_raised k (thread_of c)
unfolding with_raised thread_of
raised_at c k d e =
    let v = max (c (capacity_at d)) k in
    let a = after c (into (capacity_at d) v ∷ []) in
    let b = depth_most c in
    let o : (j : ℕ) → (j ≡ capacity_at d → ⊥) → after c (into (capacity_at d) v ∷ []) j ≡ c j = λ j q. miss (capacity_at d) v j (c j) q in
    let f : stack (frame_in a) (suc d) ≡ stack (frame_in c) (suc d) = stack_ext _ _ (suc d) (λ i l. frame_same c a i (o (pushed_at i) (λ q. absurd (omega arith)))) in
    let ks : stack (λ i. a (capacity_at i)) (suc d) ≡ v ∷ stack (λ i. c (capacity_at i)) d =
    ap₂ {C = List ℕ} (λ x l. x ∷ l) (hit (capacity_at d) v (c (capacity_at d))) (stack_ext _ _ d (λ i l. o (capacity_at i) (λ q. absurd (omega arith)))) in
    rw e
    (thread_is a _ _ _ _ _ (suc d) (depth_same c a (o frames_at (λ q. absurd (omega arith))) ∙ e) f ks
    (o pending_at (λ q. absurd (omega arith)))
    (o monitors_at (λ q. absurd (omega arith)))
    (o env_at (λ q. absurd (omega arith))))

pub top_some : (c : Row) (d : ℕ) → depth c ≡ suc d → top_capacity (thread_of c).capacities ≡ c (capacity_at d)
unfolding thread_of
top_some c d e = rw e

pub thread_raised : (c : Row) (k : ℕ) → thread_of (after c (raise_capacity (thread_of c) k)) ≡ with_raised k (thread_of c)
unfolding raise_capacity
thread_raised c k = rw (length_frames c) (go (depth c) refl)
  where
    go : (d : ℕ) → depth c ≡ d
        → thread_of (after c (if_true ltb 0 d then into (capacity_at (d - 1)) (max (top_capacity (thread_of c).capacities) k) ∷ [] else [])) ≡ with_raised k (thread_of c)
    go zero e = raised_none c k e
    go (suc d) e = let n : suc d - 1 ≡ d = omega arith in rw (lt-ltb 0 (suc d) (omega arith), n, top_some c d e) (raised_at c k d e)

-- ---- its other numbers

-- a write to a column before the frames
module _ (c : Row) (j v : ℕ) (h : j < frames_at) where
  frames_stay : stack (frame_in (after c (into j v ∷ []))) (depth c) ≡ stack (frame_in c) (depth c)
  frames_stay = stack_ext _ _ (depth c) (λ i l. frame_same c _ i (miss j v (pushed_at i) (c (pushed_at i)) (λ q. absurd (omega arith))))

  capacities_stay : stack (λ i. after c (into j v ∷ []) (capacity_at i)) (depth c) ≡ stack (λ i. c (capacity_at i)) (depth c)
  capacities_stay = stack_ext _ _ (depth c) (λ i l. miss j v (capacity_at i) (c (capacity_at i)) (λ q. absurd (omega arith)))

  depth_stays : depth (after c (into j v ∷ [])) ≡ depth c
  depth_stays = depth_same c _ (miss j v frames_at (c frames_at) (λ q. absurd (omega arith)))

pub thread_pending : (c : Row) (v : ℕ) → thread_of (after c (into pending_at v ∷ [])) ≡ with_pending v (thread_of c)
unfolding with_pending thread_of
thread_pending c v =
    let h : pending_at < frames_at = omega arith in
    thread_is _ _ _ _ _ _ _ (depth_stays c pending_at v h) (frames_stay c pending_at v h) (capacities_stay c pending_at v h) refl refl refl

pub thread_monitors : (c : Row) (v : ℕ) → thread_of (after c (into monitors_at v ∷ [])) ≡ with_monitors v (thread_of c)
unfolding with_monitors thread_of
thread_monitors c v =
    let h : monitors_at < frames_at = omega arith in
    thread_is _ _ _ _ _ _ _ (depth_stays c monitors_at v h) (frames_stay c monitors_at v h) (capacities_stay c monitors_at v h) refl refl refl

pub thread_env : (c : Row) (v : ℕ) → thread_of (after c (into env_at v ∷ [])) ≡ with_env v (thread_of c)
unfolding with_env thread_of
thread_env c v =
    let h : env_at < frames_at = omega arith in
    thread_is _ _ _ _ _ _ _ (depth_stays c env_at v h) (frames_stay c env_at v h) (capacities_stay c env_at v h) refl refl refl
