-- For callers: each move changes one thread, or its open items, as the lists say, and leaves all else. Assumes nothing.
use Rattle.std.proofs.Common.{◌≡◌, ℕ, suc, pred, ◌+◌, ◌-◌, ◌%◌, ◌<◌, ◌≤◌, min, max, Bool, true, false, ltb, List, [], ◌∷◌, length, sym, refl, ap, ◌∙◌, inl, inr, arith, le-ltb, lt-ltb, ne_eqb}
use mathlib.Core.List.{tail}
use native.Mathlib.Decide.{dec_lt, ℕ_discrete}
use Rattle.words.specs.Choice.{if_true◌then◌else◌}
use Rattle.history.specs.Items.{Item, in_native, in_call, attached}
use Rattle.history.specs.Frames.{without_native, without_pushed}
use Rattle.history.specs.Acceptance.{deepest}
use Rattle.history.specs.Replies.{most_lines}
use Rattle.book.specs.Layout.{width, lines_at, closed_at, env_at, pending_at, monitors_at, frames_at, capacity_at, items_at, natives_at, cell, Write, into, wrote, Stands}
use Rattle.book.specs.Threads.{Row, Thread, thread_of, thread_in, frame_is, top_capacity, no_function, attached_function, item_bound, item_is, items_of, items_in, top_is, lines_in, closed_in}
use Rattle.std.specs.Prelude.{Option, None, Some}
use Rattle.book.specs.declared.Item.{Item as Open}
use Rattle.book.specs.Moves.{push_frame, frame_pushed, leave_native, native_left, frames_ended, pop_frame, frame_popped, raise_capacity, capacity_raised, push_item, item_pushed, pop_item, item_popped, env_set, pending_set, monitor_added, monitor_taken, monitors_dropped}
use Rattle.book.specs.Unfit.{overdone_in}
use Rattle.book.specs.Changes.{with_frame, cut_to, with_raised, with_pending, with_monitors, with_env, pushed_item, stay, Kept, Changes}
use Rattle.book.proofs.Rows.{after, Among, none, more, wider, after_apart, length_wrote, cell_wrote, cell_elsewhere, cell_apart}
use Rattle.book.proofs.Frames.{depth_most, length_frames, thread_by, thread_left, thread_bare, left_within, thread_popped, popped_within, pushing_among, thread_pushed, thread_raised, thread_pending, thread_monitors, thread_env}
use Rattle.book.proofs.Items.{opened_most, length_items, items_by, opening_among, items_pushed, closing_among, items_popped, pushed_kept, popped_kept}

-- ---- the lists are never longer than 64
pub frames_within : (b : List ℕ) (t : ℕ) → length (thread_in b t).frames ≤ deepest
unfolding thread_in
frames_within b t = omega (arith, length_frames (cell b t), depth_most (cell b t))

pub items_within : (b : List ℕ) (t : ℕ) → length (items_in b t) ≤ deepest
unfolding items_in
items_within b t = omega (arith, length_items (cell b t), opened_most (cell b t))

-- ---- what any writes to one row leave
pub kept_by : (c e : Row) → c items_at ≡ e items_at → c frames_at ≡ e frames_at → Kept c → Kept e
kept_by c e x y k = record { items_fit = omega (arith, k.items_fit); frames_fit = omega (arith, k.frames_fit) }

module _ {ws : List Write} (b : List ℕ) (t : ℕ) (w : Among 0 width ws) where
  fit_elsewhere : (s : ℕ) → (s ≡ t → ⊥) → overdone_in (wrote b t ws) s ≡ overdone_in b s
  unfolding overdone_in items_in
  fit_elsewhere s n =
      rw (
        cell_elsewhere b t s items_at w n (omega arith),
        cell_elsewhere b t s frames_at w n (omega arith),
        items_by (cell (wrote b t ws) s) (cell b s) (λ i x y. cell_elsewhere b t s i w n y),
        cell_elsewhere b t s monitors_at w n (omega arith),
      )

  kept_after : Stands b t → (Kept (cell b t) → Kept (after (cell b t) ws)) → (s : ℕ) → Dec (s ≡ t) → Kept (cell b s) → Kept (cell (wrote b t ws) s)
  kept_after h g s (yes e) k =
      rw e
      (kept_by (after (cell b t) ws) (cell (wrote b t ws) t) (sym (cell_wrote b t items_at w h (omega arith))) (sym (cell_wrote b t frames_at w h (omega arith)))
      (g (rw e at k)))
  kept_after h g s (no n) k =
      kept_by (cell b s) (cell (wrote b t ws) s) (sym (cell_elsewhere b t s items_at w n (omega arith))) (sym (cell_elsewhere b t s frames_at w n (omega arith))) k

-- the trace's own numbers stand before those of threads
module _ {ws : List Write} (b : List ℕ) (t : ℕ) (m : Among env_at width ws) where
  pub lines_stay : lines_in (wrote b t ws) ≡ lines_in b
  unfolding lines_in
  lines_stay = cell_apart b t 0 lines_at m (omega arith) (omega arith) (inl (omega arith))

  closed_stays : closed_in (wrote b t ws) ≡ closed_in b
  unfolding closed_in
  closed_stays = rw (cell_apart b t 0 closed_at m (omega arith) (omega arith) (inl (omega arith)))

-- ---- all but the open items
changes : {ws : List Write} (b : List ℕ) (t : ℕ) (to : Thread → Thread) → Among env_at items_at ws → Stands b t
    → thread_of (after (cell b t) ws) ≡ to (thread_of (cell b t)) → (cell b t frames_at ≤ deepest → after (cell b t) ws frames_at ≤ deepest)
    → Changes b (wrote b t ws) t to stay
unfolding thread_in items_in
changes {ws} b t to m h e g =
    let w : Among 0 width ws = wider (omega arith) (omega arith) m in
    let v : Among env_at width ws = wider (omega arith) (omega arith) m in
    let is : (s : ℕ) → items_of (cell (wrote b t ws) s) ≡ items_of (cell b s) =
    λ s. items_by (cell (wrote b t ws) s) (cell b s) (λ k x y. cell_apart b t s k m (omega arith) y (inr x)) in
    record {
      here = thread_by _ _ (λ k x y. cell_wrote b t k w h (omega arith)) ∙ e;
      items = is t;
      others = λ s n. thread_by _ _ (λ k x y. cell_elsewhere b t s k w n (omega arith));
      other_items = λ s n. is s;
      lines = lines_stay b t v;
      end_mark = closed_stays b t v;
      as_long = length_wrote ws b t;
      kept = λ s. kept_after b t w h (λ k. same_items k) s (ℕ_discrete s t);
      as_fit = fit_elsewhere b t w;
    }
  where
    same_items : Kept (cell b t) → Kept (after (cell b t) ws)
    same_items k = record { items_fit = omega (arith, k.items_fit, after_apart (cell b t) items_at m (inr (omega arith))); frames_fit = g k.frames_fit }

module _ (c : Row) (n : ℕ) (p : Bool) where
  pub push_among : Dec (length (thread_of c).frames < deepest) → Among env_at items_at (push_frame (thread_of c) n p)
  unfolding push_frame
  push_among (yes l) = rw (lt-ltb (length (thread_of c).frames) deepest l) (wider (omega arith) (omega arith) (pushing_among n p (length (thread_of c).frames) l))
  push_among (no l) = rw (le-ltb (length (thread_of c).frames) deepest (omega arith)) none

  push_fits : length (thread_of c).frames < deepest → after c (push_frame (thread_of c) n p) frames_at ≤ deepest
  unfolding push_frame
  push_fits l = rw (lt-ltb (length (thread_of c).frames) deepest l) (omega arith)

pub frame_pushed_changes : (b : List ℕ) (t n : ℕ) (p : Bool) → Stands b t → length (thread_in b t).frames < deepest
    → Changes b (frame_pushed b t n p) t (with_frame n (frame_is p)) stay
unfolding frame_pushed thread_in
frame_pushed_changes b t n p h r =
    let c = cell b t in
    changes b t (with_frame n (frame_is p)) (push_among c n p (dec_lt (length (thread_of c).frames) deepest)) h (thread_pushed c n p r) (λ k. push_fits c n p r)

pub native_left_changes : (b : List ℕ) (t : ℕ) → Stands b t → Changes b (native_left b t) t (λ x. cut_to (without_native x.frames) x) stay
unfolding native_left thread_in leave_native
native_left_changes b t h =
    changes b t (λ x. cut_to (without_native x.frames) x) (more {j = frames_at} (omega arith) (omega arith) none) h (thread_left (cell b t)) (λ k. left_within (cell b t))

pub frames_ended_changes : (b : List ℕ) (t : ℕ) → Stands b t → Changes b (frames_ended b t) t (cut_to []) stay
unfolding frames_ended thread_in
frames_ended_changes b t h =
    changes b t (cut_to []) (more {j = frames_at} (omega arith) (omega arith) none) h (thread_bare (cell b t)) (λ k. omega arith)

pub frame_popped_changes : (b : List ℕ) (t : ℕ) → Stands b t → Changes b (frame_popped b t) t (λ x. cut_to (without_pushed x.frames) x) stay
unfolding frame_popped thread_in pop_frame
frame_popped_changes b t h =
    changes b t (λ x. cut_to (without_pushed x.frames) x) (more {j = frames_at} (omega arith) (omega arith) none) h (thread_popped (cell b t)) (λ k. popped_within (cell b t))

-- a capacity is written to a column of its own
module _ (c : Row) (d v : ℕ) (l : d ≤ deepest) where
  pub raise_among : (b : Bool) → Among env_at items_at (if_true b then into (capacity_at (d - 1)) v ∷ [] else [])
  raise_among true = more {j = capacity_at (d - 1)} (omega arith) (omega arith) none
  raise_among false = none

  raise_fits : (b : Bool) → c frames_at ≤ deepest → after c (if_true b then into (capacity_at (d - 1)) v ∷ [] else []) frames_at ≤ deepest
  raise_fits true h = rw (ne_eqb frames_at (capacity_at (d - 1)) (λ q. absurd (omega arith))) h
  raise_fits false h = h

pub capacity_raised_changes : (b : List ℕ) (t k : ℕ) → Stands b t → Changes b (capacity_raised b t k) t (with_raised k) stay
unfolding capacity_raised raise_capacity thread_in
capacity_raised_changes b t k h =
    let d = length (thread_of (cell b t)).frames in
    let v = max (top_capacity (thread_of (cell b t)).capacities) k in
    changes b t (with_raised k) (raise_among (cell b t) d v (frames_within b t) (ltb 0 d)) h (thread_raised (cell b t) k) (raise_fits (cell b t) d v (frames_within b t) (ltb 0 d))

pub env_set_changes : (b : List ℕ) (t v : ℕ) → Stands b t → Changes b (env_set b t v) t (with_env v) stay
unfolding env_set
env_set_changes b t v h = changes b t (with_env v) (more {j = env_at} (omega arith) (omega arith) none) h (thread_env (cell b t) v) (λ k. k)

pub pending_set_changes : (b : List ℕ) (t v : ℕ) → Stands b t → Changes b (pending_set b t v) t (with_pending v) stay
unfolding pending_set
pending_set_changes b t v h = changes b t (with_pending v) (more {j = pending_at} (omega arith) (omega arith) none) h (thread_pending (cell b t) v) (λ k. k)

pub monitor_added_changes : (b : List ℕ) (t : ℕ) → Stands b t → (thread_in b t).monitors ≤ most_lines
    → Changes b (monitor_added b t) t (λ x. with_monitors (suc x.monitors) x) stay
unfolding monitor_added
monitor_added_changes b t h r =
    let e : min (thread_in b t).monitors most_lines + 1 ≡ suc (thread_in b t).monitors = omega arith in
    rw e
    (changes b t (λ x. with_monitors (suc x.monitors) x) (more {j = monitors_at} (omega arith) (omega arith) none) h
    (unfold thread_in in thread_monitors (cell b t) (suc (thread_of (cell b t)).monitors)) (λ k. k))

pub monitor_taken_changes : (b : List ℕ) (t : ℕ) → Stands b t → Changes b (monitor_taken b t) t (λ x. with_monitors (pred x.monitors) x) stay
unfolding monitor_taken
monitor_taken_changes b t h =
    changes b t (λ x. with_monitors (pred x.monitors) x) (more {j = monitors_at} (omega arith) (omega arith) none) h
    (unfold thread_in in thread_monitors (cell b t) (pred (thread_of (cell b t)).monitors)) (λ k. k)

pub monitors_dropped_changes : (b : List ℕ) (t : ℕ) → Stands b t → Changes b (monitors_dropped b t) t (with_monitors 0) stay
unfolding monitors_dropped
monitors_dropped_changes b t h = changes b t (with_monitors 0) (more {j = monitors_at} (omega arith) (omega arith) none) h (thread_monitors (cell b t) 0) (λ k. k)

-- ---- the open items
turns : {ws : List Write} (b : List ℕ) (t : ℕ) (turn : List Item → List Item) → Among items_at width ws → Stands b t
    → items_of (after (cell b t) ws) ≡ turn (items_of (cell b t)) → (Kept (cell b t) → Kept (after (cell b t) ws))
    → Changes b (wrote b t ws) t stay turn
unfolding thread_in items_in
turns {ws} b t turn m h e g =
    let w : Among 0 width ws = wider (omega arith) (omega arith) m in
    let v : Among env_at width ws = wider (omega arith) (omega arith) m in
    let xs : (s : ℕ) → thread_of (cell (wrote b t ws) s) ≡ thread_of (cell b s) =
    λ s. thread_by (cell (wrote b t ws) s) (cell b s) (λ k x y. cell_apart b t s k m (omega arith) (omega arith) (inl y)) in
    record {
      here = xs t;
      items = items_by _ _ (λ k x y. cell_wrote b t k w h y) ∙ e;
      others = λ s n. xs s;
      other_items = λ s n. items_by _ _ (λ k x y. cell_elsewhere b t s k w n y);
      lines = lines_stay b t v;
      end_mark = closed_stays b t v;
      as_long = length_wrote ws b t;
      kept = λ s. kept_after b t w h g s (ℕ_discrete s t);
      as_fit = fit_elsewhere b t w;
    }

pub push_items_among : (c : Row) (f n : ℕ) → Dec (length (items_of c) < deepest) → Among items_at width (push_item (items_of c) (c natives_at) f n)
unfolding push_item
push_items_among c f n (yes l) = rw (lt-ltb (length (items_of c)) deepest l) (opening_among f n _ (length (items_of c)) l)
push_items_among c f n (no l) = rw (le-ltb (length (items_of c)) deepest (omega arith)) none

pub item_pushed_changes : (b : List ℕ) (t f n : ℕ) → Stands b t → length (items_in b t) < deepest
    → Changes b (item_pushed b t f n) t stay (λ is. pushed_item f n ∷ is)
unfolding item_pushed items_in
item_pushed_changes b t f n h r =
    let c = cell b t in
    turns b t (λ is. pushed_item f n ∷ is) (push_items_among c f n (dec_lt (length (items_of c)) deepest)) h
    (items_pushed c f n r) (λ k. pushed_kept c f n r k)

pub item_popped_changes : (b : List ℕ) (t : ℕ) → Stands b t → Changes b (item_popped b t) t stay tail
unfolding item_popped items_in
item_popped_changes b t h =
    let c = cell b t in
    turns b t tail (unfold pop_item in closing_among _) h (items_popped c) (λ k. popped_kept c k)

-- what is pushed as a native, as an attached item, or as a call, is one
pub pushed_native : (n : ℕ) → pushed_item no_function n ≡ in_native
unfolding pushed_item item_is
pushed_native n = refl

pub pushed_attached : (n : ℕ) → pushed_item attached_function n ≡ attached
unfolding pushed_item item_is
pushed_attached n = refl

pub pushed_call : (f n : ℕ) → 1 < f → f < item_bound → n < item_bound → pushed_item f n ≡ in_call f n
unfolding pushed_item item_is
pushed_call f n z a b =
    let x : f % item_bound ≡ f = omega arith in
    let y : n % item_bound ≡ n = omega arith in
    rw (ne_eqb f no_function (λ q. absurd (omega arith)), ne_eqb f attached_function (λ q. absurd (omega arith)), x, y)

-- ---- the top item has one form in the code
pub one_top : (x y : Option Open) → top_is x ≡ top_is y → x ≡ y
unfolding top_is
one_top None None e = refl
one_top None (Some Open.Native) e = cc
one_top None (Some Open.Attached) e = cc
one_top None (Some (Open.Call g m)) e = cc
one_top (Some Open.Native) None e = cc
one_top (Some Open.Native) (Some Open.Native) e = refl
one_top (Some Open.Native) (Some Open.Attached) e = cc
one_top (Some Open.Native) (Some (Open.Call g m)) e = cc
one_top (Some Open.Attached) None e = cc
one_top (Some Open.Attached) (Some Open.Native) e = cc
one_top (Some Open.Attached) (Some Open.Attached) e = refl
one_top (Some Open.Attached) (Some (Open.Call g m)) e = cc
one_top (Some (Open.Call f n)) None e = cc
one_top (Some (Open.Call f n)) (Some Open.Native) e = cc
one_top (Some (Open.Call f n)) (Some Open.Attached) e = cc
one_top (Some (Open.Call f n)) (Some (Open.Call g m)) e = cc

-- ---- one move after another
pub and_then : {b d e : List ℕ} {t : ℕ} {f g : Thread → Thread} {p q : List Item → List Item} → Changes b d t f p → Changes d e t g q
    → Changes b e t (λ x. g (f x)) (λ is. q (p is))
and_then {g = g} {q = q} x y =
    record {
      here = y.here ∙ ap g x.here;
      items = y.items ∙ ap q x.items;
      others = λ s n. y.others s n ∙ x.others s n;
      other_items = λ s n. y.other_items s n ∙ x.other_items s n;
      lines = y.lines ∙ x.lines;
      end_mark = y.end_mark ∙ x.end_mark;
      as_long = y.as_long ∙ x.as_long;
      kept = λ s k. y.kept s (x.kept s k);
      as_fit = λ s n. y.as_fit s n ∙ x.as_fit s n;
    }
