-- For callers: whatever the book holds, a move of one thread leaves the rows of the others, and what refusal 8 says of them. Assumes nothing.
use Rattle.std.proofs.Common.{◌≡◌, ℕ, suc, ◌+◌, ◌*◌, ◌<◌, ◌≤◌, min, Bool, ltb, List, [], ◌∷◌, length, refl, ◌∙◌, inl, arith}
use native.Mathlib.Decide.{dec_lt}
use Rattle.history.specs.Acceptance.{deepest}
use Rattle.history.specs.Replies.{most_lines}
use Rattle.book.specs.Layout.{width, lines_at, closed_at, env_at, pending_at, monitors_at, frames_at, items_at, cell, put, Write, into, wrote}
use Rattle.book.specs.Threads.{thread_of, thread_in, items_of, items_in, lines_in}
use Rattle.book.specs.Moves.{frame_pushed, leave_native, native_left, frames_ended, pop_frame, frame_popped, raise_capacity, capacity_raised, item_pushed, pop_item, item_popped, env_set, pending_set, monitor_added, monitor_taken, monitors_dropped, line_counted, closed_set}
use Rattle.book.specs.Unfit.{overdone_in}
use Rattle.book.proofs.Rows.{Among, none, more, wider, cell_put_same, length_wrote, cell_elsewhere, cell_apart}
use Rattle.book.proofs.Items.{items_by}
use Rattle.book.proofs.Changing.{frames_within, lines_stay, push_among, raise_among, push_items_among}
use Rattle.book.proofs.Steps.{store_past}

-- from b to e no thread changes but t, and the trace comes to n lines
pub record Elsewhere (t n : ℕ) (b e : List ℕ) : Type 0 where
  pub as_long : length e ≡ length b
  pub rows : (s k : ℕ) → 1 ≤ s → (s ≡ t → ⊥) → k < width → cell e s k ≡ cell b s k
  pub lines : lines_in e ≡ n

pub as_fit_elsewhere : {t n : ℕ} {b e : List ℕ} → Elsewhere t n b e → (s : ℕ) → 1 ≤ s → (s ≡ t → ⊥) → overdone_in e s ≡ overdone_in b s
unfolding overdone_in items_in
as_fit_elsewhere {b = b} {e = e} x s l n =
    rw (
      x.rows s items_at l n (omega arith),
      x.rows s frames_at l n (omega arith),
      items_by (cell e s) (cell b s) (λ k i j. x.rows s k l n j),
      x.rows s monitors_at l n (omega arith),
    )

-- ---- one move after another
module _ {t m : ℕ} {b d e : List ℕ} (x : Elsewhere t m b d) where
  pub further : {n : ℕ} → Elsewhere t n d e → Elsewhere t n b e
  further y = record { as_long = y.as_long ∙ x.as_long; rows = λ s k l o j. y.rows s k l o j ∙ x.rows s k l o j; lines = y.lines }

  pub keeping : Elsewhere t (lines_in d) d e → Elsewhere t m b e
  keeping y = record { as_long = y.as_long ∙ x.as_long; rows = λ s k l o j. y.rows s k l o j ∙ x.rows s k l o j; lines = y.lines ∙ x.lines }

pub nowhere : {t : ℕ} {b : List ℕ} → Elsewhere t (lines_in b) b b
nowhere = record { as_long = refl; rows = λ s k l o j. refl; lines = refl }

-- ---- a thread
module _ (b : List ℕ) (t : ℕ) where
  written : {ws : List Write} → Among env_at width ws → Elsewhere t (lines_in b) b (wrote b t ws)
  written {ws} w =
      record { as_long = length_wrote ws b t; rows = λ s k l o j. cell_elsewhere b t s k (wider (omega arith) (omega arith) w) o j; lines = lines_stay b t w }

  one_written : (j v : ℕ) → env_at ≤ j → j < width → Elsewhere t (lines_in b) b (wrote b t (into j v ∷ []))
  one_written j v x y = written (more {j = j} x y none)

  pub frame_pushed_elsewhere : (n : ℕ) (p : Bool) → Elsewhere t (lines_in b) b (frame_pushed b t n p)
  unfolding frame_pushed thread_in
  frame_pushed_elsewhere n p =
      written (wider (omega arith) (omega arith) (push_among (cell b t) n p (dec_lt (length (thread_of (cell b t)).frames) deepest)))

  pub native_left_elsewhere : Elsewhere t (lines_in b) b (native_left b t)
  unfolding native_left leave_native
  native_left_elsewhere = one_written frames_at _ (omega arith) (omega arith)

  pub frames_ended_elsewhere : Elsewhere t (lines_in b) b (frames_ended b t)
  unfolding frames_ended
  frames_ended_elsewhere = one_written frames_at 0 (omega arith) (omega arith)

  pub frame_popped_elsewhere : Elsewhere t (lines_in b) b (frame_popped b t)
  unfolding frame_popped pop_frame
  frame_popped_elsewhere = one_written frames_at _ (omega arith) (omega arith)

  pub capacity_raised_elsewhere : (k : ℕ) → Elsewhere t (lines_in b) b (capacity_raised b t k)
  unfolding capacity_raised raise_capacity
  capacity_raised_elsewhere k =
      let d = length (thread_in b t).frames in
      written (wider (omega arith) (omega arith) (raise_among (cell b t) d _ (frames_within b t) (ltb 0 d)))

  pub env_set_elsewhere : (v : ℕ) → Elsewhere t (lines_in b) b (env_set b t v)
  unfolding env_set
  env_set_elsewhere v = one_written env_at v (omega arith) (omega arith)

  pub pending_set_elsewhere : (v : ℕ) → Elsewhere t (lines_in b) b (pending_set b t v)
  unfolding pending_set
  pending_set_elsewhere v = one_written pending_at v (omega arith) (omega arith)

  pub monitor_added_elsewhere : Elsewhere t (lines_in b) b (monitor_added b t)
  unfolding monitor_added
  monitor_added_elsewhere = one_written monitors_at _ (omega arith) (omega arith)

  pub monitor_taken_elsewhere : Elsewhere t (lines_in b) b (monitor_taken b t)
  unfolding monitor_taken
  monitor_taken_elsewhere = one_written monitors_at _ (omega arith) (omega arith)

  pub monitors_dropped_elsewhere : Elsewhere t (lines_in b) b (monitors_dropped b t)
  unfolding monitors_dropped
  monitors_dropped_elsewhere = one_written monitors_at 0 (omega arith) (omega arith)

  pub item_pushed_elsewhere : (f n : ℕ) → Elsewhere t (lines_in b) b (item_pushed b t f n)
  unfolding item_pushed items_in
  item_pushed_elsewhere f n =
      written (wider (omega arith) (omega arith) (push_items_among (cell b t) f n (dec_lt (length (items_of (cell b t))) deepest)))

  pub item_popped_elsewhere : Elsewhere t (lines_in b) b (item_popped b t)
  unfolding item_popped pop_item
  item_popped_elsewhere = one_written items_at _ (omega arith) (omega arith)

-- ---- the trace itself
module _ (b : List ℕ) (t : ℕ) where
  traced : {ws : List Write} (n : ℕ) → Among 0 width ws → lines_in (wrote b 0 ws) ≡ n → Elsewhere t n b (wrote b 0 ws)
  traced {ws} n w h =
      record { as_long = length_wrote ws b 0; rows = λ s k l o j. cell_elsewhere b 0 s k w (λ z. absurd (omega arith)) j; lines = h }

  pub line_counted_elsewhere : Elsewhere t (lines_in (line_counted b)) b (line_counted b)
  unfolding line_counted
  line_counted_elsewhere = traced _ (more {j = lines_at} (omega arith) (omega arith) none) refl

  pub closed_set_elsewhere : Elsewhere t (lines_in b) b (closed_set b)
  unfolding closed_set
  closed_set_elsewhere =
      let w : Among closed_at env_at (into closed_at 1 ∷ []) = more {j = closed_at} (omega arith) (omega arith) none in
      traced (lines_in b) (wider (omega arith) (omega arith) w)
      (unfold lines_in in cell_apart b 0 0 lines_at w (omega arith) (omega arith) (inl (omega arith)))

-- one line more at most: a book without a number counts none
pub counted_at_most : (b : List ℕ) → lines_in (line_counted b) ≤ suc (lines_in b)
unfolding line_counted lines_in wrote
counted_at_most b = go (dec_lt (0 * width + lines_at) (length b))
  where
    v : ℕ
    v = min (cell b 0 lines_at) most_lines + 1

    go : Dec (0 * width + lines_at < length b) → cell (put b 0 lines_at v) 0 lines_at ≤ suc (cell b 0 lines_at)
    go (yes h) = omega (arith, cell_put_same b 0 lines_at v h)
    go (no h) = rw (← (store_past b 0 lines_at v (omega arith))) (omega arith)
