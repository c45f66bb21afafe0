-- For callers: counting a line, closing the trace, and a start. Assumes nothing.
use Rattle.std.proofs.Common.{◌≡◌, ℕ, suc, ◌+◌, ◌*◌, ◌<◌, ◌≤◌, min, Bool, true, not, eqb, List, [], ◌∷◌, length, get_or, replicate, sym, refl, ap, ◌∙◌, inl, inr, arith}
use native.Mathlib.Decide.{dec_lt}
use lib.ListN.{get_or-replicate, length-replicate, get_or-eq_default}
use Rattle.history.specs.Replies.{most_lines}
use Rattle.book.specs.Layout.{width, lines_at, closed_at, env_at, monitors_at, frames_at, items_at, cell, Write, into, wrote, Stands}
use Rattle.book.specs.Threads.{depth, thread_of, thread_in, opened, items_of, items_in, lines_in, closed_in}
use Rattle.book.specs.Moves.{line_counted, closed_set, cleared}
use Rattle.book.specs.Unfit.{overdone_in}
use Rattle.book.specs.Changes.{blank, Traced, Blank}
use Rattle.book.proofs.Rows.{Among, none, more, length_wrote, cell_wrote, cell_apart}
use Rattle.book.proofs.Frames.{thread_by}
use Rattle.book.proofs.Items.{items_by}
use Rattle.book.proofs.Changing.{kept_by}

-- ---- the trace's own numbers
traces : {ws : List Write} (b : List ℕ) (n : ℕ) (over : Bool) → Among 0 env_at ws → lines_in (wrote b 0 ws) ≡ n → closed_in (wrote b 0 ws) ≡ over
    → Traced b (wrote b 0 ws) n over
unfolding thread_in items_in overdone_in
traces {ws} b n over m l z =
    let at : (s k : ℕ) → env_at ≤ k → k < width → cell (wrote b 0 ws) s k ≡ cell b s k = λ s k x y. cell_apart b 0 s k m (omega arith) y (inr x) in
    let is : (s : ℕ) → items_of (cell (wrote b 0 ws) s) ≡ items_of (cell b s) = λ s. items_by _ _ (λ k x y. at s k (omega arith) y) in
    record {
      threads = λ s. thread_by _ _ (λ k x y. at s k x (omega arith));
      items = is;
      lines = l;
      end_mark = z;
      as_long = length_wrote ws b 0;
      kept =
          λ s k. kept_by (cell b s) (cell (wrote b 0 ws) s) (sym (at s items_at (omega arith) (omega arith))) (sym (at s frames_at (omega arith) (omega arith))) k;
      as_fit =
          λ s. rw (
            at s items_at (omega arith) (omega arith),
            at s frames_at (omega arith) (omega arith),
            is s,
            at s monitors_at (omega arith) (omega arith),
          );
    }

pub line_counted_traces : (b : List ℕ) → Stands b 0 → lines_in b ≤ most_lines → Traced b (line_counted b) (suc (lines_in b)) (closed_in b)
unfolding line_counted lines_in closed_in
line_counted_traces b h l =
    let v = min (cell b 0 lines_at) most_lines + 1 in
    let w : Among 0 width (into lines_at v ∷ []) = more {j = lines_at} (omega arith) (omega arith) none in
    let o : Among 0 1 (into lines_at v ∷ []) = more {j = lines_at} (omega arith) (omega arith) none in
    let e : v ≡ suc (cell b 0 lines_at) = omega arith in
    traces b (suc (cell b 0 lines_at)) (not (eqb (cell b 0 closed_at) 0)) (more {j = lines_at} (omega arith) (omega arith) none)
    (cell_wrote b 0 lines_at w h (omega arith) ∙ e)
    (ap (λ (x : ℕ). not (eqb x 0)) (cell_apart b 0 0 closed_at o (omega arith) (omega arith) (inr (omega arith))))

pub closed_set_traces : (b : List ℕ) → Stands b 0 → Traced b (closed_set b) (lines_in b) true
unfolding closed_set lines_in closed_in
closed_set_traces b h =
    let w : Among 0 width (into closed_at 1 ∷ []) = more {j = closed_at} (omega arith) (omega arith) none in
    let o : Among 1 2 (into closed_at 1 ∷ []) = more {j = closed_at} (omega arith) (omega arith) none in
    traces b (cell b 0 lines_at) true (more {j = closed_at} (omega arith) (omega arith) none)
    (cell_apart b 0 0 lines_at o (omega arith) (omega arith) (inl (omega arith)))
    (ap (λ (x : ℕ). not (eqb x 0)) (cell_wrote b 0 closed_at w h (omega arith)))

-- ---- a start
cell_cleared : (b : List ℕ) (t j : ℕ) → cell (cleared b) t j ≡ 0
unfolding cell cleared
cell_cleared b t j = go (dec_lt (t * width + j) (length b))
  where
    go : Dec (t * width + j < length b) → ◌≡◌ {A = ℕ} (get_or (replicate (length b) 0) (t * width + j) 0) 0
    go (yes h) = get_or-replicate (length b) (t * width + j) 0 0 h
    go (no h) = get_or-eq_default (replicate (length b) 0) 0 (omega (arith, length-replicate {A = ℕ} (length b) 0))

blank_row : thread_of (λ k. 0) ≡ blank
unfolding thread_of depth blank
blank_row = refl

no_items : items_of (λ k. 0) ≡ []
unfolding items_of opened
no_items = refl

items_cleared : (b : List ℕ) (t : ℕ) → items_of (cell (cleared b) t) ≡ []
items_cleared b t = items_by (cell (cleared b) t) (λ k. 0) (λ k x y. cell_cleared b t k) ∙ no_items

pub cleared_blank : (b : List ℕ) → Blank (cleared b)
unfolding thread_in items_in lines_in closed_in
cleared_blank b =
    record {
      threads = λ t. thread_by (cell (cleared b) t) (λ k. 0) (λ k x y. cell_cleared b t k) ∙ blank_row;
      items = items_cleared b;
      lines = cell_cleared b 0 lines_at;
      end_mark = ap (λ (x : ℕ). not (eqb x 0)) (cell_cleared b 0 closed_at);
      kept = λ t. record { items_fit = omega (arith, cell_cleared b t items_at); frames_fit = omega (arith, cell_cleared b t frames_at) };
    }

pub cleared_long : (b : List ℕ) → length (cleared b) ≡ length b
unfolding cleared
cleared_long b = length-replicate {A = ℕ} (length b) 0
