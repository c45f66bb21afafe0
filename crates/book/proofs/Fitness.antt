-- For callers: when a book is fit, and what a fit one has. Assumes nothing.
use Rattle.std.proofs.Common.{◌≡◌, ℕ, ◌<◌, ◌≤◌, min, Bool, true, false, ◌&&◌, ◌||◌, eqb, ltb, leb, List, [], length, sym, refl, ap, ◌∙◌, arith, ltb-false, le-ltb, ne_eqb, le-leb}
use mathlib.Core.Bool.{and-false}
use native.Mathlib.Decide.{dec_lt, ℕ_discrete}
use borrow.Author.Tests.{lt-leb}
use Rattle.words.specs.Lists.{any, sum}
use Rattle.lines.specs.Line.{threads, is_thread}
use Rattle.history.specs.Items.{Item}
use Rattle.history.specs.Acceptance.{deepest}
use Rattle.history.specs.Replies.{most_lines}
use Rattle.history.specs.Thread.{all_threads}
use Rattle.book.specs.Layout.{whole, lines_at, monitors_at, frames_at, items_at, cell, Stands}
use Rattle.book.specs.Threads.{Row, Thread, depth, thread_of, thread_in, opened, items_of, items_in, natives, lines_in, all_monitors}
use Rattle.book.specs.Moves.{cleared}
use Rattle.book.specs.Unfit.{overdone, overdone_in, unfit, overdoes}
use Rattle.book.specs.Changes.{blank, Kept, Changes, Traced}
use Rattle.book.proofs.AllThreads.{any_same, any_none, any_each, sum_same, or_left, or_right}
use Rattle.book.proofs.Frames.{length_frames}
use Rattle.book.proofs.Items.{length_items}
use Rattle.book.proofs.Tracing.{cleared_blank, cleared_long}

-- ---- no limit is passed
pub not_overdone : (items frames natives monitors : ℕ) → items ≤ deepest → frames ≤ deepest → natives ≤ frames → (0 < items → 0 < frames) → monitors ≤ most_lines
    → overdone items frames natives monitors ≡ false
not_overdone items frames natives monitors i f n framed m =
    rw (le-ltb deepest items i, le-ltb deepest frames f, le-ltb frames natives n, le-ltb most_lines monitors m) (go (dec_lt 0 items))
  where
    go : Dec (0 < items) → ((ltb 0 items && eqb frames 0) || false) ≡ false
    go (yes l) = rw (ne_eqb frames 0 (λ z. omega (arith, framed l, z)), and-false (ltb 0 items))
    go (no l) = rw (le-ltb 0 items (omega arith))

-- ---- refusal 8 by the lists
opened_is : (c : Row) → c items_at ≤ deepest → opened c ≡ c items_at
unfolding opened
opened_is c h = omega arith

depth_is : (c : Row) → c frames_at ≤ deepest → depth c ≡ c frames_at
unfolding depth
depth_is c h = omega arith

overdone_row : (c : Row) → Kept c → overdone (c items_at) (c frames_at) (natives (items_of c)) (c monitors_at) ≡ overdoes (thread_of c) (items_of c)
unfolding overdoes
overdone_row c k =
    rw (length_items c ∙ opened_is c k.items_fit, length_frames c ∙ depth_is c k.frames_fit) (unfold thread_of in refl)

-- one thread, where its counts are kept
pub overdone_is : (b : List ℕ) (t : ℕ) → Kept (cell b t) → overdone_in b t ≡ overdoes (thread_in b t) (items_in b t)
unfolding overdone_in thread_in items_in
overdone_is b t k = overdone_row (cell b t) k

-- where the counts are kept, 8 goes by the lists
pub fit_is : (b : List ℕ) → whole ≤ length b → ((t : ℕ) → 1 ≤ t → t ≤ threads → Kept (cell b t))
    → unfit b ≡ (ltb most_lines (lines_in b) || any (λ (t : ℕ). overdoes (thread_in b t) (items_in b t)) all_threads)
unfolding unfit lines_in
fit_is b h k =
    rw (le-ltb (length b) whole h)
    (ap (λ (x : Bool). ltb most_lines (cell b 0 lines_at) || x) (any_same (overdone_in b) _ (λ t x y. overdone_is b t (k t x y))))

-- so it is not given as long as the lists obey the limits
pub stays_fit : (b : List ℕ) → whole ≤ length b → lines_in b ≤ most_lines → ((t : ℕ) → 1 ≤ t → t ≤ threads → Kept (cell b t))
    → ((t : ℕ) → 1 ≤ t → t ≤ threads → overdoes (thread_in b t) (items_in b t) ≡ false) → unfit b ≡ false
stays_fit b h l k o = fit_is b h k ∙ rw (le-ltb most_lines (lines_in b) l) (any_none _ o)

-- and not at a start, if the book is not short
blank_fits : overdoes blank [] ≡ false
unfolding overdoes blank
blank_fits = refl

pub cleared_fit : (b : List ℕ) → whole ≤ length b → unfit (cleared b) ≡ false
cleared_fit b h =
    let z = cleared_blank b in
    stays_fit (cleared b) (omega (arith, cleared_long b)) (omega (arith, z.lines)) (λ t x y. z.kept t)
    (λ t x y. rw (z.threads t, z.items t) blank_fits)

-- ---- what a fit book has
fit_counts : (b : List ℕ) → unfit b ≡ false → (ltb (length b) whole || ltb most_lines (cell b 0 lines_at)) ≡ false
unfolding unfit
fit_counts b h = or_left (ltb (length b) whole || ltb most_lines (cell b 0 lines_at)) (any (overdone_in b) all_threads) h

pub fit_long : (b : List ℕ) → unfit b ≡ false → whole ≤ length b
fit_long b h = ltb-false (length b) whole (or_left (ltb (length b) whole) (ltb most_lines (cell b 0 lines_at)) (fit_counts b h))

pub fit_lines : (b : List ℕ) → unfit b ≡ false → lines_in b ≤ most_lines
unfolding lines_in
fit_lines b h =
    ltb-false most_lines (cell b 0 lines_at) (or_right (ltb (length b) whole) (ltb most_lines (cell b 0 lines_at)) (fit_counts b h))

pub fit_threads : (b : List ℕ) (t : ℕ) → unfit b ≡ false → 1 ≤ t → t ≤ threads → overdone_in b t ≡ false
unfolding unfit
fit_threads b t h x y =
    any_each (overdone_in b) t (or_right (ltb (length b) whole || ltb most_lines (cell b 0 lines_at)) (any (overdone_in b) all_threads) h) x y

pub fit_stands : (b : List ℕ) (t : ℕ) → unfit b ≡ false → t ≤ threads → Stands b t
fit_stands b t h l = omega (arith, fit_long b h)

-- monitors of all threads are their sum, where no thread has too many
pub all_monitors_are : (b : List ℕ) → ((t : ℕ) → (thread_in b t).monitors ≤ most_lines) → all_monitors b ≡ sum (λ (t : ℕ). (thread_in b t).monitors) all_threads
unfolding all_monitors
all_monitors_are b few =
    sum_same (λ (t : ℕ). min (thread_in b t).monitors most_lines) (λ (t : ℕ). (thread_in b t).monitors)
    (λ t x y. omega (arith, few t))

-- ---- fit before a move: only what it changes is to be looked at again
fit_by : (b : List ℕ) → whole ≤ length b → lines_in b ≤ most_lines → ((t : ℕ) → 1 ≤ t → t ≤ threads → overdone_in b t ≡ false) → unfit b ≡ false
unfolding unfit lines_in
fit_by b h l k = rw (le-ltb (length b) whole h, le-ltb most_lines (cell b 0 lines_at) l) (any_none (overdone_in b) k)

-- fit but for thread t: then 8 goes by it, if it is one
pub unfit_but : (b : List ℕ) (t : ℕ) → whole ≤ length b → lines_in b ≤ most_lines → ((s : ℕ) → 1 ≤ s → s ≤ threads → (s ≡ t → ⊥) → overdone_in b s ≡ false)
    → unfit b ≡ (is_thread t && overdone_in b t)
unfit_but b t h l k = go (dec_lt 0 t) (dec_lt threads t) (overdone_in b t) refl
  where
    by_others : ((s : ℕ) → s ≡ t → 1 ≤ s → s ≤ threads → overdone_in b s ≡ false) → unfit b ≡ false
    by_others own = fit_by b h l (λ s x y. each s x y (ℕ_discrete s t))
      where
        each : (s : ℕ) → 1 ≤ s → s ≤ threads → Dec (s ≡ t) → overdone_in b s ≡ false
        each s x y (yes e) = own s e x y
        each s x y (no n) = k s x y n

    by_it : 1 ≤ t → t ≤ threads → overdone_in b t ≡ true → (u : Bool) → unfit b ≡ u → u ≡ true
    by_it x y o true e = refl
    by_it x y o false e = sym (fit_threads b t e x y) ∙ o

    go : Dec (0 < t) → Dec (threads < t) → (o : Bool) → overdone_in b t ≡ o → unfit b ≡ (is_thread t && o)
    go (no x) y o e = rw (lt-leb 1 t (omega arith)) (by_others (λ s q i j. absurd (omega arith)))
    go (yes x) (yes y) o e = rw (lt-leb t threads y, and-false (leb 1 t)) (by_others (λ s q i j. absurd (omega arith)))
    go (yes x) (no y) true e = rw (le-leb 1 t x, le-leb t threads (omega arith)) (by_it x (omega arith) e (unfit b) refl)
    go (yes x) (no y) false e = rw (and-false (is_thread t)) (by_others (λ s q i j. rw q e))

pub fit_again : {b e : List ℕ} {t : ℕ} {to : Thread → Thread} {turn : List Item → List Item} → Changes b e t to turn → unfit b ≡ false → overdone_in e t ≡ false
    → unfit e ≡ false
fit_again {b} {e} {t} m h o =
    fit_by e (omega (arith, m.as_long, fit_long b h)) (omega (arith, m.lines, fit_lines b h)) (λ s x y. again s x y (ℕ_discrete s t))
  where
    again : (s : ℕ) → 1 ≤ s → s ≤ threads → Dec (s ≡ t) → overdone_in e s ≡ false
    again s x y (yes q) = rw q o
    again s x y (no n) = m.as_fit s n ∙ fit_threads b s h x y

pub fit_traced : {b e : List ℕ} {n : ℕ} {over : Bool} → Traced b e n over → unfit b ≡ false → n ≤ most_lines → unfit e ≡ false
fit_traced {b} {e} m h l =
    fit_by e (omega (arith, m.as_long, fit_long b h)) (omega (arith, m.lines)) (λ s x y. m.as_fit s ∙ fit_threads b s h x y)
