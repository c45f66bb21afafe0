-- Of tables that hold whatever they may: a refusal changes nothing and is one of 1 to 10, 8 is given exactly when the book is not fit or the class table short, and a start forgets. Assumes nothing.
use Prim.Native.Nat.{ℕ, ◌≤◌, ◌<◌}
use mathlib.Core.Path.{◌≡◌, refl, subst}
use mathlib.Core.Logic.{◌↔◌, ◌≢◌}
use mathlib.Core.Bool.{Bool, true, false, ◌&&◌}
use mathlib.Core.List.{List}
use Rattle.std.specs.Prelude.{Option}
use native.Mathlib.Omega.{arith}
use lib.Dec.{eqb, leb}
use lib.ListN.{length}
use borrow.Author.Tests.{eqb-false}
use Rattle.words.specs.Choice.{if_true◌then◌else◌}
use Rattle.lines.specs.Line.{Line}
use Rattle.lines.specs.Reading.{Read, says, refused, read}
use Rattle.lines.proofs.Refusals.{refused_by_number}
use Rattle.rows.specs.Table.{cleared as rows_cleared}
use Rattle.history.specs.Past.{thread_of}
use Rattle.history.specs.Items.{Item, top_of, asked}
use Rattle.history.specs.Acceptance.{in_step, env_right, makes_anew, classes_right, names_alive, has_item_room, first_refusal}
use Rattle.history.specs.Findings.{of_line}
use Rattle.history.specs.Replies.{accepted, not_accepted, most_lines}
use Rattle.history.specs.declared.Finding.{Finding}
use Rattle.book.specs.Threads.{items_in, lines_in}
use Rattle.book.specs.Moves.{cleared as book_cleared}
use Rattle.tables.specs.Tables.{Tables, seen_in}
use Rattle.tables.specs.Weighing.{rows_left, place_left, refusal_in, weighed_in}
use Rattle.tables.specs.Stepping.{Stepped, stepped, untouched, follow, next_line, on_line, on_read, unfit_tables, step_of, start_of}
use Rattle.demands.specs.Calls.{Alike}

-- ---- a refusal changes nothing, and is not 8 where the tables are fit

pub accepted_not : (fs : List Finding) (k : ℕ) → accepted fs ≡ not_accepted k → ⊥
accepted_not fs k h = let z : ◌≡◌ {A = ℕ} 0 1 = cc in omega arith

same_number : (j k : ℕ) → not_accepted j ≡ not_accepted k → j ≡ k
same_number j k h = cc

-- a number from 0 to 10 that is not 8
abbrev Small : ℕ → Type 0
Small k = (k ≤ 10) × (k ≢ 8)

-- if it is a refusal, all is untouched and its number is one of those above 0
record Sound (T : Tables) (s : Stepped) : Type 0 where
  keeps : (k : ℕ) → s.reply ≡ not_accepted k → s.left ≡ T
  number : (k : ℕ) → s.reply ≡ not_accepted k → (0 < k) × Small k

untouched_sound : (k : ℕ) (T : Tables) → 0 < k → Small k → Sound T (untouched k T)
untouched_sound k T z l = record { keeps = λ j h. refl; number = λ j h. subst (λ (n : ℕ). (0 < n) × Small n) (same_number k j h) (z, l) }

stepped_sound : (fs : List Finding) (S T : Tables) → Sound T (stepped (accepted fs) S)
stepped_sound fs S T = record { keeps = λ j h. absurd (accepted_not fs j h); number = λ j h. absurd (accepted_not fs j h) }

if_sound : (T : Tables) (b : Bool) (s u : Stepped) → Sound T s → Sound T u → Sound T (if_true b then s else u)
if_sound T true s u x y = x
if_sound T false s u x y = y

first_number : (a b c d e f : Bool) → Small (first_refusal a b c d e f)
first_number false b c d e f = (omega arith, λ z. omega (arith, z))
first_number true false c d e f = (omega arith, λ z. omega (arith, z))
first_number true true false d e f = (omega arith, λ z. omega (arith, z))
first_number true true true false e f = (omega arith, λ z. omega (arith, z))
first_number true true true true false f = (omega arith, λ z. omega (arith, z))
first_number true true true true true false = (omega arith, λ z. omega (arith, z))
first_number true true true true true true = (omega arith, λ z. omega (arith, z))

refusal_number : (e : Line) (top : Option Item) (many : ℕ) (T : Tables) → Small (refusal_in e top many T)
unfolding refusal_in
refusal_number e top many T =
    first_number (in_step e top (seen_in T).closed) (env_right e (seen_in T)) (makes_anew e (seen_in T)) (classes_right e (seen_in T)) (names_alive e (seen_in T)) (place_left e T && rows_left e T && has_item_room e many)

line_sound : (T : Tables) (e : Line) (is : List Item) → Sound T (on_line e is T)
unfolding weighed_in
line_sound T e is = go (eqb (refusal_in e (top_of is) (length is) T) 0) refl
  where
    fs : List Finding
    fs = of_line (next_line T) e (seen_in T)

    go : (q : Bool) → eqb (refusal_in e (top_of is) (length is) T) 0 ≡ q
        → Sound T (follow (next_line T) e (asked (top_of is)) (if_true q then accepted fs else not_accepted (refusal_in e (top_of is) (length is) T)) T)
    go true h = stepped_sound fs _ T
    go false h =
        let z = eqb-false (refusal_in e (top_of is) (length is) T) 0 h in
        untouched_sound (refusal_in e (top_of is) (length is) T) T (omega arith) (refusal_number e (top_of is) (length is) T)

read_sound : (T : Tables) (bs : List ℕ) (r : Read) → read bs ≡ r → Sound T (on_read r T)
read_sound T bs (refused k) is = let n = refused_by_number bs k is in untouched_sound k T (omega arith) (omega arith, λ z. omega (arith, z))
read_sound T bs (says e) is = line_sound T e (items_in T.book (thread_of e))

-- past the test of the book
abbrev fit_step : Tables → List ℕ → Stepped
fit_step T bs = if_true leb most_lines (lines_in T.book) then untouched 1 T else on_read (read bs) T

fit_sound : (T : Tables) (bs : List ℕ) → Sound T (fit_step T bs)
fit_sound T bs =
    if_sound T (leb most_lines (lines_in T.book)) (untouched 1 T) (on_read (read bs) T) (untouched_sound 1 T (omega arith) (omega arith, λ z. omega (arith, z))) (read_sound T bs (read bs) refl)

pub refusal_keeps : (T : Tables) (bs : List ℕ) (k : ℕ) → (step_of T bs).reply ≡ not_accepted k → (step_of T bs).left ≡ T
unfolding step_of
refusal_keeps T bs k = go (unfit_tables T)
  where
    go : (q : Bool) → (if_true q then untouched 8 T else fit_step T bs).reply ≡ not_accepted k → (if_true q then untouched 8 T else fit_step T bs).left ≡ T
    go true h = refl
    go false h = (fit_sound T bs).keeps k h

pub eight_is : (T : Tables) (bs : List ℕ) → ((step_of T bs).reply ≡ not_accepted 8) ↔ (unfit_tables T ≡ true)
unfolding step_of
eight_is T bs = (go (unfit_tables T), λ u. rw u)
  where
    go : (q : Bool) → (if_true q then untouched 8 T else fit_step T bs).reply ≡ not_accepted 8 → q ≡ true
    go true h = refl
    go false h = absurd (((fit_sound T bs).number 8 h).1.1 refl)

pub numbered : (T : Tables) (bs : List ℕ) (k : ℕ) → (step_of T bs).reply ≡ not_accepted k → (1 ≤ k) × (k ≤ 10)
unfolding step_of
numbered T bs k = go (unfit_tables T)
  where
    go : (q : Bool) → (if_true q then untouched 8 T else fit_step T bs).reply ≡ not_accepted k → (1 ≤ k) × (k ≤ 10)
    go true h = let e = same_number 8 k h in (omega arith, omega arith)
    go false h = let (n, m) = (fit_sound T bs).number k h in (n, m.0)

-- ---- a start

pub start_is : (S T : Tables) → Alike S T → start_of S ≡ start_of T
unfolding start_of rows_cleared book_cleared
start_is S T k = rw (k.reference_rows, k.reference_marks, k.pin_rows, k.pin_marks, k.books, k.class_tables)
