-- The tables that the program lends, and what an input has printed over them. Assumes nothing.
use Prim.Native.Nat.{ℕ, ◌+◌, ◌-◌, ◌*◌, ◌/◌, min}
use mathlib.Core.Path.{◌≡◌, sym, ap, subst, ◌∙◌}
use mathlib.Core.Bool.{Bool, true, false}
use mathlib.Core.List.{List, [], ◌++◌, append-nil}
use native.Mathlib.Omega.{arith}
use lib.ListN.{length, replicate, length-replicate}
use Rattle.lines.specs.Line.{classes}
use Rattle.rows.specs.Marks.{word}
use Rattle.rows.specs.Table.{room, most}
use Rattle.rows.specs.References.{references}
use Rattle.rows.specs.Pins.{pins}
use Rattle.history.specs.Acceptance.{Room}
use Rattle.history.specs.Report.{run, lines_of, report}
use Rattle.history.specs.Runs.{program_room}
use Rattle.classes.specs.Identities.{identity_numbers, identity_room}
use Rattle.book.specs.Layout.{whole}
use Rattle.tables.specs.Tables.{Tables, tables}
use Rattle.tables.specs.Stepping.{start_of}
use Rattle.demands.specs.Calls.{room_of, Long, run_in, printed, report_in}
use Rattle.demands.specs.Leaks.{report_and_leaks}
use Rattle.demands.proofs.Foreign.{start_is}
use Rattle.demands.proofs.Runs.{reports_are, LeftTied, left_tied}
use Rattle.program.specs.Printing.{output}
use Rattle.program.proofs.Records.{leaks_shown}

-- with one bit of a mark to a row, sixty-four to a word
abbrev pub marks_for : ℕ → ℕ
marks_for rows = rows / word

-- the classes, and behind them the places of identities
abbrev pub class_numbers : ℕ
class_numbers = classes + program_room.identities * identity_numbers

unfoldable pub lent : Tables
lent =
    tables (replicate (program_room.references * references.stride) 0) (replicate (marks_for program_room.references) 0) (replicate (program_room.pins * pins.stride) 0)
    (replicate (marks_for program_room.pins) 0) (replicate whole 0) (replicate class_numbers 0)

-- ---- the start, which clears whatever the lent tables hold

long_as : (n : ℕ) → length (replicate {A = ℕ} n 0) ≡ n
long_as n = length-replicate {A = ℕ} n 0

pub start_lent : (rs ms ps ns b cs : List ℕ) → length rs ≡ program_room.references * references.stride → length ms ≡ marks_for program_room.references
    → length ps ≡ program_room.pins * pins.stride → length ns ≡ marks_for program_room.pins → length b ≡ whole → length cs ≡ class_numbers → start_of (tables rs ms ps ns b cs) ≡ start_of lent
unfolding lent
start_lent rs ms ps ns b cs r m p n w c =
    start_is (tables rs ms ps ns b cs) lent
    (record {
      reference_rows = r ∙ sym (long_as (program_room.references * references.stride));
      reference_marks = m ∙ sym (long_as (marks_for program_room.references));
      pin_rows = p ∙ sym (long_as (program_room.pins * pins.stride));
      pin_marks = n ∙ sym (long_as (marks_for program_room.pins));
      books = w ∙ sym (long_as whole);
      class_tables = c ∙ sym (long_as class_numbers);
    })

-- ---- its room is the program's

rows_are : (stride rows marks : ℕ) → min (min (length (replicate {A = ℕ} rows 0) / stride) (length (replicate {A = ℕ} marks 0) * word)) most ≡ min (min (rows / stride) (marks * word)) most
rows_are stride rows marks = λ i. min (min (long_as rows i / stride) (long_as marks i * word)) most

room_lent : room_of lent ≡ program_room
unfolding room_of room identity_room lent
room_lent =
    λ i.
    record {
      references = rows_are references.stride (program_room.references * references.stride) (marks_for program_room.references) i;
      pins = rows_are pins.stride (program_room.pins * pins.stride) (marks_for program_room.pins) i;
      identities = (long_as class_numbers i - classes) / identity_numbers;
    }

long_lent : Long lent
unfolding lent
long_lent = (omega (arith, long_as whole), omega (arith, long_as class_numbers))

report_is : (input : List ℕ) → report program_room input ≡ printed (run_in (start_of lent) [] (lines_of input))
unfolding report_in
report_is input = ap (λ (r : Room). report r input) (sym room_lent) ∙ sym (reports_are lent long_lent input)

pub output_is : (leaks : Bool) (input : List ℕ)
    → output leaks input ≡ printed (run_in (start_of lent) [] (lines_of input)) ++ leaks_shown leaks (run program_room [] (lines_of input)).accepted
unfolding output report_and_leaks
output_is true input = ap (λ (b : List ℕ). b ++ leaks_shown true (run program_room [] (lines_of input)).accepted) (report_is input)
output_is false input = report_is input ∙ sym (append-nil (printed (run_in (start_of lent) [] (lines_of input))))

pub tied_lent : (input : List ℕ) → LeftTied program_room (run_in (start_of lent) [] (lines_of input)).left (run program_room [] (lines_of input)).accepted
tied_lent input =
    subst (λ (r : Room). LeftTied r (run_in (start_of lent) [] (lines_of input)).left (run r [] (lines_of input)).accepted) room_lent (left_tied lent long_lent input)
