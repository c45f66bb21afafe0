-- Calls of the step over lent tables, one after another, and the run of a whole input over them. Assumes nothing.
use Rattle.std.specs.Prelude.{ℕ, ◌≤◌, List, [], ◌∷◌, ◌++◌, ◌≡◌, length}
use Rattle.words.specs.Lists.{joined}
use Rattle.lines.specs.Line.{classes}
use Rattle.rows.specs.Table.{room}
use Rattle.rows.specs.References.{references}
use Rattle.rows.specs.Pins.{pins}
use Rattle.history.specs.Acceptance.{Room}
use Rattle.history.specs.Past.{History}
use Rattle.history.specs.Replies.{Reply, accepted, not_accepted, heard}
use Rattle.history.specs.Runs.{findings_in}
use Rattle.history.specs.Report.{lines_of, shown_finding, end_line}
use Rattle.history.specs.declared.Finding.{Finding}
use Rattle.classes.specs.Identities.{identity_room}
use Rattle.book.specs.Layout.{whole}
use Rattle.book.specs.Threads.{lines_in, closed_in}
use Rattle.tables.specs.Tables.{Tables}
use Rattle.tables.specs.Stepping.{step_of, start_of}

-- room is the lesser of rows and marks, at most 65,536; of identities, as many places as the class table has behind its classes
unfoldable pub room_of : Tables → Room
room_of T = record { references = room references T.references; pins = room pins T.pins; identities = identity_room T.classes }

-- the lent thread book and the class table are not short
abbrev pub Long : Tables → Type 0
Long T = (whole ≤ length T.book) × (classes ≤ length T.classes)

-- tables of equal lengths, whatever they hold
pub record Alike (S T : Tables) : Type 0 where
  pub reference_rows : length S.references.rows ≡ length T.references.rows
  pub reference_marks : length S.references.marks ≡ length T.references.marks
  pub pin_rows : length S.pins.rows ≡ length T.pins.rows
  pub pin_marks : length S.pins.marks ≡ length T.pins.marks
  pub books : length S.book ≡ length T.book
  pub class_tables : length S.classes ≡ length T.classes

-- ---- calls stand newest first, refused ones among them

-- the tables that they leave
unfoldable pub after : Tables → List (List ℕ) → Tables
after T [] = T
after T (bs ∷ before) = (step_of (after T before) bs).left

-- the tables after a start and these calls
abbrev pub from_start : Tables → List (List ℕ) → Tables
from_start T calls = after (start_of T) calls

-- the lines accepted of them
abbrev pub heard_by : Tables → List (List ℕ) → History
heard_by T calls = heard (room_of T) calls

-- all that they found, in its order
unfoldable pub all_found : Tables → List (List ℕ) → List Finding
all_found T [] = []
all_found T (bs ∷ before) = all_found T before ++ findings_in (step_of (after T before) bs).reply

-- ---- the program stops at the first refusal

-- the tables left, what was found, and the refusal or 0
pub record Ran : Type 0 where
  pub left : Tables
  pub found : List Finding
  pub refusal : ℕ

abbrev pub ran : Tables → List Finding → ℕ → Ran
ran T fs k = record { left = T; found = fs; refusal = k }

abbrev pub go_on_in : Tables → List Finding → Reply → (List Finding → Ran) → Ran
go_on_in T fs (not_accepted k) rest = ran T fs k
go_on_in T fs (accepted gs) rest = rest gs

unfoldable pub run_in : Tables → List Finding → List (List ℕ) → Ran
run_in T fs [] = ran T fs 0
run_in T fs (bs ∷ lines) =
    let rest : List Finding → Ran = λ gs. run_in (step_of T bs).left (fs ++ gs) lines in
    go_on_in T fs (step_of T bs).reply rest

-- what is printed, from what stands in the tables
unfoldable pub printed : Ran → List ℕ
printed r =
    joined r.found shown_finding
    ++ end_line (closed_in r.left.book) (lines_in r.left.book) r.refusal (length r.found)

unfoldable pub report_in : Tables → List ℕ → List ℕ
report_in T input = printed (run_in (start_of T) [] (lines_of input))
