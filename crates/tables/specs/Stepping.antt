-- One step over lent tables, and a start: what is answered and what is left, whatever stood there. Assumes nothing.
use Rattle.std.specs.Prelude.{ℕ, suc, Bool, ◌||◌, List, leb, length}
use Rattle.words.specs.Choice.{if_true◌then◌else◌}
use Rattle.lines.specs.Line.{Line}
use Rattle.lines.specs.Reading.{Read, says, refused, read}
use Rattle.rows.specs.Table.{cleared as rows_cleared}
use Rattle.history.specs.Past.{thread_of}
use Rattle.history.specs.Items.{Item, top_of, asked}
use Rattle.history.specs.Replies.{Reply, accepted, not_accepted, most_lines}
use Rattle.classes.specs.Supers.{is_short, classes_cleared}
use Rattle.book.specs.Threads.{items_in, lines_in}
use Rattle.book.specs.Moves.{cleared as book_cleared}
use Rattle.book.specs.Unfit.{unfit}
use Rattle.tables.specs.Tables.{Tables}
use Rattle.tables.specs.Weighing.{weighed_in}
use Rattle.tables.specs.Acting.{acted, items_moved}

-- a reply, and the tables that are left with it
pub record Stepped : Type 0 where
  pub reply : Reply
  pub left : Tables

abbrev pub stepped : Reply → Tables → Stepped
stepped r T = record { reply = r; left = T }

abbrev pub untouched : ℕ → Tables → Stepped
untouched k T = stepped (not_accepted k) T

-- the tables with the open items moved
abbrev pub with_items : Line → Tables → Tables
with_items e T = record { references = T.references; pins = T.pins; book = items_moved e T.book; classes = T.classes }

-- a refusal leaves all untouched
abbrev pub follow : ℕ → Line → ℕ → Reply → Tables → Stepped
follow line e n (not_accepted k) T = untouched k T
follow line e n (accepted fs) T = stepped (accepted fs) (with_items e (acted line e n T))

-- the number of the next accepted line
abbrev pub next_line : Tables → ℕ
next_line T = suc (lines_in T.book)

-- a line that was read
abbrev pub on_line : Line → List Item → Tables → Stepped
on_line e is T = follow (next_line T) e (asked (top_of is)) (weighed_in (next_line T) e (top_of is) (length is) T) T

abbrev pub on_read : Read → Tables → Stepped
on_read (refused k) T = untouched k T
on_read (says e) T = on_line e (items_in T.book (thread_of e)) T

-- the lent thread book is not fit, or the class table is short
abbrev pub unfit_tables : Tables → Bool
unfit_tables T = unfit T.book || is_short T.classes

-- 8, 1, 2, 3, 4, 5, 6, 9, 10, 7 in this order
unfoldable pub step_of : Tables → List ℕ → Stepped
step_of T bs =
    if_true unfit_tables T then untouched 8 T
    else if_true leb most_lines (lines_in T.book) then untouched 1 T
    else on_read (read bs) T

-- a start call clears all rows, marks, book and classes
unfoldable pub start_of : Tables → Tables
start_of T =
    record {
      references = rows_cleared T.references;
      pins = rows_cleared T.pins;
      book = book_cleared T.book;
      classes = classes_cleared T.classes;
    }
