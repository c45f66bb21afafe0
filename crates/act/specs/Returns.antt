-- What R leaves in the lent tables, where its result takes a given row. Assumes nothing.
use Rattle.std.specs.Prelude.{ℕ, not, ◌&&◌, List, eqb, ℤ, length}
use Rattle.words.specs.Choice.{if_true◌then◌else◌}
use Rattle.facts.specs.Table.{family}
use Rattle.facts.specs.Classes.{class_made}
use Rattle.facts.specs.Results.{is_handle_result, is_local_result, is_buffer_result}
use Rattle.facts.specs.declared.Result.{Result}
use Rattle.lines.specs.Line.{is_zero}
use Rattle.rows.specs.Table.{Table, stored}
use Rattle.rows.specs.References.{references}
use Rattle.rows.specs.Pins.{pins}
use Rattle.rows.specs.declared.references.Reference.{Reference}
use Rattle.history.specs.Handles.{in_frame}
use Rattle.book.specs.Threads.{thread_in}
use Rattle.book.specs.Moves.{pending_set, line_counted}
use Rattle.tables.specs.Tables.{Tables, handles_in}
use Rattle.tables.specs.Acting.{pin_owner, status_acted}

-- ---- handles

-- L in frame d of thread t, G or W in no thread, of class c
unfoldable pub result_row : ℕ → Result → ℕ → ℕ → ℕ → ℕ → Reference
result_row line k t d h c =
    if_true is_local_result k then record { thread = t; handle = h; frame = d; line = line; class = c }
    else record { thread = 0; handle = h; frame = 0; line = line; class = c }

-- the result of function f
unfoldable pub made : Table → ℕ → Result → ℕ → ℕ → ℕ → ℕ → ℕ → Table
made T line k t d f h row =
    if_true is_handle_result k && not (eqb h 0) then stored references T row (result_row line k t d h (class_made f)) else T

-- ---- buffers

unfoldable pub got : Table → ℕ → Result → ℕ → ℕ → ℕ → ℕ → Table
got P line k t f h row =
    if_true is_buffer_result k && not (eqb h 0) then
    stored pins P row (record { thread = pin_owner f t; family = family f; buffer = h; line = line })
    else P

-- ---- all tables

-- locals alive in the top frame
unfoldable pub held : Table → List ℕ → ℕ → ℕ
held T b t = handles_in T (in_frame t (length (thread_in b t).frames))

-- only status zero acts
unfoldable pub status_taken : Table → List ℕ → ℕ → ℕ → ℤ → ℕ → List ℕ
status_taken T b t f s n = if_true is_zero s then status_acted b t f (held T b t) n else b

unfoldable pub returned_book : Table → List ℕ → ℕ → ℕ → ℤ → ℕ → ℕ → List ℕ
returned_book T b t f s p n = line_counted (pending_set (status_taken T b t f s n) t p)

-- the result h of line `line`, of kind k, takes the row; `n` was asked of the open call
unfoldable pub returned : Tables → ℕ → Result → ℕ → ℕ → ℕ → ℕ → ℤ → ℕ → ℕ → Tables
returned T line k row t f h s p n =
    record {
      references = made T.references line k t (length (thread_in T.book t).frames) f h row;
      pins = got T.pins line k t f h row;
      book = returned_book T.references T.book t f s p n;
      classes = T.classes;
    }
