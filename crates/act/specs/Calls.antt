-- What C leaves in the lent tables, where the rows that it may end are told. Assumes nothing.
use Rattle.std.specs.Prelude.{ℕ, ◌&&◌, List, eqb, length}
use Rattle.words.specs.Choice.{if_true◌then◌else◌}
use Rattle.facts.specs.declared.Place.{Place}
use Rattle.facts.specs.Named.{PopLocalFrame}
use Rattle.facts.specs.Results.{is_buffer_place}
use Rattle.rows.specs.Table.{Table, ended, ended_all}
use Rattle.rows.specs.References.{references, from_frame}
use Rattle.rows.specs.Pins.{pins}
use Rattle.history.specs.Frames.{top_pushed}
use Rattle.book.specs.Threads.{thread_in}
use Rattle.tables.specs.Tables.{Tables}
use Rattle.tables.specs.Acting.{is_delete}
use Rattle.act.specs.Books.{called_book}

-- the row told, if the handle in a is of the place's kind
unfoldable pub deleted : Table → ℕ → ℕ → ℕ → Table
deleted T f a row = if_true is_delete f a then ended references T row else T

-- the rows of the top frame, if it was pushed
unfoldable pub top_ended : Table → List ℕ → ℕ → ℕ → Table
top_ended T b t f =
    if_true eqb f PopLocalFrame && top_pushed (thread_in b t).frames then
    ended_all references (from_frame t (length (thread_in b t).frames)) T
    else T

unfoldable pub called_references : Table → List ℕ → ℕ → ℕ → ℕ → ℕ → Table
called_references T b t f a row = top_ended (deleted T f a row) b t f

-- the row told, if place b is a buffer's
unfoldable pub released : Table → Place → ℕ → Table
released P p row = if_true is_buffer_place p then ended pins P row else P

-- what C leaves, where the handle in a stands in row `x`, and place b is `p` with the buffer there in row `y`
unfoldable pub called : Tables → ℕ → ℕ → ℕ → ℕ → Place → ℕ → Tables
called T t f a x p y =
    record {
      references = called_references T.references T.book t f a x;
      pins = released T.pins p y;
      book = called_book T.book t f;
      classes = T.classes;
    }
