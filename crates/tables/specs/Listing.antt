-- The leaks that stand in lent tables, whatever these hold, and the list of them in a lent slice. Assumes nothing.
use Rattle.std.specs.Prelude.{ℕ, ◌/◌, not, List, [], ◌∷◌, ◌++◌, map, ltb, length, drop}
use Rattle.words.specs.Choice.{if_true◌then◌else◌}
use Rattle.words.specs.Lists.{joined}
use Rattle.rows.specs.Slots.{held}
use Rattle.rows.specs.View.{view}
use Rattle.rows.specs.References.{references}
use Rattle.rows.specs.Pins.{pins}
use Rattle.rows.specs.declared.references.Reference.{Reference}
use Rattle.rows.specs.declared.pins.Pin.{Pin as PinRow}
use Rattle.history.specs.Handles.{Alive}
use Rattle.history.specs.Buffers.{Pin}
use Rattle.history.specs.Leaks.{Made, Leak, leaks_of}
use Rattle.book.specs.Threads.{closed_in}
use Rattle.book.specs.Unfit.{unfit}
use Rattle.tables.specs.Tables.{Tables, alive_of, pin_of}

-- a row and what it stands for, with its making line
abbrev pub made_alive : Reference → Made Alive
made_alive x = record { what = alive_of x; line = x.line }

abbrev pub made_pin : PinRow → Made Pin
made_pin x = record { what = pin_of x; line = x.line }

-- of the used rows
unfoldable pub leaks_in : Tables → List Leak
leaks_in T = leaks_of (map made_pin (held (view pins T.pins))) (map made_alive (held (view references T.references)))

-- ---- the list call

-- four numbers to a record
abbrev pub leak_numbers : ℕ
leak_numbers = 4

abbrev pub numbers_of : Leak → List ℕ
numbers_of x = x.rule ∷ x.thread ∷ x.value ∷ x.line ∷ []

-- how many records were written, or the number given instead
pub data Listed : Type 0 where
  written : ℕ → Listed
  not_written : ℕ → Listed

-- and the numbers of the slice that are left with it
pub record Listing : Type 0 where
  pub reply : Listed
  pub left : List ℕ

abbrev pub lists : Listed → List ℕ → Listing
lists r ns = record { reply = r; left = ns }

-- all of them at the front of the slice, and what is behind them stays; 7 where it holds fewer records, and nothing is written
unfoldable pub list_into : List Leak → List ℕ → Listing
list_into xs ns =
    if_true ltb (length ns / leak_numbers) (length xs) then lists (not_written 7) ns
    else lists (written (length xs)) (joined xs numbers_of ++ drop (length (joined xs numbers_of)) ns)

-- 8, 4, 7 in this order
unfoldable pub list_of : Tables → List ℕ → Listing
list_of T ns =
    if_true unfit T.book then lists (not_written 8) ns
    else if_true not (closed_in T.book) then lists (not_written 4) ns
    else list_into (leaks_in T) ns
