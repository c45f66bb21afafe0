-- What rows and marks stand for: a list of slots, each free or with a row. Assumes nothing.
use Rattle.std.specs.Prelude.{List, ℕ, Option, None, Some}
use Rattle.words.specs.Choice.{if_true◌then◌else◌}
use Rattle.rows.specs.Marks.{used}
use Rattle.rows.specs.Table.{Layout, Table, each, room, row_at}

module _ {A : Type 0} (L : Layout A) where
  -- row r, if it is used
  unfoldable pub slot : Table → ℕ → Option A
  slot T r = if_true used T.marks r then Some (row_at L T.rows r) else None

  -- the slots of the room
  unfoldable pub view : Table → List (Option A)
  view T = each (slot T) (room L T)
