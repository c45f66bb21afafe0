-- The lowest free row that does not stand below a word of marks. Assumes nothing.
use Rattle.std.specs.Prelude.{Bool, ◌&&◌, List, ℕ, ◌*◌, leb}
use Rattle.rows.specs.Scan.{lowest}
use Rattle.rows.specs.Marks.{word, free}
use Rattle.rows.specs.Table.{Layout, Table, room}

-- row r is free, and not below word w
unfoldable pub free_at : List ℕ → ℕ → ℕ → Bool
free_at ms w r = leb (w * word) r && free ms r

module _ {A : Type 0} (L : Layout A) where
  -- the lowest such row, or the room
  unfoldable pub free_from : Table → ℕ → ℕ
  free_from T w = lowest (free_at T.marks w) (room L T)
