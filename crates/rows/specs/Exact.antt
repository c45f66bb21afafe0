-- Rows and marks down to their numbers: a used row is spelled as its slot says, every other row is zeros and not marked. Assumes nothing.
use Rattle.std.specs.Prelude.{◌≡◌, not, List, ℕ, get_or, replicate, Option, None, Some}
use Rattle.rows.specs.Slots.{empty}
use Rattle.rows.specs.Marks.{used}
use Rattle.rows.specs.Table.{Layout, Table, row}

module _ {A : Type 0} (L : Layout A) where
  -- the numbers of a row with this in its slot
  abbrev pub spelled : Option A → List ℕ
  spelled None = replicate L.stride 0
  spelled (Some x) = L.numbers x

  -- each row and each mark, also those past the slots
  pub record Exact (T : Table) (s : List (Option A)) : Type 0 where
    pub each_row : (r : ℕ) → row L.stride T.rows r ≡ spelled (get_or s r None)
    pub each_mark : (r : ℕ) → used T.marks r ≡ not (empty (get_or s r None))
