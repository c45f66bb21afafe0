-- How many used rows fall to each cell: numbers behind one another in a guide. Assumes nothing.
use Rattle.std.specs.Prelude.{◌≡◌, List, ℕ, suc, ◌+◌, ◌-◌, ◌<◌, eqb, ltb, get_or, set, Option}
use Rattle.words.specs.Choice.{if_true◌then◌else◌}
use Rattle.rows.specs.Scan.{how_many}
use Rattle.rows.specs.Slots.{holding}
use Rattle.rows.specs.Table.{most}

-- one more, never above the most rows of a room; and one less
unfoldable pub more_at : List ℕ → ℕ → List ℕ
more_at G k = set G k (if_true ltb (get_or G k 0) most then suc (get_or G k 0) else get_or G k 0)

unfoldable pub less_at : List ℕ → ℕ → List ℕ
less_at G k = set G k (get_or G k 0 - 1)

module _ {A : Type 0} (cell : A → ℕ) where
  -- of the first n rows, so many fall to cell k
  unfoldable pub tally : (ℕ → Option A) → ℕ → ℕ → ℕ
  tally S n k = how_many (λ r. holding (λ x. eqb (cell x) k) (S r)) n

  -- the cells from `from` up to `to`
  abbrev pub Tallied : ℕ → ℕ → (ℕ → Option A) → ℕ → List ℕ → Type 0
  Tallied from to S n G = (k : ℕ) → from + k < to → get_or G (from + k) 0 ≡ tally S n k
