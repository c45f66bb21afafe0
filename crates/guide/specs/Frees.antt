-- How many rows are used, and where the lowest free one may stand: two numbers of a guide. Assumes nothing.
use Rattle.std.specs.Prelude.{◌≡◌, List, ℕ, ◌*◌, ◌/◌, ◌≤◌, ◌<◌, min, get_or, set, Option, None}
use Rattle.rows.specs.Marks.{word}

-- row r was the lowest free one; and row r is free
unfoldable pub raised_at : List ℕ → ℕ → ℕ → List ℕ
raised_at G k r = set G k (r / word)

unfoldable pub lowered_at : List ℕ → ℕ → ℕ → List ℕ
lowered_at G k r = set G k (min (get_or G k 0) (r / word))

-- all rows are of one cell
abbrev pub any : {A : Type 0} → A → ℕ
any x = 0

-- one-sided: of the first n rows, none that is free stands below the word of marks that is named at k
abbrev pub NoneBelow : {A : Type 0} → ℕ → (ℕ → Option A) → ℕ → List ℕ → Type 0
NoneBelow k S n G = (r : ℕ) → r < n → S r ≡ None → get_or G k 0 * word ≤ r
