-- The lent rows and marks, whatever a row's numbers are: what is read of them, and what is left in them. Assumes nothing.
use Rattle.std.specs.Prelude.{◌≡◌, Bool, ◌&&◌, List, [], ◌∷◌, ℕ, zero, suc, ◌+◌, ◌*◌, ◌/◌, min, length, get_or, replicate, ltb}
use Rattle.std.proofs.lemmas.List.Edits.{sets}
use Rattle.words.specs.Choice.{if_true◌then◌else◌}
use Rattle.rows.specs.Scan.{how_many, lowest, some_below}
use Rattle.rows.specs.Marks.{word, used, free, marked, unmarked}

-- A row as numbers.
pub record Layout (A : Type 0) : Type 0 where
  -- numbers to a row
  pub stride : ℕ
  -- a row's numbers in their order, and the row that numbers are
  pub numbers : A → List ℕ
  pub row_of : List ℕ → A
  -- there are as many, and there and back is the same row
  pub whole : (x : A) → length (numbers x) ≡ stride
  pub back : (x : A) → row_of (numbers x) ≡ x

-- rows and marks together
pub record Table : Type 0 where
  pub rows : List ℕ
  pub marks : List ℕ

abbrev pub table : List ℕ → List ℕ → Table
table rs ms = record { rows = rs; marks = ms }

-- the most rows of a room
abbrev pub most : ℕ
most = 65536

-- f at each number below n
abbrev pub each {ℓ} : {A : Type ℓ} → (ℕ → A) → ℕ → List A
each f zero = []
each f (suc n) = f zero ∷ each (λ k. f (suc k)) n

-- number j of row r, of rows of k numbers
unfoldable pub cell : ℕ → List ℕ → ℕ → ℕ → ℕ
cell k rs r j = get_or rs (r * k + j) 0

-- the numbers of row r, and row r with other numbers
unfoldable pub row : ℕ → List ℕ → ℕ → List ℕ
row k rs r = each (cell k rs r) k

unfoldable pub put_row : ℕ → List ℕ → ℕ → List ℕ → List ℕ
put_row k rs r vs = sets rs (r * k) vs

module _ {A : Type 0} (L : Layout A) where
  -- the lesser of rows and marks, at most 65,536
  unfoldable pub room : Table → ℕ
  room T = min (min (length T.rows / L.stride) (length T.marks * word)) most

  -- what stands in row r, used or not
  unfoldable pub row_at : List ℕ → ℕ → A
  row_at rs r = L.row_of (row L.stride rs r)

  -- row r passes the test, used or not
  unfoldable pub matches : (A → Bool) → List ℕ → ℕ → Bool
  matches q rs r = q (row_at rs r)

  -- row r is used and passes the test
  unfoldable pub passes : (A → Bool) → Table → ℕ → Bool
  passes q T r = matches q T.rows r && used T.marks r

  -- the lowest free row, or the room
  unfoldable pub free_row : Table → ℕ
  free_row T = lowest (free T.marks) (room T)

  -- how many rows are alive
  unfoldable pub alive : Table → ℕ
  alive T = how_many (used T.marks) (room T)

  -- the lowest used row that passes the test, or the room
  unfoldable pub found : (A → Bool) → Table → ℕ
  found q T = lowest (passes q T) (room T)

  -- how many used rows pass the test
  unfoldable pub counted : (A → Bool) → Table → ℕ
  counted q T = how_many (passes q T) (room T)

  -- whether a used row passes the test
  unfoldable pub some_row : (A → Bool) → Table → Bool
  some_row q T = some_below (passes q T) (room T)

  -- row r holds x and is marked, if there is such a row
  unfoldable pub stored : Table → ℕ → A → Table
  stored T r x = if_true ltb r (room T) then table (put_row L.stride T.rows r (L.numbers x)) (marked T.marks r) else T

  -- a new row is the lowest free one, if there is one
  unfoldable pub taken : Table → A → Table
  taken T x = stored T (free_row T) x

  -- row r holds what g makes of it, its mark stays, if there is such a row
  unfoldable pub changed : Table → ℕ → (A → A) → Table
  changed T r g = if_true ltb r (room T) then table (put_row L.stride T.rows r (L.numbers (g (row_at T.rows r)))) T.marks else T

  -- row r is zeroed and unmarked, if there is such a row
  unfoldable pub ended : Table → ℕ → Table
  ended T r = if_true ltb r (room T) then table (put_row L.stride T.rows r (replicate L.stride 0)) (unmarked T.marks r) else T

  -- row r ended, if it is used and passes the test
  unfoldable pub ended_if : (A → Bool) → Table → ℕ → Table
  ended_if q T r = if_true passes q T r then ended T r else T

  -- the n rows from a on, those that are used and pass the test ended, one after another
  unfoldable pub ended_from : (A → Bool) → Table → ℕ → ℕ → Table
  ended_from q T a zero = T
  ended_from q T a (suc n) = ended_if q (ended_from q T a n) (a + n)

  -- all used rows that pass the test ended
  unfoldable pub ended_all : (A → Bool) → Table → Table
  ended_all q T = ended_from q T 0 (room T)

-- all numbers 0
unfoldable pub cleared : Table → Table
cleared T = table (replicate (length T.rows) 0) (replicate (length T.marks) 0)
