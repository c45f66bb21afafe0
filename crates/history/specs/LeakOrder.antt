-- The order of leaks: by making line. Assumes nothing.
use Rattle.std.specs.Prelude.{ℕ, ◌≤◌, ◌<◌, Bool, eqb}
use mathlib.Core.List.{List, [], ◌∷◌, Memᴰ}
use Rattle.history.specs.Leaks.{Made, Leak}

abbrev pub made_in_line : {A : Type 0} → ℕ → Made A → Bool
made_in_line n x = eqb x.line n

abbrev pub of_making_line : ℕ → Leak → Bool
of_making_line n x = eqb x.line n

-- the line of each is so to the lines of all that follow it
pub data Lines (So : ℕ → ℕ → Type 0) : List Leak → Type 0 where
  no_more : Lines So []
  then_more : (x : Leak) (xs : List Leak) → ((y : Leak) → Memᴰ y xs → So x.line y.line) → Lines So xs → Lines So (x ∷ xs)

abbrev pub InOrder : List Leak → Type 0
InOrder = Lines ◌≤◌

-- no two of one line
abbrev pub Ascending : List Leak → Type 0
Ascending = Lines ◌<◌
