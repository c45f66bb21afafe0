-- Lists by a test on their elements. Assumes nothing.
use Rattle.std.specs.Prelude.{ℕ, suc, ◌+◌, Bool, false, ◌||◌, List, [], ◌∷◌, ◌++◌}
use Rattle.words.specs.Choice.{if_true◌then◌else◌}

module _ {ℓ} {A : Type ℓ} where
  -- those that pass the test
  abbrev pub keep : (A → Bool) → List A → List A
  keep f [] = []
  keep f (x ∷ xs) = if_true f x then x ∷ keep f xs else keep f xs

  -- one passes the test
  abbrev pub any : (A → Bool) → List A → Bool
  any f [] = false
  any f (x ∷ xs) = f x || any f xs

  -- how many pass the test
  abbrev pub count : (A → Bool) → List A → ℕ
  count f [] = 0
  count f (x ∷ xs) = if_true f x then suc (count f xs) else count f xs

  -- the place of the first that passes the test, or the length
  abbrev pub place_of : (A → Bool) → List A → ℕ
  place_of f [] = 0
  place_of f (x ∷ xs) = if_true f x then 0 else suc (place_of f xs)

  -- without the first that passes the test
  abbrev pub but_first : (A → Bool) → List A → List A
  but_first f [] = []
  but_first f (x ∷ xs) = if_true f x then xs else x ∷ but_first f xs

  -- f at each, in order, joined
  abbrev pub joined {κ} : {B : Type κ} → List B → (B → List A) → List A
  joined [] f = []
  joined (x ∷ xs) f = f x ++ joined xs f

  -- the sum of f at each
  abbrev pub sum : (A → ℕ) → List A → ℕ
  sum f [] = 0
  sum f (x ∷ xs) = f x + sum f xs

  -- what f says of the first that passes the test, 0 where none does
  abbrev pub of_first : (A → Bool) → (A → ℕ) → List A → ℕ
  of_first test f [] = 0
  of_first test f (x ∷ xs) = if_true test x then f x else of_first test f xs
