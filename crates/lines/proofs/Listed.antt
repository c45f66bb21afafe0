-- Lists of a known length, element by element. Assumes nothing.
use mathlib.Core.Path.{◌≡◌}
use mathlib.Core.List.{List, [], ◌∷◌}
use Prim.Native.Nat.{ℕ, zero, suc}
use native.Mathlib.Omega.{arith}
use lib.ListN.{length}

module _ {A : Type 0} where
  -- P holds of each list of n elements
  abbrev pub EachOf : ℕ → (List A → Type 0) → Type 0
  EachOf zero P = P []
  EachOf (suc n) P = (x : A) → EachOf n (λ xs. P (x ∷ xs))

  pub of_length : (n : ℕ) (P : List A → Type 0) → EachOf n P → (xs : List A) → length xs ≡ n → P xs
  of_length zero P h [] l = h
  of_length zero P h (x ∷ xs) l = absurd (omega arith)
  of_length (suc n) P h [] l = absurd (omega arith)
  of_length (suc n) P h (x ∷ xs) l = of_length n (λ ys. P (x ∷ ys)) (h x) xs (omega arith)
