-- A word of a guide made of its parts. Assumes nothing.
use mathlib.Core.Path.{◌≡◌, refl}
use mathlib.Core.Bool.{◌||◌}
use Prim.Native.Nat.{ℕ, ◌<◌}
use native.Mathlib.Omega.{arith}
use lib.Dec.{eqb}
use Rattle.guide.specs.Words.{lane, name_a, name_b, name_c, word_of, named}

module _ (a b c top : ℕ) (la : a < lane) (lb : b < lane) (lc : c < lane) where
  pub parts_a : name_a (word_of a b c top) ≡ a
  unfolding word_of
  parts_a = omega (arith, la, lb, lc)

  pub parts_b : name_b (word_of a b c top) ≡ b
  unfolding word_of
  parts_b = omega (arith, la, lb, lc)

  pub parts_c : name_c (word_of a b c top) ≡ c
  unfolding word_of
  parts_c = omega (arith, la, lb, lc)

  pub named_is : (r : ℕ) → named (word_of a b c top) r ≡ ((eqb a r || eqb b r) || eqb c r)
  unfolding named
  named_is r = rw (parts_a, parts_b, parts_c) refl
