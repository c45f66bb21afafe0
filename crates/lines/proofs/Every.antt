-- A test of each element, one after the other. Assumes nothing.
use mathlib.Core.Path.{◌≡◌, refl, ap, sym, ◌∙◌}
use mathlib.Core.Bool.{Bool, true, false, not, ◌&&◌, ◌||◌}
use mathlib.Core.List.{List, [], ◌∷◌}
use Rattle.std.specs.List.{list_all}
use Prim.Native.Nat.{ℕ, suc, ◌+◌, ◌≤◌, ◌<◌}
use native.Mathlib.Numerals.{add-one}
use lib.ListN.{length, get_or, drop, drop_of_length-le}
use lib.Seq.{drop-cons}
use Rattle.words.specs.Lists.{any}
use Rattle.lines.proofs.Tests.{and_true}

pub all_passed : (test : ℕ → Bool) (xs : List ℕ) → list_all test xs ≡ not (any (λ (x : ℕ). not (test x)) xs)
all_passed test [] = refl
all_passed test (x ∷ xs) = go (test x) (any (λ (x : ℕ). not (test x)) xs) (all_passed test xs)
  where
    go : (t b : Bool) {a : Bool} → a ≡ not b → (t && a) ≡ not (not t || b)
    go true b h = h
    go false b h = refl

module _ (test : ℕ → Bool) where
  -- all from place i on pass
  abbrev pub every_from : ℕ → List ℕ → Bool
  every_from i xs = not (any (λ (x : ℕ). not (test x)) (drop i xs))

  next : (ok a rest : Bool) → (ok && not (not a || rest)) ≡ ((ok && a) && not rest)
  next true true rest = refl
  next true false rest = refl
  next false a rest = refl

  pub every_next : (xs : List ℕ) (i : ℕ) (ok : Bool) {t : Bool} → i < length xs → t ≡ test (get_or xs i 0)
      → (ok && every_from i xs) ≡ ((ok && t) && every_from (i + 1) xs)
  every_next xs i ok h e =
      rw (add-one, drop-cons xs i 0 h)
      (next ok (test (get_or xs i 0)) (any (λ (x : ℕ). not (test x)) (drop (suc i) xs))
      ∙ ap (λ (b : Bool). (ok && b) && not (any (λ (x : ℕ). not (test x)) (drop (suc i) xs))) (sym e))

  pub every_end : (xs : List ℕ) (i : ℕ) (ok : Bool) → length xs ≤ i → (ok && every_from i xs) ≡ ok
  every_end xs i ok h = rw (drop_of_length-le xs h) (and_true ok)
