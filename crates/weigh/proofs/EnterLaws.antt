-- What the code's tests of N say. Assumes nothing.
use Prim.Native.Nat.{ℕ}
use mathlib.Core.Path.{◌≡◌, refl, sym, ap, ◌∙◌}
use mathlib.Core.Bool.{Bool, true, false, not, ◌||◌}
use mathlib.Core.List.{List}
use borrow.Author.Tests.{not-true, not-false}
use lib.ListN.{length}
use Rattle.sight.specs.declared.enter.EnterSight.{EnterSight}
use Rattle.weigh.specs.Enter.{named_twice, env_fits, enter_room, enter_refusal}

-- ---- the tests in their order

module _ (many env : ℕ) (hs : List ℕ) (s : EnterSight) (x : Bool) (ex : x ≡ env_fits env s) where
  pub enter_5 : not x ≡ true → 5 ≡ enter_refusal many env hs s
  unfolding enter_refusal
  enter_5 n = rw (sym ex ∙ not-true x n) refl

  module _ (y : Bool) (ey : y ≡ named_twice hs) (n : not x ≡ false) where
    fits : env_fits env s ≡ true
    fits = sym ex ∙ not-false x n

    again : (b : Bool) → (s.alive || y) ≡ b → (s.alive || named_twice hs) ≡ b
    again b q = ap (λ (o : Bool). s.alive || o) (sym ey) ∙ q

    pub enter_6 : (s.alive || y) ≡ true → 6 ≡ enter_refusal many env hs s
    unfolding enter_refusal
    enter_6 q = rw (fits, again true q) refl

    pub enter_7 : (z : Bool) → (s.alive || y) ≡ false → z ≡ enter_room many (length hs) s → not z ≡ true → 7 ≡ enter_refusal many env hs s
    unfolding enter_refusal
    enter_7 z q ez m = rw (fits, again false q, sym ez ∙ not-true z m) refl

    pub enter_0 : (z : Bool) → (s.alive || y) ≡ false → z ≡ enter_room many (length hs) s → not z ≡ false → 0 ≡ enter_refusal many env hs s
    unfolding enter_refusal
    enter_0 z q ez m = rw (fits, again false q, sym ez ∙ not-false z m) refl
