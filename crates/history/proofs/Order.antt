-- Lists of findings in order: joined, and of numbers that rise. Assumes nothing.
use Prim.Native.Nat.{ℕ, zero, suc, ◌+◌, ◌≤◌, ◌<◌}
use mathlib.Core.Path.{◌≡◌, refl, subst}
use mathlib.Core.Logic.{inl, inr, ◌≢◌}
use mathlib.Core.Bool.{Bool, true, false}
use mathlib.Core.List.Memᴰ
use mathlib.Core.List.{List, [], ◌∷◌, ◌++◌, Memᴰ}
use native.Mathlib.Omega.{arith}
use lib.Dec.{eqb}
use borrow.Author.Tests.{eqb-true, eqb-false}
use Rattle.words.specs.Lists.{joined}
use Rattle.history.specs.declared.Finding.{Finding}
use Rattle.history.specs.Order.{Before, Ordered, no_more, then_more}
use Rattle.history.proofs.Tests.{either}

-- ---- lists joined

pub joined_member : {A : Type 0} {x : A} (ks : List ℕ) (f : ℕ → List A) → Memᴰ x (joined ks f) → (k : ℕ) × Memᴰ k ks × Memᴰ x (f k)
joined_member [] f m = absurd (Memᴰ.not-nil m)
joined_member {A} {x} (k ∷ ks) f m =
    either {C = (j : ℕ) × Memᴰ j (k ∷ ks) × Memᴰ x (f j)} (Memᴰ.append_cases (f k) m)
    (λ h. (k, Memᴰ.head refl, h))
    (λ h. let (j, i, y) = joined_member ks f h in (j, Memᴰ.tail i, y))

pub member_joined : {A : Type 0} {x : A} (ks : List ℕ) (f : ℕ → List A) (k : ℕ) → Memᴰ k ks → Memᴰ x (f k) → Memᴰ x (joined ks f)
member_joined [] f k i m = absurd (Memᴰ.not-nil i)
member_joined {A} {x} (j ∷ ks) f k i m =
    either (Memᴰ.cases_cons i)
    (λ e. Memᴰ.append_left (joined ks f) (subst (λ (n : ℕ). Memᴰ x (f n)) e m))
    (λ h. Memᴰ.append_right (f j) (member_joined ks f k h m))

-- ---- the numbers from lo on

abbrev pub from : ℕ → ℕ → List ℕ
from lo zero = []
from lo (suc n) = lo ∷ from (suc lo) n

from_bounds : (n lo k : ℕ) → Memᴰ k (from lo n) → (lo ≤ k) × (k < lo + n)
from_bounds zero lo k m = absurd (Memᴰ.not-nil m)
from_bounds (suc n) lo k m = either (Memᴰ.cases_cons m) (λ e. omega (arith, e)) (λ h. omega (arith, from_bounds n (suc lo) k h))

pub in_from : (n lo k : ℕ) → lo ≤ k → k < lo + n → Memᴰ k (from lo n)
in_from zero lo k h l = absurd (omega arith)
in_from (suc n) lo k h l = go (eqb k lo) refl (in_from n (suc lo) k)
  where
    go : (q : Bool) → eqb k lo ≡ q → (suc lo ≤ k → k < suc lo + n → Memᴰ k (from (suc lo) n)) → Memᴰ k (lo ∷ from (suc lo) n)
    go true e ih = Memᴰ.head (eqb-true _ _ e)
    go false e ih = let d : k ≢ lo = eqb-false _ _ e in Memᴰ.tail (ih (omega arith) (omega arith))

-- ---- in order

pub ordered_append : (l m : List Finding) → Ordered l → Ordered m → ((f g : Finding) → Memᴰ f l → Memᴰ g m → Before f g) → Ordered (l ++ m)
ordered_append _ m no_more om h = om
ordered_append _ m (then_more f l first rest) om h =
    then_more f (l ++ m) (λ g k. either (Memᴰ.append_cases l k) (first g) (h f g (Memᴰ.head refl)))
    (ordered_append l m rest om (λ x g i j. h x g (Memᴰ.tail i) j))

pub joined_ordered : (n lo : ℕ) (f : ℕ → List Finding) → ((k : ℕ) → Ordered (f k))
    → ((j k : ℕ) (x y : Finding) → j < k → Memᴰ x (f j) → Memᴰ y (f k) → Before x y) → Ordered (joined (from lo n) f)
joined_ordered zero lo f o h = no_more
joined_ordered (suc n) lo f o h =
    ordered_append (f lo) (joined (from (suc lo) n) f) (o lo) (joined_ordered n (suc lo) f o h)
    (λ x y i j. let (k, m, p) = joined_member (from (suc lo) n) f j in h lo k x y (from_bounds n (suc lo) k m).0 i p)

-- nothing stands before itself
not_before_itself : (f : Finding) → Before f f → ⊥
not_before_itself f (inl h) = omega (arith, h)
not_before_itself f (inr (e, inl h)) = omega (arith, h)
not_before_itself f (inr (e, inr (k, h))) = omega (arith, h)

-- what is in order holds each once
pub ordered_once : (l : List Finding) (f : Finding) (m : List Finding) → Ordered (l ++ (f ∷ m)) → ¬ Memᴰ f m
ordered_once [] f m (then_more _ _ first rest) i = not_before_itself f (first f i)
ordered_once (x ∷ l) f m (then_more _ _ first rest) i = ordered_once l f m rest i
