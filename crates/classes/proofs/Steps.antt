-- From what the code did to the words of the definitions: one law for each return. Assumes nothing.
use Prim.Native.Nat.{ℕ, zero, suc, ◌-◌, ◌≤◌, ◌<◌}
use mathlib.Core.Path.{◌≡◌, refl, ap₂}
use mathlib.Core.Bool.{Bool, true, false, not, ◌&&◌, ◌||◌}
use mathlib.Core.List.{List}
use native.Mathlib.Nat.{not-suc-le-zero}
use native.Mathlib.Omega.{arith}
use borrow.Author.Tests.{leb-true, eq-eqb, ne_eqb}
use lib.Dec.{eqb, leb}
use lib.ListN.{length, get_or, set}
use Rattle.words.specs.Choice.{within}
use Rattle.facts.specs.Classes.{object, is_reserved}
use Rattle.lines.specs.Line.{classes, is_class}
use Rattle.lines.proofs.Tests.{both}
use Rattle.history.specs.Classes.{is_known, super, leads, most_looks, class_fits}
use Rattle.classes.specs.Supers.{super_in, with_super}

pub from_one : (n c : ℕ) → within 1 n c ≡ true → 1 ≤ c
from_one n c h = leb-true 1 c (both (leb 1 c) (leb c n) h).0

pub index_within : (n c : ℕ) → within 1 n c ≡ true → c - 1 < n
index_within n c h = omega (arith, from_one n c h, leb-true c n (both (leb 1 c) (leb c n) h).1)

-- a class that the table has a number for
pub from_first : (n c : ℕ) → (is_class c && leb c n) ≡ true → 1 ≤ c
from_first n c h = from_one classes c (both (is_class c) (leb c n) h).0

pub index_there : (n c : ℕ) → (is_class c && leb c n) ≡ true → c - 1 < n
index_there n c h = omega (arith, from_first n c h, leb-true c n (both (is_class c) (leb c n) h).1)

-- ---- the super declared of a class

module _ (cs : List ℕ) (c : ℕ) where
  pub super_there : is_class c ≡ true → get_or cs (c - 1) 0 ≡ super_in cs c
  unfolding super_in
  super_there y = rw y refl

  pub no_super : is_class c ≡ false → 0 ≡ super_in cs c
  unfolding super_in
  no_super n = rw n refl

  pub known_or_not : (r : Bool) (s : ℕ) → r ≡ is_reserved c → s ≡ super_in cs c → (r || not (eqb s 0)) ≡ is_known (super_in cs) c
  known_or_not r s er es = ap₂ (λ (a : Bool) (b : ℕ). a || not (eqb b 0)) er es

  pub super_set : (s : ℕ) → (is_class c && leb c (length cs)) ≡ true → set cs (c - 1) s ≡ with_super cs c s
  unfolding with_super
  super_set s y = rw y refl

  pub super_not_set : (s : ℕ) → (is_class c && leb c (length cs)) ≡ false → cs ≡ with_super cs c s
  unfolding with_super
  super_not_set s n = rw n refl

-- ---- a chain of supers, whoever declared them

module _ (declared : ℕ → ℕ) where
  module _ (c : ℕ) where
    pub above_root : is_reserved c ≡ true → c ≡ object → 0 ≡ super declared c
    unfolding super
    above_root y z = rw (y, eq-eqb c object z) refl

    pub above_reserved : is_reserved c ≡ true → (c ≡ object → ⊥) → object ≡ super declared c
    unfolding super
    above_reserved y z = rw (y, ne_eqb c object z) refl

    pub above_declared : (s : ℕ) → is_reserved c ≡ false → s ≡ declared c → s ≡ super declared c
    unfolding super
    above_declared s n e = rw n e

  -- n looks are left
  module _ (c k : ℕ) where
    pub lead_here : (n : ℕ) → 0 < n → c ≡ k → true ≡ leads declared n c k
    unfolding leads
    lead_here zero l e = absurd (not-suc-le-zero l)
    lead_here (suc n) l e = rw (eq-eqb c k e) refl

    pub lead_ends : (n : ℕ) → (c ≡ k → ⊥) → c ≡ 0 → false ≡ leads declared n c k
    unfolding leads
    lead_ends zero x z = refl
    lead_ends (suc n) x z = rw (ne_eqb c k x, eq-eqb c 0 z) refl

    pub lead_next : (n s : ℕ) → 0 < n → (c ≡ k → ⊥) → (c ≡ 0 → ⊥) → s ≡ super declared c → leads declared (n - 1) s k ≡ leads declared n c k
    unfolding leads
    lead_next zero s l x z e = absurd (not-suc-le-zero l)
    lead_next (suc n) s l x z e =
        let p : suc n - 1 ≡ n = omega arith in
        rw (ne_eqb c k x, ne_eqb c 0 z) (ap₂ (λ (m a : ℕ). leads declared m a k) p e)

    pub lead_none : (n : ℕ) → n ≤ 0 → false ≡ leads declared n c k
    unfolding leads
    lead_none zero h = refl
    lead_none (suc n) h = absurd (not-suc-le-zero h)

  module _ (fixed stated : ℕ) where
    pub fits_unjudged : (eqb fixed 0 || eqb stated 0) ≡ true → true ≡ class_fits declared fixed stated
    unfolding class_fits
    fits_unjudged y = rw y refl

    pub fits_led : (b : Bool) → (eqb fixed 0 || eqb stated 0) ≡ false → b ≡ leads declared most_looks stated fixed → b ≡ class_fits declared fixed stated
    unfolding class_fits
    fits_led b n e = rw n e
