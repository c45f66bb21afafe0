-- Signed numbers by sign and size, and the ends of 32 bits. Assumes nothing.
use mathlib.Core.Path.{◌≡◌, refl, ap, sym, ◌∙◌}
use mathlib.Core.Bool.{Bool, true, false, not, ◌&&◌, false≢true}
use mathlib.Core.List.{◌∷◌}
use Prim.Native.Nat.{ℕ, zero, suc}
use native.Mathlib.Omega.{arith}
use lib.Dec.{eqb}
use lib.IntN.{ℤ, pos, negsuc, nat_abs}
use borrow.Author.Tests.{ne_eqb}
use Rattle.numbers.specs.Decimal.{minus_sign, digits, shown}
use Rattle.numbers.specs.Signed.{signed, is_negative}

-- a number is its sign and its size
pub signed_size : (z : ℤ) → signed (is_negative z) (nat_abs z) ≡ z
signed_size (pos n) = refl
signed_size (negsuc n) = refl

-- ---- a minus before a size

-- a minus before a size that is not 0
abbrev below_zero : Bool → ℕ → Bool
below_zero minus size = minus && not (eqb size 0)

not_below : (minus : Bool) (size : ℕ) → below_zero minus size ≡ false → signed minus size ≡ pos size
not_below false size h = refl
not_below true zero h = refl
not_below true (suc n) h = absurd (false≢true (sym h ∙ ap not (ne_eqb (suc n) 0 (λ z. omega arith))))

-- ---- what is written of a sign and a size

pub shown_below : (minus : Bool) (size : ℕ) → below_zero minus size ≡ true → shown (signed minus size) ≡ minus_sign ∷ digits size
shown_below false size h = absurd (false≢true h)
shown_below true zero h = absurd (false≢true h)
shown_below true (suc n) h = refl

pub shown_above : (minus : Bool) (size : ℕ) → below_zero minus size ≡ false → shown (signed minus size) ≡ digits size
shown_above minus size h = ap shown (not_below minus size h)
