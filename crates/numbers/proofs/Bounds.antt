-- A reading held to a bound, and the ends of 32 bits: what each answer says of the number. Assumes nothing.
use mathlib.Core.Path.{◌≡◌, refl, ap, sym, subst, ◌∙◌}
use mathlib.Core.Bool.{Bool, true, false}
use Rattle.std.specs.Prelude.{Option, None, Some}
use Prim.Native.Nat.{ℕ, suc, ◌≤◌, ◌<◌}
use native.Mathlib.Omega.{arith}
use lib.Dec.{leb}
use lib.IntN.{ℤ, pos, negsuc, nat_abs}
use borrow.Author.Tests.{le-leb, lt-leb, leb-true, leb-false}
use Rattle.words.specs.Choice.{if_true◌then◌else◌}
use Rattle.numbers.specs.Decimal.{shown, number}
use Rattle.numbers.specs.Reading.{bounded}
use Rattle.numbers.specs.Signed.{signed, is_negative, largest_i32, is_i32, as_int}
use Rattle.numbers.specs.declared.Field.{Field}
use Rattle.numbers.specs.declared.Field.TheVariants.{Plus, Minus, Out, Bad}
use Rattle.numbers.proofs.Back.{written_is_read}
use Rattle.numbers.proofs.Signed.{signed_size}

-- ---- from the number to the answer, at every bound

-- a size with its sign
abbrev pub sized : ℤ → Field
sized (pos n) = Plus n
sized (negsuc n) = Minus (suc n)

pub in_bound : (max : ℕ) (z : ℤ) → nat_abs z ≤ max → bounded max (Some z) ≡ sized z
in_bound max (pos n) h = rw (le-leb n max h)
in_bound max (negsuc n) h = rw (le-leb (suc n) max h)

pub past_bound : (max : ℕ) (z : ℤ) → max < nat_abs z → bounded max (Some z) ≡ Out
past_bound max (pos n) h = rw (lt-leb n max h)
past_bound max (negsuc n) h = rw (lt-leb (suc n) max h)

pub written_is_read_in : (max : ℕ) (z : ℤ) → nat_abs z ≤ max → bounded max (number (shown z)) ≡ sized z
written_is_read_in max z h = ap (bounded max) (written_is_read z) ∙ in_bound max z h

-- ---- from the answer to the number

-- a number that is past the bound
pub record Past (max : ℕ) (o : Option ℤ) : Type 0 where
  pub number : ℤ
  pub is : o ≡ Some number
  pub past : max < nat_abs number

-- what an answer says of a reading
abbrev pub Means : ℕ → Option ℤ → Field → Type 0
Means max o (Plus n) = (o ≡ Some (pos n)) × (n ≤ max)
Means max o (Minus n) = (o ≡ Some (signed true n)) × ((0 < n) × (n ≤ max))
Means max o Out = Past max o
Means max o Bad = o ≡ None

every_meaning : (max : ℕ) (o : Option ℤ) → Means max o (bounded max o)
every_meaning max None = refl
every_meaning max (Some (pos n)) = go (leb n max) refl
  where
    go : (t : Bool) → leb n max ≡ t → Means max (Some (pos n)) (if_true t then Plus n else Out)
    go true h = (refl, leb-true n max h)
    go false h = record { number = pos n; is = refl; past = leb-false n max h }
every_meaning max (Some (negsuc n)) = go (leb (suc n) max) refl
  where
    go : (t : Bool) → leb (suc n) max ≡ t → Means max (Some (negsuc n)) (if_true t then Minus (suc n) else Out)
    go true h = (refl, (omega arith, leb-true (suc n) max h))
    go false h = record { number = negsuc n; is = refl; past = leb-false (suc n) max h }

pub meaning : {f : Field} (max : ℕ) (o : Option ℤ) → f ≡ bounded max o → Means max o f
meaning max o e = subst (Means max o) (sym e) (every_meaning max o)

-- ---- 32 bits

pub i32_size : (z : ℤ) → is_i32 z ≡ true → nat_abs z ≤ suc largest_i32
i32_size (pos n) h = let k = leb-true n largest_i32 h in omega arith
i32_size (negsuc n) h = let k = leb-true n largest_i32 h in omega arith

pub int_of_i32 : (z : ℤ) → is_i32 z ≡ true → as_int (signed (is_negative z) (nat_abs z)) ≡ Some z
int_of_i32 z h = ap as_int (signed_size z) ∙ rw h

pub int_was : (z : ℤ) {y : ℤ} → as_int z ≡ Some y → (z ≡ y) × (is_i32 z ≡ true)
int_was z {y} = go (is_i32 z)
  where
    go : (t : Bool) → (if_true t then Some z else None) ≡ Some y → (z ≡ y) × (t ≡ true)
    go true e = (cc, refl)
    go false e = let x : ◌≡◌ {A = ℕ} 0 1 = cc in absurd (omega arith)

pub int_was_out : (z : ℤ) → as_int z ≡ None → is_i32 z ≡ false
int_was_out z = go (is_i32 z)
  where
    go : (t : Bool) → (if_true t then Some z else None) ≡ None → t ≡ false
    go true e = let x : ◌≡◌ {A = ℕ} 0 1 = cc in absurd (omega arith)
    go false e = refl
