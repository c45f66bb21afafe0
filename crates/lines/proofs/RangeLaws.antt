-- The code's tests of a size and a sign are document 01's of the number. Assumes nothing.
use mathlib.Core.Path.{◌≡◌, refl, ap, sym, ◌∙◌}
use mathlib.Core.Bool.{Bool, true, false, not, ◌&&◌, ◌||◌, true≢false, false≢true}
use Prim.Native.Nat.{ℕ, zero, suc}
use native.Mathlib.Omega.{arith}
use lib.Dec.{eqb}
use lib.IntN.{ℤ, pos, negsuc}
use borrow.Author.Tests.{ne_eqb}
use Rattle.words.specs.Choice.{if_true◌then◌else◌}
use Rattle.facts.specs.declared.Result.{Result}
use Rattle.numbers.specs.Signed.{signed, is_i32}
use Rattle.lines.specs.Line.{is_zero, capacity_allows, result_allows}
use Rattle.lines.specs.Events.{is_status}

-- ---- zero, and below zero

zero_is : (minus : Bool) (n : ℕ) → eqb n 0 ≡ is_zero (signed minus n)
zero_is false n = refl
zero_is true zero = refl
zero_is true (suc n) = ne_eqb (suc n) 0 (λ e. omega arith)

abbrev is_below : Bool → ℕ → Bool
is_below minus n = minus && not (eqb n 0)

not_below : (minus : Bool) (n : ℕ) → is_below minus n ≡ false → signed minus n ≡ pos n
not_below false n h = refl
not_below true zero h = refl
not_below true (suc n) h = absurd (true≢false (rw (ne_eqb (suc n) 0 (λ e. omega arith)) at h))

zero_i32 : (z : ℤ) → is_zero z ≡ true → is_i32 z ≡ true
zero_i32 (pos zero) h = refl
zero_i32 (pos (suc n)) h = absurd (false≢true (sym (ne_eqb (suc n) 0 (λ e. omega arith)) ∙ h))
zero_i32 (negsuc n) h = absurd (false≢true h)

-- ---- capacity

pub capacity_i32 : (f : ℕ) (z : ℤ) → capacity_allows f z ≡ true → is_i32 z ≡ true
capacity_i32 f z = go (eqb f 19 || eqb f 26)
  where
    go : (t : Bool) → (if_true t then is_i32 z else is_zero z) ≡ true → is_i32 z ≡ true
    go true h = h
    go false h = zero_i32 z h

-- ---- results

module _ (minus : Bool) (n : ℕ) where
  pub below_result : (k : Result) → is_below minus n ≡ true → (is_status k && is_i32 (signed minus n)) ≡ result_allows k (signed minus n)
  below_result k h = go minus n h k
    where
      go : (minus : Bool) (n : ℕ) → is_below minus n ≡ true → (k : Result) → (is_status k && is_i32 (signed minus n)) ≡ result_allows k (signed minus n)
      go false n h k = absurd (false≢true h)
      go true zero h k = absurd (false≢true h)
      go true (suc n) h Result.Status = refl
      go true (suc n) h Result.Local = refl
      go true (suc n) h Result.Global = refl
      go true (suc n) h Result.Weak = refl
      go true (suc n) h Result.Identity = refl
      go true (suc n) h Result.Buffer = refl
      go true (suc n) h Result.Nothing = refl

pub status_i32 : (k : Result) (z : ℤ) → is_status k ≡ true → result_allows k z ≡ true → is_i32 z ≡ true
status_i32 Result.Status z s h = h
status_i32 Result.Local z s h = absurd (false≢true s)
status_i32 Result.Global z s h = absurd (false≢true s)
status_i32 Result.Weak z s h = absurd (false≢true s)
status_i32 Result.Identity z s h = absurd (false≢true s)
status_i32 Result.Buffer z s h = absurd (false≢true s)
status_i32 Result.Nothing z s h = absurd (false≢true s)

-- a result that is no status has no sign
pub plain_result : (k : Result) (minus : Bool) (n : ℕ) → is_status k ≡ false → result_allows k (signed minus n) ≡ true → signed minus n ≡ pos n
plain_result k minus n s h = go (is_below minus n) refl
  where
    go : (t : Bool) → is_below minus n ≡ t → signed minus n ≡ pos n
    go false e = not_below minus n e
    go true e = absurd (false≢true (ap (λ (t : Bool). t && is_i32 (signed minus n)) (sym s) ∙ below_result minus n k e ∙ h))
