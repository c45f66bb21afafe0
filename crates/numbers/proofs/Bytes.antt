-- A number has no byte but digits and a minus, so that another byte parts numbers. Assumes nothing.
use mathlib.Core.Path.{◌≡◌, refl, ap, sym, ◌∙◌}
use mathlib.Core.Bool.{Bool, true, false, ◌||◌, false≢true}
use mathlib.Core.List.{List, [], ◌∷◌, ◌++◌}
use Rattle.std.specs.Prelude.{Some}
use Prim.Native.Nat.{ℕ, suc, zero, ◌+◌, ◌/◌, ◌%◌, ◌≤◌, ◌<◌}
use native.Mathlib.Omega.{arith}
use native.Mathlib.Decide.{dec_lt}
use lib.Dec.{eqb}
use lib.IntN.{ℤ, pos, negsuc}
use borrow.Author.Tests.{eq-eqb, ne_eqb}
use Rattle.words.specs.Choice.{if_true◌then◌else◌}
use Rattle.words.specs.Lists.{any}
use Rattle.numbers.specs.Decimal.{zero_digit, minus_sign, digits, shown, is_digit, number}
use Rattle.numbers.specs.Reading.{until}
use Rattle.numbers.proofs.Digits.{digit, digits_one, digits_step}
use Rattle.numbers.proofs.Back.{digit_is, read_was_written}

-- a byte that no number has: at a tab or an LF both are `refl`
pub record Parts (x : ℕ) : Type 0 where
  pub no_digit : is_digit x ≡ false
  pub no_minus : eqb minus_sign x ≡ false

-- x is one of the bytes
abbrev pub has : ℕ → List ℕ → Bool
has x s = any (λ b. eqb b x) s

has_append : (x : ℕ) (s t : List ℕ) → has x s ≡ false → has x t ≡ false → has x (s ++ t) ≡ false
has_append x [] t p q = q
has_append x (b ∷ s) t p q = go (eqb b x) p (has_append x s t)
  where
    go : (u : Bool) → (u || has x s) ≡ false → (has x s ≡ false → has x t ≡ false → has x (s ++ t) ≡ false) → (u || has x (s ++ t)) ≡ false
    go true p ih = p
    go false p ih = ih p q

module _ {x : ℕ} (parts : Parts x) where
  digit_other : (d : ℕ) → d < 10 → has x (digit d) ≡ false
  digit_other d h =
      rw (ne_eqb (zero_digit + d) x (λ e. false≢true (sym parts.no_digit ∙ ap is_digit (sym e) ∙ digit_is d h)))

  digits_other : (k n : ℕ) → n ≤ k → has x (digits n) ≡ false
  digits_other zero n h = rw (digits_one n (omega arith)) (digit_other n (omega arith))
  digits_other (suc k) n h = go (dec_lt n 10) (digits_other k (n / 10))
    where
      go : Dec (n < 10) → (n / 10 ≤ k → has x (digits (n / 10)) ≡ false) → has x (digits n) ≡ false
      go (yes l) ih = rw (digits_one n l) (digit_other n l)
      go (no l) ih =
          rw (digits_step n (omega arith)) (has_append x (digits (n / 10)) (digit (n % 10)) (ih (omega arith)) (digit_other (n % 10) (omega arith)))

  pub not_in_shown : (z : ℤ) → has x (shown z) ≡ false
  not_in_shown (pos n) = digits_other n n (omega arith)
  not_in_shown (negsuc n) = rw parts.no_minus (digits_other (suc n) (suc n) (omega arith))

  pub not_in_number : (s : List ℕ) (z : ℤ) → number s ≡ Some z → has x s ≡ false
  not_in_number s z e = ap (has x) (sym (read_was_written s z e)) ∙ not_in_shown z

-- ---- the bytes before the first x

pub until_none : (x : ℕ) (s : List ℕ) → has x s ≡ false → until x s ≡ s
unfolding until
until_none x [] h = refl
until_none x (b ∷ s) h = go (eqb b x) h (until_none x s)
  where
    go : (u : Bool) → (u || has x s) ≡ false → (has x s ≡ false → until x s ≡ s) → (if_true u then [] else b ∷ until x s) ≡ b ∷ s
    go true p ih = absurd (false≢true (sym p))
    go false p ih = ap (λ t. b ∷ t) (ih p)

pub until_first : (x : ℕ) (s t : List ℕ) → has x s ≡ false → until x (s ++ (x ∷ t)) ≡ s
unfolding until
until_first x [] t h = rw (eq-eqb x x refl)
until_first x (b ∷ s) t h = go (eqb b x) h (until_first x s t)
  where
    go :
        (u : Bool) → (u || has x s) ≡ false → (has x s ≡ false → until x (s ++ (x ∷ t)) ≡ s)
        → (if_true u then [] else b ∷ until x (s ++ (x ∷ t))) ≡ b ∷ s
    go true p ih = absurd (false≢true (sym p))
    go false p ih = ap (λ r. b ∷ r) (ih p)
