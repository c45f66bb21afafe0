-- A decimal by its length and its first digit, and a number by its sign. Assumes nothing.
use mathlib.Core.Path.{◌≡◌, refl, ap, ap₂, sym, ◌∙◌}
use mathlib.Core.Bool.{Bool, true, false, not, ◌&&◌, false≢true}
use mathlib.Core.List.{List, [], ◌∷◌}
use Rattle.std.specs.Prelude.{Option, None, Some}
use Prim.Native.Nat.{ℕ, zero, suc, ◌+◌, ◌-◌, ◌≤◌, ◌<◌}
use native.Mathlib.Omega.{arith}
use native.Mathlib.Decide.{dec_lt}
use lib.Dec.{leb, ltb, eqb}
use lib.ListN.{length, get_or}
use borrow.Author.Tests.{le-leb, lt-leb, eqb-true, eqb-false, lt-ltb, ne_eqb}
use Rattle.words.specs.Choice.{if_true◌then◌else◌}
use Rattle.numbers.specs.Decimal.{zero_digit, minus_sign, read_on, decimal, not_negative, negative, number}
use Rattle.numbers.specs.Reading.{bounded, field_at, found, found_decimal, found_on, tested, starts_minus, negated}
use Rattle.numbers.specs.declared.Field.{Field}
use Rattle.numbers.specs.declared.Field.TheVariants.{Plus, Minus, Out, Bad}
use Rattle.numbers.specs.declared.Found.{Found}
use Rattle.numbers.proofs.Reading.{answer, field_end, field_stop, field_more, next_more, field_some, field_first}

decimal_empty : (f : List ℕ) → length f ≡ 0 → decimal f ≡ None
decimal_empty [] h = refl
decimal_empty (b ∷ f) h = absurd (omega arith)

decimal_zero : (f : List ℕ) → (eqb (get_or f 0 0) zero_digit && ltb 1 (length f)) ≡ true → decimal f ≡ None
decimal_zero [] h = refl
decimal_zero (b ∷ []) h = go (eqb b zero_digit) h
  where
    go : (t : Bool) → (t && ltb 1 1) ≡ true → (if_true t then Some 0 else read_on 0 (b ∷ [])) ≡ None
    go true h = absurd (false≢true h)
    go false h = absurd (false≢true h)
decimal_zero (b ∷ x ∷ f) h = go (eqb b zero_digit) h
  where
    go : (t : Bool) → (t && ltb 1 (suc (suc (length f)))) ≡ true → (if_true t then None else read_on 0 (b ∷ x ∷ f)) ≡ None
    go true h = refl
    go false h = absurd (false≢true h)

decimal_run : (f : List ℕ) → 0 < length f → (eqb (get_or f 0 0) zero_digit && ltb 1 (length f)) ≡ false → decimal f ≡ read_on 0 f
unfolding read_on
decimal_run [] l h = absurd (omega arith)
decimal_run (b ∷ []) l h = go (eqb b zero_digit) refl
  where
    go : (t : Bool) → eqb b zero_digit ≡ t → (if_true t then Some 0 else read_on 0 (b ∷ [])) ≡ read_on 0 (b ∷ [])
    go true e = let k = eqb-true b zero_digit e in rw k
    go false e = refl
decimal_run (b ∷ x ∷ f) l h = go (eqb b zero_digit) h
  where
    go : (t : Bool) → (t && ltb 1 (suc (suc (length f)))) ≡ false → (if_true t then None else read_on 0 (b ∷ x ∷ f)) ≡ read_on 0 (b ∷ x ∷ f)
    go true h = absurd (false≢true (sym h ∙ lt-ltb 1 (suc (suc (length f))) (omega arith)))
    go false h = refl

module _ (max stop : ℕ) (s : List ℕ) (at : ℕ) {r : Found} (e : r ≡ found_on max stop s at 0) where
  next_is : r.next ≡ at + length (field_at s at stop)
  unfolding found_on
  next_is = ap (λ x. x.next) e

  length_is : r.next - at ≡ length (field_at s at stop)
  length_is = let k = next_is in omega arith

  pub starts_within : at < r.next → at < length s
  starts_within h = let k = length_is in (field_some s at stop (omega arith)).0

  -- a zero with digits after it
  leads : at < r.next → (eqb (get_or s at 0) zero_digit && ltb 1 (r.next - at)) ≡ (eqb (get_or (field_at s at stop) 0 0) zero_digit && ltb 1 (length (field_at s at stop)))
  leads h = let k = length_is in ap₂ (λ b l. eqb b zero_digit && ltb 1 l) (field_first s at stop (omega arith)) k

  decimal_of_none : r.next ≤ at → answer Bad r.next ≡ found_decimal max stop s at
  unfolding found_decimal
  decimal_of_none h =
      let k = length_is in
      ap₂ answer (sym (ap (λ o. bounded max (not_negative o)) (decimal_empty (field_at s at stop) (omega arith)))) next_is

  decimal_of_zero : at < r.next → (eqb (get_or s at 0) zero_digit && ltb 1 (r.next - at)) ≡ true → answer Bad r.next ≡ found_decimal max stop s at
  unfolding found_decimal
  decimal_of_zero h t =
      ap₂ answer (sym (ap (λ o. bounded max (not_negative o)) (decimal_zero (field_at s at stop) (sym (leads h) ∙ t)))) next_is

  decimal_of_run : at < r.next → (eqb (get_or s at 0) zero_digit && ltb 1 (r.next - at)) ≡ false → r ≡ found_decimal max stop s at
  unfolding found_decimal found_on
  decimal_of_run h t =
      let k = length_is in
      e
      ∙ ap (λ o. answer (bounded max (not_negative o)) (at + length (field_at s at stop)))
      (sym (decimal_run (field_at s at stop) (omega arith) (sym (leads h) ∙ t)))

  -- a run of digits, tested, is a decimal
  pub tested_is : tested s at r ≡ found_decimal max stop s at
  tested_is = go (dec_lt at r.next)
    where
      some : at < r.next → (t : Bool) → (eqb (get_or s at 0) zero_digit && ltb 1 (r.next - at)) ≡ t → (if_true t then answer Bad r.next else r) ≡ found_decimal max stop s at
      some l true h = decimal_of_zero l h
      some l false h = decimal_of_run l h

      go : Dec (at < r.next) → tested s at r ≡ found_decimal max stop s at
      go (yes l) = rw (lt-leb r.next at l) (some l (eqb (get_or s at 0) zero_digit && ltb 1 (r.next - at)) refl)
      go (no l) = rw (le-leb r.next at (omega arith)) (decimal_of_none (omega arith))

-- ---- a number by its sign

negated_is : (max : ℕ) (o : Option ℕ) → negated (bounded max (not_negative o)) ≡ bounded max (negative o)
negated_is max None = refl
negated_is max (Some zero) = rw (le-leb 0 max (omega arith))
negated_is max (Some (suc n)) = go (leb (suc n) max)
  where
    go : (t : Bool) → negated (if_true t then Plus (suc n) else Out) ≡ (if_true t then Minus (suc n) else Out)
    go true = refl
    go false = refl

pub minus_some : (n : ℕ) → (n ≡ 0 → ⊥) → Minus n ≡ negated (Plus n)
minus_some zero h = absurd (h refl)
minus_some (suc n) h = refl

module _ (s : List ℕ) (at stop : ℕ) where
  pub no_minus_at_end : length s ≤ at → false ≡ starts_minus (field_at s at stop)
  no_minus_at_end h = sym (ap starts_minus (field_end s at stop h))

  pub minus_at : at < length s → (eqb (get_or s at 0) minus_sign && not (eqb stop minus_sign)) ≡ starts_minus (field_at s at stop)
  minus_at h = go (eqb (get_or s at 0) stop) refl
    where
      stops : get_or s at 0 ≡ stop → (t : Bool) → eqb stop minus_sign ≡ t → (t && not t) ≡ false
      stops e true k = refl
      stops e false k = refl

      stays : (get_or s at 0 ≡ stop → ⊥) → (t : Bool) → eqb (get_or s at 0) minus_sign ≡ t → (t && not (eqb stop minus_sign)) ≡ t
      stays e true k = ap not (ne_eqb stop minus_sign (λ m. e (eqb-true (get_or s at 0) minus_sign k ∙ sym m)))
      stays e false k = refl

      go : (t : Bool) → eqb (get_or s at 0) stop ≡ t → (eqb (get_or s at 0) minus_sign && not (eqb stop minus_sign)) ≡ starts_minus (field_at s at stop)
      go true e =
          let k = eqb-true (get_or s at 0) stop e in
          ap (λ b. eqb b minus_sign && not (eqb stop minus_sign)) k ∙ stops k (eqb stop minus_sign) refl ∙ sym (ap starts_minus (field_stop s at stop h k))
      go false e =
          let k = eqb-false (get_or s at 0) stop e in
          stays k (eqb (get_or s at 0) minus_sign) refl ∙ sym (ap starts_minus (field_more s at stop h k))

plain_number : (f : List ℕ) → starts_minus f ≡ false → not_negative (decimal f) ≡ number f
plain_number [] t = refl
plain_number (b ∷ f) t = rw t

minus_number : (b : ℕ) (f : List ℕ) → starts_minus (b ∷ f) ≡ true → negative (decimal f) ≡ number (b ∷ f)
minus_number b f t = rw t

starts_some : (f : List ℕ) → starts_minus f ≡ true → 0 < length f
starts_some [] t = absurd (false≢true t)
starts_some (b ∷ f) t = omega arith

-- a minus and the digits after it stand within the bytes
pub minus_fits : (s : List ℕ) (at stop : ℕ) {t : Bool} → t ≡ starts_minus (field_at s at stop) → t ≡ true → (top : ℕ) → length s < top → at + 1 < top
minus_fits s at stop m h top l = let w = (field_some s at stop (starts_some (field_at s at stop) (sym m ∙ h))).0 in omega arith

module _ (max stop : ℕ) (s : List ℕ) (at : ℕ) {t : Bool} (m : t ≡ starts_minus (field_at s at stop)) {r : Found} where
  pub number_plain : t ≡ false → r ≡ found_decimal max stop s at → r ≡ found max stop s at
  unfolding found found_decimal
  number_plain h e = e ∙ ap (λ x. answer (bounded max x) (at + length (field_at s at stop))) (plain_number (field_at s at stop) (sym m ∙ h))

  pub number_minus : t ≡ true → r ≡ found_decimal max stop s (at + 1) → {f : Field} → f ≡ negated r.field → answer f r.next ≡ found max stop s at
  unfolding found found_decimal
  number_minus h d p =
      let l = field_some s at stop (starts_some (field_at s at stop) (sym m ∙ h)) in
      let w : field_at s at stop ≡ get_or s at 0 ∷ field_at s (at + 1) stop = field_more s at stop l.0 l.1 in
      ap₂ answer
      (p
      ∙ ap (λ x. negated x.field) d
      ∙ negated_is max (decimal (field_at s (at + 1) stop))
      ∙ ap (bounded max) (minus_number (get_or s at 0) (field_at s (at + 1) stop) (sym (ap starts_minus w) ∙ sym m ∙ h) ∙ ap number (sym w)))
      (ap (λ x. x.next) d ∙ sym (next_more s at stop l.0 l.1))
