-- The field at a place, by the byte that stands there. Assumes nothing.
use mathlib.Core.Path.{◌≡◌, refl, ap, sym, ◌∙◌}
use mathlib.Core.Bool.{Bool, true, false}
use mathlib.Core.List.{List, [], ◌∷◌}
use Prim.Native.Nat.{ℕ, suc, ◌+◌, ◌≤◌, ◌<◌}
use native.Mathlib.Omega.{arith}
use native.Mathlib.Decide.{dec_lt}
use native.Mathlib.Nat.{add-zero}
use native.Mathlib.Numerals.{add-one}
use lib.Dec.{eqb}
use lib.ListN.{length, get_or, drop_of_length-le}
use lib.Seq.{drop-cons}
use borrow.Author.Tests.{eq-eqb, ne_eqb, eqb-true, eqb-false}
use Rattle.numbers.specs.Reading.{until, field_at}
use Rattle.numbers.specs.declared.Field.{Field}
use Rattle.numbers.specs.declared.Found.{Found}

-- a field and the place past it, as the code has them
abbrev pub answer : Field → ℕ → Found
answer f k = record { field = f; next = k }

module _ (s : List ℕ) (at stop : ℕ) where
  pub field_end : length s ≤ at → field_at s at stop ≡ []
  unfolding until
  field_end h = rw (drop_of_length-le s h)

  pub field_stop : at < length s → get_or s at 0 ≡ stop → field_at s at stop ≡ []
  unfolding until
  field_stop h e = rw (drop-cons s at 0 h) (rw (eq-eqb (get_or s at 0) stop e))

  pub field_more : at < length s → (get_or s at 0 ≡ stop → ⊥) → field_at s at stop ≡ get_or s at 0 ∷ field_at s (at + 1) stop
  unfolding until
  field_more h e = rw (add-one, drop-cons s at 0 h) (rw (ne_eqb (get_or s at 0) stop e))

  -- the place past it, by the byte that stands at its place
  pub next_none : field_at s at stop ≡ [] → at + length (field_at s at stop) ≡ at
  next_none e = ap (λ f. at + length f) e ∙ add-zero at

  pub next_more :
      at < length s → (get_or s at 0 ≡ stop → ⊥) → at + length (field_at s at stop) ≡ at + 1 + length (field_at s (at + 1) stop)
  next_more h e = let l : length (field_at s at stop) ≡ suc (length (field_at s (at + 1) stop)) = ap length (field_more h e) in omega arith

  -- a field that is not empty
  pub field_some : 0 < length (field_at s at stop) → (at < length s) × (get_or s at 0 ≡ stop → ⊥)
  field_some h = go (dec_lt at (length s))
    where
      stands : at < length s → (t : Bool) → eqb (get_or s at 0) stop ≡ t → (at < length s) × (get_or s at 0 ≡ stop → ⊥)
      stands l true e = let k : length (field_at s at stop) ≡ 0 = ap length (field_stop l (eqb-true (get_or s at 0) stop e)) in absurd (omega arith)
      stands l false e = (l, eqb-false (get_or s at 0) stop e)

      go : Dec (at < length s) → (at < length s) × (get_or s at 0 ≡ stop → ⊥)
      go (yes l) = stands l (eqb (get_or s at 0) stop) refl
      go (no l) = let k : length (field_at s at stop) ≡ 0 = ap length (field_end (omega arith)) in absurd (omega arith)

  pub field_first : 0 < length (field_at s at stop) → get_or s at 0 ≡ get_or (field_at s at stop) 0 0
  field_first h = let k = field_some h in sym (ap (λ f. get_or f 0 0) (field_more k.0 k.1))
