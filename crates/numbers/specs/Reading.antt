-- A field of a byte list, from a place up to a byte that stops it, and what the reader answers of it. Assumes nothing.
use Rattle.std.specs.Prelude.{ℕ, zero, suc, ◌+◌, ◌-◌, Bool, true, false, not, ◌||◌, ◌&&◌, List, [], ◌∷◌, leb, ltb, eqb, get_or, ℤ, pos, negsuc, length, drop, Option, None, Some}
use Rattle.words.specs.Choice.{if_true◌then◌else◌}
use Rattle.words.specs.Lists.{any}
use Rattle.numbers.specs.Decimal.{zero_digit, minus_sign, is_digit, read_on, decimal, not_negative, number}
use Rattle.numbers.specs.declared.Field.{Field}
use Rattle.numbers.specs.declared.Field.TheVariants.{Plus, Minus, Out, Bad}
use Rattle.numbers.specs.declared.Found.{Found}

-- a reading held to sizes up to max
abbrev pub bounded : ℕ → Option ℤ → Field
bounded max None = Bad
bounded max (Some (pos n)) = if_true leb n max then Plus n else Out
bounded max (Some (negsuc n)) = if_true leb (suc n) max then Minus (suc n) else Out

-- the bytes before the first `stop`, or all
unfoldable pub until : ℕ → List ℕ → List ℕ
until stop [] = []
until stop (b ∷ s) = if_true eqb b stop then [] else b ∷ until stop s

-- the field at a place; none past the end
abbrev pub field_at : List ℕ → ℕ → ℕ → List ℕ
field_at s at stop = until stop (drop at s)

-- the field at a place held to a bound, and the place past it
unfoldable pub found : ℕ → ℕ → List ℕ → ℕ → Found
found max stop s at = record { field = bounded max (number (field_at s at stop)); next = at + length (field_at s at stop) }

-- ---- on the way there

-- a field without a sign
unfoldable pub found_decimal : ℕ → ℕ → List ℕ → ℕ → Found
found_decimal max stop s at =
    record {
      field = bounded max (not_negative (decimal (field_at s at stop)));
      next = at + length (field_at s at stop);
    }

-- digits read on from n
unfoldable pub found_on : ℕ → ℕ → List ℕ → ℕ → ℕ → Found
found_on max stop s at n =
    record {
      field = bounded max (not_negative (read_on n (field_at s at stop)));
      next = at + length (field_at s at stop);
    }

-- a run of digits as a decimal: no number where there are none, or a zero stands before others
abbrev pub tested : List ℕ → ℕ → Found → Found
tested s at r =
    if_true leb r.next at || (eqb (get_or s at 0) zero_digit && ltb 1 (r.next - at)) then record { field = Bad; next = r.next } else r

-- a number out of the bound, if all bytes after it are digits
abbrev pub out_or_bad : Bool → Field
out_or_bad true = Out
out_or_bad false = Bad

abbrev pub not_digit : ℕ → Bool
not_digit b = not (is_digit b)

-- the rest of a field whose number is out of the bound already
unfoldable pub skipped : ℕ → List ℕ → ℕ → Found
skipped stop s at =
    record {
      field = out_or_bad (not (any not_digit (field_at s at stop)));
      next = at + length (field_at s at stop);
    }

abbrev pub starts_minus : List ℕ → Bool
starts_minus [] = false
starts_minus (b ∷ s) = eqb b minus_sign

-- what digits are after a minus
abbrev pub negated : Field → Field
negated (Plus zero) = Bad
negated (Plus (suc n)) = Minus (suc n)
negated (Minus n) = Bad
negated Out = Out
negated Bad = Bad
