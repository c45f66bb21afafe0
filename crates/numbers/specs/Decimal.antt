-- Decimal numbers as bytes: what is written of a number, and what a field of bytes says. Nothing here knows a width. Assumes nothing.
use Rattle.std.specs.Prelude.{ℕ, zero, suc, ◌+◌, ◌-◌, ◌*◌, ◌/◌, ◌%◌, Bool, true, false, List, [], ◌∷◌, ◌++◌, ltb, eqb, ℤ, pos, negsuc, Option, None, Some}
use Prim.Native.Char.{code}
use Rattle.words.specs.Choice.{if_true◌then◌else◌, within}

abbrev pub zero_digit : ℕ
zero_digit = code "0"

abbrev pub minus_sign : ℕ
minus_sign = code "-"

-- ---- writing

-- the digits of n, in at most `suc steps` of them
unfoldable pub digits_in : ℕ → ℕ → List ℕ
digits_in zero n = (zero_digit + n) ∷ []
digits_in (suc steps) n =
    elim (ltb n 10) [ true ↦ (zero_digit + n) ∷ [] | false ↦ digits_in steps (n / 10) ++ ((zero_digit + n % 10) ∷ []) ]

-- the decimal digits of n, with no leading zero
unfoldable pub digits : ℕ → List ℕ
digits n = digits_in n n

abbrev pub shown : ℤ → List ℕ
shown (pos n) = digits n
shown (negsuc n) = minus_sign ∷ digits (suc n)

-- ---- reading: `none` is no number

abbrev pub is_digit : ℕ → Bool
is_digit b = within zero_digit (code "9") b

-- digits read on from n
unfoldable pub read_on : ℕ → List ℕ → Option ℕ
read_on n [] = Some n
read_on n (b ∷ s) = if_true is_digit b then read_on (n * 10 + (b - zero_digit)) s else None

abbrev pub nothing_more : List ℕ → Option ℕ
nothing_more [] = Some 0
nothing_more (b ∷ s) = None

-- a decimal without sign or leading zeros
abbrev pub decimal : List ℕ → Option ℕ
decimal [] = None
decimal (b ∷ s) = if_true eqb b zero_digit then nothing_more s else read_on 0 (b ∷ s)

abbrev pub not_negative : Option ℕ → Option ℤ
not_negative None = None
not_negative (Some n) = Some (pos n)

-- `-0` is not a number
abbrev pub negative : Option ℕ → Option ℤ
negative None = None
negative (Some zero) = None
negative (Some (suc n)) = Some (negsuc n)

-- a field: a decimal, or one after a minus
abbrev pub number : List ℕ → Option ℤ
number [] = None
number (b ∷ s) = if_true eqb b minus_sign then negative (decimal s) else not_negative (decimal (b ∷ s))
