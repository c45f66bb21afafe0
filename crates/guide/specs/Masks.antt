-- Of each cell the places where its rows stand, a bit for each; more bits may be set. Assumes nothing.
use Rattle.std.specs.Prelude.{◌≡◌, true, List, ℕ, zero, suc, ◌+◌, ◌/◌, ◌%◌, ◌^◌, ◌<◌, get_or, set, Option, Some}
use Rattle.std.specs.Int.Bits.{bit_or}
use Rattle.rows.specs.Marks.{word, bit}

-- the word of marks of row r, and its mark there; of a great room a bit stands for several words of marks
abbrev pub word_bit : ℕ → ℕ
word_bit r = r / word % word

abbrev pub mark_bit : ℕ → ℕ
mark_bit r = r % word

-- bit i set at k
unfoldable pub with_bit : List ℕ → ℕ → ℕ → List ℕ
with_bit G k i = set G k (bit_or (get_or G k 0) (2 ^ i))

-- the bits of n words from k on, together, and none in them
unfoldable pub all_bits : List ℕ → ℕ → ℕ → ℕ
all_bits G k zero = 0
all_bits G k (suc n) = bit_or (all_bits G k n) (get_or G (k + n) 0)

unfoldable pub no_bits : List ℕ → ℕ → ℕ → List ℕ
no_bits G k zero = G
no_bits G k (suc n) = set (no_bits G k n) (k + n) 0

module _ {A : Type 0} (cell : A → ℕ) (bit_of : ℕ → ℕ) where
  -- one-sided: of the first n rows, each that is used has its bit set
  abbrev pub Shown : ℕ → (ℕ → Option A) → ℕ → List ℕ → Type 0
  Shown from S n G = (r : ℕ) (x : A) → r < n → S r ≡ Some x → bit (get_or G (from + cell x) 0) (bit_of r) ≡ true
