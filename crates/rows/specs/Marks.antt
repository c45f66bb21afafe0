-- Used rows are marked one bit each, sixty-four to a word. Assumes nothing.
use Rattle.std.specs.Prelude.{Bool, not, List, ℕ, ◌+◌, ◌-◌, ◌*◌, ◌/◌, ◌%◌, ◌^◌, get_or, set, eqb}
use Rattle.std.specs.Int.Bits.{bit_and, bit_or}

-- marks to a word
abbrev pub word : ℕ
word = 64

-- a test of rows, at row i of word w
unfoldable pub in_word : (ℕ → Bool) → ℕ → ℕ → Bool
in_word p w i = p (w * word + i)

-- bit i of a word is set
unfoldable pub bit : ℕ → ℕ → Bool
bit w i = eqb (w / 2 ^ i % 2) 1

-- row r is marked as used
unfoldable pub used : List ℕ → ℕ → Bool
used ms r = bit (get_or ms (r / word) 0) (r % word)

unfoldable pub free : List ℕ → ℕ → Bool
free ms r = not (used ms r)

-- row r's mark set, and cleared
unfoldable pub marked : List ℕ → ℕ → List ℕ
marked ms r = set ms (r / word) (bit_or (get_or ms (r / word) 0) (2 ^ (r % word)))

unfoldable pub unmarked : List ℕ → ℕ → List ℕ
unmarked ms r = set ms (r / word) (bit_and (get_or ms (r / word) 0) (2 ^ word - 1 - 2 ^ (r % word)))
