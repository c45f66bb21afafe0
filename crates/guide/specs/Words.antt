-- A word of a guide: three names below 65,536, and above them whether it is full. Assumes nothing.
use Rattle.std.specs.Prelude.{Bool, ◌||◌, ℕ, ◌+◌, ◌*◌, ◌/◌, ◌%◌, eqb, leb}

abbrev pub lane : ℕ
lane = 65536

abbrev pub full_word : ℕ
full_word = 281474976710656

abbrev pub name_a : ℕ → ℕ
name_a w = w % 65536

abbrev pub name_b : ℕ → ℕ
name_b w = w / 65536 % 65536

abbrev pub name_c : ℕ → ℕ
name_c w = w / 4294967296 % 65536

abbrev pub above : ℕ → ℕ
above w = w / 281474976710656

unfoldable pub word_of : ℕ → ℕ → ℕ → ℕ → ℕ
word_of a b c top = a + b * 65536 + c * 4294967296 + top * 281474976710656

-- a row may stand where this word names none
unfoldable pub is_full : ℕ → Bool
is_full w = leb full_word w

-- row r is one of the three
unfoldable pub named : ℕ → ℕ → Bool
named w r = (eqb (name_a w) r || eqb (name_b w) r) || eqb (name_c w) r
