-- Bytes put into a byte list at a place: what the writer answers and leaves. Assumes nothing.
use Rattle.std.specs.Prelude.{ℕ, ◌+◌, ◌≡◌, Bool, List, ◌++◌, leb, length, take, drop, Option, None, Some}
use Rattle.words.specs.Choice.{if_true◌then◌else◌}

-- d with the bytes at a place
abbrev pub put : List ℕ → ℕ → List ℕ → List ℕ
put d at bytes = take at d ++ (bytes ++ drop (at + length bytes) d)

abbrev pub has_room : List ℕ → ℕ → List ℕ → Bool
has_room d at bytes = leb (at + length bytes) (length d)

-- the reply `r`, the place past the bytes or none, and what is left, `d'`, of d: the bytes at the place, or nothing written where there is no room
pub record Puts (d : List ℕ) (at : ℕ) (bytes : List ℕ) (r : Option ℕ) (d' : List ℕ) : Type 0 where
  pub reply : r ≡ (if_true has_room d at bytes then Some (at + length bytes) else None)
  pub left : d' ≡ (if_true has_room d at bytes then put d at bytes else d)
