-- The pieces of the unread bytes, which are handed to the step one after another. Assumes nothing.
use Rattle.std.specs.Prelude.{ℕ, zero, suc, ◌≡◌, Bool, true, false, List, [], ◌∷◌, eqb, ltb, length, take, drop}
use Rattle.words.specs.Choice.{if_true◌then◌else◌}
use Rattle.words.specs.Lists.{place_of}
use Rattle.words.specs.Text.{line_feed}
use Rattle.lines.specs.Line.{longest}
use Rattle.pieces.specs.declared.Next.{Next}

abbrev pub ends_line : ℕ → Bool
ends_line b = eqb b line_feed

-- how many bytes stand before the first LF, where at most 224 are counted
unfoldable pub before_lf : List ℕ → ℕ
before_lf s = place_of ends_line (take longest s)

-- these and the byte after them: a line with its LF, or 225 bytes that no LF ends; 0: none before more are read
unfoldable pub piece_length : List ℕ → ℕ
piece_length s = if_true ltb (before_lf s) (length s) then suc (before_lf s) else 0

-- what comes next of m bytes, of which the piece has n, where the input has ended behind them or not: at the end all that is left is a line without its LF
abbrev pub next_by : Bool → ℕ → ℕ → Next
next_by ended (suc n) m = Next.Line (suc n)
next_by false zero m = Next.More
next_by true zero zero = Next.End
next_by true zero (suc m) = Next.Line (suc m)

unfoldable pub next_of : Bool → List ℕ → Next
next_of ended s = next_by ended (piece_length s) (length s)

-- what may stand behind these bytes: nothing where the input has ended
abbrev pub Behind : Bool → List ℕ → Type 0
Behind ended next = ended ≡ true → next ≡ []

-- ---- all pieces

abbrev pub cut_by : Next → List ℕ → (List ℕ → List (List ℕ)) → List (List ℕ)
cut_by (Next.Line n) s rest = take n s ∷ rest (drop n s)
cut_by Next.More s rest = []
cut_by Next.End s rest = []

-- at most k of them
unfoldable pub pieces_for : ℕ → Bool → List ℕ → List (List ℕ)
pieces_for zero ended s = []
pieces_for (suc k) ended s = cut_by (next_of ended s) s (λ rest. pieces_for k ended rest)

-- each has a byte at least, so there are no more than bytes
unfoldable pub pieces_of : Bool → List ℕ → List (List ℕ)
pieces_of ended s = pieces_for (length s) ended s
