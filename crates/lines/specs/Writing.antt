-- The bytes of a line. Assumes nothing.
use Rattle.std.specs.Prelude.{ℕ, List, [], ◌∷◌, ◌++◌, ℤ}
use Rattle.words.specs.Text.{tab, line_feed}
use Rattle.numbers.specs.Decimal.{shown}
use Rattle.lines.specs.Line.{Line}
use Rattle.lines.specs.Forms.{letter_of, numbers_of}

-- each number after a tab
unfoldable pub tabbed : List ℤ → List ℕ
tabbed [] = []
tabbed (n ∷ ns) = tab ∷ (shown n ++ tabbed ns)

-- the letter, the numbers, the LF
abbrev pub lettered : ℕ → List ℤ → List ℕ
lettered letter ns = letter ∷ (tabbed ns ++ (line_feed ∷ []))

unfoldable pub written : Line → List ℕ
written e = lettered (letter_of e) (numbers_of e)
