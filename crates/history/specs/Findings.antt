-- The findings: all the breaches, ordered by line, rule and place. Assumes nothing.
use Rattle.std.specs.Prelude.{ℕ, suc, List, [], ◌∷◌, ◌++◌, length, Option, None, Some}
use Rattle.words.specs.Lists.{joined}
use Rattle.lines.specs.Line.{Line}
use Rattle.history.specs.Past.{History}
use Rattle.history.specs.Seen.{Seen, seen}
use Rattle.history.specs.Breaches.{breach}
use Rattle.history.specs.declared.Finding.{Finding}

abbrev pub rules : List ℕ
rules = 1 ∷ 2 ∷ 3 ∷ 4 ∷ 5 ∷ 6 ∷ 7 ∷ 8 ∷ 9 ∷ 10 ∷ 11 ∷ []

abbrev pub places : List ℕ
places = 0 ∷ 1 ∷ 2 ∷ 3 ∷ []

abbrev pub found : ℕ → ℕ → ℕ → Option ℕ → List Finding
found line rule place None = []
found line rule place (Some thing) = record { line = line; rule = rule; place = place; thing = thing } ∷ []

-- of the line e, number `line`, which comes after what is seen
unfoldable pub of_line : ℕ → Line → Seen → List Finding
of_line line e v = joined rules λ rule. joined places λ place. found line rule place (breach e v rule place)

unfoldable pub findings : History → List Finding
findings [] = []
findings (e ∷ past) = findings past ++ of_line (suc (length past)) e (seen past)
