-- The findings of a line as they are printed, and a leak; the parts that the code prints one by one, and what it leaves of each. Assumes nothing.
use Rattle.std.specs.Prelude.{ℕ, ◌+◌, ◌≤◌, ◌≡◌, Bool, List, [], ◌∷◌, ◌++◌, length, take, Ok, Err}
use Rattle.words.specs.Lists.{joined}
use Rattle.words.specs.Text.{bytes, tab, line_feed}
use Rattle.numbers.specs.Decimal.{digits}
use Rattle.numbers.specs.Writing.{put}
use Rattle.history.specs.Report.{shown_finding, word_for}
use Rattle.history.specs.Leaks.{Leak}
use Rattle.answers.specs.declared.Findings.{Findings}
use Rattle.answers.specs.Answer.{Answer}

-- at most six findings of four fields, of twenty digits and the byte after them at most
abbrev pub most_shown : ℕ
most_shown = 504

unfoldable pub shown_findings : Findings → List ℕ
shown_findings a = joined (take a.count a.found) shown_finding

-- a refusal has none
abbrev pub shown_answer : Answer → List ℕ
shown_answer (Ok f) = shown_findings f
shown_answer (Err k) = []

-- `leak`, and four fields
abbrev pub longest_leak : ℕ
longest_leak = 89

abbrev pub leak : ℕ → ℕ → ℕ → ℕ → Leak
leak rule thread value line = record { rule = rule; thread = thread; value = value; line = line }

-- ---- on the way there

-- a number and the byte after it
abbrev pub field_with : ℕ → ℕ → List ℕ
field_with n after = digits n ++ (after ∷ [])

-- the last fields of a line
abbrev pub two_fields : ℕ → ℕ → List ℕ
two_fields b c = field_with b tab ++ field_with c line_feed

abbrev pub three_fields : ℕ → ℕ → ℕ → List ℕ
three_fields a b c = field_with a tab ++ two_fields b c

-- what stands before the numbers of the last line
abbrev pub end_head : Bool → ℕ → List ℕ
end_head closed refusal = bytes "end" ++ (tab ∷ (word_for refusal closed ++ (tab ∷ [])))

-- what stands before the numbers of a leak
abbrev pub leak_head : List ℕ
leak_head = bytes "leak" ++ (tab ∷ [])

-- the place `r` past the bytes and what is left, `d'`, of d, where there is room
pub record Fills (d : List ℕ) (at : ℕ) (bs : List ℕ) (r : ℕ) (d' : List ℕ) : Type 0 where
  pub fits : at + length bs ≤ length d
  pub past : r ≡ at + length bs
  pub left : d' ≡ put d at bs
