-- A whole run: the report of an input, down to its bytes. Assumes nothing.
use Rattle.std.specs.Prelude.{ℕ, Bool, not, List, [], ◌∷◌, ◌++◌, eqb, length}
use Rattle.words.specs.Choice.{if_true◌then◌else◌}
use Rattle.words.specs.Lists.{joined}
use Rattle.words.specs.Text.{bytes, tab, line_feed}
use Rattle.numbers.specs.Decimal.{digits}
use Rattle.lines.specs.Line.{Line}
use Rattle.lines.specs.Reading.{Read, says, refused, onto_first}
use Rattle.history.specs.Past.{History, closed}
use Rattle.history.specs.Acceptance.{Room}
use Rattle.history.specs.Findings.{findings}
use Rattle.history.specs.Replies.{verdict}
use Rattle.history.specs.declared.Finding.{Finding}

-- ---- the program stops at the first refusal

-- the accepted lines, and the refusal or 0
pub record Run : Type 0 where
  pub accepted : History
  pub refusal : ℕ

abbrev pub ended : History → ℕ → Run
ended past k = record { accepted = past; refusal = k }

abbrev pub go_on : History → Read → (Line → Run) → Run
go_on past (refused k) rest = ended past k
go_on past (says e) rest = rest e

unfoldable pub run : Room → History → List (List ℕ) → Run
run room past [] = ended past 0
run room past (bs ∷ lines) =
    let rest : Line → Run = λ e. run room (e ∷ past) lines in
    go_on past (verdict room past bs) rest

-- ---- input is cut after each LF; what is left at the end is a line too, without its LF

unfoldable pub lines_of : List ℕ → List (List ℕ)
lines_of [] = []
lines_of (b ∷ bs) = if_true eqb b line_feed then (b ∷ []) ∷ lines_of bs else onto_first b (lines_of bs)

-- ---- what is printed, fields parted by tabs

abbrev pub field_then : ℕ → List ℕ → List ℕ
field_then n rest = digits n ++ (tab ∷ rest)

abbrev pub last_field : ℕ → List ℕ
last_field n = digits n ++ (line_feed ∷ [])

abbrev pub shown_finding : Finding → List ℕ
shown_finding f = field_then f.line (field_then f.rule (field_then f.place (last_field f.thing)))

-- `refused` whenever a line was refused, after Z too
abbrev pub word_for : ℕ → Bool → List ℕ
word_for refusal closed = if_true not (eqb refusal 0) then bytes "refused" else if_true closed then bytes "closed" else bytes "open"

-- `end`, `closed`/`open`/`refused`, accepted lines, refusal or 0, findings printed
abbrev pub end_line : Bool → ℕ → ℕ → ℕ → List ℕ
end_line closed lines refusal printed =
    bytes "end" ++ (tab ∷ (word_for refusal closed ++ (tab ∷ field_then lines (field_then refusal (last_field printed)))))

abbrev pub end_word : Run → List ℕ
end_word r = word_for r.refusal (closed r.accepted)

unfoldable pub shown_end : Run → List ℕ
shown_end r = end_line (closed r.accepted) (length r.accepted) r.refusal (length (findings r.accepted))

unfoldable pub shown : Run → List ℕ
shown r = joined (findings r.accepted) shown_finding ++ shown_end r

unfoldable pub report : Room → List ℕ → List ℕ
report room input = shown (run room [] (lines_of input))
