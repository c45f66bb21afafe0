-- What a line that was read is answered and what it leaves, its open items too. Assumes nothing.
use Rattle.std.specs.Prelude.{ℕ, List, Option}
use Rattle.lines.specs.Reading.{Read, says, refused}
use Rattle.lines.specs.declared.Event.{Event}
use Rattle.history.specs.Items.{Item}
use Rattle.answers.specs.Answer.{refused_with}
use Rattle.tables.specs.Tables.{Tables}
use Rattle.tables.specs.Stepping.{on_read}
use Rattle.events.specs.Event.{read_as}
use Rattle.events.specs.Outcome.{Outcome, leaves, line_outcome, outcome}

-- of what was read, all but the open items
abbrev pub read_outcome : ℕ → Read → Option Item → ℕ → Tables → Outcome
read_outcome line (refused k) top many T = leaves (refused_with k) T
read_outcome line (says e) top many T = line_outcome line e top many T

unfoldable pub event_outcome : ℕ → Event → List ℕ → Option Item → ℕ → Tables → Outcome
event_outcome line ev hs top many T = read_outcome line (read_as ev hs) top many T

-- of a line that was read, its open items moved where it is accepted
unfoldable pub said_outcome : Event → List ℕ → Tables → Outcome
said_outcome ev hs T = outcome (on_read (read_as ev hs) T)
