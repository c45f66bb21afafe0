-- What a line is answered and what it leaves; of a line's event all but the open items. Assumes nothing.
use Rattle.std.specs.Prelude.{ℕ, Option}
use Rattle.lines.specs.Line.{Line}
use Rattle.history.specs.Items.{Item, asked}
use Rattle.history.specs.Replies.{Reply, accepted, not_accepted}
use Rattle.answers.specs.Answer.{Answer, refused_with, answer_of, answered}
use Rattle.tables.specs.Tables.{Tables}
use Rattle.tables.specs.Weighing.{weighed_in}
use Rattle.tables.specs.Acting.{acted}
use Rattle.tables.specs.Stepping.{Stepped}

-- an answer, and the tables that are left with it
pub record Outcome : Type 0 where
  pub answer : Answer
  pub left : Tables

abbrev pub leaves : Answer → Tables → Outcome
leaves a T = record { answer = a; left = T }

abbrev pub outcome : Stepped → Outcome
outcome s = leaves (answered s.reply) s.left

-- a refusal leaves all untouched; line number `line`, `n` was asked of the open call on top
abbrev pub outcome_of : Reply → ℕ → Line → ℕ → Tables → Outcome
outcome_of (not_accepted k) line e n T = leaves (refused_with k) T
outcome_of (accepted fs) line e n T = leaves (answer_of fs) (acted line e n T)

-- line number `line`; `top` is on top of its thread's `many` open items
unfoldable pub line_outcome : ℕ → Line → Option Item → ℕ → Tables → Outcome
line_outcome line e top many T = outcome_of (weighed_in line e top many T) line e (asked top) T
