-- `tables::kept::end_if` meets its contract. Assumes nothing.
use mathlib.Core.Path.{sym, ◌∙◌}
use Rattle.rows.specs.References.{references, from_frame}
use Rattle.tables.proofs.Keeping.{row_ended}
use Rattle.tables.proofs.Ending.{such_ended, other_stays, none_stays}
use Rattle.tables.proofs.kept.end_if.Goals as goal

pub returns-then-f-x-clause-left : goal.returns-then-f-x-clause-left
returns-then-f-x-clause-left c = such_ended references (from_frame _ _) _ _ _ _ c.requires (sym c.slot.ensures ∙ c.in-Some.is) c.if-f-x.true c.end_row.ensures.left

pub returns-then-f-x-clause-guided : goal.returns-then-f-x-clause-guided
returns-then-f-x-clause-guided c = λ guides. row_ended _ _ _ _ _ guides c.end_row.ensures.guide c.end_row.ensures.left

pub returns-else-f-x-clause-left : goal.returns-else-f-x-clause-left
returns-else-f-x-clause-left c = other_stays references (from_frame _ _) _ _ _ c.requires (sym c.slot.ensures ∙ c.in-Some.is) c.if-f-x.false

pub returns-in_default-clause-left : goal.returns-in_default-clause-left
returns-in_default-clause-left c = none_stays references (from_frame _ _) _ _ c.requires (sym c.slot.ensures ∙ c.in_default.is)
