-- `tables::kept::take_row` meets its contract. Assumes nothing.
use Rattle.rows.specs.References.{references}
use Rattle.rows.proofs.TableLaws.{take_left}
use Rattle.tables.proofs.Keeping.{lowest_led, unguided_leads}
use Rattle.tables.proofs.kept.take_row.Goals as goal

pub returns-then-not-is_empty-clause-left : goal.returns-then-not-is_empty-clause-left
returns-then-not-is_empty-clause-left c = λ leads. take_left references _ _ _ _ (lowest_led _ _ _ leads c.lowest_free-r.ensures) c.store_row.ensures.left

pub returns-then-not-is_empty-clause-led : goal.returns-then-not-is_empty-clause-led
returns-then-not-is_empty-clause-led c = λ leads. c.store_row.ensures.led leads (λ l. lowest_led _ _ _ leads c.lowest_free-r.ensures)

pub returns-else-not-is_empty-clause-left : goal.returns-else-not-is_empty-clause-left
returns-else-not-is_empty-clause-left c = λ leads. c.take.ensures.left

pub returns-else-not-is_empty-clause-led : goal.returns-else-not-is_empty-clause-led
returns-else-not-is_empty-clause-led c = λ leads. unguided_leads _ _ _ _ leads c.is_empty.ensures c.if-not-is_empty.false
