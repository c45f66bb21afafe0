-- `guide::references::cell_of` meets its contract. Assumes nothing.
use borrow.Author.Rules.{rules}
use Rattle.guide.proofs.ReferenceSteps.{cell_own, cell_low, cell_thread, cell_fits, cell_other}
use Rattle.guide.proofs.references.cell_of.Goals as goal

pub overflow_mul-result : goal.overflow_mul-result
overflow_mul-result c = record { fits = cell_thread c.args.t c.args.f c.if-t-f.true }

pub overflow_add-result : goal.overflow_add-result
overflow_add-result c = record { fits = cell_fits c.args.t c.args.f c.if-t-f.true }

pub returns-then-t-f : goal.returns-then-t-f
returns-then-t-f c = (cell_own _ _ c.if-t-f.true, cell_low _ _ c.if-t-f.true)

pub returns-else-t-f : goal.returns-else-t-f
returns-else-t-f c = (cell_other _ _ c.if-t-f.false, search rules)
