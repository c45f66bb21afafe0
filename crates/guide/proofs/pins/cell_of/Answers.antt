-- `guide::pins::cell_of` meets its contract. Assumes nothing.
use borrow.Author.Rules.{rules}
use Rattle.guide.proofs.PinSteps.{cell_own, cell_other}
use Rattle.guide.proofs.pins.cell_of.Goals as goal

pub returns-then-t-le16 : goal.returns-then-t-le16
returns-then-t-le16 c = (cell_own _ c.if-t-le16.true, search rules)

pub returns-else-t-le16 : goal.returns-else-t-le16
returns-else-t-le16 c = (cell_other _ c.if-t-le16.false, search rules)
