-- `act::call::call` meets its contract. Assumes nothing.
use Rattle.act.proofs.Calling.{tables_called}
use Rattle.act.proofs.call.call.Goals as goal

pub returns-clause-left : goal.returns-clause-left
returns-clause-left c = λ led. tables_called _ _ _ _ _ _ _ _ _ _ _ c.delete.ensures.left (c.end_top.ensures.left (c.delete.ensures.led led)) c.release.ensures.left c.write_book.ensures
