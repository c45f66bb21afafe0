-- `act::enter::enter` meets its contract. Assumes nothing.
use Rattle.act.proofs.Whole.{entered}
use Rattle.act.proofs.enter.enter.Goals as goal

pub returns-clause-left : goal.returns-clause-left
returns-clause-left c = λ led n. entered _ _ _ _ n _ _ _ _ c.frames_of-d.ensures.0 (c.take_all.ensures.left led) c.write_book.ensures
