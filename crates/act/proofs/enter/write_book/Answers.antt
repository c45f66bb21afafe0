-- `act::enter::write_book` meets its contract. Assumes nothing.
use Rattle.act.proofs.Whole.{book_entered}
use Rattle.act.proofs.enter.write_book.Goals as goal

pub returns : goal.returns
returns c = book_entered _ _ _ _ _ _ _ _ c.push_frame.ensures c.keep_env.ensures c.set_pending.ensures c.count_line.ensures
