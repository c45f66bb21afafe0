-- `act::detach::write_book` meets its contract. Assumes nothing.
use Rattle.act.proofs.Whole.{book_detached}
use Rattle.act.proofs.detach.write_book.Goals as goal

pub returns : goal.returns
returns c = book_detached _ _ _ _ _ c.end_frames.ensures c.drop_monitors.ensures c.count_line.ensures
