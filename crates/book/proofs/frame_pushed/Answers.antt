-- `book::frame_pushed` meets its contract. Assumes nothing.
use Rattle.book.proofs.Steps.{pushed_is}
use Rattle.book.proofs.frame_pushed.Goals as goal

pub returns : goal.returns
returns c = search pushed_is
