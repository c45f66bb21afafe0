-- `book::end_frames` meets its contract. Assumes nothing.
use Rattle.book.proofs.Steps.{no_frames}
use Rattle.book.proofs.end_frames.Goals as goal

pub returns : goal.returns
returns c = search no_frames
