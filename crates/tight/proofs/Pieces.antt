-- That the promises of the pieces of an input are tight. Assumes nothing.
use Rattle.pieces.proofs as pieces
use Rattle.pieces.specs.contracts as of_pieces
use Rattle.tight.specs.Tight.{Tight}
use Rattle.tight.proofs.Shapes.{by_reply, by_slice}

pub next_line_tight : Tight of_pieces.next_line.ended pieces.next_line.Reads.Asked pieces.next_line.Reads.Learnt
next_line_tight κs args = (tt, by_reply)

pub shift_tight : Tight of_pieces.shift.ended pieces.shift.Reads.Asked pieces.shift.Reads.Learnt
shift_tight κs args = (tt, by_slice)
