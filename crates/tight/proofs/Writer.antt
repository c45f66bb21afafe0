-- That the promises of the line writer are tight. Assumes nothing.
use Rattle.writer.proofs as writer
use Rattle.writer.specs.contracts as of_writer
use Rattle.tight.specs.Tight.{Tight}
use Rattle.tight.proofs.Shapes.{by_reply_and_slice}

pub write_line_tight : Tight of_writer.write_line.ended writer.write_line.Reads.Asked writer.write_line.Reads.Learnt
write_line_tight κs args = (tt, by_reply_and_slice)
