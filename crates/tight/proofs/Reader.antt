-- That the promises of the exported reader are tight. Assumes nothing.
use mathlib.Core.Path.{sym, ap₂, ◌∙◌}
use Rattle.reader.proofs as reader
use Rattle.reader.specs.contracts as of_reader
use Rattle.tight.specs.Tight.{given, Tight}
use Rattle.tight.proofs.Shapes.{by_two}

pub weir_read_tight : Tight of_reader.weir_read.ended reader.weir_read.Reads.Asked reader.weir_read.Reads.Learnt
weir_read_tight κs args = (tt, λ x y p q. ap₂ given (p.0 ∙ sym q.0) (by_two (λ numbers count. (tt, (numbers, (count, tt)))) p.1 q.1))
