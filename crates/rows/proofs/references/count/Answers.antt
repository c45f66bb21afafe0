-- `rows::references::count` meets its contract; the invariant: the sum is that of the words before w. Assumes nothing.
use Rattle.std.proofs.Common.{rules}
use Rattle.rows.specs.References.{in_frame}
use native.Mathlib.Omega.{arith}
use Rattle.rows.specs.Table.{counted, room}
use Rattle.rows.proofs.MarkLaws.{count_last, count_word}
use Rattle.rows.proofs.ScanLaws.{how_many_first}
use Rattle.rows.proofs.references.count.Goals as goal

pub loop-w-init : goal.loop-w-init
loop-w-init c = (omega arith, omega arith, search how_many_first)

pub overflow_add-sum : goal.overflow_add-sum
overflow_add-sum c = unfold room in omega arith

pub loop-w-preserved : goal.loop-w-preserved
loop-w-preserved c = (omega arith, omega arith, search count_word)

pub returns : goal.returns
returns c = unfold counted in count_last _ _ _ _ _ _ c.loop-w.invariant.2 (omega arith) (omega arith) c.room-n.ensures (c.count_first.ensures.1 (in_frame c.args.t c.args.f) (λ x b e. search rules))
