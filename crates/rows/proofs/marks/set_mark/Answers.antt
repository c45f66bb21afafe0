-- `rows::marks::set_mark` meets its contract. Assumes nothing.
use Prim.Native.Nat.{◌%◌}
use native.Mathlib.Omega.{arith}
use Rattle.rows.specs.Marks.{marked}
use Rattle.rows.proofs.MarkLaws.{shl_one}
use Rattle.rows.proofs.marks.set_mark.Goals as goal

pub returns : goal.returns
returns c = unfold marked in rw (shl_one (c.args.r % 64) (omega arith))
