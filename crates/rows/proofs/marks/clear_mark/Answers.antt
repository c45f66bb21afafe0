-- `rows::marks::clear_mark` meets its contract. Assumes nothing.
use Prim.Native.Nat.{◌%◌}
use native.Mathlib.Omega.{arith}
use Rattle.rows.specs.Marks.{unmarked}
use Rattle.rows.proofs.MarkLaws.{shl_one}
use Rattle.rows.proofs.marks.clear_mark.Goals as goal

pub returns : goal.returns
returns c = unfold unmarked in rw (shl_one (c.args.r % 64) (omega arith))
