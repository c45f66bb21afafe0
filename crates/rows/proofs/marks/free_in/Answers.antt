-- `rows::marks::free_in` meets its contract. Assumes nothing.
use lib.Count.{trailing_le}
use native.Mathlib.Nat.{lt_of_le_of_lt}
use native.Mathlib.Omega.{arith}
use Rattle.rows.specs.Marks.{word}
use Rattle.rows.proofs.MarkLaws.{free_of_word}
use Rattle.rows.proofs.marks.free_in.Goals as goal

pub overflow_cast-result : goal.overflow_cast-result
overflow_cast-result c = record { fits = lt_of_le_of_lt (trailing_le word _) (omega arith) }

pub returns : goal.returns
returns c = free_of_word _ _ (omega (arith, c.type_inv.marks c.args.w))
