-- `rows::marks::used_first` meets its contract. Assumes nothing.
use Prim.Native.Nat.{◌^◌}
use lib.Count.{ones-le}
use lib.Pow.{pow_pos}
use native.Mathlib.Nat.{lt_of_le_of_lt, mod-le}
use native.Mathlib.Omega.{arith}
use Rattle.rows.specs.Marks.{word}
use Rattle.rows.proofs.MarkLaws.{shl_one, used_of_part}
use Rattle.rows.proofs.marks.used_first.Goals as goal

pub nonzero_rem-result : goal.nonzero_rem-result
nonzero_rem-result c = rw (shl_one c.args.m (omega arith)) (pow_pos c.args.m)

pub overflow_cast-result : goal.overflow_cast-result
overflow_cast-result c = rw (shl_one c.args.m (omega arith)) (record { fits = lt_of_le_of_lt (ones-le word _ (lt_of_le_of_lt (mod-le _ (2 ^ c.args.m)) (omega (arith, c.type_inv.marks c.args.w)))) (omega arith) })

pub returns : goal.returns
returns c = (rw (shl_one c.args.m (omega arith)) (used_of_part _ _ c.args.m (omega arith)), rw (shl_one c.args.m (omega arith)) (ones-le word _ (lt_of_le_of_lt (mod-le _ (2 ^ c.args.m)) (omega (arith, c.type_inv.marks c.args.w)))))
