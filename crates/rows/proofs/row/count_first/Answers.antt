-- `rows::row::count_first` meets its contract; the invariant: the sum is that of the rows before i. Assumes nothing.
use native.Mathlib.Omega.{arith}
use Rattle.rows.specs.Table.{room}
use Rattle.rows.proofs.MarkLaws.{sum_next}
use Rattle.rows.proofs.ScanLaws.{how_many_first}
use Rattle.rows.proofs.TableLaws.{byte_most, byte_one}
use Rattle.rows.proofs.row.count_first.Goals as goal

pub loop-i-init : goal.loop-i-init
loop-i-init g c = (omega arith, omega arith, λ p e. search how_many_first)

pub overflow_mul-w : goal.overflow_mul-w
overflow_mul-w g c = unfold room in omega arith

pub overflow_add-w : goal.overflow_add-w
overflow_add-w g c = unfold room in omega arith

pub loop-i-preserved : goal.loop-i-preserved
loop-i-preserved g c = (omega arith, omega (arith, byte_most c.holds.result), λ p e. sum_next _ _ _ _ _ _ (c.loop-i.invariant.2 p e) (c.holds.ensures p e) (byte_one _))
