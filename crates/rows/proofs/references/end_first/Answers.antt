-- `rows::references::end_first` meets its contract; the invariant: the rows before i that pass are ended. Assumes nothing.
use mathlib.Core.Path.{refl}
use native.Mathlib.Omega.{arith}
use Rattle.rows.specs.Table.{room}
use Rattle.rows.proofs.TableLaws.{ended_end, ended_first, ended_next}
use Rattle.rows.proofs.references.end_first.Goals as goal

pub loop-i-init : goal.loop-i-init
loop-i-init c = (omega arith, refl, refl, search ended_first)

pub overflow_mul-w : goal.overflow_mul-w
overflow_mul-w c = unfold room in omega arith

pub overflow_add-w : goal.overflow_add-w
overflow_add-w c = unfold room in omega arith

pub end_if-requires : goal.end_if-requires
end_if-requires c = unfold room in omega arith

pub loop-i-preserved : goal.loop-i-preserved
loop-i-preserved c = (omega arith, omega arith, omega arith, search ended_next)

pub returns : goal.returns
returns c = search ended_end
