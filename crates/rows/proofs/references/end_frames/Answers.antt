-- `rows::references::end_frames` meets its contract; the invariant: the rows of the words before w that pass are ended. Assumes nothing.
use mathlib.Core.Path.{refl}
use native.Mathlib.Omega.{arith}
use Rattle.rows.specs.Table.{room}
use Rattle.rows.proofs.TableLaws.{ended_first, ended_last, ended_word}
use Rattle.rows.proofs.references.end_frames.Goals as goal

pub loop-w-init : goal.loop-w-init
loop-w-init c = (omega arith, refl, refl, search ended_first)

pub end_in-requires : goal.end_in-requires
end_in-requires c = unfold room in omega arith

pub loop-w-preserved : goal.loop-w-preserved
loop-w-preserved c = (omega arith, omega arith, omega arith, search ended_word)

pub end_first-requires : goal.end_first-requires
end_first-requires c = unfold room in omega arith

pub returns : goal.returns
returns c = search ended_last
