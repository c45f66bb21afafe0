-- `guide::references::fill` meets its contract; the invariant: the rows before r are noted. Assumes nothing.
use mathlib.Core.Path.{refl}
use native.Mathlib.Omega.{arith}
use borrow.Author.Rules.{rules}
use Rattle.guide.proofs.ReferenceSteps.{filled_first, filled_more, filled_all}
use Rattle.guide.proofs.references.fill.Goals as goal

pub loop-r-init : goal.loop-r-init
loop-r-init c = (omega arith, refl, filled_first _ _)

pub loop-r-preserved : goal.loop-r-preserved
loop-r-preserved c = (omega arith, search rules, filled_more _ _ _ _ _ c.loop-r.invariant.2 c.note.ensures)

pub shape_of-guide : goal.shape_of-guide
shape_of-guide c = c.loop-r.invariant.1

pub returns : goal.returns
returns c = filled_all _ _ _ _ _ c.room-n.ensures c.loop-r.invariant.0 c.loop-r-test.false c.loop-r.invariant.2
