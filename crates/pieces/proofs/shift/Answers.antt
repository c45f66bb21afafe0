-- `pieces::shift` meets its contract. Assumes nothing.
use mathlib.Core.Path.{◌∙◌}
use mathlib.Core.Logic.{inl, inr}
use Rattle.pieces.proofs.Shifts.{shifted_past, shifted_back, shifted_in}
use Rattle.pieces.proofs.shift.Goals as goal

pub returns-then-from-to : goal.returns-then-from-to
returns-then-from-to c = let a = c.args in c.copy_within.ensures.after ∙ shifted_in a.d.now a.from a.to c.if-to-d.true c.if-from-to.true

pub returns-else-to-d : goal.returns-else-to-d
returns-else-to-d c = let a = c.args in elim c.else-to-d.either [ inl w ↦ shifted_back a.d.now a.from a.to w.1 | inr w ↦ shifted_past a.d.now a.from a.to w ]
