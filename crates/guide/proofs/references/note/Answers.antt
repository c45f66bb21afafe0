-- `guide::references::note` meets its contract. Assumes nothing.
use mathlib.Core.Path.{refl, sym, ◌∙◌}
use Rattle.rows.specs.References.{references}
use Rattle.guide.proofs.RowSteps.{row_low}
use Rattle.guide.proofs.ReferenceSteps.{noted_row, noted_none}
use Rattle.guide.proofs.references.note.Goals as goal

pub list-requires : goal.list-requires
list-requires c = row_low references _ _ _ (sym c.slot.ensures ∙ c.in-Some.is)

pub returns-in-Some : goal.returns-in-Some
returns-in-Some c = noted_row _ _ _ _ _ _ _ _ _ _ _ _ (sym c.slot.ensures ∙ c.in-Some.is) refl refl c.list.ensures c.cell_of-k.ensures.0 c.more.ensures c.set_bit.ensures c.set_bit-in-Some.ensures c.more-in-Some.ensures

pub returns-in_default : goal.returns-in_default
returns-in_default c = noted_none _ _ _ (sym c.slot.ensures ∙ c.in_default.is)
