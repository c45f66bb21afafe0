-- `guide::pins::note` meets its contract. Assumes nothing.
use mathlib.Core.Path.{refl, sym, ◌∙◌}
use Rattle.rows.specs.Pins.{pins}
use Rattle.guide.proofs.RowSteps.{row_low}
use Rattle.guide.proofs.PinSteps.{noted_row, noted_none}
use Rattle.guide.proofs.pins.note.Goals as goal

pub list-requires : goal.list-requires
list-requires c = row_low pins _ _ _ (sym c.slot.ensures ∙ c.in-Some.is)

pub returns-in-Some : goal.returns-in-Some
returns-in-Some c = noted_row _ _ _ _ _ _ _ _ _ (sym c.slot.ensures ∙ c.in-Some.is) refl refl c.list.ensures c.cell_of.ensures.0 c.more.ensures

pub returns-in_default : goal.returns-in_default
returns-in_default c = noted_none _ _ _ (sym c.slot.ensures ∙ c.in_default.is)
