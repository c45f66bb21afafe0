-- `tables::kept::store_row` meets its contract. Assumes nothing.
use mathlib.Core.Path.{◌∙◌}
use Rattle.tables.proofs.Keeping.{store_led}
use Rattle.tables.proofs.kept.store_row.Goals as goal

pub returns-clause-led : goal.returns-clause-led
returns-clause-led c = λ leads lowest. store_led _ _ _ _ c.store.ensures _ _ _ leads lowest c.note.ensures c.raise.ensures (c.raise.auto.guide ∙ c.note.auto.guide)
