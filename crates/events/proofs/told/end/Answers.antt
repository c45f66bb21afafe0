-- `events::told::end` meets its contract. Assumes nothing.
use mathlib.Core.Path.{ap₂, ◌∙◌}
use Rattle.rows.specs.Table.{Table}
use Rattle.tables.specs.Looked.{with_all}
use Rattle.sight.specs.Sights.{end_sight}
use Rattle.events.proofs.told.end.Goals as goal

pub returns : goal.returns
returns c = c.end.ensures _
    ∙ ap₂ (λ (R P : Table). end_sight (with_all R P c.args.lent.now.book.now c.args.lent.now.classes.now)) c.references.ensures.0 c.pins.ensures.0
