-- `events::told::returns` meets its contract. Assumes nothing.
use mathlib.Core.Path.{ap₂, ◌∙◌}
use Rattle.rows.specs.Table.{Table}
use Rattle.tables.specs.Looked.{with_all}
use Rattle.tables.proofs.Lending.{rows_led}
use Rattle.sight.specs.Returns.{return_sight}
use Rattle.events.proofs.told.returns.Goals as goal

pub returns : goal.returns
returns c = λ led. c.returns.ensures (rows_led led c.references.ensures) _
    ∙ ap₂ (λ (R P : Table). return_sight (with_all R P c.args.lent.now.book.now c.args.lent.now.classes.now) c.args.t c.args.f c.args.h) c.references.ensures.0 c.pins.ensures.0
