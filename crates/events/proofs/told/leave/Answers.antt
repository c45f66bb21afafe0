-- `events::told::leave` meets its contract. Assumes nothing.
use mathlib.Core.Path.{ap₂, ◌∙◌}
use Rattle.rows.specs.Table.{Table}
use Rattle.tables.specs.Looked.{with_all}
use Rattle.tables.proofs.Lending.{rows_led, pins_led}
use Rattle.sight.specs.Sights.{leave_sight}
use Rattle.events.proofs.told.leave.Goals as goal

pub returns : goal.returns
returns c = λ led. c.leave.ensures (rows_led led c.references.ensures, pins_led led c.pins.ensures) _ _
    ∙ ap₂ (λ (R P : Table). leave_sight (with_all R P c.args.lent.now.book.now c.args.lent.now.classes.now) c.args.t c.args.res) c.references.ensures.0 c.pins.ensures.0
