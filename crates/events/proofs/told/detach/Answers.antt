-- `events::told::detach` meets its contract. Assumes nothing.
use mathlib.Core.Path.{ap, ◌∙◌}
use Rattle.rows.specs.Table.{Table}
use Rattle.tables.specs.Lent.{tables_of, with_pins}
use Rattle.tables.proofs.Lending.{pins_led}
use Rattle.sight.specs.Sights.{detach_sight}
use Rattle.events.proofs.told.detach.Goals as goal

pub returns : goal.returns
returns c = λ led. c.detach.ensures (pins_led led c.pins.ensures) _ _
    ∙ ap (λ (P : Table). detach_sight (with_pins (tables_of c.args.lent.now) P) c.args.t) c.pins.ensures.0
