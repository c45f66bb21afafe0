-- `events::told::enter` meets its contract. Assumes nothing.
use mathlib.Core.Path.{ap, ◌∙◌}
use Rattle.rows.specs.Table.{Table}
use Rattle.tables.specs.Lent.{tables_of, with_references}
use Rattle.tables.proofs.Lending.{rows_led}
use Rattle.sight.specs.Sights.{enter_sight}
use Rattle.events.proofs.told.enter.Goals as goal

pub returns : goal.returns
returns c = λ led. c.enter.ensures (rows_led led c.references.ensures) _ _
    ∙ ap (λ (R : Table). enter_sight (with_references (tables_of c.args.lent.now) R) c.args.t c.args.env c.args.hs.now) c.references.ensures.0
