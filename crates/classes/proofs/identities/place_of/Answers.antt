-- `classes::identities::place_of` meets its contract. Assumes nothing.
use Rattle.std.proofs.Common.{sym, ◌∙◌}
use Rattle.std.specs.Prelude.{None}
use Rattle.classes.proofs.IdentitySteps.{no_places, place_found, place_by}
use Rattle.classes.proofs.identities.place_of.Goals as goal

pub returns-then-many-eq0 : goal.returns-then-many-eq0
returns-then-many-eq0 c = no_places _ _ _ c.room-many.ensures c.if-many-eq0.true

pub returns-in-Some : goal.returns-in-Some
returns-in-Some c = place_found c.args.table.now c.args.x _ c.room-many.ensures c.if-many-eq0.false _ (sym c.in-Some.is ∙ c.first.ensures)

pub returns-in-None : goal.returns-in-None
returns-in-None c =
    c.unwrap_or.ensures ∙ place_by c.args.table.now c.args.x _ c.room-many.ensures c.if-many-eq0.false None _ (sym c.in-None.is ∙ c.first.ensures) c.first-in-None.ensures
