-- `weigh::places::handle_rule` meets its contract. Assumes nothing.
use Rattle.weigh.proofs.PlaceLaws.{identity_there, handle_fits, wrong_class, local_dead, shared_dead}
use Rattle.weigh.proofs.places.handle_rule.Goals as goal

pub returns-then-kind-eq-IDENTITY : goal.returns-then-kind-eq-IDENTITY
returns-then-kind-eq-IDENTITY c = identity_there _ _ _ c.if-kind-eq-IDENTITY.true

pub returns-then-fits : goal.returns-then-fits
returns-then-fits c = handle_fits _ _ _ c.if-kind-eq-IDENTITY.false c.if-there.true c.if-fits.true

pub returns-else-fits : goal.returns-else-fits
returns-else-fits c = wrong_class _ _ _ c.if-kind-eq-IDENTITY.false c.if-there.true c.if-fits.false

pub returns-then-kind-eq-LOCAL : goal.returns-then-kind-eq-LOCAL
returns-then-kind-eq-LOCAL c = local_dead _ _ _ c.if-kind-eq-IDENTITY.false c.if-there.false c.if-kind-eq-LOCAL.true

pub returns : goal.returns
returns c = shared_dead _ _ _ c.if-kind-eq-IDENTITY.false c.if-there.false c.if-kind-eq-LOCAL.false
