-- `weigh::places::identity_rule` meets its contract. Assumes nothing.
use Rattle.weigh.proofs.PlaceLaws.{null_identity, handle_there, not_wanted, right_identity, final_written}
use mathlib.Core.Path.{ap}
use mathlib.Core.Bool.{not}
use Rattle.weigh.proofs.places.identity_rule.Goals as goal

pub returns-then-h-eq0 : goal.returns-then-h-eq0
returns-then-h-eq0 c = null_identity _ _ _ c.if-h-eq0.true

pub returns-then-h-ne-IDENTITY : goal.returns-then-h-ne-IDENTITY
returns-then-h-ne-IDENTITY c = handle_there _ _ _ c.if-h-eq0.false c.if-h-ne-IDENTITY.true

pub returns-then-not-there : goal.returns-then-not-there
returns-then-not-there c = not_wanted _ _ _ c.if-h-eq0.false c.if-h-ne-IDENTITY.false (ap not c.if-not-there.true)

pub returns-then-fits : goal.returns-then-fits
returns-then-fits c = right_identity _ _ _ c.if-h-eq0.false c.if-h-ne-IDENTITY.false (ap not c.if-not-there.false) c.if-fits.true

pub returns-else-fits : goal.returns-else-fits
returns-else-fits c = final_written _ _ _ c.if-h-eq0.false c.if-h-ne-IDENTITY.false (ap not c.if-not-there.false) c.if-fits.false
