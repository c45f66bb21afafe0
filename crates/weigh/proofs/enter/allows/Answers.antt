-- `weigh::enter::allows` meets its contract. Assumes nothing.
use mathlib.Core.Path.{ap}
use Rattle.lines.specs.Numbered.{passes}
use Rattle.weigh.proofs.EnterLaws.{enter_5, enter_6, enter_7, enter_0}
use mathlib.Core.Bool.{not}
use Rattle.weigh.proofs.enter.allows.Goals as goal

pub returns-then-not-env_fits : goal.returns-then-not-env_fits
returns-then-not-env_fits c = ap passes (enter_5 _ _ _ _ _ c.env_fits.ensures (ap not c.if-not-env_fits.true))

pub returns-then-seen-named_twice : goal.returns-then-seen-named_twice
returns-then-seen-named_twice c = ap passes (enter_6 _ _ _ _ _ c.env_fits.ensures _ c.named_twice.ensures (ap not c.if-not-env_fits.false) c.if-seen-named_twice.true)

pub returns-then-not-has_room : goal.returns-then-not-has_room
returns-then-not-has_room c = ap passes (enter_7 _ _ _ _ _ c.env_fits.ensures _ c.named_twice.ensures (ap not c.if-not-env_fits.false) _ c.if-seen-named_twice.false c.has_room.ensures (ap not c.if-not-has_room.true))

pub returns : goal.returns
returns c = ap passes (enter_0 _ _ _ _ _ c.env_fits.ensures _ c.named_twice.ensures (ap not c.if-not-env_fits.false) _ c.if-seen-named_twice.false c.has_room.ensures (ap not c.if-not-has_room.false))
