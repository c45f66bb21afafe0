-- `leaks::fill` meets its contract. Assumes nothing.
use mathlib.Core.Path.{◌∙◌}
use Rattle.leaks.proofs.Lists.{pins_fit, references_fit, filled}
use Rattle.leaks.proofs.fill.Goals as goal

pub collect-at-requires : goal.collect-at-requires
collect-at-requires c = pins_fit _ _ _ _ c.room-outstanding.ensures c.requires

pub collect-requires : goal.collect-requires
collect-requires c = references_fit _ _ _ _ c.room-outstanding.ensures (c.collect-at.auto.leaks ∙ c.requires) _ c.room-alive.ensures _ c.collect-at.ensures.many

pub returns : goal.returns
returns c = filled _ _ _ _ _ _ _ c.room-outstanding.ensures c.room-alive.ensures (c.collect.auto.leaks ∙ c.collect-at.auto.leaks ∙ c.requires) (c.rule.auto.leaks ∙ c.sort.auto.leaks) c.collect-at.ensures c.collect.ensures c.sort.ensures c.rule.ensures
