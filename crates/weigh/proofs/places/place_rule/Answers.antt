-- `weigh::places::place_rule` meets its contract. Assumes nothing.
use Rattle.weigh.proofs.PlaceLaws.{at_place, at_local, at_global, at_weak, at_unused}
use Rattle.weigh.proofs.places.place_rule.Goals as goal

pub returns-in-Handle : goal.returns-in-Handle
returns-in-Handle c = at_place _ _ _ _ _ _ c.in-Handle.is c.must_handle_rule.ensures

pub returns-in-HandleOrNull : goal.returns-in-HandleOrNull
returns-in-HandleOrNull c = at_place _ _ _ _ _ _ c.in-HandleOrNull.is c.handle_or_null_rule.ensures

pub returns-in-LocalOrNull : goal.returns-in-LocalOrNull
returns-in-LocalOrNull c = at_local _ _ _ _ _ c.in-LocalOrNull.is c.kind_rule.ensures

pub returns-in-GlobalOrNull : goal.returns-in-GlobalOrNull
returns-in-GlobalOrNull c = at_global _ _ _ _ _ c.in-GlobalOrNull.is c.kind_rule-in-GlobalOrNull.ensures

pub returns-in-WeakOrNull : goal.returns-in-WeakOrNull
returns-in-WeakOrNull c = at_weak _ _ _ _ _ c.in-WeakOrNull.is c.kind_rule-in-WeakOrNull.ensures

pub returns-in-Identity : goal.returns-in-Identity
returns-in-Identity c = at_place _ _ _ _ _ _ c.in-Identity.is c.identity_rule.ensures

pub returns-in-Buffer : goal.returns-in-Buffer
returns-in-Buffer c = at_place _ _ _ _ _ _ c.in-Buffer.is (c.buffer_rule.ensures _)

pub returns-in-Unused : goal.returns-in-Unused
returns-in-Unused c = at_unused _ _ _ _ c.in-Unused.is
