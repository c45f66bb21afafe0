-- `classes::identities::first` meets its contract; the invariant: the first place from i on is the first from `from` on. Assumes nothing.
use mathlib.Core.Path.{refl, ◌∙◌}
use native.Mathlib.Omega.{arith}
use Rattle.classes.specs.Identities.{identity_room}
use Rattle.classes.proofs.Places.{search_over, seen_before, none_before}
use Rattle.classes.proofs.IdentitySteps.{place_here, place_on}
use Rattle.classes.proofs.identities.first.Goals as goal

pub loop-i-init : goal.loop-i-init
loop-i-init c = (omega arith, refl)

pub overflow_mul-at : goal.overflow_mul-at
overflow_mul-at c = unfold identity_room in omega arith

pub overflow_add-at : goal.overflow_add-at
overflow_add-at c = unfold identity_room in omega arith

pub offset_bounds-table-i : goal.offset_bounds-table-i
offset_bounds-table-i c = unfold identity_room in omega arith

pub bounds-table-i : goal.bounds-table-i
bounds-table-i c = unfold identity_room in omega arith

pub returns-then-at-x : goal.returns-then-at-x
returns-then-at-x c = seen_before _ _ _ c.loop-i-test.true (place_here c.args.table.now c.args.x _ _ c.loop-i-test.true c.if-at-x.true ∙ c.loop-i.invariant.1)

pub loop-i-preserved : goal.loop-i-preserved
loop-i-preserved c = (omega arith, place_on c.args.table.now c.args.x _ _ c.loop-i-test.true c.if-at-x.false ∙ c.loop-i.invariant.1)

pub returns : goal.returns
returns c = none_before _ _ _ c.loop-i-test.false (search_over _ _ _ c.loop-i-test.false ∙ c.loop-i.invariant.1)
