-- `leaks::found::collect` meets its contract; the invariant: what is found at the places before i is there. Assumes nothing.
use mathlib.Core.Path.{refl}
use native.Mathlib.Omega.{arith}
use Rattle.leaks.proofs.FoundLaws.{room_next, collect_first, collect_next, collect_last}
use Rattle.leaks.proofs.found.collect.Goals as goal

pub loop-i-init : goal.loop-i-init
loop-i-init c = (refl, collect_first _ _ _ _ _)

pub add-n-requires : goal.add-n-requires
add-n-requires c = room_next _ _ _ c.loop-i.i c.args.count c.args.at _ _ _ c.found_at.ensures c.loop-i.invariant.1.many (omega arith) (omega arith)

pub loop-i-preserved : goal.loop-i-preserved
loop-i-preserved c = (omega arith, collect_next _ _ _ _ _ c.loop-i.invariant.1 c.found_at.ensures c.add-n.ensures)

pub returns : goal.returns
returns c = collect_last _ _ _ _ _ (omega arith) (omega arith) c.loop-i.invariant.1
