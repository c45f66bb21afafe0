-- `tables::kept::end_first` meets its contract; the invariant: the rows before i that pass are ended. Assumes nothing.
use borrow.Author.Rules.{rules}
use mathlib.Core.Path.{refl}
use native.Mathlib.Omega.{arith}
use Rattle.rows.specs.Table.{room}
use Rattle.tables.proofs.Shown.{own_first, own_next}
use Rattle.tables.proofs.kept.end_first.Goals as goal

pub next_own-i-requires : goal.next_own-i-requires
next_own-i-requires c = (unfold room in omega arith, omega arith, search rules)

pub loop-i-init : goal.loop-i-init
loop-i-init c = (c.next_own-i.ensures.1, refl, refl, refl, λ own. own_first _ _ _ _ _ _ _ (omega arith) (omega arith) own c.next_own-i.ensures.2, λ guides. guides)

pub overflow_mul-w : goal.overflow_mul-w
overflow_mul-w c = unfold room in omega arith

pub overflow_add-w : goal.overflow_add-w
overflow_add-w c = unfold room in omega arith

pub end_if-requires : goal.end_if-requires
end_if-requires c = unfold room in omega arith

pub next_own-i-requires-in-loop-i : goal.next_own-i-requires-in-loop-i
next_own-i-requires-in-loop-i c = (unfold room in omega arith, omega arith, search rules)

pub loop-i-preserved : goal.loop-i-preserved
loop-i-preserved c = (c.next_own-i-in-loop-i.ensures.1, omega arith, omega arith, omega arith, λ own. own_next _ _ _ _ _ _ _ _ _ _ (omega arith) (omega arith) own (c.loop-i.invariant.4 own) c.end_if.ensures.left c.next_own-i-in-loop-i.ensures.0 c.next_own-i-in-loop-i.ensures.2, λ guides. c.end_if.ensures.guided (c.loop-i.invariant.5 guides))
