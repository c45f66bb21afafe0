-- `rows::row::find_first` meets its contract; the invariant: no row before i passes. Assumes nothing.
use native.Mathlib.Omega.{arith}
use Rattle.rows.specs.Table.{room}
use Rattle.rows.proofs.MarkLaws.{seek_hit, seek_next}
use Rattle.rows.proofs.ScanLaws.{lowest_first}
use Rattle.rows.proofs.row.find_first.Goals as goal

pub loop-i-init : goal.loop-i-init
loop-i-init g c = (omega arith, λ p e. search lowest_first)

pub overflow_mul-w : goal.overflow_mul-w
overflow_mul-w g c = unfold room in omega arith

pub overflow_add-w : goal.overflow_add-w
overflow_add-w g c = unfold room in omega arith

pub returns-then-holds : goal.returns-then-holds
returns-then-holds g c = (omega arith, λ p e. seek_hit _ _ _ _ _ (c.loop-i.invariant.1 p e) (omega arith) (c.holds.ensures p e) c.if-holds.true)

pub loop-i-preserved : goal.loop-i-preserved
loop-i-preserved g c = (omega arith, λ p e. seek_next _ _ _ _ (c.loop-i.invariant.1 p e) (c.holds.ensures p e) c.if-holds.false)
