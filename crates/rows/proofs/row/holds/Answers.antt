-- `rows::row::holds` meets its contract. Assumes nothing.
use native.Mathlib.Omega.{arith}
use Rattle.rows.specs.Table.{room}
use Rattle.rows.proofs.TableLaws.{test_no, test_yes}
use Rattle.rows.proofs.row.holds.Goals as goal

pub read-requires : goal.read-requires
read-requires g c = unfold room in omega arith

pub is_used-requires : goal.is_used-requires
is_used-requires g c = unfold room in omega arith

pub returns-then-q : goal.returns-then-q
returns-then-q g c = λ p e. test_yes g.R.Row.layout p _ _ _ _ _ _ c.read.ensures (e _ _ c.q.ensures) c.if-q.true c.is_used.ensures

pub returns-else-q : goal.returns-else-q
returns-else-q g c = λ p e. test_no g.R.Row.layout p _ _ _ _ _ c.read.ensures (e _ _ c.q.ensures) c.if-q.false
