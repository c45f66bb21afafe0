-- `rows::row::matching` meets its contract; the invariant: the sum is that of the rows before i. Assumes nothing.
use native.Mathlib.Omega.{arith}
use Rattle.rows.proofs.ScanLaws.{how_many_first}
use Rattle.rows.proofs.TableLaws.{byte_most, byte_one, match_next}
use Rattle.rows.proofs.row.matching.Goals as goal

pub loop-i-init : goal.loop-i-init
loop-i-init g c = (omega arith, omega arith, λ p e. search how_many_first)

pub loop-i-preserved : goal.loop-i-preserved
loop-i-preserved g c = (omega arith, omega (arith, byte_most c.q.result), λ p e. match_next g.R.Row.layout p _ _ _ _ _ _ _ (c.loop-i.invariant.2 p e) c.read.ensures (e _ _ c.q.ensures) (byte_one _))
