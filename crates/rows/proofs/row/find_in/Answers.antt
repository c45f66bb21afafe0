-- `rows::row::find_in` meets its contract. Assumes nothing.
use native.Mathlib.Omega.{arith}
use Rattle.rows.specs.Table.{room}
use Rattle.rows.proofs.TableLaws.{seek_none, seek_unused}
use Rattle.rows.proofs.row.find_in.Goals as goal

pub offset_bounds-marks-w : goal.offset_bounds-marks-w
offset_bounds-marks-w g c = unfold room in omega arith

pub bounds-marks-w : goal.bounds-marks-w
bounds-marks-w g c = unfold room in omega arith

pub returns-then-marks-w-eq0 : goal.returns-then-marks-w-eq0
returns-then-marks-w-eq0 g c = λ u p e f h. seek_unused g.R.Row.layout p _ _ _ c.if-marks-w-eq0.true

pub matching-requires-clause-there : goal.matching-requires-clause-there
matching-requires-clause-there g c = unfold room in omega arith

pub returns-then-matching-eq0 : goal.returns-then-matching-eq0
returns-then-matching-eq0 g c = λ u p e f h. seek_none g.R.Row.layout p u _ _ _ _ h (c.matching.ensures.1 u e) c.if-matching-eq0.true
