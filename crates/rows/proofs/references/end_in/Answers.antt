-- `rows::references::end_in` meets its contract. Assumes nothing.
use native.Mathlib.Omega.{arith}
use Rattle.std.proofs.Common.{rules}
use Rattle.rows.specs.References.{from_frame, references}
use Rattle.rows.specs.Table.{room}
use Rattle.rows.proofs.TableLaws.{ended_unmatched, ended_unused}
use Rattle.rows.proofs.references.end_in.Goals as goal

pub offset_bounds-marks-w : goal.offset_bounds-marks-w
offset_bounds-marks-w c = unfold room in omega arith

pub bounds-marks-w : goal.bounds-marks-w
bounds-marks-w c = unfold room in omega arith

pub returns-then-marks-w-eq0 : goal.returns-then-marks-w-eq0
returns-then-marks-w-eq0 c = search ended_unused

pub matching-requires-clause-there : goal.matching-requires-clause-there
matching-requires-clause-there c = unfold room in omega arith

pub returns-else-matching-ne0 : goal.returns-else-matching-ne0
returns-else-matching-ne0 c = ended_unmatched references _ _ _ _ _ (c.matching.ensures.1 (from_frame c.args.t c.args.f) (λ x b e. search rules)) c.if-matching-ne0.false
