-- `rows::references::count_in` meets its contract. Assumes nothing.
use native.Mathlib.Omega.{arith}
use Rattle.std.proofs.Common.{rules}
use Rattle.rows.specs.References.{in_frame, references}
use Rattle.rows.specs.Table.{room}
use Rattle.rows.proofs.TableLaws.{sum_none, sum_used, sum_unused}
use Rattle.rows.proofs.references.count_in.Goals as goal

pub offset_bounds-marks-w : goal.offset_bounds-marks-w
offset_bounds-marks-w c = unfold room in omega arith

pub bounds-marks-w : goal.bounds-marks-w
bounds-marks-w c = unfold room in omega arith

pub returns-then-marks-w-eq0 : goal.returns-then-marks-w-eq0
returns-then-marks-w-eq0 c = (search sum_unused, omega arith)

pub matching-k-requires-clause-there : goal.matching-k-requires-clause-there
matching-k-requires-clause-there c = unfold room in omega arith

pub returns-then-k-eq0 : goal.returns-then-k-eq0
returns-then-k-eq0 c = (sum_none references _ _ _ _ _ (c.matching-k.ensures.1 (in_frame c.args.t c.args.f) (λ x b e. search rules)) c.if-k-eq0.true, omega arith)

pub offset_bounds-marks-w-2 : goal.offset_bounds-marks-w-2
offset_bounds-marks-w-2 c = unfold room in omega arith

pub bounds-marks-w-2 : goal.bounds-marks-w-2
bounds-marks-w-2 c = unfold room in omega arith

pub returns-then-marks-w-eq0-2 : goal.returns-then-marks-w-eq0-2
returns-then-marks-w-eq0-2 c = (sum_used references _ _ _ _ _ (omega (arith, c.type_inv.marks c.args.w)) c.if-marks-w-eq0-2.true (c.matching-k.ensures.1 (in_frame c.args.t c.args.f) (λ x b e. search rules)), omega arith)

pub returns : goal.returns
returns c = (c.count_first.ensures.1 (in_frame c.args.t c.args.f) (λ x b e. search rules), omega arith)
