-- `report::put_finding` meets its contract. Assumes nothing.
use native.Mathlib.Omega.{arith}
use Rattle.report.proofs.Parts.{length_parts, finding_parts, fills_then}
use Rattle.report.proofs.put_finding.Goals as goal

pub put_field-i-requires : goal.put_field-i-requires
put_field-i-requires c = omega (arith, c.requires, length_parts (finding_parts c.args.f))

pub put_three-requires : goal.put_three-requires
put_three-requires c = let x = c.put_field-i in omega (arith, c.requires, length_parts (finding_parts c.args.f), x.auto.d, x.ensures.past)

pub returns : goal.returns
returns c = fills_then (finding_parts c.args.f) c.put_field-i.ensures c.put_three.ensures
