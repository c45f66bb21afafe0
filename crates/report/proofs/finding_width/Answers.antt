-- `report::finding_width` meets its contract. Assumes nothing.
use native.Mathlib.Omega.{arith}
use Rattle.words.specs.Text.{tab}
use Rattle.report.proofs.Parts.{length_parts, length_field, finding_parts}
use Rattle.report.proofs.finding_width.Goals as goal

pub returns : goal.returns
returns c =
    let f = c.args.f in (
      omega (arith, length_parts (finding_parts f), length_field f.line tab, c.field_width.ensures.0, c.three_width.ensures.0),
      omega (arith, c.field_width.ensures.1, c.three_width.ensures.1),
    )
