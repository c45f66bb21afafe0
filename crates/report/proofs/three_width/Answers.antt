-- `report::three_width` meets its contract. Assumes nothing.
use native.Mathlib.Omega.{arith}
use Rattle.words.specs.Text.{tab, line_feed}
use Rattle.report.proofs.Parts.{length_parts, length_field, two_parts, three_parts}
use Rattle.report.proofs.three_width.Goals as goal

pub returns : goal.returns
returns c =
    let a = c.args in
    let k = length_parts (three_parts a.a a.b a.c) in
    let l = length_parts (two_parts a.b a.c) in (
      omega (arith, length_field a.a tab, length_field a.b tab, length_field a.c line_feed, c.field_width.ensures.0, c.field_width-2.ensures.0, c.field_width-3.ensures.0),
      omega (arith, c.field_width.ensures.1, c.field_width-2.ensures.1, c.field_width-3.ensures.1),
    )
