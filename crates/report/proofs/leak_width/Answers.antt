-- `report::leak_width` meets its contract. Assumes nothing.
use native.Mathlib.Omega.{arith}
use Rattle.words.specs.Text.{tab}
use Rattle.report.proofs.Parts.{length_parts, length_field, leak_parts, fields_parts}
use Rattle.report.proofs.leak_width.Goals as goal

pub returns : goal.returns
returns c =
    let a = c.args in
    let whole = length_parts (leak_parts a.rule a.thread a.value a.line) in
    let fields = length_parts (fields_parts a.rule a.thread a.value a.line) in
    (omega (arith, length_field a.rule tab, c.field_width.ensures.0, c.three_width.ensures.0), omega (arith, c.field_width.ensures.1, c.three_width.ensures.1))
