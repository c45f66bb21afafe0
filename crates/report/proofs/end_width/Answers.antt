-- `report::end_width` meets its contract. Assumes nothing.
use mathlib.Core.Path.{ap}
use native.Mathlib.Omega.{arith}
use lib.ListN.{length}
use Rattle.report.proofs.Parts.{length_parts, end_parts}
use Rattle.report.proofs.end_width.Goals as goal

pub returns : goal.returns
returns c =
    let a = c.args in (
      omega (arith, length_parts (end_parts a.closed a.lines a.refusal a.printed), ap length c.head_of.ensures.0, c.three_width.ensures.0),
      omega (arith, c.head_of.ensures.1, c.three_width.ensures.1),
    )
