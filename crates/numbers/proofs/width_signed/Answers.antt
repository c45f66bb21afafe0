-- `numbers::width_signed` meets its contract. Assumes nothing.
use mathlib.Core.Path.{ap, sym, ◌∙◌}
use native.Mathlib.Omega.{arith}
use lib.ListN.{length}
use Rattle.numbers.proofs.Signed.{shown_below, shown_above}
use Rattle.numbers.proofs.width_signed.Goals as goal

pub returns-then-minus-size : goal.returns-then-minus-size
returns-then-minus-size c = (omega (arith, c.width.ensures.0, ap length (shown_below c.args.minus c.args.size c.if-minus-size.true)), omega (arith, c.width.ensures.1))

pub returns : goal.returns
returns c = (c.width-2.ensures.0 ∙ sym (ap length (shown_above c.args.minus c.args.size c.if-minus-size.false)), omega (arith, c.width-2.ensures.1))
