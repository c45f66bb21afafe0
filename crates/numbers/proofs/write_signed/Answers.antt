-- `numbers::write_signed` meets its contract. Assumes nothing.
use mathlib.Core.Path.{sym}
use Rattle.numbers.proofs.Put.{puts_as}
use Rattle.numbers.proofs.Signed.{shown_below, shown_above}
use Rattle.numbers.proofs.write_signed.Goals as goal

pub returns-then-minus-size : goal.returns-then-minus-size
returns-then-minus-size c = puts_as (sym (shown_below c.args.minus c.args.size c.if-minus-size.true)) c.write_below.ensures

pub returns : goal.returns
returns c = puts_as (sym (shown_above c.args.minus c.args.size c.if-minus-size.false)) c.write.ensures
