-- `numbers::read_on` meets its contract; the loop keeps a number in the bound, and that what is found from i on is what was found from the start. Assumes nothing.
use mathlib.Core.Path.{◌∙◌}
use native.Mathlib.Omega.{arith}
use lib.ListN.{get_or}
use Rattle.numbers.specs.declared.Field.TheVariants.{Plus}
use Rattle.numbers.proofs.Reading.{answer}
use Rattle.numbers.proofs.Run.{set_out, digit_here, at_stop, at_end, at_other, too_large, one_digit}
use mathlib.Core.Path.{ap}
use mathlib.Core.Bool.{not}
use Rattle.numbers.proofs.read_on.Goals as goal

pub loop-i-init : goal.loop-i-init
loop-i-init c = set_out _ _ _ _ _ c.requires.0

pub returns-then-b-stop : goal.returns-then-b-stop
returns-then-b-stop c = at_stop c.loop-i.invariant (omega arith) c.if-b-stop.true

pub returns-then-not-is_digit : goal.returns-then-not-is_digit
returns-then-not-is_digit c = c.skip.ensures ∙ at_other c.loop-i.invariant (omega arith) c.if-b-stop.false c.is_digit.ensures (ap not c.if-not-is_digit.true)

pub returns-then-tenth-n : goal.returns-then-tenth-n
returns-then-tenth-n c = c.skip-then-tenth-n.ensures ∙ too_large c.loop-i.invariant (omega arith) (digit_here _ (get_or c.args.s.now c.loop-i.i 0) c.if-b-stop.false c.is_digit.ensures (ap not c.if-not-is_digit.false)) (omega arith)

pub overflow_sub-b : goal.overflow_sub-b
overflow_sub-b c = (digit_here _ (get_or c.args.s.now c.loop-i.i 0) c.if-b-stop.false c.is_digit.ensures (ap not c.if-not-is_digit.false)).low

pub returns-then-max-tens : goal.returns-then-max-tens
returns-then-max-tens c = c.skip-then-max-tens.ensures ∙ too_large c.loop-i.invariant (omega arith) (digit_here _ (get_or c.args.s.now c.loop-i.i 0) c.if-b-stop.false c.is_digit.ensures (ap not c.if-not-is_digit.false)) (omega (arith, c.from-d.ensures))

pub loop-i-preserved : goal.loop-i-preserved
loop-i-preserved c = one_digit c.loop-i.invariant (omega arith) (digit_here _ (get_or c.args.s.now c.loop-i.i 0) c.if-b-stop.false c.is_digit.ensures (ap not c.if-not-is_digit.false)) c.from-d.ensures (omega arith)

pub returns : goal.returns
returns c = ap (answer (Plus c.loop-i.n)) (omega (arith, c.loop-i.auto.i-end c.requires.1)) ∙ at_end c.loop-i.invariant (omega arith)
