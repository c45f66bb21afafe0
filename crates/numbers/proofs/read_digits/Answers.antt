-- `numbers::read_digits` meets its contract; the loop keeps what that of `read_on` keeps. Assumes nothing.
use native.Mathlib.Omega.{arith}
use lib.ListN.{get_or}
use mathlib.Core.Path.{refl, ap, ◌∙◌}
use Rattle.numbers.specs.declared.Field.TheVariants.{Plus}
use Rattle.numbers.proofs.Reading.{answer}
use Rattle.numbers.proofs.Run.{end_is, set_out, digit_still, at_stop, at_end, then_found, one_digit}
use Rattle.numbers.proofs.read_digits.Goals as goal

pub loop-i-init : goal.loop-i-init
loop-i-init c = (set_out _ _ _ _ _ (omega arith), λ _. refl)

pub returns-then-b-stop : goal.returns-then-b-stop
returns-then-b-stop c = at_stop c.loop-i.invariant.0 (omega arith) c.if-b-stop.true

pub read_on-requires : goal.read_on-requires
read_on-requires c = (c.loop-i.invariant.0.in_bound, omega arith)

pub returns-then-stop_is_digit-is_digit : goal.returns-then-stop_is_digit-is_digit
returns-then-stop_is_digit-is_digit c = then_found c.loop-i.invariant.0 c.read_on.ensures

pub read_on-requires-then-tenth-n : goal.read_on-requires-then-tenth-n
read_on-requires-then-tenth-n c = (c.loop-i.invariant.0.in_bound, omega arith)

pub returns-then-tenth-n : goal.returns-then-tenth-n
returns-then-tenth-n c = then_found c.loop-i.invariant.0 c.read_on-then-tenth-n.ensures

pub overflow_sub-b : goal.overflow_sub-b
overflow_sub-b c = (digit_still c.args.stop (get_or c.args.s.now c.loop-i.i 0) c.is_digit-stop_is_digit.ensures c.is_digit.ensures c.if-stop_is_digit-is_digit.false).low

pub overflow_add-n : goal.overflow_add-n
overflow_add-n c = let d = (digit_still c.args.stop (get_or c.args.s.now c.loop-i.i 0) c.is_digit-stop_is_digit.ensures c.is_digit.ensures c.if-stop_is_digit-is_digit.false) in omega (arith, c.from.ensures)

pub loop-i-preserved : goal.loop-i-preserved
loop-i-preserved c = let d = (digit_still c.args.stop (get_or c.args.s.now c.loop-i.i 0) c.is_digit-stop_is_digit.ensures c.is_digit.ensures c.if-stop_is_digit-is_digit.false) in (one_digit c.loop-i.invariant.0 (omega arith) d c.from.ensures (omega (arith, c.from.ensures)), λ h. omega (arith, h, c.loop-i.auto.i, c.loop-i-test.true))

pub returns : goal.returns
returns c = ap (answer (Plus c.loop-i.n)) (c.max.ensures ∙ end_is _ _ _ c.loop-i.auto.i-end (omega arith) c.loop-i.invariant.1) ∙ at_end c.loop-i.invariant.0 (omega arith)
