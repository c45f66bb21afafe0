-- `numbers::read` meets its contract. Assumes nothing.
use mathlib.Core.Path.{◌∙◌}
use Prim.Native.Nat.{suc}
use lib.ListN.{length}
use native.Mathlib.Omega.{arith}
use Rattle.numbers.proofs.Number.{minus_fits, starts_within, tested_is, number_minus, number_plain}
use Rattle.numbers.proofs.read.Goals as goal

pub overflow_add-past : goal.overflow_add-past
overflow_add-past c = record { fits = minus_fits c.args.s.now _ _ c.starts_minus.ensures c.if-starts_minus.true _ (omega arith) }

pub read_on-requires : goal.read_on-requires
read_on-requires c =
    (omega arith, omega (arith, minus_fits c.args.s.now c.args.at c.args.stop c.starts_minus.ensures c.if-starts_minus.true (suc (length c.args.s.now)) (omega arith)))

pub as_decimal-r-requires : goal.as_decimal-r-requires
as_decimal-r-requires c = starts_within _ _ _ _ c.read_on.ensures

pub returns-then-starts_minus : goal.returns-then-starts_minus
returns-then-starts_minus c =
    number_minus _ _ _ _ c.starts_minus.ensures c.if-starts_minus.true (c.as_decimal-r.ensures ∙ tested_is _ _ _ _ c.read_on.ensures) c.negate.ensures

pub as_decimal-requires : goal.as_decimal-requires
as_decimal-requires c = starts_within _ _ _ _ c.read_digits.ensures

pub returns : goal.returns
returns c = number_plain _ _ _ _ c.starts_minus.ensures c.if-starts_minus.false (c.as_decimal.ensures ∙ tested_is _ _ _ _ c.read_digits.ensures)
