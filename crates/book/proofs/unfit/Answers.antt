-- `book::unfit` meets its contract. Assumes nothing.
use Rattle.std.proofs.Common.{refl, arith}
use Rattle.book.proofs.Steps.{unfit_short, doubt_first, doubt_next, doubt_none}
use Rattle.book.proofs.unfit.Goals as goal

pub returns-then-book-lt-WHOLE : goal.returns-then-book-lt-WHOLE
returns-then-book-lt-WHOLE c = search unfit_short

pub loop-t-init : goal.loop-t-init
loop-t-init c = (omega arith, search doubt_first)

pub loop-t-preserved : goal.loop-t-preserved
loop-t-preserved c = (omega arith, doubt_next _ _ _ _ _ _ c.loop-t.invariant.1 (omega arith) c.in_doubt-doubt.ensures refl)

pub returns : goal.returns
returns c = search doubt_none
