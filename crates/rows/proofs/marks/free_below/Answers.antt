-- `rows::marks::free_below` meets its contract; the invariant: no row of the words from `from` to w is free. Assumes nothing.
use native.Mathlib.Omega.{arith}
use Rattle.std.proofs.Common.{rules}
use Rattle.rows.proofs.FreeLaws.{none_below, free_later}
use Rattle.rows.proofs.MarkLaws.{search_cut, search_end, search_word}
use Rattle.rows.proofs.marks.free_below.Goals as goal

pub loop-w-init : goal.loop-w-init
loop-w-init c = (omega arith, omega arith, none_below _ _)

pub returns-then-i-lt-WORD : goal.returns-then-i-lt-WORD
returns-then-i-lt-WORD c = search_cut _ _ _ _ _ c.loop-w.invariant.2 (free_later _ _ _ _ c.loop-w.invariant.0 c.free_in-i.ensures) c.if-i-lt-WORD.true (search rules)

pub loop-w-preserved : goal.loop-w-preserved
loop-w-preserved c = (omega arith, omega arith, search_word _ _ _ c.loop-w.invariant.2 (free_later _ _ _ _ c.loop-w.invariant.0 c.free_in-i.ensures) c.if-i-lt-WORD.false)

pub returns : goal.returns
returns c = search_end _ _ _ c.loop-w.invariant.2 (omega arith)
