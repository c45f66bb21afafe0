-- `rows::marks::used_below` meets its contract; the invariant: the sum is that of the words before w. Assumes nothing.
use native.Mathlib.Omega.{arith}
use Rattle.rows.proofs.MarkLaws.{count_last, count_whole, count_word}
use Rattle.rows.proofs.ScanLaws.{how_many_first}
use Rattle.rows.proofs.marks.used_below.Goals as goal

pub loop-w-init : goal.loop-w-init
loop-w-init c = (omega arith, omega arith, search how_many_first)

pub loop-w-preserved : goal.loop-w-preserved
loop-w-preserved c = (omega arith, omega arith, search count_word)

pub returns-then-m-eq0 : goal.returns-then-m-eq0
returns-then-m-eq0 c = search count_whole

pub returns : goal.returns
returns c = search count_last
