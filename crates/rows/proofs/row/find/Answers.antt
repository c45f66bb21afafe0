-- `rows::row::find` meets its contract; the invariant: no row of the words before w passes. Assumes nothing.
use native.Mathlib.Omega.{arith}
use Rattle.rows.specs.Table.{found}
use Rattle.rows.proofs.MarkLaws.{search_hit, search_last, search_word}
use Rattle.rows.proofs.ScanLaws.{lowest_first}
use Rattle.rows.proofs.row.find.Goals as goal

pub loop-w-init : goal.loop-w-init
loop-w-init g c = (omega arith, λ u p e f h. search lowest_first)

pub returns-then-i-lt-WORD : goal.returns-then-i-lt-WORD
returns-then-i-lt-WORD g c = λ u p e f h. unfold found in search_hit _ _ _ _ _ (c.loop-w.invariant.1 u p e f h) (c.find_in-i.ensures u p e f h) (omega arith) (omega arith) c.room-n.ensures

pub loop-w-preserved : goal.loop-w-preserved
loop-w-preserved g c = (omega arith, λ u p e f h. search_word _ _ _ (c.loop-w.invariant.1 u p e f h) (c.find_in-i.ensures u p e f h) (omega arith))

pub returns : goal.returns
returns g c = λ u p e f h. unfold found in search_last _ _ _ _ _ (c.loop-w.invariant.1 u p e f h) (omega arith) (omega arith) c.room-n.ensures (c.find_first.ensures.1 p f)
