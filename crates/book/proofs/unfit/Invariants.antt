-- The loop of `book::unfit`. Assumes nothing.
use Rattle.std.proofs.Common.{◌≡◌, suc, ◌≤◌, false}
use Rattle.lines.specs.Line.{threads}
use Rattle.book.specs.Turns.{ByTurns}
use Rattle.book.specs.Unfit.{unfit}
use Rattle.book.proofs.Steps.{overdone_from}
use Rattle.book.proofs.unfit.Given as goal

abbrev pub invariant-loop-t : goal.invariant-loop-t
invariant-loop-t l = (l.t ≤ suc threads) × (l.doubt ≡ false → ByTurns l.marks → unfit l.book ≡ overdone_from l.book l.t)
