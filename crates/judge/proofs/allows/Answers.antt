-- `judge::allows` meets its contract. Assumes nothing.
use Rattle.lines.specs.Numbered.{passes}
use Rattle.judge.proofs.ByTables.{unfit_told, full_told, fit_told}
use mathlib.Core.Path.{refl, ap}
use Rattle.judge.proofs.allows.Goals as goal

pub returns-then-unfit-is_short : goal.returns-then-unfit-is_short
returns-then-unfit-is_short c = λ rs ms ps ns. ap passes (unfit_told _ _ _ _ c.unfit.ensures c.is_short.ensures c.if-unfit-is_short.true refl)

pub returns-then-lines_of-ge-MOST_LINES : goal.returns-then-lines_of-ge-MOST_LINES
returns-then-lines_of-ge-MOST_LINES c = λ rs ms ps ns. ap passes (full_told _ _ _ _ c.unfit.ensures c.is_short.ensures _ c.lines_of.ensures c.if-unfit-is_short.false c.if-lines_of-ge-MOST_LINES.true refl)

pub returns : goal.returns
returns c = λ rs ms ps ns. ap passes (fit_told _ _ _ _ c.unfit.ensures c.is_short.ensures _ c.lines_of.ensures c.if-unfit-is_short.false c.if-lines_of-ge-MOST_LINES.false refl)
