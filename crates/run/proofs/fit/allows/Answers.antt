-- `run::fit::allows` meets its contract. Assumes nothing.
use mathlib.Core.Path.{refl, ap}
use Rattle.lines.specs.Numbered.{passes}
use Rattle.run.proofs.Fitting.{overdone_told, full_told, fit_told}
use Rattle.run.proofs.fit.allows.Goals as goal

pub returns-then-t-is_overdone : goal.returns-then-t-is_overdone
returns-then-t-is_overdone c = ap passes (overdone_told _ _ _ _ c.requires c.is_overdone.ensures c.if-t-is_overdone.true refl)

pub returns-then-lines_of-ge-MOST_LINES : goal.returns-then-lines_of-ge-MOST_LINES
returns-then-lines_of-ge-MOST_LINES c = ap passes (full_told _ _ _ _ c.requires c.is_overdone.ensures _ c.lines_of.ensures c.if-t-is_overdone.false c.if-lines_of-ge-MOST_LINES.true refl)

pub returns : goal.returns
returns c = ap passes (fit_told _ _ _ _ c.requires c.is_overdone.ensures _ c.lines_of.ensures c.if-t-is_overdone.false c.if-lines_of-ge-MOST_LINES.false refl)
