-- The loop of `act::enter::take_all`. Assumes nothing.
use mathlib.Core.Path.{◌≡◌}
use Rattle.tables.specs.Lent.{tables_of, Same, Led, with_references}
use Rattle.act.proofs.Taking.{Rest}
use Rattle.act.proofs.enter.take_all.Given as goal

abbrev pub invariant-loop-h : goal.invariant-loop-h
invariant-loop-h l =
    Same l.lent l.initial.lent
    × (Led l.initial.lent
    → Rest (tables_of l.initial.lent).references (tables_of l.lent).references l.line l.t l.d l.hs l.h-index
    × (tables_of l.lent ≡ with_references (tables_of l.initial.lent) (tables_of l.lent).references) × Led l.lent)
