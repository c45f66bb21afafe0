-- The loop of `trace::report_into`. Assumes nothing.
use Prim.Native.Nat.{◌-◌}
use mathlib.Core.Path.{◌≡◌}
use lib.ListN.{length}
use Rattle.tables.specs.Tables.{tables}
use Rattle.demands.specs.Calls.{Alike}
use Rattle.trace.specs.Running.{scratch_size}
use Rattle.trace.proofs.Going.{Going}
use Rattle.trace.proofs.report_into.Given as goal

abbrev pub invariant-loop-book : goal.invariant-loop-book
invariant-loop-book l = Alike (tables l.rows l.marks l.pins l.pinmarks l.book l.classes) (tables l.initial.rows l.initial.marks l.initial.pins l.initial.pinmarks l.initial.book l.initial.classes)
    × (length l.scratch ≡ scratch_size)
    × Going (tables l.initial.rows l.initial.marks l.initial.pins l.initial.pinmarks l.initial.book l.initial.classes) l.trace l.initial.out l.so_far (tables l.rows l.marks l.pins l.pinmarks l.book l.classes) l.out

abbrev pub decreases-loop-book : goal.decreases-loop-book
decreases-loop-book l = length l.trace - l.so_far.at
