-- The loop of `program::print_leaks`. Assumes nothing.
use Prim.Native.Nat.{◌-◌}
use mathlib.Core.Path.{◌≡◌}
use Rattle.std.specs.Prelude.{min}
use Rattle.program.specs.Printing.{Newest}
use Rattle.program.specs.Running.{Good, RecordsLeft}
use Rattle.program.proofs.print_leaks.Given as goal

abbrev pub invariant-loop-from : goal.invariant-loop-from
invariant-loop-from l = Newest l.streams l.moved × (l.streams.leaks ≡ l.initial.streams.leaks) × (Good l.streams → RecordsLeft l.streams l.records (min l.from l.count) (l.count - min l.from l.count))

abbrev pub decreases-loop-from : goal.decreases-loop-from
decreases-loop-from l = l.count - l.from
