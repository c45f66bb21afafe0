-- The loop of `leaks::found::collect`. Assumes nothing.
use mathlib.Core.Path.{◌≡◌}
use lib.ListN.{length}
use Rattle.rows.specs.Table.{table}
use Rattle.leaks.specs.Entries.{entries_in}
use Rattle.leaks.specs.Found.{found_from, Added}
use Rattle.leaks.proofs.found.collect.Given as goal

abbrev pub invariant-loop-i : goal.invariant-loop-i
invariant-loop-i l = (length l.leaks ≡ length l.initial.leaks) × Added (found_from (table l.rows l.marks) (table l.pins l.pinmarks) l.first l.i) l.at l.n (entries_in l.initial.leaks) (entries_in l.leaks)
