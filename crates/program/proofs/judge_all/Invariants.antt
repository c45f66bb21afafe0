-- The loop of `program::judge_all`: each turn leaves less that may still come by. Assumes nothing.
use Prim.Native.Nat.{◌-◌}
use Rattle.tables.specs.Tables.{tables}
use Rattle.program.specs.Printing.{Newest}
use Rattle.program.specs.Progress.{come_by, most_come_by}
use Rattle.program.proofs.Turns.{Going}
use Rattle.program.proofs.judge_all.Given as goal

abbrev pub invariant-loop-so_far : goal.invariant-loop-so_far
invariant-loop-so_far l = Going l.leaks (tables l.rows l.marks l.pins l.pinmarks l.book l.classes) l.so_far l.buf × Newest l.so_far.streams l.moved

abbrev pub decreases-loop-so_far : goal.decreases-loop-so_far
decreases-loop-so_far l = most_come_by - come_by (tables l.rows l.marks l.pins l.pinmarks l.book l.classes) l.so_far
