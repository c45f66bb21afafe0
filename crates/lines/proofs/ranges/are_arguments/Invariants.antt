-- The loop of `lines::ranges::are_arguments`. Assumes nothing.
use mathlib.Core.Path.{◌≡◌}
use mathlib.Core.Bool.{◌&&◌}
use lib.ListN.{length, take}
use Rattle.lines.specs.Line.{is_argument}
use Rattle.lines.proofs.Every.{every_from}
use Rattle.lines.proofs.ranges.are_arguments.Given as goal

abbrev pub invariant-loop-i : goal.invariant-loop-i
invariant-loop-i l = (length l.v ≡ 10) × ((l.ok && every_from is_argument l.i (take l.n l.v)) ≡ every_from is_argument 2 (take l.n l.v))
