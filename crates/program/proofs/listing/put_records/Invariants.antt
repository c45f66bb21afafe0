-- The loop of `program::listing::put_records`. Assumes nothing.
use Prim.Native.Nat.{◌+◌, ◌*◌, ◌-◌, ◌≤◌}
use mathlib.Core.Path.{◌≡◌}
use lib.ListN.{length}
use Rattle.numbers.specs.Writing.{put}
use Rattle.report.specs.Shown.{longest_leak}
use Rattle.program.specs.Listing.{shown_from}
use Rattle.program.proofs.listing.put_records.Given as goal

abbrev pub invariant-loop-i : goal.invariant-loop-i
invariant-loop-i l = (l.at ≤ longest_leak * (l.i - l.from)) × (l.at + length (shown_from l.records l.i (l.to - l.i)) ≡ length (shown_from l.records l.from (l.to - l.from))) × (put l.out l.at (shown_from l.records l.i (l.to - l.i)) ≡ put l.initial.out 0 (shown_from l.records l.from (l.to - l.from))) × (length l.out ≡ length l.initial.out)
