-- The loop of `writer::fields_width`. Assumes nothing.
use mathlib.Core.Path.{◌≡◌}
use Prim.Native.Nat.{◌+◌, ◌*◌, ◌≤◌}
use lib.ListN.{length}
use Rattle.writer.proofs.Laid.{rest}
use Rattle.writer.proofs.fields_width.Given as goal

abbrev pub invariant-loop-i : goal.invariant-loop-i
invariant-loop-i l = (l.i ≤ length l.v) × (l.w ≤ 22 * l.i) × (l.w + length (rest l.minus l.v l.i) ≡ length (rest l.minus l.v 0))
