-- The loop of `writer::put_fields`. Assumes nothing.
use mathlib.Core.Path.{◌≡◌}
use Prim.Native.Nat.{◌+◌, ◌≤◌}
use lib.ListN.{length}
use Rattle.numbers.specs.Writing.{put}
use Rattle.writer.proofs.Laid.{rest}
use Rattle.writer.proofs.put_fields.Given as goal

abbrev pub invariant-loop-i : goal.invariant-loop-i
invariant-loop-i l = (l.i ≤ length l.v) × (l.at + length (rest l.minus l.v l.i) ≡ l.from + length (rest l.minus l.v 0)) × (put l.d l.at (rest l.minus l.v l.i) ≡ put l.initial.d l.from (rest l.minus l.v 0)) × (length l.d ≡ length l.initial.d)
