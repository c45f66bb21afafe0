-- The loop of `numbers::read_digits`. Assumes nothing.
use mathlib.Core.Path.{◌≡◌}
use Prim.Native.Nat.{◌≤◌}
use lib.ListN.{length}
use Rattle.numbers.proofs.Run.{Going}
use Rattle.numbers.proofs.read_digits.Given as goal

abbrev pub invariant-loop-i : goal.invariant-loop-i
invariant-loop-i l = Going l.max l.stop l.s l.at 0 l.i l.n × (length l.s ≤ l.at → l.i ≡ l.at)
