-- The loop of `weigh::enter::named_twice`. Assumes nothing.
use mathlib.Core.Path.{◌≡◌}
use lib.ListN.{length}
use Rattle.weigh.specs.Enter.{named_twice}
use Rattle.weigh.proofs.enter.named_twice.Given as goal

abbrev pub invariant-loop-h : goal.invariant-loop-h
invariant-loop-h l = named_twice l.left ≡ named_twice l.hs

abbrev pub decreases-loop-h : goal.decreases-loop-h
decreases-loop-h l = length l.left
