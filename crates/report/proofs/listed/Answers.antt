-- `report::listed` meets its contract. Assumes nothing.
use mathlib.Core.Path.{ap, ◌∙◌}
use native.Mathlib.Omega.{arith}
use Prim.Native.Nat.{ℕ}
use lib.ListN.{take, length-take}
use Rattle.report.proofs.Parts.{take_least}
use Rattle.report.proofs.listed.Goals as goal

pub returns : goal.returns
returns c = let xs = c.args.found.now in (ap (λ (n : ℕ). take n xs) c.min.ensures ∙ take_least c.args.count 6 xs (omega arith), omega (arith, length-take c.min.result xs))
