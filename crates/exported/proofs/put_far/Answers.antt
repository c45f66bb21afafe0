-- `exported::put_far` meets its contract. Assumes nothing.
use native.Mathlib.Omega.{arith}
use lib.ListN.{length-set}
use Rattle.exported.proofs.Piecing.{put_three}
use Rattle.exported.proofs.put_far.Goals as goal

pub bounds-far-1 : goal.bounds-far-1
bounds-far-1 c = simp length-set (omega arith)

pub returns : goal.returns
returns c = put_three _ _ c.requires
