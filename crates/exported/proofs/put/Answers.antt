-- `exported::put` meets its contract. Assumes nothing.
use native.Mathlib.Numerals.{towards_suc}
use native.Mathlib.Omega.{arith}
use lib.ListN.{length-set}
use Rattle.exported.specs.Told.{put_at}
use Rattle.exported.proofs.put.Goals as goal

pub bounds-found-first-2 : goal.bounds-found-first-2
bounds-found-first-2 c = simp length-set (omega arith)

pub bounds-found-first-3 : goal.bounds-found-first-3
bounds-found-first-3 c = simp length-set (omega arith)

pub bounds-found-first-4 : goal.bounds-found-first-4
bounds-found-first-4 c = simp length-set (omega arith)

pub returns : goal.returns
returns c = unfold put_at in simp towards_suc
