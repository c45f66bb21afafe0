-- `program::listing::put_record` meets its contract. Assumes nothing.
use Prim.Native.Nat.{ℕ, ◌+◌, ◌≤◌}
use mathlib.Core.Path.{ap}
use native.Mathlib.Omega.{arith}
use lib.ListN.{length}
use Rattle.history.specs.Leaks.{shown_leak}
use Rattle.program.specs.Listing.{leak_at}
use Rattle.run.proofs.Putting.{put_there}
use Rattle.program.proofs.listing.put_record.Goals as goal

pub returns : goal.returns
returns c =
    let pre = c.requires in
    let w = c.leak_width.ensures in
    let a = c.args in
    let fits : a.at + length (shown_leak (leak_at a.records.now a.i)) ≤ length a.out.now = omega (arith, pre.0, w.0, w.1) in
    (record { fits = fits; past = ap (λ (n : ℕ). a.at + n) w.0; left = put_there c.put_leak.ensures fits }, omega (arith, w.1))
