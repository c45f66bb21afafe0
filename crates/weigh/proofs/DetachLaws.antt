-- The findings of D, one behind another. Assumes nothing.
use Prim.Native.Nat.{ℕ}
use mathlib.Core.Path.{◌≡◌, ◌∙◌}
use mathlib.Core.List.{[]}
use lib.Dec.{ltb}
use Rattle.history.specs.Breaches.{when}
use Rattle.history.specs.Findings.{found}
use Rattle.answers.specs.declared.Findings.{Findings}
use Rattle.answers.specs.Answer.{findings_of, found_if}
use Rattle.answers.proofs.Found.{one_more_if, one_after}
use Rattle.sight.specs.declared.detach.DetachSight.{DetachSight}
use Rattle.weigh.specs.Detach.{found_detach}

pub two_found : (line : ℕ) (s : DetachSight) (n a b : Findings) → n ≡ findings_of [] → a ≡ found_if n s.critical line 3 0 0
    → b ≡ found_if a (ltb 0 s.monitors) line 9 0 s.monitors → b ≡ findings_of (found_detach line s)
unfolding found_detach
two_found line s n a b en ea eb =
    let f3 = found line 3 0 (when s.critical 0) in
    let pa : a ≡ findings_of f3 = one_after s.critical line 3 0 0 ea en ∙ one_more_if [] s.critical line 3 0 0 in
    one_after (ltb 0 s.monitors) line 9 0 s.monitors eb pa ∙ one_more_if f3 (ltb 0 s.monitors) line 9 0 s.monitors
