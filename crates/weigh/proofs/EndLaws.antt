-- The findings of Z, one behind another. Assumes nothing.
use Prim.Native.Nat.{ℕ}
use mathlib.Core.Path.{◌≡◌, ap, ◌∙◌}
use mathlib.Core.List.{[], ◌++◌, append_assoc}
use lib.Dec.{ltb}
use Rattle.history.specs.Breaches.{some_of}
use Rattle.history.specs.Findings.{found}
use Rattle.answers.specs.declared.Findings.{Findings}
use Rattle.answers.specs.Answer.{findings_of, found_if}
use Rattle.answers.proofs.Found.{one_more_if, one_after}
use Rattle.sight.specs.declared.end.EndSight.{EndSight}
use Rattle.weigh.specs.End.{found_end}

pub three_found : (line : ℕ) (s : EndSight) (n a b c : Findings) → n ≡ findings_of [] → a ≡ found_if n (ltb 0 s.buffers) line 8 0 s.buffers
    → b ≡ found_if a (ltb 0 s.monitors) line 9 0 s.monitors → c ≡ found_if b (ltb 0 s.handles) line 10 0 s.handles → c ≡ findings_of (found_end line s)
unfolding found_end
three_found line s n a b c en ea eb ec =
    let f8 = found line 8 0 (some_of s.buffers) in
    let f9 = found line 9 0 (some_of s.monitors) in
    let f10 = found line 10 0 (some_of s.handles) in
    let pa : a ≡ findings_of f8 = one_after (ltb 0 s.buffers) line 8 0 s.buffers ea en ∙ one_more_if [] (ltb 0 s.buffers) line 8 0 s.buffers in
    let pb : b ≡ findings_of (f8 ++ f9) = one_after (ltb 0 s.monitors) line 9 0 s.monitors eb pa ∙ one_more_if f8 (ltb 0 s.monitors) line 9 0 s.monitors in
    let pc : c ≡ findings_of ((f8 ++ f9) ++ f10) = one_after (ltb 0 s.handles) line 10 0 s.handles ec pb ∙ one_more_if (f8 ++ f9) (ltb 0 s.handles) line 10 0 s.handles in
    pc ∙ ap findings_of (append_assoc f8 f9 f10)
