-- What the code's tests of R say. Assumes nothing.
use Prim.Native.Nat.{ℕ}
use mathlib.Core.Path.{◌≡◌, refl, ap, ◌∙◌}
use mathlib.Core.Bool.{Bool, true, false, ◌&&◌}
use mathlib.Core.List.{[]}
use Rattle.answers.specs.declared.Findings.{Findings}
use Rattle.answers.specs.Answer.{findings_of, found_if}
use Rattle.answers.proofs.Found.{one_more_if}
use Rattle.sight.specs.declared.returns.ReturnSight.{ReturnSight}
use Rattle.weigh.specs.Returns.{frame_free, return_refusal, found_return}

module _ (f : ℕ) (acts : Bool) (s : ReturnSight) where
  pub return_6 : s.made.alive ≡ true → 6 ≡ return_refusal f acts s
  unfolding return_refusal
  return_6 y = rw y refl

  pub return_0 : s.made.alive ≡ false → (s.made.fits && frame_free f acts s.frames) ≡ true → 0 ≡ return_refusal f acts s
  unfolding return_refusal
  return_0 y z = rw (y, z) refl

  pub return_7 : s.made.alive ≡ false → (s.made.fits && frame_free f acts s.frames) ≡ false → 7 ≡ return_refusal f acts s
  unfolding return_refusal
  return_7 y z = rw (y, z) refl

pub return_found : (line h : ℕ) (s : ReturnSight) (n y : Findings) → n ≡ findings_of [] → y ≡ found_if n s.over line 11 0 h → y ≡ findings_of (found_return line h s)
unfolding found_return
return_found line h s n y e k = k ∙ ap (λ (a : Findings). found_if a s.over line 11 0 h) e ∙ one_more_if [] s.over line 11 0 h
