-- A number of 32 bits taken from zero. Assumes nothing.
use mathlib.Core.Path.{◌≡◌, ap, sym, subst, ◌∙◌}
use Prim.Native.Nat.{ℕ, zero, suc, ◌^◌, ◌<◌}
use native.Mathlib.Omega.{arith}
use lib.IntN.{ℤ, pos, neg_ℤ, ◌-ℤ◌, +ℤ_idl}
use mir.Syntax.{w32}
use mir.Val.{SFits, to_z}
use mir.ValLaws.{to_z_pos}
use borrow.Author.Rules.{sfits_of}

pub minus_is : {k : ℕ} → SFits w32 (pos k) → pos 0 -ℤ to_z w32 k ≡ neg_ℤ (pos k)
minus_is {k} f = ap (λ (z : ℤ). pos 0 -ℤ z) (to_z_pos w32 k f.sfits) ∙ +ℤ_idl (neg_ℤ (pos k))

negative_fits : (k : ℕ) → SFits w32 (pos k) → SFits w32 (neg_ℤ (pos k))
negative_fits zero f = f
negative_fits (suc n) f = let h : suc n < 2 ^ 31 = f.sfits in sfits_of (omega arith)

pub minus_fits : {k : ℕ} → SFits w32 (pos k) → SFits w32 (pos 0 -ℤ to_z w32 k)
minus_fits {k} f = subst (SFits w32) (sym (minus_is f)) (negative_fits k f)
