-- A signed number's sign and zero, by its bits; what an item asked for that is no call. Assumes nothing.
use Prim.Native.Nat.{ℕ}
use mathlib.Core.Path.{◌≡◌, refl, sym, subst, ◌∙◌}
use mathlib.Core.Bool.{true, false}
use native.Mathlib.Decide.{ℕ_discrete}
use native.Mathlib.Nat.{not-suc-le-zero, lt_trans}
use borrow.Author.Tests.{ltb-true, eq-eqb, ne_eqb}
use lib.Dec.{T, eqb, lit<}
use lib.IntN.{ℤ, pos, negsuc, nat_abs}
use lib.Signed.{lt_z, non_neg}
use mir.Syntax.{w32}
use mir.Val.{Fits, SFits, of_z}
use Rattle.lines.specs.Line.{is_zero, above_zero}
use Rattle.std.specs.Prelude.{Some}
use Rattle.history.specs.Items.{asked}
use Rattle.book.specs.Threads.{top_is}
use Rattle.book.specs.declared.Item.{Item}
use Rattle.act.proofs.Returning.{zero_status, other_status}

pub below_zero : (n : ℤ) {z : ℤ} → z ≡ n → lt_z z (pos 0) ≡ true → 0 ≡ above_zero n
below_zero (pos a) e h = absurd (not-suc-le-zero (ltb-true a 0 (subst (λ (m : ℤ). lt_z m (pos 0) ≡ true) e h)))
below_zero (negsuc a) e h = refl

pub cast_fits : (n : ℤ) {z : ℤ} → z ≡ n → SFits w32 n → lt_z z (pos 0) ≡ false → T (non_neg z) × Fits w32 (nat_abs z)
cast_fits (pos a) e f h = subst (λ (m : ℤ). T (non_neg m) × Fits w32 (nat_abs m)) (sym e) (tt, record { fits = lt_trans f.sfits (lit< tt) })
cast_fits (negsuc a) e f h = absurd (subst T (subst (λ (m : ℤ). lt_z m (pos 0) ≡ false) e h) tt)

pub cast_size : (n : ℤ) {z : ℤ} → z ≡ n → lt_z z (pos 0) ≡ false → nat_abs z ≡ above_zero n
cast_size (pos a) e h = subst (λ (m : ℤ). nat_abs m ≡ a) (sym e) refl
cast_size (negsuc a) e h = absurd (subst T (subst (λ (m : ℤ). lt_z m (pos 0) ≡ false) e h) tt)

pub zero_bits : (s : ℤ) → SFits w32 s → eqb (of_z w32 s) 0 ≡ is_zero s
zero_bits s f = go (ℕ_discrete (of_z w32 s) 0)
  where
    go : Dec (of_z w32 s ≡ 0) → eqb (of_z w32 s) 0 ≡ is_zero s
    go (yes e) = eq-eqb (of_z w32 s) 0 e ∙ sym (zero_status s f e)
    go (no e) = ne_eqb (of_z w32 s) 0 e ∙ sym (other_status s e)

-- an item that is no call asked for none
pub no_call : (i : Item) → ((f k : ℕ) → i ≡ Item.Call f k → ⊥) → 0 ≡ asked (top_is (Some i))
unfolding top_is
no_call Item.Native n = refl
no_call Item.Attached n = refl
no_call (Item.Call f k) n = absurd (n f k refl)
