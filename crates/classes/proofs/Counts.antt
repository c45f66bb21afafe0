-- How many numbers below n pass a test, where all but one, or all, are known. Assumes nothing.
use Prim.Native.Nat.{ℕ, zero, suc, ◌+◌, ◌≤◌, ◌<◌, suc-le-suc}
use mathlib.Core.Path.{◌≡◌, refl, ap}
use mathlib.Core.Bool.{Bool, true, false}
use native.Mathlib.Nat.{zero-lt-suc, le_of_suc-le-suc, suc_inj}
use native.Mathlib.Omega.{arith}
use Rattle.words.specs.Choice.{one}
use Rattle.rows.specs.Scan.{how_many}
use Rattle.rows.proofs.ScanLaws.{how_many_ext, how_many_le}

-- one number's test changes
pub how_many_changed : (p q : ℕ → Bool) (n i : ℕ) → i < n → ((k : ℕ) → (k ≡ i → ⊥) → q k ≡ p k) → how_many q n + one (p i) ≡ how_many p n + one (q i)
unfolding how_many
how_many_changed p q zero i l same = absurd (omega arith)
how_many_changed p q (suc n) zero l same =
    omega (arith, how_many_ext (λ k. q (suc k)) (λ k. p (suc k)) n (λ k _. same (suc k) (λ e. omega arith)))
how_many_changed p q (suc n) (suc i) l same =
    let a : one (q zero) ≡ one (p zero) = ap one (same zero (λ e. omega arith)) in
    omega (arith, how_many_changed (λ k. p (suc k)) (λ k. q (suc k)) n i (le_of_suc-le-suc l) (λ k m. same (suc k) (λ e. m (suc_inj e))))

pub all_pass : (p : ℕ → Bool) (n : ℕ) → ((k : ℕ) → k < n → p k ≡ true) → how_many p n ≡ n
unfolding how_many
all_pass p zero h = refl
all_pass p (suc n) h =
    let a : one (p zero) ≡ 1 = ap one (h zero (zero-lt-suc n)) in
    omega (arith, all_pass (λ k. p (suc k)) n (λ k l. h (suc k) (suc-le-suc l)))

pub one_misses : (p : ℕ → Bool) (n i : ℕ) → i < n → p i ≡ false → how_many p n < n
unfolding how_many
one_misses p zero i l e = absurd (omega arith)
one_misses p (suc n) zero l e =
    let a : one (p zero) ≡ 0 = ap one e in
    omega (arith, how_many_le (λ k. p (suc k)) n)
one_misses p (suc n) (suc i) l e = omega (arith, one_misses (λ k. p (suc k)) n i (le_of_suc-le-suc l) e, one_le (p zero))
  where
    one_le : (b : Bool) → one b ≤ 1
    one_le true = omega arith
    one_le false = omega arith
