-- A test that is computed once over all numbers below one holds for each of them. Assumes nothing.
use mathlib.Core.Path.{◌≡◌}
use mathlib.Core.Bool.{Bool, true, ◌&&◌}
use Prim.Native.Nat.{ℕ, zero, suc, ◌<◌}
use native.Mathlib.Omega.{arith}
use native.Mathlib.Decide.{dec_lt}
use Rattle.facts.proofs.Outside.{both_true}

abbrev pub each : (ℕ → Bool) → ℕ → Bool
each t zero = true
each t (suc n) = t n && each t n

pub each_at : (t : ℕ → Bool) (n f : ℕ) → each t n ≡ true → f < n → t f ≡ true
each_at t zero f h l = absurd (omega arith)
each_at t (suc n) f h l = let p = both_true (t n) (each t n) h in go (dec_lt f n) p.0 (each_at t n f p.1)
  where
    go : Dec (f < n) → t n ≡ true → (f < n → t f ≡ true) → t f ≡ true
    go (yes k) last before = before k
    go (no k) last before = let e : f ≡ n = omega arith in rw e last
