-- Each number from 1 to 10 is its refusal's, and a refusal has no other. Assumes nothing.
use Prim.Native.Nat.{ℕ, zero, suc, ◌≤◌}
use mathlib.Core.Path.{◌≡◌, refl}
use native.Mathlib.Omega.{arith}
use Rattle.lines.specs.Numbered.{number_of, refusal_of}
use Rattle.lines.specs.declared.refusal.Refusal.{Refusal}

pub its_number : (k : ℕ) → 1 ≤ k → k ≤ 10 → number_of (refusal_of k) ≡ k
its_number zero h g = absurd (omega (arith, h))
its_number (suc zero) h g = refl
its_number (suc (suc zero)) h g = refl
its_number (suc (suc (suc zero))) h g = refl
its_number (suc (suc (suc (suc zero)))) h g = refl
its_number (suc (suc (suc (suc (suc zero))))) h g = refl
its_number (suc (suc (suc (suc (suc (suc zero)))))) h g = refl
its_number (suc (suc (suc (suc (suc (suc (suc zero))))))) h g = refl
its_number (suc (suc (suc (suc (suc (suc (suc (suc zero)))))))) h g = refl
its_number (suc (suc (suc (suc (suc (suc (suc (suc (suc zero))))))))) h g = refl
its_number (suc (suc (suc (suc (suc (suc (suc (suc (suc (suc zero)))))))))) h g = refl
its_number (suc (suc (suc (suc (suc (suc (suc (suc (suc (suc (suc k))))))))))) h g = absurd (omega (arith, g))

-- at most 10, whatever the number was
pub number_most : (r : Refusal) → number_of r ≤ 10
number_most Refusal.Length = omega arith
number_most Refusal.Form = omega arith
number_most Refusal.Range = omega arith
number_most Refusal.OutOfStep = omega arith
number_most Refusal.WrongEnv = omega arith
number_most Refusal.AlreadyAlive = omega arith
number_most Refusal.NoRoom = omega arith
number_most Refusal.Unfit = omega arith
number_most Refusal.WrongClass = omega arith
number_most Refusal.NotAlive = omega arith
