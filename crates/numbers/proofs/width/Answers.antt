-- `numbers::width` meets its contract. Assumes nothing.
use mathlib.Core.Path.{◌≡◌}
use Rattle.std.specs.Prelude.{Option, None, Some, unwrap_or, IfSome, IfNone, length}
use native.Mathlib.Omega.{arith}
use Prim.Native.Nat.{ℕ, ◌+◌, ◌*◌, ◌^◌, ◌≤◌, ◌<◌}
use Rattle.numbers.specs.Decimal.{digits}
use Rattle.numbers.proofs.Digits.{length_one, length_above, length_below}
use native.Mathlib.Nat.{pow-succ'}
use Rattle.numbers.proofs.width.Goals as goal

by_power : (n k : ℕ) → 10 ^ k ≤ n → n < 10 * 10 ^ k → k < 20 → (k + 1 ≡ length (digits n)) × (k + 1 ≤ 20)
by_power n k l h b =
    let low = length_above k n l in
    let high = length_below k n (rw (pow-succ' 10 k) h) in
    (omega arith, omega arith)

counted :
    (n : ℕ) (o : Option ℕ) → IfNone o (n ≡ 0) → IfSome o (λ k. 10 ^ k ≤ n) → IfSome o (λ k. n < 10 * 10 ^ k) → IfSome o (λ k. k < 20)
    → (unwrap_or o 0 + 1 ≡ length (digits n)) × (unwrap_or o 0 + 1 ≤ 20)
counted n None z l h b = let e = length_one n (omega arith) in (omega arith, omega arith)
counted n (Some k) z l h b = by_power n k l h b

pub returns : goal.returns
returns c = let e = c.unwrap_or.ensures in let h = c.checked_ilog10.ensures in rw e (counted c.args.n c.checked_ilog10.result h.none h.power_le h.next_power_gt h.bound)
