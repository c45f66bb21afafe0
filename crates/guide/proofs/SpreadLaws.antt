-- No sum of a spread is over 64 bits. Assumes nothing.
use Prim.Native.Nat.{ℕ, ◌+◌, ◌*◌, ◌/◌, ◌%◌, ◌^◌, ◌≤◌, ◌<◌}
use native.Mathlib.Omega.{arith}
use Rattle.guide.specs.Spread.{most_beside}

high_half : (v : ℕ) → v < 2 ^ 64 → v / 4294967296 ≤ 4294967295
high_half v h = omega arith

low_half : (v : ℕ) → v % 4294967296 ≤ 4294967295
low_half v = omega arith

halves_fit : (a b : ℕ) → a ≤ 4294967295 → b ≤ 4294967295 → a * 2654435769 + b * 1597334677 < 18261300000000000000
halves_fit a b ha hb = omega arith

module _ (v : ℕ) (h : v < 2 ^ 64) where
  low_sum : v % 4294967296 * 2654435769 + v / 4294967296 * 1597334677 < 18261300000000000000
  low_sum = halves_fit (v % 4294967296) (v / 4294967296) (low_half v) (high_half v h)

  pub halves_low : v % 4294967296 * 2654435769 + v / 4294967296 * 1597334677 < 2 ^ 64
  halves_low = below (v % 4294967296 * 2654435769 + v / 4294967296 * 1597334677) low_sum
    where
      below : (n : ℕ) → n < 18261300000000000000 → n < 2 ^ 64
      below n l = omega arith

  pub spread_low : (beside : ℕ) → beside < most_beside → v % 4294967296 * 2654435769 + v / 4294967296 * 1597334677 + beside * 2246822519 < 2 ^ 64
  spread_low beside l = below (v % 4294967296 * 2654435769 + v / 4294967296 * 1597334677) low_sum
    where
      below : (n : ℕ) → n < 18261300000000000000 → n + beside * 2246822519 < 2 ^ 64
      below n k = omega arith
