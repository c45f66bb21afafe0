-- The numbers below n that pass a test: how many, the lowest, whether there is one. Assumes nothing.
use Rattle.std.specs.Prelude.{Bool, ℕ, zero, suc, ◌+◌, ltb}
use Rattle.words.specs.Choice.{if_true◌then◌else◌, one}

-- how many numbers below n pass
unfoldable pub how_many : (ℕ → Bool) → ℕ → ℕ
how_many p zero = zero
how_many p (suc n) = one (p zero) + how_many (λ k. p (suc k)) n

-- the lowest number below n that passes, or n
unfoldable pub lowest : (ℕ → Bool) → ℕ → ℕ
lowest p zero = zero
lowest p (suc n) = if_true p zero then zero else suc (lowest (λ k. p (suc k)) n)

-- whether a number below n passes
unfoldable pub some_below : (ℕ → Bool) → ℕ → Bool
some_below p n = ltb (lowest p n) n
