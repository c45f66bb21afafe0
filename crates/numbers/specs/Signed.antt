-- Numbers by sign and size, and those that 32 bits hold. Assumes nothing.
use Rattle.std.specs.Prelude.{ℕ, zero, suc, Bool, true, false, leb, ℤ, pos, negsuc, Option, None, Some}
use Rattle.words.specs.Choice.{if_true◌then◌else◌}

-- a size, below zero where there is a minus
abbrev pub signed : Bool → ℕ → ℤ
signed false n = pos n
signed true zero = pos zero
signed true (suc n) = negsuc n

abbrev pub is_negative : ℤ → Bool
is_negative (pos n) = false
is_negative (negsuc n) = true

abbrev pub largest_i32 : ℕ
largest_i32 = 2147483647

-- a signed 32-bit number
abbrev pub is_i32 : ℤ → Bool
is_i32 (pos n) = leb n largest_i32
is_i32 (negsuc n) = leb n largest_i32

-- `None` is out of 32 bits
abbrev pub as_int : ℤ → Option ℤ
as_int z = if_true is_i32 z then Some z else None
