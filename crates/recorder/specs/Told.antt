-- What C is told of a line: how many bytes were written, or, below zero, the number given instead. Assumes nothing.
use Rattle.std.specs.Prelude.{List, [], ℕ, ℤ, pos, neg_ℤ, Result, Ok, Err}
use Rattle.lines.specs.Events.{padded}
use Rattle.lines.specs.Numbered.{number_of}
use Rattle.lines.specs.declared.refusal.Refusal.{Refusal}

abbrev pub told : Result ℕ Refusal → ℤ
told (Ok n) = pos n
told (Err k) = neg_ℤ (pos (number_of k))

-- the eight slots beside a line other than N
abbrev pub no_handles : List ℕ
no_handles = padded []
