-- What C is told of a line that is read: its letter, or, below zero, the number given instead; and how many numbers it has. Assumes nothing.
use Rattle.std.specs.Prelude.{ℕ, ℤ, pos, neg_ℤ, Result, Ok, Err}
use Rattle.lines.specs.declared.apart.Apart.{Apart}
use Rattle.lines.specs.Numbered.{number_of}
use Rattle.lines.specs.declared.refusal.Refusal.{Refusal}

abbrev pub told : Result Apart Refusal → ℤ
told (Ok a) = pos a.letter
told (Err k) = neg_ℤ (pos (number_of k))

-- where there is no line, what was there
abbrev pub counted : Result Apart Refusal → ℕ → ℕ
counted (Ok a) m = a.count
counted (Err k) m = m
