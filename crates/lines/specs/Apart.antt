-- A line taken apart into its letter and numbers, as they are told to C. Assumes nothing.
use Rattle.std.specs.Prelude.{ℕ, ◌-◌, List, ◌++◌, map, ℤ, pos, negsuc, length, replicate, Result, Ok, Err}
use Rattle.lines.specs.Line.{Line, largest}
use Rattle.lines.specs.Forms.{most_fields, letter_of, numbers_of}
use Rattle.lines.specs.Reading.{Read, says, refused}
use Rattle.lines.specs.Numbered.{refusal_of}
use Rattle.lines.specs.declared.refusal.Refusal.{Refusal}
use Rattle.lines.specs.declared.apart.Apart.{Apart}

-- a number below zero is its two's complement: -1 is the largest
abbrev pub as_told : ℤ → ℕ
as_told (pos n) = n
as_told (negsuc n) = largest - n

-- a line's numbers in ten slots, 0 past them
abbrev pub numbers_told : Line → List ℕ
numbers_told e = map as_told (numbers_of e) ++ replicate (most_fields - length (numbers_of e)) 0

abbrev pub apart : ℕ → ℕ → Apart
apart letter n = record { letter = letter; count = n }

-- what the reader answers: the letter and how many numbers there are
abbrev pub apart_of : Read → Result Apart Refusal
apart_of (says e) = Ok (apart (letter_of e) (length (numbers_of e)))
apart_of (refused k) = Err (refusal_of k)

-- what it leaves in the ten slots: where there is no line, what was there
abbrev pub numbers_left : Read → List ℕ → List ℕ
numbers_left (says e) ws = numbers_told e
numbers_left (refused k) ws = ws
