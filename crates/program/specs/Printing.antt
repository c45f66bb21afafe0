-- What is due on standard output: the report of what was read, with the leaks behind it where they are asked for, from where the last write left off. Assumes nothing.
use Rattle.std.specs.Prelude.{ℕ, ◌+◌, ◌≡◌, Bool, true, false, not, ◌||◌, List, [], ◌++◌, eqb, ◌≤◌, Option, Some, None, IfSome, length, take, drop}
use Rattle.history.specs.Report.{report}
use Rattle.history.specs.Runs.{program_room}
use Rattle.demands.specs.Leaks.{report_and_leaks}
use Rattle.program.specs.declared.streams.Streams.{Streams}

-- what an input has printed
unfoldable pub output : Bool → List ℕ → List ℕ
output true input = report_and_leaks program_room input
output false input = report program_room input

-- what was read is some input of so many bytes, and this holds of its output whatever is read behind it, which is nothing where it has ended
pub record Reports (s : Streams) (Says : List ℕ → Type 0) : Type 0 where
  pub input : List ℕ
  pub read : length input ≡ s.read
  pub says : (more : List ℕ) → (s.ended ≡ true → more ≡ []) → Says (output s.leaks (input ++ more))

-- these bytes come next in it
unfoldable pub Due : Streams → List ℕ → Type 0
Due s bytes = Reports s (λ out. take (length bytes) (drop s.printed out) ≡ bytes)

-- it was printed whole
unfoldable pub Whole : Streams → Type 0
Whole s = Reports s (λ out. s.printed ≡ length out)

-- at the end, where no call failed
unfoldable pub Reported : Streams → Type 0
Reported s = s.unreadable ≡ false → s.unwritable ≡ false → Whole s

-- ---- the calls

abbrev pub nothing_yet : Bool → Streams
nothing_yet leaks = record { leaks = leaks; read = 0; ended = false; unreadable = false; printed = 0; unwritable = false }

-- so many bytes were moved in all: these are the streams after the last call
abbrev pub Newest : Streams → ℕ → Type 0
Newest s moved = moved ≡ s.read + s.printed

-- after a read that gave so many bytes, or failed. One that gave nothing is the end of the input, and one that failed is not
abbrev pub with_read : Streams → Option ℕ → Streams
with_read s (Some n) = record { leaks = s.leaks; read = s.read + n; ended = eqb n 0; unreadable = s.unreadable; printed = s.printed; unwritable = s.unwritable }
with_read s None = record { leaks = s.leaks; read = s.read; ended = s.ended; unreadable = true; printed = s.printed; unwritable = s.unwritable }

-- after some answer of `read`, which was lent so many bytes
pub record HasRead (s : Streams) (room : ℕ) (q : Streams) : Type 0 where
  pub answer : Option ℕ
  pub moved : IfSome answer (λ n. n ≤ room)
  pub after : q ≡ with_read s answer

-- after an answer of `write_all`: whether all of so many bytes were written. A write that failed is not forgotten
abbrev pub with_printed : Streams → ℕ → Bool → Streams
with_printed s n written = record { leaks = s.leaks; read = s.read; ended = s.ended; unreadable = s.unreadable; printed = s.printed + n; unwritable = s.unwritable || not written }

-- after some answer
pub record HasPrinted (s : Streams) (n : ℕ) (q : Streams) : Type 0 where
  pub answer : Bool
  pub after : q ≡ with_printed s n answer
