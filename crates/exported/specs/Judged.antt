-- What C and Rust are told of a whole trace: a length, the tables left, and the bytes left. Assumes nothing.
use Rattle.std.specs.Prelude.{ℕ, ◌≤◌, ◌<◌, ◌≡◌, List, Result, Ok, Err}
use Rattle.tables.specs.Tables.{Tables}
use Rattle.trace.specs.declared.Unreported.{Unreported}
use Rattle.trace.specs.Whole.{Outcome}

pub record Judged : Type 0 where
  pub number : ℕ
  pub left : Tables
  pub out : List ℕ

abbrev pub judges : ℕ → Tables → List ℕ → Judged
judges n T bs = record { number = n; left = T; out = bs }

-- how long the report is, written or not; 0 over a short book or class table
abbrev pub length_told : Result ℕ Unreported → ℕ
length_told (Ok n) = n
length_told (Err (Unreported.Needs n)) = n
length_told (Err Unreported.ShortTables) = 0

-- of what the judging of a trace answers and leaves
unfoldable pub judged : Outcome → Judged
judged o = judges (length_told o.reply) o.tables o.out

-- what is told beside the slice's length: a report that stands there, one that is too long for it, and 0
unfoldable pub Apart : Result ℕ Unreported → ℕ → ℕ → Type 0
Apart (Ok n) told room = (0 < told) × (told ≤ room)
Apart (Err (Unreported.Needs n)) told room = room < told
Apart (Err Unreported.ShortTables) told room = told ≡ 0
