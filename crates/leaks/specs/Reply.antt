-- What is told of a listing. Assumes nothing.
use Rattle.std.specs.Prelude.{ℕ, Result, Ok, Err}
use Rattle.lines.specs.Numbered.{number_of}
use Rattle.lines.specs.declared.refusal.Refusal.{Refusal}
use Rattle.tables.specs.Listing.{Listed, written, not_written}

abbrev pub reply_of : Result ℕ Refusal → Listed
reply_of (Ok n) = written n
reply_of (Err k) = not_written (number_of k)
