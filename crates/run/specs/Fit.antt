-- All that refusal 8 looks at is well, but for the one thread that was touched since it was looked at. Assumes nothing.
use Rattle.std.specs.Prelude.{ℕ, ◌≤◌, ◌≡◌, false, length}
use Rattle.lines.specs.Line.{threads}
use Rattle.history.specs.Replies.{most_lines}
use Rattle.classes.specs.Supers.{is_short}
use Rattle.book.specs.Layout.{whole}
use Rattle.book.specs.Threads.{lines_in}
use Rattle.book.specs.Unfit.{overdone_in}
use Rattle.tables.specs.Tables.{Tables}

-- t is no thread where none was touched
pub record FitBut (T : Tables) (t : ℕ) : Type 0 where
  pub long : whole ≤ length T.book
  pub lines : lines_in T.book ≤ most_lines
  pub others : (s : ℕ) → 1 ≤ s → s ≤ threads → (s ≡ t → ⊥) → overdone_in T.book s ≡ false
  pub classes : is_short T.classes ≡ false
