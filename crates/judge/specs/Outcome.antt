-- What a call of the step answers and leaves, as the code has it. Assumes nothing.
use Rattle.std.specs.Prelude.{ℕ, List, leb}
use Rattle.words.specs.Choice.{if_true◌then◌else◌}
use Rattle.history.specs.Replies.{most_lines}
use Rattle.book.specs.Threads.{lines_in}
use Rattle.tables.specs.Tables.{Tables}
use Rattle.tables.specs.Stepping.{unfit_tables, step_of}
use Rattle.events.specs.Outcome.{Outcome, outcome}

-- of a call of the step
unfoldable pub step_outcome : Tables → List ℕ → Outcome
step_outcome T bs = outcome (step_of T bs)

-- 8 and line 1,000,001 are told from book and classes alone; 0 for neither
unfoldable pub by_tables : Tables → ℕ
by_tables T = if_true unfit_tables T then 8 else if_true leb most_lines (lines_in T.book) then 1 else 0
