-- The leaks after a history, and what is listed and printed of them. Assumes nothing.
use Rattle.std.specs.Prelude.{ℕ, not, List, [], ◌++◌}
use Rattle.words.specs.Choice.{if_true◌then◌else◌}
use Rattle.words.specs.Lists.{joined}
use Rattle.rows.specs.Slots.{held}
use Rattle.history.specs.Past.{History, closed}
use Rattle.history.specs.Leaks.{Leak, leaks_of, shown_leak}
use Rattle.history.specs.Acceptance.{Room}
use Rattle.history.specs.Report.{run, lines_of, report}
use Rattle.tables.specs.Listing.{Listing, lists, not_written, list_into}
use Rattle.demands.specs.PastRows.{reference_rows, pin_rows}

-- each outstanding buffer, each global or weak alive. Of several equal buffers a release ends the lowest row, which need not be the oldest: so which
-- making line stays is settled by the rows of the past, and those by the history
unfoldable pub leaks : History → List Leak
leaks past = leaks_of (held (pin_rows past)) (held (reference_rows past))

-- the list call: 4 before Z, then 7
unfoldable pub list_after : History → List ℕ → Listing
list_after past ns = if_true not (closed past) then lists (not_written 4) ns else list_into (leaks past) ns

-- ---- what is printed

-- without Z nothing is listed
unfoldable pub shown_leaks : History → List ℕ
shown_leaks past = if_true closed past then joined (leaks past) shown_leak else []

-- the report as ever, then the leaks of the accepted lines
unfoldable pub report_and_leaks : Room → List ℕ → List ℕ
report_and_leaks room input = report room input ++ shown_leaks (run room [] (lines_of input)).accepted
