-- A run of the program, from one function to the next. Assumes nothing.
use Rattle.std.specs.Prelude.{ℕ, ◌+◌, ◌*◌, ◌-◌, ◌≤◌, ◌≡◌, true, false, List, Option, Some, None, length, take, drop}
use Rattle.lines.specs.Line.{longest}
use Rattle.lines.specs.Numbered.{number_of}
use Rattle.lines.specs.declared.refusal.Refusal.{Refusal}
use Rattle.history.specs.Replies.{most_lines}
use Rattle.history.specs.Report.{end_line}
use Rattle.book.specs.Threads.{lines_in, closed_in}
use Rattle.report.specs.Shown.{longest_leak}
use Rattle.tables.specs.Tables.{Tables}
use Rattle.tables.specs.Listing.{leak_numbers}
use Rattle.run.specs.declared.Passed.{Passed}
use Rattle.run.specs.declared.Stop.TheVariants as Stop
use Rattle.program.specs.declared.Run.{Run}
use Rattle.program.specs.declared.Why.{Why}
use Rattle.program.specs.declared.streams.Streams.{Streams}
use Rattle.program.specs.Printing.{Reports, Due, with_read, with_printed, HasPrinted}
use Rattle.program.specs.Progress.{buffer_size, most_findings, most_leaks, Few}
use Rattle.program.specs.Listing.{listing_of, records_in, shown_from}

-- why a run stops: the input was judged, or a call failed
abbrev pub at_judged : Option Why
at_judged = Some Why.Judged

abbrev pub at_failure : Option Why
at_failure = Some Why.Failed

pub data Failed (s : Streams) : Type 0 where
  not_read : s.unreadable ≡ true → Failed s
  not_written : s.unwritable ≡ true → Failed s

abbrev pub unread_in : List ℕ → Run → List ℕ
unread_in buf r = take (r.to - r.from) (drop r.from buf)

-- the unread bytes stand in the buffer, and are few where more are read
pub record Unread (r : Run) : Type 0 where
  pub ordered : r.from ≤ r.to
  pub few : r.to - r.from ≤ longest
  pub within : r.to ≤ buffer_size
  pub streams : Few r.streams 0

-- a read gave n bytes behind those that were unread
pub record Reads (r : Run) (buf : List ℕ) (q : Run) (buf' : List ℕ) (n : ℕ) : Type 0 where
  pub from : q.from ≡ 0
  pub to : q.to ≡ (r.to - r.from) + n
  pub within : q.to ≤ buffer_size
  pub kept : take (r.to - r.from) buf' ≡ unread_in buf r
  pub streams : q.streams ≡ with_read r.streams (Some n)
  pub findings : q.findings ≡ r.findings
  pub refusal : q.refusal ≡ r.refusal
  pub stop : q.stop ≡ r.stop

-- a call failed
pub record Fails (r q : Run) : Type 0 where
  pub stop : q.stop ≡ at_failure
  pub why : Failed q.streams
  pub leaks : q.streams.leaks ≡ r.streams.leaks

pub data MoreRead (r : Run) (buf : List ℕ) (q : Run) (buf' : List ℕ) : Type 0 where
  has_read : (n : ℕ) → Reads r buf q buf' n → MoreRead r buf q buf'
  has_failed : Fails r q → MoreRead r buf q buf'

-- what the loop has passed can be counted, and its bytes come next in the report
pub record Fits (r : Run) (p : Passed) (out : List ℕ) : Type 0 where
  pub goes : r.stop ≡ None
  pub taken : r.from + p.taken ≤ r.to
  pub within : r.to ≤ buffer_size
  pub few : p.stop ≡ Stop.More → r.to - (r.from + p.taken) ≤ longest
  pub findings : r.findings + p.findings ≤ most_findings
  pub put : p.put ≤ length out
  pub streams : Few r.streams p.put
  pub due : Due r.streams (take p.put out)

-- with what the loop has passed, which was written
pub record PassesOn (r : Run) (p : Passed) (q : Run) : Type 0 where
  pub from : q.from ≡ r.from + p.taken
  pub to : q.to ≡ r.to
  pub streams : q.streams ≡ with_printed r.streams p.put true
  pub findings : q.findings ≡ r.findings + p.findings
  pub refusal : q.refusal ≡ r.refusal
  pub stop : q.stop ≡ None

-- and the run is at its end
pub record EndsSo (r : Run) (p : Passed) (k : Option Refusal) (q : Run) : Type 0 where
  pub stop : q.stop ≡ at_judged
  pub streams : q.streams ≡ with_printed r.streams p.put true
  pub findings : q.findings ≡ r.findings + p.findings
  pub refusal : q.refusal ≡ k

pub data Turned (r : Run) (p : Passed) (buf : List ℕ) (q : Run) (buf' : List ℕ) : Type 0 where
  is_full : p.stop ≡ Stop.Full → PassesOn r p q → buf' ≡ buf → Turned r p buf q buf'
  wants_more : p.stop ≡ Stop.More → (w : Run) → PassesOn r p w → (n : ℕ) → Reads w buf q buf' n → Turned r p buf q buf'
  is_refused : (k : Refusal) → p.stop ≡ Stop.Refused k → EndsSo r p (Some k) q → Turned r p buf q buf'
  is_at_end : p.stop ≡ Stop.End → EndsSo r p r.refusal q → Turned r p buf q buf'
  failed : Fails r q → Turned r p buf q buf'

-- ---- at the end

-- the number in the last line: that of the refusal, or 0
abbrev pub number_in : Option Refusal → ℕ
number_in (Some k) = number_of k
number_in None = 0

-- the last line, of what stands in the book
abbrev pub last_line : List ℕ → Run → List ℕ
last_line book r = end_line (closed_in book) (lines_in book) (number_in r.refusal) r.findings

-- where a run was judged, the last line can be told and comes next
pub record Last (book : List ℕ) (r : Run) : Type 0 where
  pub findings : r.findings ≤ most_findings
  pub streams : Few r.streams buffer_size
  pub due : Due r.streams (last_line book r)

pub record Finished (book : List ℕ) (r : Run) : Type 0 where
  pub lines : lines_in book ≤ most_lines
  pub last : r.stop ≡ at_judged → Last book r

-- and it was printed; where a call failed it was not
pub data Ends (book : List ℕ) (r : Run) (q : Streams) : Type 0 where
  with_last : r.stop ≡ at_judged → length (last_line book r) ≤ buffer_size → HasPrinted r.streams (length (last_line book r)) q → Ends book r q
  without : (r.stop ≡ at_judged → ⊥) → q ≡ r.streams → Ends book r q

-- ---- the leaks behind it

-- these bytes are what is left to be printed
unfoldable pub Left : Streams → List ℕ → Type 0
Left s bytes = Reports s (λ out. (drop s.printed out ≡ bytes) × (s.printed ≤ length out))

-- n records from number i on are left
pub record RecordsLeft (s : Streams) (ns : List ℕ) (i n : ℕ) : Type 0 where
  pub within : i + n ≤ most_leaks
  pub few : Few s (longest_leak * n)
  pub left : Left s (shown_from ns i n)

-- no call failed
abbrev pub Good : Streams → Type 0
Good s = (s.unreadable ≡ false) × (s.unwritable ≡ false)

-- the leaks are left, listed in whatever slice of that many records
unfoldable pub LeaksLeft : Streams → Tables → Type 0
LeaksLeft s T =
    (ns : List ℕ) → length ns ≡ most_leaks * leak_numbers → Good s → RecordsLeft s (listing_of s.leaks T ns).left 0 (records_in (listing_of s.leaks T ns).reply)
