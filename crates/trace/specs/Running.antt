-- What is known on the way through a trace, from one function to the next. Assumes nothing.
use Rattle.std.specs.Prelude.{ℕ, ◌+◌, ◌*◌, ◌≤◌, ◌≡◌, List, length, take}
use Rattle.words.specs.Choice.{if_true◌then◌else◌}
use Rattle.numbers.specs.Writing.{put, has_room}
use Rattle.lines.specs.Numbered.{number_of}
use Rattle.history.specs.Replies.{most_lines}
use Rattle.answers.specs.Answer.{most_found}
use Rattle.tables.specs.Tables.{Tables}
use Rattle.demands.specs.Calls.{report_in}
use Rattle.run.specs.declared.Passed.{Passed}
use Rattle.run.specs.declared.Stop.{Stop}
use Rattle.trace.specs.declared.Run.{Run}
use Rattle.trace.specs.Whole.{run_of}

-- the bytes at a place, or nothing written where there is no room
unfoldable pub put_fitting : List ℕ → ℕ → List ℕ → List ℕ
put_fitting d at bs = if_true has_room d at bs then put d at bs else d

-- findings are put into a slice of this size before they are copied
abbrev pub scratch_size : ℕ
scratch_size = 4096

-- these are the findings of so many lines
pub record Few (r : Run) (lines : ℕ) : Type 0 where
  pub findings : r.findings ≤ most_found * lines
  pub bytes : r.bytes ≤ scratch_size * lines

-- the number in the last line: that of the refusal, or 0
abbrev pub number_in : Stop → ℕ
number_in (Stop.Refused k) = number_of k
number_in Stop.Full = 0
number_in Stop.More = 0
number_in Stop.End = 0

-- after one call of the loop, which has left its findings at the front of `scratch`
pub record PassesOn (r : Run) (p : Passed) (scratch out : List ℕ) (q : Run) (out' : List ℕ) : Type 0 where
  pub at : q.at ≡ r.at + p.taken
  pub findings : q.findings ≡ r.findings + p.findings
  pub bytes : q.bytes ≡ r.bytes + p.put
  pub shown : out' ≡ put_fitting out r.bytes (take p.put scratch)

-- all sums on the way fit
pub record SumsFit (trace : List ℕ) (r : Run) (p : Passed) : Type 0 where
  pub at : r.at + p.taken ≤ length trace
  pub findings : r.findings + p.findings ≤ most_found * most_lines
  pub bytes : r.bytes + p.put ≤ scratch_size * most_lines
  pub put : p.put ≤ scratch_size

-- the report is so long, and stands at the front of the bytes lent where it has room there
pub record Measured (T : Tables) (trace out : List ℕ) (width : ℕ) (T' : Tables) (out' : List ℕ) : Type 0 where
  pub long : width ≡ length (report_in T trace)
  pub left : T' ≡ (run_of T trace).left
  pub shown : width ≤ length out → out' ≡ put out 0 (report_in T trace)
