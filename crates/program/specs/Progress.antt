-- Why the program ends: a turn that goes on has accepted a line, has read a byte or has found the end of the input, and a byte read is one of at most 225
-- of an accepted line or one of a buffer of those that are unread. Assumes nothing.
use Rattle.std.specs.Prelude.{ℕ, suc, ◌+◌, ◌*◌, ◌-◌, ◌≤◌, Bool, true, false}
use Rattle.lines.specs.Line.{longest}
use Rattle.history.specs.Replies.{most_lines}
use Rattle.history.specs.Runs.{program_room}
use Rattle.book.specs.Threads.{lines_in}
use Rattle.answers.specs.Answer.{most_found}
use Rattle.report.specs.Shown.{longest_leak}
use Rattle.tables.specs.Tables.{Tables}
use Rattle.program.specs.declared.Run.{Run}
use Rattle.program.specs.declared.streams.Streams.{Streams}

abbrev pub buffer_size : ℕ
buffer_size = 262144

abbrev pub most_findings : ℕ
most_findings = most_found * most_lines

-- what all accepted lines and the unread bytes have
abbrev pub most_read : ℕ
most_read = suc longest * most_lines + buffer_size

-- each row holds one
abbrev pub most_leaks : ℕ
most_leaks = program_room.references + program_room.pins

abbrev pub most_leaked : ℕ
most_leaked = longest_leak * most_leaks

-- a buffer for the findings of each accepted line, one for the last line, and the leaks
abbrev pub most_printed : ℕ
most_printed = buffer_size * suc most_lines + most_leaked

-- with n bytes more to be printed
pub record Few (s : Streams) (n : ℕ) : Type 0 where
  pub read : s.read ≤ most_read
  pub printed : s.printed + n ≤ most_printed

unfoldable pub lines_accepted : Tables → ℕ
lines_accepted T = lines_in T.book

abbrev pub one_if : Bool → ℕ
one_if true = 1
one_if false = 0

-- for each accepted line its bytes and one more, the bytes that are unread, and one for the end
abbrev pub come_by : Tables → Run → ℕ
come_by T r = suc (suc longest) * lines_accepted T + (r.to - r.from) + one_if r.streams.ended

-- never more than this
abbrev pub most_come_by : ℕ
most_come_by = suc (suc longest) * most_lines + buffer_size + 1
