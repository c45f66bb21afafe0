-- What the judging of a whole lent trace answers, and what it leaves. Assumes nothing.
use Rattle.std.specs.Prelude.{ℕ, Bool, ◌||◌, List, [], ltb, length, Result, Ok, Err}
use Rattle.words.specs.Choice.{if_true◌then◌else◌}
use Rattle.numbers.specs.Writing.{put, has_room}
use Rattle.history.specs.Report.{lines_of, report}
use Rattle.classes.specs.Supers.{is_short}
use Rattle.book.specs.Layout.{whole}
use Rattle.tables.specs.Tables.{Tables}
use Rattle.tables.specs.Stepping.{start_of}
use Rattle.demands.specs.Calls.{room_of, Ran, run_in}
use Rattle.trace.specs.declared.Unreported.{Unreported}

-- the run of the trace over these tables
unfoldable pub run_over : Tables → List ℕ → Ran
run_over T trace = run_in T [] (lines_of trace)

-- from a start
abbrev pub run_of : Tables → List ℕ → Ran
run_of T trace = run_over (start_of T) trace

-- the reply, the tables left and the bytes left
pub record Outcome : Type 0 where
  pub reply : Result ℕ Unreported
  pub tables : Tables
  pub out : List ℕ

abbrev pub leaves : Result ℕ Unreported → Tables → List ℕ → Outcome
leaves r T out = record { reply = r; tables = T; out = out }

-- the thread book or the class table is short
abbrev pub short_tables : Tables → Bool
short_tables T = ltb (length T.book) whole || is_short T.classes

-- a short book or class table, and nothing is touched; else the tables are left as the run left them, and the history's report stands at the start of the slice, or, where that is short, nothing is written and its length is told
unfoldable pub whole_outcome : Tables → List ℕ → List ℕ → Outcome
whole_outcome T trace out =
    if_true short_tables T then leaves (Err Unreported.ShortTables) T out
    else if_true has_room out 0 (report (room_of T) trace) then
    leaves (Ok (length (report (room_of T) trace))) (run_of T trace).left (put out 0 (report (room_of T) trace))
    else leaves (Err (Unreported.Needs (length (report (room_of T) trace)))) (run_of T trace).left out
