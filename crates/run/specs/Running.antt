-- The run over a piece of the input, line by line, with the findings behind each other in a lent slice. Assumes nothing.
use Rattle.std.specs.Prelude.{ℕ, ◌+◌, ◌-◌, Bool, List, [], ◌∷◌, ◌++◌, ltb, length}
use Rattle.words.specs.Choice.{if_true◌then◌else◌}
use Rattle.words.specs.Lists.{joined}
use Rattle.numbers.specs.Writing.{put}
use Rattle.lines.specs.Numbered.{refusal_of}
use Rattle.history.specs.Replies.{Reply, accepted, not_accepted}
use Rattle.history.specs.Report.{shown_finding}
use Rattle.history.specs.declared.Finding.{Finding}
use Rattle.report.specs.Shown.{most_shown}
use Rattle.tables.specs.Tables.{Tables}
use Rattle.tables.specs.Stepping.{step_of}
use Rattle.pieces.specs.Pieces.{pieces_of}
use Rattle.run.specs.declared.Passed.{Passed}
use Rattle.run.specs.declared.Stop.{Stop}

-- the bytes of findings
abbrev pub all_shown : List Finding → List ℕ
all_shown fs = joined fs shown_finding

-- where a run has stopped: the tables left, what was found, how many bytes were taken, and why
pub record Run : Type 0 where
  pub left : Tables
  pub found : List Finding
  pub taken : ℕ
  pub stop : Stop

abbrev pub stands : Tables → List Finding → ℕ → Stop → Run
stands T fs at stop = record { left = T; found = fs; taken = at; stop = stop }

-- before a line
abbrev pub stops : Tables → Stop → Run
stops T stop = stands T [] 0 stop

-- behind so many bytes and these findings
abbrev pub behind : List Finding → ℕ → Run → Run
behind fs n r = stands r.left (fs ++ r.found) (n + r.taken) r.stop

abbrev pub go_on : Tables → Reply → (List Finding → Run) → Run
go_on T (not_accepted k) rest = stops T (Stop.Refused (refusal_of k))
go_on T (accepted fs) rest = rest fs

-- the next line is taken where there is room for its findings
unfoldable pub run_lines : Bool → ℕ → Tables → List (List ℕ) → Run
run_lines ended room T [] = stops T (if_true ended then Stop.End else Stop.More)
run_lines ended room T (line ∷ lines) =
    let rest : List Finding → Run = λ fs. behind fs (length line) (run_lines ended (room - length (all_shown fs)) (step_of T line).left lines) in
    if_true ltb room most_shown then stops T Stop.Full else go_on T (step_of T line).reply rest

-- over all pieces of these bytes
unfoldable pub run_of : Bool → ℕ → Tables → List ℕ → Run
run_of ended room T s = run_lines ended room T (pieces_of ended s)

-- the reply, the tables left and the bytes left
pub record Outcome : Type 0 where
  pub reply : Passed
  pub left : Tables
  pub out : List ℕ

abbrev pub leaves : Passed → Tables → List ℕ → Outcome
leaves r T out = record { reply = r; left = T; out = out }

abbrev pub told : Run → Passed
told r = record { taken = r.taken; put = length (all_shown r.found); findings = length r.found; stop = r.stop }

abbrev pub outcome : Run → List ℕ → Outcome
outcome r out = leaves (told r) r.left (put out 0 (all_shown r.found))

unfoldable pub piece_outcome : Bool → Tables → List ℕ → List ℕ → Outcome
piece_outcome ended T s out = outcome (run_of ended (length out) T s) out
