-- The answer to a line as the code has it, and the reply that it is. Assumes nothing.
use Rattle.std.specs.Prelude.{ℕ, ◌+◌, min, Bool, List, ◌++◌, leb, length, set, take, replicate, Result, Ok, Err}
use Rattle.words.specs.Choice.{if_true◌then◌else◌}
use Rattle.lines.specs.Numbered.{refusal_of}
use Rattle.lines.specs.declared.refusal.Refusal.{Refusal}
use Rattle.history.specs.Replies.{Reply, accepted, not_accepted}
use Rattle.history.specs.declared.Finding.{Finding}
use Rattle.answers.specs.declared.Findings.{Findings}

abbrev pub Answer : Type 0
Answer = Result Findings Refusal

-- a line has at most six findings
abbrev pub most_found : ℕ
most_found = 6

abbrev pub no_finding : Finding
no_finding = record { line = 0; rule = 0; place = 0; thing = 0 }

abbrev pub no_findings : List Finding
no_findings = replicate most_found no_finding

abbrev pub refused_with : ℕ → Answer
refused_with k = Err (refusal_of k)

-- the findings in their order, and nothing behind them
unfoldable pub findings_of : List Finding → Findings
findings_of fs = record { count = min (length fs) most_found; found = take most_found (fs ++ no_findings) }

abbrev pub answer_of : List Finding → Answer
answer_of fs = Ok (findings_of fs)

-- what a reply is in the code
abbrev pub answered : Reply → Answer
answered (accepted fs) = answer_of fs
answered (not_accepted k) = refused_with k

-- one finding more, where there is a place for it
unfoldable pub with_found : Findings → Finding → Findings
with_found x f =
    if_true leb most_found x.count then x
    else record { count = x.count + 1; found = set x.found x.count f }

unfoldable pub found_if : Findings → Bool → ℕ → ℕ → ℕ → ℕ → Findings
found_if x is line rule place thing =
    if_true is then with_found x (record { line = line; rule = rule; place = place; thing = thing }) else x
