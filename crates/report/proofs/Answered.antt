-- What is printed of a reply: the findings of an accepted line, nothing of another. Assumes nothing.
use mathlib.Core.Path.{◌≡◌, ap, ◌∙◌}
use mathlib.Core.List.{List, ◌++◌}
use Prim.Native.Nat.{ℕ, ◌≤◌, min}
use native.Mathlib.Omega.{arith}
use lib.ListN.{length, take}
use lib.Seq.{take-take, take-append_seam}
use Rattle.words.specs.Lists.{joined}
use Rattle.history.specs.Report.{shown_finding}
use Rattle.history.specs.declared.Finding.{Finding}
use Rattle.answers.specs.Answer.{most_found, no_findings, findings_of}
use Rattle.report.specs.Shown.{shown_findings}

pub shown_accepted : (fs : List Finding) → length fs ≤ most_found → shown_findings (findings_of fs) ≡ joined fs shown_finding
unfolding shown_findings findings_of
shown_accepted fs h =
    let all : min (length fs) most_found ≡ length fs = omega arith in
    ap (λ (xs : List Finding). joined xs shown_finding)
    (ap (λ (n : ℕ). take n (take most_found (fs ++ no_findings))) all
    ∙ take-take (length fs) most_found (fs ++ no_findings) h
    ∙ take-append_seam fs no_findings)
