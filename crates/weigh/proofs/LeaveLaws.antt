-- What the code finds of X. Assumes nothing.
use Prim.Native.Nat.{ℕ}
use mathlib.Core.Path.{◌≡◌, ap, ◌∙◌}
use mathlib.Core.Bool.{false}
use Rattle.std.specs.Prelude.{Option, None}
use Rattle.facts.specs.declared.Place.TheVariants as Place
use Rattle.history.specs.Breaches.{place_rule}
use Rattle.answers.specs.declared.Findings.{Findings}
use Rattle.answers.specs.Answer.{findings_of}
use Rattle.answers.specs.Listed.{listed}
use Rattle.sight.specs.declared.leave.LeaveSight.{LeaveSight}
use Rattle.weigh.specs.Leave.{judged_leave}

pub leave_found : (line r : ℕ) (s : LeaveSight) (rule : Option ℕ) (y : Findings) → rule ≡ place_rule Place.HandleOrNull r s.result.there s.result.fits
    → y ≡ findings_of (listed (record { line = line; foreign = false; env = 0; pending = false; critical = s.critical; unheld = false; unpushed = false; rule1 = rule; a = r; rule2 = None; b = 0; rule3 = None; c = 0 }))
    → y ≡ findings_of (listed (judged_leave line r s))
unfolding judged_leave
leave_found line r s rule y e k =
    k
    ∙ ap (λ (n : Option ℕ). findings_of (listed (record { line = line; foreign = false; env = 0; pending = false; critical = s.critical; unheld = false; unpushed = false; rule1 = n; a = r; rule2 = None; b = 0; rule3 = None; c = 0 }))) e
