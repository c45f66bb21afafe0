-- `guide::pins::find` meets its contract. Assumes nothing.
use Rattle.std.proofs.Common.{rules}
use Rattle.rows.specs.Pins.{pins, is_buffer}
use Rattle.guide.specs.Pins.{found_in}
use Rattle.guide.proofs.NamedLaws.{told_some, told_none}
use Rattle.guide.proofs.pins.find.Goals as goal

pub returns-in-Some : goal.returns-in-Some
returns-in-Some c = unfold found_in in told_some pins (is_buffer c.args.t c.args.f c.args.b) _ _ _ _ _ _ _ _ c.places_of-first.ensures.0 c.places_of-first.ensures.1 c.in-Some.is (c.find-listed.ensures (is_buffer c.args.t c.args.f c.args.b) (λ x b e. search rules))

pub returns-in-None : goal.returns-in-None
returns-in-None c = unfold found_in in told_none pins (is_buffer c.args.t c.args.f c.args.b) _ _ _ _ _ _ _ _ c.places_of-first.ensures.0 c.places_of-first.ensures.1 c.in-None.is (c.find-listed.ensures (is_buffer c.args.t c.args.f c.args.b) (λ x b e. search rules)) c.find.ensures
