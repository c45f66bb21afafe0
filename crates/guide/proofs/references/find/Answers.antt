-- `guide::references::find` meets its contract. Assumes nothing.
use Rattle.std.proofs.Common.{rules}
use Rattle.rows.specs.References.{references, is_handle}
use Rattle.guide.specs.References.{found_in}
use Rattle.guide.proofs.NamedLaws.{told_some, told_none}
use Rattle.guide.proofs.references.find.Goals as goal

pub returns-in-Some : goal.returns-in-Some
returns-in-Some c = unfold found_in in told_some references (is_handle c.args.t c.args.h) _ _ _ _ _ _ _ _ c.places_of-first.ensures.0 c.places_of-first.ensures.1 c.in-Some.is (c.find-listed.ensures (is_handle c.args.t c.args.h) (λ x b e. search rules))

pub returns-in-None : goal.returns-in-None
returns-in-None c = unfold found_in in told_none references (is_handle c.args.t c.args.h) _ _ _ _ _ _ _ _ c.places_of-first.ensures.0 c.places_of-first.ensures.1 c.in-None.is (c.find-listed.ensures (is_handle c.args.t c.args.h) (λ x b e. search rules)) c.find.ensures
