-- `rows::references::end_if` meets its contract. Assumes nothing.
use Rattle.std.proofs.Common.{rules}
use Rattle.rows.specs.References.{from_frame, references}
use Rattle.rows.proofs.TableLaws.{end_fails, end_passes}
use Rattle.rows.proofs.references.end_if.Goals as goal

pub returns-then-holds : goal.returns-then-holds
returns-then-holds c = end_passes references (from_frame c.args.t c.args.f) _ _ _ _ (c.holds.ensures (from_frame c.args.t c.args.f) (λ x b e. search rules)) c.if-holds.true c.end.ensures

pub returns-else-holds : goal.returns-else-holds
returns-else-holds c = end_fails references (from_frame c.args.t c.args.f) _ _ _ (c.holds.ensures (from_frame c.args.t c.args.f) (λ x b e. search rules)) c.if-holds.false
