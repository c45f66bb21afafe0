-- `rows::references::find` meets its contract. Assumes nothing.
use Rattle.std.proofs.Common.{rules}
use Rattle.rows.specs.References.{has_handle, is_handle}
use Rattle.rows.proofs.references.find.Goals as goal

pub returns : goal.returns
returns c = c.find.ensures (has_handle c.args.h) (is_handle c.args.t c.args.h) (λ x b e. search rules) (λ x b e. search rules) (λ x e. rw e)
