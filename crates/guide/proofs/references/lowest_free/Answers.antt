-- `guide::references::lowest_free` meets its contract. Assumes nothing.
use mathlib.Core.Path.{ap, ◌∙◌}
use Rattle.rows.specs.Frees.{free_from}
use Rattle.rows.specs.References.{references}
use Rattle.guide.proofs.references.lowest_free.Goals as goal

pub returns : goal.returns
returns c = c.free_from.ensures ∙ ap (free_from references _) c.number_at.ensures
