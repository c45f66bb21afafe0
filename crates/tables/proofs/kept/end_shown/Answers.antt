-- `tables::kept::end_shown` meets its contract. Assumes nothing.
use Rattle.rows.specs.References.{references, from_frame}
use Rattle.tables.proofs.Ending.{unshown_stays}
use Rattle.tables.proofs.kept.end_shown.Goals as goal

pub returns-else-shown-w-eq1-clause-left : goal.returns-else-shown-w-eq1-clause-left
returns-else-shown-w-eq1-clause-left c = λ own shown. unshown_stays references (from_frame _ _) _ _ _ _ shown c.requires.0 c.requires.1 c.if-shown-w-eq1.false
