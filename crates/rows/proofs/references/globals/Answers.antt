-- `rows::references::globals` meets its contract. Assumes nothing.
use Rattle.std.proofs.Common.{rules}
use Rattle.rows.specs.References.{references, of_thread}
use Rattle.rows.proofs.TableLaws.{counted_all}
use Rattle.rows.proofs.references.globals.Goals as goal

pub returns : goal.returns
returns c = counted_all references _ _ _ _ c.room.ensures (c.count_first.ensures.1 (of_thread 0) (λ x b e. search rules))
