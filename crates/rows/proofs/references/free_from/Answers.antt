-- `rows::references::free_from` meets its contract. Assumes nothing.
use native.Mathlib.Omega.{arith}
use Rattle.rows.specs.References.{references}
use Rattle.rows.specs.Table.{room}
use Rattle.rows.proofs.FreeLaws.{lowest_from, none_from}
use Rattle.rows.proofs.references.free_from.Goals as goal

pub returns-then-w : goal.returns-then-w
returns-then-w c = none_from references _ _ _ _ c.room-n.ensures (omega arith)

pub free_below-requires : goal.free_below-requires
free_below-requires c = unfold room in omega arith

pub returns : goal.returns
returns c = lowest_from references _ _ _ _ _ c.room-n.ensures c.free_below.ensures
