-- `rows::row::lowest_free` meets its contract. Assumes nothing.
use native.Mathlib.Omega.{arith}
use Rattle.rows.specs.Table.{room}
use Rattle.rows.proofs.FreeLaws.{lowest_of_all}
use Rattle.rows.proofs.row.lowest_free.Goals as goal

pub free_below-requires : goal.free_below-requires
free_below-requires g c = unfold room in omega arith

pub returns : goal.returns
returns g c = search lowest_of_all
