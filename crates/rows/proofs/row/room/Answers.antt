-- `rows::row::room` meets its contract. Assumes nothing.
use Rattle.std.proofs.Common.{rules}
use Rattle.rows.specs.Table.{room}
use Rattle.rows.proofs.row.room.Goals as goal

pub returns : goal.returns
returns g c = let e = g.met.R.Row.strides in unfold room in rw e (search rules)
