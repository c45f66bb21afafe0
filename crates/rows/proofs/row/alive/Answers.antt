-- `rows::row::alive` meets its contract. Assumes nothing.
use native.Mathlib.Omega.{arith}
use Rattle.rows.specs.Table.{room}
use Rattle.rows.proofs.TableLaws.{alive_rows}
use Rattle.rows.proofs.row.alive.Goals as goal

pub used_below-requires : goal.used_below-requires
used_below-requires g c = unfold room in omega arith

pub returns : goal.returns
returns g c = search alive_rows
