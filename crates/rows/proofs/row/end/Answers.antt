-- `rows::row::end` meets its contract. Assumes nothing.
use mathlib.Core.Path.{sym, ap, ◌∙◌}
use native.Mathlib.Omega.{arith}
use lib.ListN.{replicate}
use Rattle.rows.specs.Table.{put_row, room, table}
use Rattle.rows.proofs.RowLaws.{in_table}
use Rattle.rows.proofs.TableLaws.{end_none, end_some}
use Rattle.rows.proofs.row.end.Goals as goal

pub clear_row-requires : goal.clear_row-requires
clear_row-requires g c = rw (c.STRIDE.ensures ∙ sym g.met.R.Row.strides) (in_table g.R.Row.layout (table c.args.rows.now c.args.marks.now) _ (omega arith))

pub clear_mark-requires : goal.clear_mark-requires
clear_mark-requires g c = unfold room in omega arith

pub returns-then-r-room : goal.returns-then-r-room
returns-then-r-room g c = end_some g.R.Row.layout _ _ _ _ _ _ c.room.ensures c.if-r-room.true (c.clear_row.ensures ∙ ap (λ k. put_row k c.args.rows.now c.args.r (replicate k 0)) (c.STRIDE.ensures ∙ sym g.met.R.Row.strides)) c.clear_mark.ensures

pub returns-else-r-room : goal.returns-else-r-room
returns-else-r-room g c = search end_none
