-- `rows::pins::Pin::write` meets its contract. Assumes nothing.
use native.Mathlib.Numerals.{towards_suc}
use Rattle.rows.specs.Table.{put_row}
use Rattle.rows.proofs.pins.PinRow.write.Goals as goal

pub returns : goal.returns
returns c = unfold put_row in simp towards_suc
