-- `rows::references::Reference::read` meets its contract. Assumes nothing.
use native.Mathlib.Nat.{add-zero}
use Rattle.rows.specs.Table.{cell, row, row_at}
use Rattle.rows.proofs.references.ReferenceRow.read.Goals as goal

pub returns : goal.returns
returns c = unfold row_at row cell in simp add-zero
