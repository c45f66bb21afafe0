-- `rows::clear_row` meets its contract. Assumes nothing.
use native.Mathlib.Omega.{arith}
use Rattle.std.proofs.Common.{rules}
use Rattle.rows.proofs.CellLaws.{zeros_back}
use Rattle.rows.proofs.clear_row.Goals as goal

pub returns : goal.returns
returns c = zeros_back _ _ _ _ (omega arith) (c.fill.ensures.after (λ y e. search rules))
