-- `act::returns::row_of` meets its contract. Assumes nothing.
use Rattle.act.proofs.Returning.{local_row, shared_row}
use Rattle.act.proofs.returns.row_of.Goals as goal
use Rattle.act.proofs.returns.row_of.Goals.{then-is_local_result, else-is_local_result}

pub returns : goal.returns
returns c =
    elim c.if-is_local_result.branch [
      | then-is_local_result w ↦ rw w.thread-is (local_row _ _ _ _ _ _ _ c.is_local_result.ensures w.if-is_local_result.true)
      | else-is_local_result w ↦ rw w.thread-is (shared_row _ _ _ _ _ _ _ c.is_local_result.ensures w.if-is_local_result.false)
    ]
