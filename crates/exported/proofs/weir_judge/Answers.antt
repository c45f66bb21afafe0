-- `exported::weir_judge` meets its contract. Assumes nothing.
use Rattle.exported.proofs.Judging.{judging_told}
use Rattle.exported.proofs.weir_judge.Goals as goal

pub returns : goal.returns
returns c = judging_told c.judge_trace-reported.ensures c.length_told.ensures
