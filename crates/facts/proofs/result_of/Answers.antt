-- `facts::result_of` meets its contract. Assumes nothing.
use mathlib.Core.Path.{refl}
use Rattle.facts.specs.Table.{table, fact_of}
use Rattle.facts.proofs.Tested.{result_there}
use Rattle.facts.proofs.result_of.Goals as goal

pub returns : goal.returns
unfolding table fact_of
returns c = result_there _ _ c.letter.ensures refl c.as_result.ensures
