-- `facts::is_critical` meets its contract. Assumes nothing.
use borrow.Author.Rules.{rules}
use Rattle.facts.specs.Table.{is_critical}
use Rattle.facts.proofs.is_critical.Goals as goal

pub returns : goal.returns
unfolding is_critical
returns c = search rules
