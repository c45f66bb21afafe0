-- `book::number` meets its contract. Assumes nothing.
use Rattle.std.proofs.Common.{rules}
use Rattle.std.proofs.lemmas.Option.{unwrap_or-slice_get}
use Rattle.book.specs.Layout.{cell}
use Rattle.book.proofs.number.Goals as goal

pub returns : goal.returns
returns c = unfold cell in search (rules, unwrap_or-slice_get)
