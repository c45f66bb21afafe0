-- `guide::word::word_at` meets its contract. Assumes nothing.
use Rattle.std.proofs.Common.{rules}
use Rattle.guide.specs.Listing.{word_at}
use Rattle.guide.proofs.word.word_at.Goals as goal

pub returns : goal.returns
returns c = unfold word_at in search rules
