-- `numbers::skip` meets its contract. Assumes nothing.
use Rattle.numbers.proofs.Run.{skips}
use Rattle.numbers.proofs.skip.Goals as goal

pub returns : goal.returns
returns c = skips c.args.stop c.args.s.now c.args.at c.place_of-n.ensures c.all_digits.ensures c.out_or_bad.ensures
