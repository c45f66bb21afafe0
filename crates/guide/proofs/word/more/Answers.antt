-- `guide::word::more` meets its contract. Assumes nothing.
use Rattle.guide.proofs.Steps.{one_more, no_more}
use Rattle.guide.proofs.word.more.Goals as goal

pub returns-then-n-lt-MOST : goal.returns-then-n-lt-MOST
returns-then-n-lt-MOST c = one_more _ _ _ _ c.number_at-n.ensures c.if-n-lt-MOST.true c.put_word.ensures

pub returns-else-n-lt-MOST : goal.returns-else-n-lt-MOST
returns-else-n-lt-MOST c = no_more _ _ _ c.number_at-n.ensures c.if-n-lt-MOST.false
