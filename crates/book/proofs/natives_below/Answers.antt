-- `book::natives_below` meets its contract. Assumes nothing.
use Rattle.std.proofs.Common.{◌∙◌, rules, tests, arith}
use Rattle.std.proofs.lemmas.Iterator.{YieldsList-from_range}
use Rattle.std.proofs.lemmas.Iterator.Consumers.{YieldsList-at, YieldsList-from_filter, count_from_yields_List}
use Rattle.rows.specs.Marks.{bit}
use Rattle.book.proofs.Natives.{passing}
use Rattle.book.proofs.natives_below.Goals as goal

pub returns : goal.returns
returns c =
    count_from_yields_List c.filter.result _ c.count.ensures.ran
    (YieldsList-from_filter _ (bit c.args.marks) (YieldsList-at c.filter.ensures.source (YieldsList-from_range 0 c.args.n c.args.n (cc) (omega arith))) c.filter.ensures.closure (λ x r q k. search (rules, tests)))
    ∙ passing (bit c.args.marks) c.args.n
