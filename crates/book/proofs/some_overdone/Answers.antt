-- `book::some_overdone` meets its contract. Assumes nothing.
use Rattle.std.proofs.Common.{refl, rules, tests}
use Rattle.std.proofs.lemmas.Iterator.{YieldsList-from_range}
use Rattle.std.proofs.lemmas.Iterator.Search.{any_from_yields_List}
use Rattle.book.specs.Unfit.{overdone_in}
use Rattle.book.proofs.Steps.{unfit_by}
use Rattle.book.proofs.some_overdone.Goals as goal

pub returns : goal.returns
returns c =
    unfit_by _ _ _ c.requires c.lines_of.ensures
    (any_from_yields_List (overdone_in c.args.book.now) c.any.new.self _ _ c.any.ensures.ran
    (YieldsList-from_range 1 17 16 (cc) refl) (λ x b q k. search (rules, tests)))
