-- `numbers::place_of` meets its contract. Assumes nothing.
use Rattle.std.proofs.Common.{rules, tests}
use Rattle.std.proofs.lemmas.Iterator.{YieldsList-from_slice}
use Rattle.std.proofs.lemmas.Iterator.Search.{position_from_yields_List}
use Rattle.std.specs.Prelude.{ℕ, ◌==◌}
use Rattle.numbers.proofs.Run.{first_or_end}
use Rattle.numbers.proofs.place_of.Goals as goal

pub returns : goal.returns
returns c =
    let xs = c.args.s.now in
    let test = λ (b : ℕ). b == c.args.stop in
    let e = position_from_yields_List test _ _ _ c.position.ensures.ran (YieldsList-from_slice xs cc) (λ x b q k. search (rules, tests)) in
    rw (c.unwrap_or.ensures, e) (first_or_end test xs)
