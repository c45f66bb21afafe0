-- `pieces::first_lf` meets its contract. Assumes nothing.
use mathlib.Core.Path.{◌∙◌, sym}
use Rattle.std.proofs.Common.{rules, tests}
use Rattle.std.proofs.lemmas.Iterator.{YieldsList-from_slice}
use Rattle.std.proofs.lemmas.Iterator.Search.{position_from_yields_List}
use Rattle.numbers.proofs.Run.{first_or_end}
use Rattle.pieces.specs.Pieces.{ends_line}
use Rattle.pieces.proofs.FirstLf.{place_is}
use Rattle.pieces.proofs.first_lf.Goals as goal

pub returns : goal.returns
returns c =
    let xs = c.args.s.now in
    let e = position_from_yields_List ends_line _ _ _ c.position.ensures.ran (YieldsList-from_slice xs cc) (λ x b q k. search (rules, tests)) in
    rw (c.unwrap_or.ensures, e) (first_or_end ends_line xs ∙ sym (place_is ends_line xs))
