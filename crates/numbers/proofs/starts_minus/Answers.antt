-- `numbers::starts_minus` meets its contract. Assumes nothing.
use mathlib.Core.Path.{ap, ◌∙◌}
use mathlib.Core.Bool.{not, ◌&&◌}
use lib.Dec.{eqb}
use Rattle.numbers.specs.Decimal.{minus_sign}
use Rattle.numbers.proofs.Number.{no_minus_at_end, minus_at}
use Rattle.numbers.proofs.starts_minus.Goals as goal

pub returns-in-Some : goal.returns-in-Some
returns-in-Some c =
    let h = c.in-Some.ensures.lookup.3 in
    ap (λ b. eqb b minus_sign && not (eqb c.args.stop minus_sign)) (h.1 0) ∙ minus_at c.args.s.now c.args.at c.args.stop h.0

pub returns-in-None : goal.returns-in-None
returns-in-None c = no_minus_at_end c.args.s.now c.args.at c.args.stop c.in-None.ensures.lookup.3
