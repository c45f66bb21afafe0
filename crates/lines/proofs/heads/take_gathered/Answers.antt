-- `lines::heads::take_gathered` meets its contract. Assumes nothing.
use mathlib.Core.Path.{ap, sym, ◌∙◌}
use mathlib.Core.Bool.{Bool, ◌&&◌}
use Rattle.lines.proofs.Tests.{both}
use Rattle.lines.proofs.GatheredLaws.{out_made, in_made}
use Rattle.lines.proofs.heads.take_gathered.Goals as goal

pub returns-then-t-right_count : goal.returns-then-t-right_count
returns-then-t-right_count c =
    λ vs. let a = c.args in
    let k = both a.t.out c.right_count.result c.if-t-right_count.true in
    out_made a.letter a.t vs k.0 (sym c.right_count.ensures ∙ k.1)

pub returns : goal.returns
returns c =
    λ vs. let a = c.args in
    in_made a.letter a.t vs (ap (λ (r : Bool). a.t.out && r) (sym c.right_count.ensures) ∙ c.if-t-right_count.false)
