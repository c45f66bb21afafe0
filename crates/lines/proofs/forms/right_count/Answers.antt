-- `lines::forms::right_count` meets its contract. Assumes nothing.
use mathlib.Core.Path.{ap}
use mathlib.Core.Bool.{◌&&◌}
use lib.Dec.{leb}
use Rattle.lines.specs.declared.forms.Counts.{Counts}
use Rattle.lines.proofs.forms.right_count.Goals as goal

pub returns : goal.returns
returns c =
    let n = c.args.n in
    ap (λ (x : Counts). leb x.least n && leb n x.most) c.counts_of-c.ensures
