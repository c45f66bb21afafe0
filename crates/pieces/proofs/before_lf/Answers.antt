-- `pieces::before_lf` meets its contract. Assumes nothing.
use mathlib.Core.Path.{ap, ◌∙◌}
use lib.ListN.{take}
use Rattle.words.specs.Lists.{place_of}
use Rattle.pieces.specs.Pieces.{ends_line, before_lf}
use Rattle.pieces.proofs.FirstLf.{take_least}
use Rattle.pieces.proofs.before_lf.Goals as goal

pub returns : goal.returns
unfolding before_lf
returns c = let xs = c.args.s.now in c.first_lf.ensures ∙ ap (λ k. place_of ends_line (take k xs)) c.min.ensures ∙ ap (place_of ends_line) (take_least 224 xs)
