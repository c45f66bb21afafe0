-- What the loop keeps: what was judged, the same slices, rows that are looked up as before, and a book that is fit but for one thread. Assumes nothing.
use Prim.Native.Nat.{ℕ, ◌-◌, ◌<◌}
use mathlib.Core.Path.{◌≡◌, refl}
use mathlib.Core.Bool.{Bool}
use mathlib.Core.List.{List}
use lib.ListN.{take, drop}
use Rattle.tables.specs.declared.Lent.{Lent}
use Rattle.tables.specs.Lent.{tables_of, Same, Led}
use Rattle.tables.proofs.Lending.{same_still}
use Rattle.answers.specs.Answer.{Answer}
use Rattle.events.specs.Outcome.{leaves}
use Rattle.judge.specs.Outcome.{step_outcome}
use Rattle.run.specs.declared.Way.{Way}
use Rattle.run.specs.Way.{Heard}
use Rattle.run.specs.Fit.{FitBut}
use Rattle.run.proofs.Going.{Going, going_on}

pub record Guided (ended : Bool) (l : Lent) (s out : List ℕ) (w : Way) (k : Lent) (out' : List ℕ) (t : ℕ) : Type 0 where
  pub same : Same k l
  pub led : Led k
  pub going : Going ended (tables_of l) s out w (tables_of k) out'
  pub fit : FitBut (tables_of k) t

pub same_self : (l : Lent) → Same l l
same_self l = record { rows = refl; marks = refl; guide = refl; pins = refl; pinmarks = refl; pinguide = refl; book = refl; classes = refl; guide_length = refl; pinguide_length = refl }

-- one line more
pub guided_on : {ended : Bool} {l k k' : Lent} {s out out1 out' : List ℕ} {w q : Way} {a : Answer} {t t' : ℕ} → Guided ended l s out w k out1 t
    → w.at < w.to → leaves a (tables_of k') ≡ step_outcome (tables_of k) (take (w.to - w.at) (drop w.at s)) → Same k' k → Led k'
    → FitBut (tables_of k') t' → Heard ended s a w out1 q out' → Guided ended l s out q k' out' t'
guided_on g some h same led fit heard = record { same = same_still same g.same; led = led; going = going_on g.going some h heard; fit = fit }
