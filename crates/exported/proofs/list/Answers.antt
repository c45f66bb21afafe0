-- `exported::list` meets its contract: the findings passed stand at the front. Assumes nothing.
use mathlib.Core.Path.{◌≡◌, refl, ◌∙◌}
use native.Mathlib.Omega.{arith}
use lib.ListN.{length}
use Rattle.exported.proofs.Fronts.{none_put, next_put}
use borrow.Author.Rules.{rules}
use Rattle.exported.proofs.list.Goals as goal

pub loop-at-init : goal.loop-at-init
loop-at-init c = (none_put c.args.answer.found c.args.found.now, refl)

pub loop-at-preserved : goal.loop-at-preserved
loop-at-preserved c = (next_put _ _ _ _ (let six : length c.args.answer.found ≡ 6 = search rules in omega arith) (search rules) c.loop-at.invariant.0 c.put.ensures, c.put.auto.found ∙ c.loop-at.invariant.1)
