-- `weigh::steps::may_call` meets its contract. Assumes nothing.
use mathlib.Core.Path.{ap, ◌∙◌}
use mathlib.Core.Bool.{not}
use Rattle.history.specs.Items.{native_or_attached}
use Rattle.book.specs.Threads.{top_is}
use Rattle.weigh.proofs.StepLaws.{of_top, of_item, no_call}
use Rattle.weigh.proofs.steps.may_call.Goals as goal
use Rattle.weigh.proofs.steps.may_call.Goals.{in-Call, in_default-matches}

pub returns-in_default : goal.returns-in_default
returns-in_default c = unfold top_is in of_top native_or_attached c.in_default.is

pub returns : goal.returns
unfolding top_is
returns c = elim c.match-matches.branch [ in-Call w ↦ ap not w.matches-is ∙ of_item native_or_attached c.in-Some.is w.in-Call.is | in_default-matches w ↦ ap not w.matches-is ∙ no_call _ w.in_default-matches.not-Call ∙ of_top native_or_attached c.in-Some.is ]
