-- `weigh::steps::is_attached` meets its contract. Assumes nothing.
use mathlib.Core.Path.{◌∙◌}
use Rattle.history.specs.Items.{is_attached}
use Rattle.book.specs.Threads.{top_is}
use Rattle.weigh.proofs.StepLaws.{of_top, of_item, no_attached}
use Rattle.weigh.proofs.steps.is_attached.Goals as goal

pub returns-in_default : goal.returns-in_default
returns-in_default c = unfold top_is in of_top is_attached c.in_default.is

pub returns-in-Attached : goal.returns-in-Attached
returns-in-Attached c = unfold top_is in of_item is_attached c.in-Some.is c.in-Attached.is

pub returns-in_default-matches : goal.returns-in_default-matches
returns-in_default-matches c = no_attached _ c.in_default-matches.not-Attached ∙ of_top is_attached c.in-Some.is
