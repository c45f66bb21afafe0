-- `weigh::steps::is_native` meets its contract. Assumes nothing.
use mathlib.Core.Path.{◌∙◌}
use Rattle.history.specs.Items.{is_native}
use Rattle.book.specs.Threads.{top_is}
use Rattle.weigh.proofs.StepLaws.{of_top, of_item, no_native}
use Rattle.weigh.proofs.steps.is_native.Goals as goal

pub returns-in_default : goal.returns-in_default
returns-in_default c = unfold top_is in of_top is_native c.in_default.is

pub returns-in-Native : goal.returns-in-Native
returns-in-Native c = unfold top_is in of_item is_native c.in-Some.is c.in-Native.is

pub returns-in_default-matches : goal.returns-in_default-matches
returns-in_default-matches c = no_native _ c.in_default-matches.not-Native ∙ of_top is_native c.in-Some.is
