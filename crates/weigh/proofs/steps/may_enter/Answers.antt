-- `weigh::steps::may_enter` meets its contract. Assumes nothing.
use mathlib.Core.Path.{◌∙◌}
use mathlib.Core.Bool.{◌||◌}
use Rattle.std.specs.Prelude.{Option}
use Rattle.history.specs.Items.{Item, is_empty, is_call}
use Rattle.book.specs.Threads.{top_is}
use Rattle.weigh.proofs.StepLaws.{of_top, of_item, no_enter}
use Rattle.weigh.proofs.steps.may_enter.Goals as goal

pub returns-in_default : goal.returns-in_default
returns-in_default c = unfold top_is in of_top (λ (o : Option Item). is_empty o || is_call o) c.in_default.is

pub returns-in-Call : goal.returns-in-Call
returns-in-Call c = unfold top_is in of_item (λ (o : Option Item). is_empty o || is_call o) c.in-Some.is c.in-Call.is

pub returns-in_default-matches : goal.returns-in_default-matches
returns-in_default-matches c = no_enter _ c.in_default-matches.not-Call ∙ of_top (λ (o : Option Item). is_empty o || is_call o) c.in-Some.is
