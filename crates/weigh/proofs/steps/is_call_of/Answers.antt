-- `weigh::steps::is_call_of` meets its contract. Assumes nothing.
use mathlib.Core.Path.{◌∙◌}
use Rattle.history.specs.Items.{is_call_of}
use Rattle.book.specs.Threads.{top_is}
use Rattle.weigh.proofs.StepLaws.{of_top, of_item, no_call_of}
use Rattle.weigh.proofs.steps.is_call_of.Goals as goal

pub returns-in_default : goal.returns-in_default
returns-in_default c = unfold top_is in of_top (is_call_of c.args.f) c.in_default.is

pub returns-in-Call : goal.returns-in-Call
returns-in-Call c = unfold top_is in of_item (is_call_of c.args.f) c.in-Some.is c.in-Call.is

pub returns : goal.returns
returns c = no_call_of _ c.in_default-item.not-Call c.args.f ∙ of_top (is_call_of c.args.f) c.in-Some.is
