-- `weigh::leave::allows` meets its contract. Assumes nothing.
use mathlib.Core.Path.{ap, ◌∙◌}
use mathlib.Core.Bool.{Bool, not, ◌&&◌}
use Rattle.words.specs.Choice.{if_true◌then◌else◌}
use Rattle.lines.specs.Numbered.{passes}
use Rattle.weigh.specs.Leave.{leave_refusal}
use Rattle.weigh.proofs.leave.allows.Goals as goal

pub returns : goal.returns
unfolding leave_refusal
returns c = c.in_step.ensures ∙ ap (λ (b : Bool). passes (if_true not c.args.closed && b then 0 else 4)) c.is_native.ensures
