-- `answers::Findings::and_rule` meets its contract. Assumes nothing.
use mathlib.Core.Path.{◌∙◌}
use Rattle.answers.proofs.Found.{one_after_test, same_rule}
use Rattle.answers.specs.Listed.{of_rule}
use Rattle.answers.proofs.Findings.and_rule.Goals as goal

pub returns : goal.returns
returns c =
    unfold of_rule in one_after_test _ _ _ _ c.and_if-4.ensures (c.eq-3.ensures ∙ same_rule c.args.rule c.args.x.rule3)
    (one_after_test _ _ _ _ c.and_if-3.ensures (c.eq-2.ensures ∙ same_rule c.args.rule c.args.x.rule2)
    (one_after_test _ _ _ _ c.and_if-2.ensures (c.eq.ensures ∙ same_rule c.args.rule c.args.x.rule1) c.and_if.ensures))
