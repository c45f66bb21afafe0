-- `answers::Judged::list_all` meets its contract. Assumes nothing.
use mathlib.Core.Path.{refl}
use Rattle.answers.proofs.Found.{one_rule_more, all_rules}
use Rattle.answers.proofs.Judged.list_all.Goals as goal

pub returns : goal.returns
returns c = all_rules _ (one_rule_more _ _ 11 _ _ refl (one_rule_more _ _ 10 _ _ refl (one_rule_more _ _ 9 _ _ refl (one_rule_more _ _ 8 _ _ refl (one_rule_more _ _ 7 _ _ refl (one_rule_more _ _ 6 _ _ refl (one_rule_more _ _ 5 _ _ refl (one_rule_more _ _ 4 _ _ refl (one_rule_more _ _ 3 _ _ refl (one_rule_more _ _ 2 _ _ refl (one_rule_more _ _ 1 _ _ refl c.none.ensures c.and_rule.ensures) c.and_rule-2.ensures) c.and_rule-3.ensures) c.and_rule-4.ensures) c.and_rule-5.ensures) c.and_rule-6.ensures) c.and_rule-7.ensures) c.and_rule-8.ensures) c.and_rule-9.ensures) c.and_rule-10.ensures) c.and_rule-11.ensures)
