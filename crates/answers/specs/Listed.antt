-- The findings of a line from what was judged of it: the same list as history: Findings has. Assumes nothing.
use Rattle.std.specs.Prelude.{ℕ, Bool, not, ◌&&◌, ◌||◌, List, eqb, Option, None}
use Rattle.std.specs.Option.{is_none}
use Rattle.words.specs.Choice.{if_true◌then◌else◌}
use Rattle.words.specs.Lists.{joined}
use Rattle.history.specs.Breaches.{when, is_rule}
use Rattle.history.specs.Findings.{rules, places, found}
use Rattle.history.specs.declared.Finding.{Finding}
use Rattle.answers.specs.declared.Findings.{Findings}
use Rattle.answers.specs.declared.Judged.{Judged}
use Rattle.answers.specs.Answer.{found_if}

-- the whole line breaks the rule, with what thing
abbrev pub whole_of : Judged → ℕ → Option ℕ
whole_of x rule =
    if_true eqb rule 1 then when x.foreign x.env
    else if_true eqb rule 2 then when x.pending 0
    else if_true eqb rule 3 then when x.critical 0
    else if_true eqb rule 9 then when x.unheld 0
    else if_true eqb rule 11 then when x.unpushed 0
    else None

abbrev pub rule_of : Judged → ℕ → Option ℕ
rule_of x p = if_true eqb p 1 then x.rule1 else if_true eqb p 2 then x.rule2 else x.rule3

abbrev pub value_of : Judged → ℕ → ℕ
value_of x p = if_true eqb p 1 then x.a else if_true eqb p 2 then x.b else x.c

abbrev pub breach_of : Judged → ℕ → ℕ → Option ℕ
breach_of x rule place = if_true eqb place 0 then whole_of x rule else when (is_rule rule (rule_of x place)) (value_of x place)

unfoldable pub listed : Judged → List Finding
listed x = joined rules λ rule. joined places λ place. found x.line rule place (breach_of x rule place)

-- no rule is broken
abbrev pub is_clean : Judged → Bool
is_clean x =
    not (x.foreign || x.pending || x.critical || x.unheld || x.unpushed)
    && is_none x.rule1
    && is_none x.rule2
    && is_none x.rule3

-- the findings of one rule, put behind others
unfoldable pub of_rule : Findings → Judged → ℕ → Bool → ℕ → Findings
of_rule s x rule whole thing =
    found_if
    (found_if
    (found_if (found_if s whole x.line rule 0 thing) (is_rule rule x.rule1) x.line rule 1 x.a)
    (is_rule rule x.rule2)
    x.line
    rule
    2
    x.b)
    (is_rule rule x.rule3)
    x.line
    rule
    3
    x.c
