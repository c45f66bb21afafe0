-- `run::step::step` meets its contract. Assumes nothing.
use mathlib.Core.Path.{sym, ◌∙◌}
use Rattle.events.proofs.Outcomes.{passed, given_back}
use Rattle.judge.proofs.Reading.{few_slots}
use Rattle.judge.proofs.ByTables.{by_its_tables}
use Rattle.judge.proofs.Moving.{step_unread, step_said}
use Rattle.run.proofs.Fitting.{few_lines, fit_left}
use Rattle.run.proofs.step.step.Goals as goal

pub returns-in_err-allows-clause-outcome : goal.returns-in_err-allows-clause-outcome
returns-in_err-allows-clause-outcome c = by_its_tables _ _ _ _ _ c.allows.ensures c.in_err-allows.was (given_back _ c.from_residual.ensures.1)

pub returns-in_err-event-clause-outcome : goal.returns-in_err-event-clause-outcome
returns-in_err-event-clause-outcome c =
    step_unread _ _ _ c.allows.ensures c.in_ok-allows.was _ _ (sym c.in_err-event.was ∙ c.read_line.ensures.0) (given_back _ c.from_residual-in_err-event.ensures.1)

pub returns-clause-outcome : goal.returns-clause-outcome
returns-clause-outcome c =
    step_said _ _ _ c.allows.ensures c.in_ok-allows.was _ _ (sym c.in_ok-event.was ∙ c.read_line.ensures.0) c.read_line.ensures.1 _ (c.on_event.ensures.outcome c.requires.0 (few_lines _ _ c.allows.ensures c.in_ok-allows.was) (few_slots _ _ (sym c.in_ok-event.was ∙ c.read_line.ensures.0)))

pub returns-clause-fit : goal.returns-clause-fit
returns-clause-fit c =
    let event = sym c.in_ok-event.was ∙ c.read_line.ensures.0 in
    let slots = c.read_line.ensures.1 in
    fit_left _ _ _ _ _ _ _ (passed _ c.allows.ensures c.in_ok-allows.was) event slots c.thread_of.ensures (step_said _ _ _ c.allows.ensures c.in_ok-allows.was _ _ event slots _ (c.on_event.ensures.outcome c.requires.0 (few_lines _ _ c.allows.ensures c.in_ok-allows.was) (few_slots _ _ event)))
