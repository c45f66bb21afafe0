-- `judge::step` meets its contract. Assumes nothing.
use mathlib.Core.Path.{refl, sym, ◌∙◌}
use mathlib.Core.List.{[]}
use borrow.Author.Rules.{rules}
use Rattle.guide.specs.References.{scans}
use Rattle.guide.specs.Pins.{scans as pins_scans}
use Rattle.events.proofs.Outcomes.{given_back}
use Rattle.judge.proofs.Reading.{few_slots}
use Rattle.judge.proofs.ByTables.{by_its_tables, fewer_lines}
use Rattle.judge.proofs.Moving.{step_unread, step_said, left_in}
use Rattle.judge.proofs.step.Goals as goal

pub returns-in_err-allows : goal.returns-in_err-allows
returns-in_err-allows c = by_its_tables _ _ _ _ _ (c.allows.ensures _ _ _ _) c.in_err-allows.was (given_back _ c.from_residual.ensures.1)

pub returns-in_err-event : goal.returns-in_err-event
returns-in_err-event c =
    step_unread _ _ _ (c.allows.ensures _ _ _ _) c.in_ok-allows.was _ _ (sym c.in_err-event.was ∙ c.read_line.ensures.0) (given_back _ c.from_residual-in_err-event.ensures.1)

pub returns : goal.returns
returns c =
    let same = c.on_event.ensures.same in
    let rows = same.rows in
    let marks = same.marks in
    let pins = same.pins in
    let pinmarks = same.pinmarks in
    let book = same.book in
    let classes = same.classes in
    left_in c.on_event.new.lent (search rules) (search rules) (search rules) (search rules) (search rules) (search rules)
    (step_said _ _ _ (c.allows.ensures _ _ _ _) c.in_ok-allows.was _ _ (sym c.in_ok-event.was ∙ c.read_line.ensures.0) c.read_line.ensures.1 _ (c.on_event.ensures.outcome (record { references = scans refl; pins = pins_scans refl }) (fewer_lines _ _ _ (c.allows.ensures [] [] [] []) c.in_ok-allows.was) (few_slots _ _ (sym c.in_ok-event.was ∙ c.read_line.ensures.0))))
