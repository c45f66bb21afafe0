-- `lines::read_line` meets its contract. Assumes nothing.
use mathlib.Core.Path.{ap, sym, ◌∙◌}
use borrow.Author.Rules.{rules}
use Rattle.lines.specs.Sizes.{slots_in}
use Rattle.lines.specs.declared.Event.{Event}
use Rattle.lines.proofs.HeadLaws.{head_said}
use Rattle.lines.proofs.GatheredLaws.{event_left}
use Rattle.lines.proofs.SlotLaws.{not_enter}
use Rattle.lines.proofs.ToldLaws.{enter_few}
use Rattle.std.specs.Prelude.{Ok}
use Rattle.lines.proofs.read_line.Goals as goal

pub named-requires : goal.named-requires
named-requires c =
    let h = c.in_ok-head.head in
    enter_few h.letter h.count h.minus c.take_line.new.values (search rules) (sym c.event_of.ensures ∙ c.in_ok-e.was ∙ ap Ok c.in-Enter.is)

pub returns-in-Enter : goal.returns-in-Enter
returns-in-Enter c =
    let h = c.in_ok-head.head in
    let v = c.take_line.new.values in
    event_left h.letter h.count h.minus v (search rules) (sym c.event_of.ensures ∙ c.in_ok-e.was) (head_said c.take_line.ensures c.in_ok-head.was)
    (c.named.ensures ∙ sym (ap (λ (e : Event). slots_in e h.count v) c.in-Enter.is))

pub returns-in_default : goal.returns-in_default
returns-in_default c =
    let h = c.in_ok-head.head in
    let v = c.take_line.new.values in
    event_left h.letter h.count h.minus v (search rules) (sym c.event_of.ensures ∙ c.in_ok-e.was) (head_said c.take_line.ensures c.in_ok-head.was)
    (not_enter c.in_ok-e.e h.count v c.in_default.not-Enter)
