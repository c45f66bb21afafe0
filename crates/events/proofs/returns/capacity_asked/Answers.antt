-- `events::returns::capacity_asked` meets its contract. Assumes nothing.
use mathlib.Core.Path.{ap, sym, ◌∙◌}
use Rattle.std.specs.Prelude.{Option, Some}
use Rattle.book.specs.declared.Item.{Item}
use Rattle.book.specs.Threads.{top_is}
use Rattle.history.specs.Items.{asked}
use Rattle.events.proofs.Signs.{no_call}
use Rattle.events.proofs.returns.capacity_asked.Goals as goal

pub returns-in_default : goal.returns-in_default
returns-in_default c = unfold top_is in ap (λ (o : Option Item). asked (top_is o)) (sym c.in_default.is)

pub returns-in-Call : goal.returns-in-Call
returns-in-Call c = unfold top_is in ap (λ (o : Option Item). asked (top_is o)) (sym (c.in-Some.is ∙ ap (λ (i : Item). Some i) c.in-Call.is))

pub returns : goal.returns
returns c = no_call _ c.in_default-item.not-Call ∙ ap (λ (o : Option Item). asked (top_is o)) (sym c.in-Some.is)
