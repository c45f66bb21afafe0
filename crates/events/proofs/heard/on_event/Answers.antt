-- `events::heard::on_event` meets its contract. Assumes nothing.
use Rattle.events.proofs.Outcomes.{given_back}
use Rattle.events.proofs.Moving.{said_accepted, said_refused}
use Rattle.events.proofs.heard.on_event.Goals as goal

pub returns-in_err-found-clause-outcome : goal.returns-in_err-found-clause-outcome
returns-in_err-found-clause-outcome c = λ led room few.
    said_refused _ _ _ _ _ _ _ _ _ c.thread_of-t.ensures (c.next_number-line.ensures room) c.top_item-top.ensures c.items_of-many.ensures (c.by_event.ensures.outcome led few) _ _ c.in_err-found.was (given_back _ c.from_residual.ensures.1)

pub returns-clause-outcome : goal.returns-clause-outcome
returns-clause-outcome c = λ led room few.
    said_accepted _ _ _ _ _ _ _ _ _ c.thread_of-t.ensures (c.next_number-line.ensures room) c.top_item-top.ensures c.items_of-many.ensures (c.by_event.ensures.outcome led few) _ _ c.in_ok-found.was c.move_item.ensures
