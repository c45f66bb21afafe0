-- That the promises of the line reader are tight. Assumes nothing.
use Rattle.lines.proofs as lines
use Rattle.lines.specs.contracts as of_lines
use Rattle.tight.specs.Tight.{given, Tight}
use Rattle.tight.proofs.Shapes.{by_two, by_reply}

pub read_line_tight : Tight of_lines.read_line.ended lines.read_line.Reads.Asked lines.read_line.Reads.Learnt
read_line_tight κs args = (tt, λ x y. by_two (λ r slots. given r (tt, (slots, tt))))

pub read_apart_tight : Tight of_lines.apart.read_apart.ended lines.apart.read_apart.Reads.Asked lines.apart.read_apart.Reads.Learnt
read_apart_tight κs args = (tt, λ x y. by_two (λ r slots. given r (tt, (slots, tt))))

pub gives_status_tight : Tight of_lines.ranges.gives_status.ended lines.ranges.gives_status.Reads.Asked lines.ranges.gives_status.Reads.Learnt
gives_status_tight κs args = (tt, by_reply)

pub counts_of_tight : Tight of_lines.forms.counts_of.ended lines.forms.counts_of.Reads.Asked lines.forms.counts_of.Reads.Learnt
counts_of_tight κs args = (tt, by_reply)

pub number_tight : Tight of_lines.refusal.Refusal.number.ended lines.refusal.Refusal.number.Reads.Asked lines.refusal.Refusal.number.Reads.Learnt
number_tight κs args = (tt, by_reply)

pub told_tight : Tight of_lines.refusal.Refusal.told.ended lines.refusal.Refusal.told.Reads.Asked lines.refusal.Refusal.told.Reads.Learnt
told_tight κs args = (tt, by_reply)

pub event_of_tight : Tight of_lines.forms.event_of.ended lines.forms.event_of.Reads.Asked lines.forms.event_of.Reads.Learnt
event_of_tight κs args = (tt, by_reply)
