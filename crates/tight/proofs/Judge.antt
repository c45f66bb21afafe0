-- That the promises of the judge are tight. Assumes nothing.
use mathlib.Core.List.{[]}
use Rattle.judge.proofs as judge
use Rattle.judge.specs.contracts as of_judge
use Rattle.events.specs.Outcome.{Outcome}
use Rattle.tight.specs.Tight.{given, Tight}
use Rattle.tight.proofs.Shapes.{by, by_reply, by_tables, with_tables}

pub start_tight : Tight of_judge.start.ended judge.start.Reads.Asked judge.start.Reads.Learnt
start_tight κs args = (tt, by_tables)

pub allows_tight : Tight of_judge.allows.ended judge.allows.Reads.Asked judge.allows.Reads.Learnt
allows_tight κs args = (tt, λ x y p q. by_reply x y (p [] [] [] []) (q [] [] [] []))

pub step_tight : Tight of_judge.step.ended judge.step.Reads.Asked judge.step.Reads.Learnt
step_tight κs args = (tt, λ x y. by (λ (o : Outcome). given o.answer (tt, with_tables o.left tt)))
