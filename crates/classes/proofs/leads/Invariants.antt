-- The loop of `classes::leads`. Assumes nothing.
use Rattle.std.proofs.Common.{◌≡◌, ◌-◌}
use Rattle.history.specs.Classes.{leads, most_looks}
use Rattle.classes.specs.Supers.{super_in}
use Rattle.classes.proofs.leads.Given as goal

abbrev pub invariant-loop : goal.invariant-loop
invariant-loop l = leads (super_in l.table) (most_looks - l.counter) l.at l.k ≡ leads (super_in l.table) most_looks l.c l.k
