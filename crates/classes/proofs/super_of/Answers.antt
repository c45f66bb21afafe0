-- `classes::super_of` meets its contract. Assumes nothing.
use Rattle.std.proofs.Common.{rules}
use Rattle.std.proofs.lemmas.Option.{unwrap_or-slice_get}
use Rattle.classes.proofs.Steps.{from_one, super_there, no_super}
use Rattle.classes.proofs.super_of.Goals as goal

pub overflow_sub-c : goal.overflow_sub-c
overflow_sub-c c = from_one _ _ c.if-c.true

pub returns-then-c : goal.returns-then-c
returns-then-c c = rw (← (super_there c.args.table.now c.args.c c.if-c.true)) (search (rules, unwrap_or-slice_get))

pub returns : goal.returns
returns c = no_super _ _ c.if-c.false
