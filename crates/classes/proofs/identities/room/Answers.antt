-- `classes::identities::room` meets its contract. Assumes nothing.
use native.Mathlib.Omega.{arith}
use Rattle.classes.specs.Identities.{identity_room}
use Rattle.classes.proofs.identities.room.Goals as goal

pub returns-then-table-lt-FROM : goal.returns-then-table-lt-FROM
returns-then-table-lt-FROM c = unfold identity_room in omega arith

pub returns : goal.returns
returns c = unfold identity_room in omega arith
