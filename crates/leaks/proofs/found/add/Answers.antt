-- `leaks::found::add` meets its contract. Assumes nothing.
use native.Mathlib.Omega.{arith}
use Rattle.leaks.proofs.EntryLaws.{length_entries}
use Rattle.leaks.proofs.FoundLaws.{added_one, added_none}
use Rattle.leaks.proofs.found.add.Goals as goal

pub write-requires : goal.write-requires
write-requires c = let h = rw c.in-Some.is at c.requires in omega arith

pub returns-in-Some : goal.returns-in-Some
returns-in-Some c = rw c.in-Some.is (let h = rw c.in-Some.is at c.requires in added_one _ _ _ _ (omega (arith, length_entries c.args.leaks.now)) c.write.ensures)

pub returns-in-None : goal.returns-in-None
returns-in-None c = rw c.in-None.is (added_none _ _)
