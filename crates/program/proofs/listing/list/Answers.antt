-- `program::listing::list` meets its contract. Assumes nothing.
use mathlib.Core.Path.{sym, ap}
use mathlib.Core.List.{[]}
use borrow.Author.Tests.{not-true, not-false}
use Rattle.leaks.specs.Reply.{reply_of}
use Prim.Native.Nat.{ℕ}
use Rattle.std.specs.Prelude.{Result}
use Rattle.lines.specs.declared.refusal.Refusal.{Refusal}
use Rattle.program.specs.Listing.{records_in}
use Rattle.program.proofs.Records.{none_asked, replied}
use mathlib.Core.Bool.{not}
use Rattle.program.proofs.listing.list.Goals as goal

pub returns-then-not-asked : goal.returns-then-not-asked
returns-then-not-asked c = none_asked _ _ (not-true _ (ap not c.if-not-asked.true))

pub returns-in-Ok : goal.returns-in-Ok
returns-in-Ok c = replied _ _ c.list.result (not-false _ (ap not c.if-not-asked.false)) (c.list.ensures []) (sym (ap (λ (x : Result ℕ Refusal). records_in (reply_of x)) c.in-Ok.is))

pub returns-in-Err : goal.returns-in-Err
returns-in-Err c = replied _ _ c.list.result (not-false _ (ap not c.if-not-asked.false)) (c.list.ensures []) (sym (ap (λ (x : Result ℕ Refusal). records_in (reply_of x)) c.in-Err.is))
