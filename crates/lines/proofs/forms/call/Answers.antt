-- `lines::forms::call` meets its contract. Assumes nothing.
use mathlib.Core.Path.{ap, sym, ◌∙◌}
use borrow.Author.Tests.{not-false}
use Rattle.numbers.specs.Signed.{signed}
use Rattle.lines.proofs.FormLaws.{call_i32}
use mathlib.Core.Bool.{not}
use Rattle.lines.proofs.forms.call.Goals as goal

pub int_of-requires : goal.int_of-requires
int_of-requires c =
    let a = c.args in
    call_i32 a.thread a.env a.function a.a a.b a.c (signed a.minus a.n) (sym c.call_allows.ensures ∙ not-false c.call_allows.result (ap not c.if-not-call_allows.false))
