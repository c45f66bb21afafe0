-- `events::heard::by_event` meets its contract. Assumes nothing.
use mir.Syntax.{w32}
use borrow.Author.Rules.{rules}
use native.Mathlib.Omega.{arith}
use mathlib.Core.Path.{◌≡◌, ap, ◌∙◌}
use Prim.Native.Nat.{ℕ}
use mir.Facts.{to_z-of_z}
use lib.ListN.{take}
use Rattle.lines.specs.Line.{N}
use Rattle.book.specs.Threads.{top_is}
use Rattle.tables.specs.Lent.{tables_of}
use Rattle.events.specs.Outcome.{line_outcome}
use Rattle.events.proofs.Few.{few_named}
use Rattle.events.proofs.Dispatch.{of_enter, of_leave, of_call, of_return, of_attach, of_detach, of_declare, of_state, of_identify, of_end}
use Rattle.events.proofs.heard.by_event.Goals as goal

pub returns-in-Enter-clause-outcome : goal.returns-in-Enter-clause-outcome
returns-in-Enter-clause-outcome c = λ led few.
    let a = c.args in
    let all : c.min.result ≡ c.in-Enter.count = omega (arith, c.min.ensures, few_named _ few c.in-Enter.is) in
    of_enter _ _ _ _ _ _ _ c.in-Enter.is
    (c.enter.ensures.outcome led ∙ ap (λ (n : ℕ). line_outcome a.line (N c.in-Enter.thread c.in-Enter.env (take n a.handles)) (top_is a.top) a.many (tables_of a.lent.now)) all)

pub returns-in-Leave-clause-outcome : goal.returns-in-Leave-clause-outcome
returns-in-Leave-clause-outcome c = λ led few. of_leave _ _ _ _ _ _ _ c.in-Leave.is (c.leave.ensures.outcome led _)

pub returns-in-Call-clause-outcome : goal.returns-in-Call-clause-outcome
returns-in-Call-clause-outcome c = λ led few. of_call _ _ _ _ _ _ _ c.in-Call.is (c.call.ensures.outcome led _)

pub returns-in-Return-clause-outcome : goal.returns-in-Return-clause-outcome
returns-in-Return-clause-outcome c = λ led few. of_return _ _ _ _ _ _ _ _ (to_z-of_z {w = w32} {z = c.in-Return.status} (search rules)) c.in-Return.is (c.returns.ensures.outcome led _)

pub returns-in-Attach-clause-outcome : goal.returns-in-Attach-clause-outcome
returns-in-Attach-clause-outcome c = λ led few. of_attach _ _ _ _ _ _ _ c.in-Attach.is (c.attach.ensures.outcome led)

pub returns-in-Detach-clause-outcome : goal.returns-in-Detach-clause-outcome
returns-in-Detach-clause-outcome c = λ led few. of_detach _ _ _ _ _ _ _ c.in-Detach.is (c.detach.ensures.outcome led _)

pub returns-in-Declare-clause-outcome : goal.returns-in-Declare-clause-outcome
returns-in-Declare-clause-outcome c = λ led few. of_declare _ _ _ _ _ _ _ c.in-Declare.is (c.declare.ensures.outcome _ _ _)

pub returns-in-State-clause-outcome : goal.returns-in-State-clause-outcome
returns-in-State-clause-outcome c = λ led few. of_state _ _ _ _ _ _ _ c.in-State.is (c.state.ensures.outcome led _ _ _)

pub returns-in-Identify-clause-outcome : goal.returns-in-Identify-clause-outcome
returns-in-Identify-clause-outcome c = λ led few. of_identify _ _ _ _ _ _ _ c.in-Identify.is (c.identify.ensures.outcome _ _ _)

pub returns-in-End-clause-outcome : goal.returns-in-End-clause-outcome
returns-in-End-clause-outcome c = λ led few. of_end _ _ _ _ _ _ _ c.in-End.is (c.end.ensures.outcome _ _)
