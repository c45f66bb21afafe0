-- `lines::forms::event_of` meets its contract. Assumes nothing.
use mathlib.Core.Path.{ap, sym, ◌∙◌}
use borrow.Author.Tests.{not-true, not-false}
use Rattle.lines.specs.Events.{event_of}
use Rattle.lines.proofs.FormLaws.{wrong_count, enter_right, enter_in, leave_in, call_in, return_in, attach_in, detach_in, declare_in, state_in, identify_in, end_in}
use borrow.Author.Rules.{rules}
use mathlib.Core.Bool.{not}
use Rattle.lines.proofs.forms.event_of.Goals as goal

pub returns-then-not-right_count : goal.returns-then-not-right_count
returns-then-not-right_count c =
    let a = c.args in
    ap event_of (wrong_count a.letter a.n a.minus a.v (sym c.right_count.ensures ∙ not-true c.right_count.result (ap not c.if-not-right_count.true)))

pub enter-requires : goal.enter-requires
enter-requires c =
    let a = c.args in
    enter_right a.letter a.n a.minus a.v (search rules) (sym c.right_count.ensures ∙ not-false c.right_count.result (ap not c.if-not-right_count.false)) c.in-78.is

pub returns-in-78 : goal.returns-in-78
returns-in-78 c =
    let a = c.args in
    c.enter.ensures ∙ ap event_of (enter_in a.letter a.n a.minus a.v (search rules) (sym c.right_count.ensures ∙ not-false c.right_count.result (ap not c.if-not-right_count.false)) c.in-78.is)

pub returns-in-88 : goal.returns-in-88
returns-in-88 c =
    let a = c.args in
    c.leave.ensures ∙ ap event_of (leave_in a.letter a.n a.minus a.v (search rules) (sym c.right_count.ensures ∙ not-false c.right_count.result (ap not c.if-not-right_count.false)) c.in-88.is)

pub returns-in-67 : goal.returns-in-67
returns-in-67 c =
    let a = c.args in
    c.call.ensures ∙ ap event_of (call_in a.letter a.n a.minus a.v (search rules) (sym c.right_count.ensures ∙ not-false c.right_count.result (ap not c.if-not-right_count.false)) c.in-67.is)

pub returns-in-82 : goal.returns-in-82
returns-in-82 c =
    let a = c.args in
    c.returns.ensures ∙ ap event_of (return_in a.letter a.n a.minus a.v (search rules) (sym c.right_count.ensures ∙ not-false c.right_count.result (ap not c.if-not-right_count.false)) c.in-82.is)

pub returns-in-65 : goal.returns-in-65
returns-in-65 c =
    let a = c.args in
    c.attach.ensures ∙ ap event_of (attach_in a.letter a.n a.minus a.v (search rules) (sym c.right_count.ensures ∙ not-false c.right_count.result (ap not c.if-not-right_count.false)) c.in-65.is)

pub returns-in-68 : goal.returns-in-68
returns-in-68 c =
    let a = c.args in
    c.detach.ensures ∙ ap event_of (detach_in a.letter a.n a.minus a.v (search rules) (sym c.right_count.ensures ∙ not-false c.right_count.result (ap not c.if-not-right_count.false)) c.in-68.is)

pub returns-in-75 : goal.returns-in-75
returns-in-75 c =
    let a = c.args in
    c.declare.ensures ∙ ap event_of (declare_in a.letter a.n a.minus a.v (search rules) (sym c.right_count.ensures ∙ not-false c.right_count.result (ap not c.if-not-right_count.false)) c.in-75.is)

pub returns-in-79 : goal.returns-in-79
returns-in-79 c =
    let a = c.args in
    c.state.ensures ∙ ap event_of (state_in a.letter a.n a.minus a.v (search rules) (sym c.right_count.ensures ∙ not-false c.right_count.result (ap not c.if-not-right_count.false)) c.in-79.is)

pub returns-in-77 : goal.returns-in-77
returns-in-77 c =
    let a = c.args in
    c.identify.ensures ∙ ap event_of (identify_in a.letter a.n a.minus a.v (search rules) (sym c.right_count.ensures ∙ not-false c.right_count.result (ap not c.if-not-right_count.false)) c.in-77.is)

pub returns-in_default : goal.returns-in_default
returns-in_default c =
    let a = c.args in
    let r = c.in_default.in_default-own.rest in
    ap event_of (end_in a.letter a.n a.minus a.v (search rules) (sym c.right_count.ensures ∙ not-false c.right_count.result (ap not c.if-not-right_count.false)) r.0.0.0.0.0.0.0.0.1 r.0.0.0.0.0.0.0.1 r.0.0.0.0.0.0.1 r.0.0.0.0.0.1 r.0.0.0.0.1 r.0.0.0.1 r.0.0.1 r.0.1 r.1)
