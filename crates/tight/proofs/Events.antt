-- That the promises of a line of each event are tight. Assumes nothing.
use mathlib.Core.List.{[]}
use Rattle.std.specs.Prelude.{None, ⊤, ◌≤◌, ◌<◌}
use lib.IntN.{pos}
use Rattle.lines.specs.Line.{most_handles}
use Rattle.history.specs.Replies.{most_lines}
use Rattle.book.specs.Threads.{lines_in}
use Rattle.tables.specs.Lent.{tables_of, Led, Unguided}
use Rattle.tables.proofs.Lending.{unguided_led}
use Rattle.events.specs.Event.{slots_named}
use Rattle.events.proofs as events
use Rattle.events.specs.contracts as of_events
use Rattle.tight.specs.Tight.{Tight, TightBut, held_of}
use Rattle.tight.proofs.Shapes.{by_reply, by_slice, by_outcome, by_held}

pub attach_tight : TightBut of_events.attach.attach.ended (λ κs args w. tables_of w.0) (λ κs args. Led args.0.now) events.attach.attach.Reads.Asked events.attach.attach.Reads.Learnt
attach_tight κs args = (tt, λ led x y p q. by_outcome x y (p.0 led) (q.0 led))

pub attach_unguided : TightBut of_events.attach.attach.ended (λ κs args w. held_of w.0) (λ κs args. Unguided args.0.now) events.attach.attach.Reads.Asked events.attach.attach.Reads.Learnt
attach_unguided κs args = (tt, λ u x y p q. by_held x y p.1.0 q.1.0 u ((attach_tight κs args).1 (unguided_led u) x y p q))

pub call_tight : TightBut of_events.call.call.ended (λ κs args w. tables_of w.0) (λ κs args. Led args.0.now) events.call.call.Reads.Asked events.call.call.Reads.Learnt
call_tight κs args = (tt, λ led x y p q. by_outcome x y (p.0 led (pos 0)) (q.0 led (pos 0)))

pub call_unguided : TightBut of_events.call.call.ended (λ κs args w. held_of w.0) (λ κs args. Unguided args.0.now) events.call.call.Reads.Asked events.call.call.Reads.Learnt
call_unguided κs args = (tt, λ u x y p q. by_held x y p.1.0 q.1.0 u ((call_tight κs args).1 (unguided_led u) x y p q))

pub declare_tight : TightBut of_events.declare.declare.ended (λ κs args w. tables_of w.0) (λ κs args. ⊤) events.declare.declare.Reads.Asked events.declare.declare.Reads.Learnt
declare_tight κs args = (tt, λ any x y p q. by_outcome x y (p.0 0 None 0) (q.0 0 None 0))

pub declare_unguided : TightBut of_events.declare.declare.ended (λ κs args w. held_of w.0) (λ κs args. Unguided args.0.now) events.declare.declare.Reads.Asked events.declare.declare.Reads.Learnt
declare_unguided κs args = (tt, λ u x y p q. by_held x y p.1.0 q.1.0 u ((declare_tight κs args).1 tt x y p q))

pub identify_tight : TightBut of_events.identify.identify.ended (λ κs args w. tables_of w.0) (λ κs args. ⊤) events.identify.identify.Reads.Asked events.identify.identify.Reads.Learnt
identify_tight κs args = (tt, λ any x y p q. by_outcome x y (p.0 0 None 0) (q.0 0 None 0))

pub identify_unguided : TightBut of_events.identify.identify.ended (λ κs args w. held_of w.0) (λ κs args. Unguided args.0.now) events.identify.identify.Reads.Asked events.identify.identify.Reads.Learnt
identify_unguided κs args = (tt, λ u x y p q. by_held x y p.1.0 q.1.0 u ((identify_tight κs args).1 tt x y p q))

pub detach_tight : TightBut of_events.detach.detach.ended (λ κs args w. tables_of w.0) (λ κs args. Led args.0.now) events.detach.detach.Reads.Asked events.detach.detach.Reads.Learnt
detach_tight κs args = (tt, λ led x y p q. by_outcome x y (p.0 led 0) (q.0 led 0))

pub detach_unguided : TightBut of_events.detach.detach.ended (λ κs args w. held_of w.0) (λ κs args. Unguided args.0.now) events.detach.detach.Reads.Asked events.detach.detach.Reads.Learnt
detach_unguided κs args = (tt, λ u x y p q. by_held x y p.1.0 q.1.0 u ((detach_tight κs args).1 (unguided_led u) x y p q))

pub end_tight : TightBut of_events.end.end.ended (λ κs args w. tables_of w.0) (λ κs args. ⊤) events.end.end.Reads.Asked events.end.end.Reads.Learnt
end_tight κs args = (tt, λ any x y p q. by_outcome x y (p.0 None 0) (q.0 None 0))

pub end_unguided : TightBut of_events.end.end.ended (λ κs args w. held_of w.0) (λ κs args. Unguided args.0.now) events.end.end.Reads.Asked events.end.end.Reads.Learnt
end_unguided κs args = (tt, λ u x y p q. by_held x y p.1.0 q.1.0 u ((end_tight κs args).1 tt x y p q))

pub enter_tight : TightBut of_events.enter.enter.ended (λ κs args w. tables_of w.0) (λ κs args. Led args.0.now) events.enter.enter.Reads.Asked events.enter.enter.Reads.Learnt
enter_tight κs args = (tt, λ led x y p q. by_outcome x y (p.0 led) (q.0 led))

pub enter_unguided : TightBut of_events.enter.enter.ended (λ κs args w. held_of w.0) (λ κs args. Unguided args.0.now) events.enter.enter.Reads.Asked events.enter.enter.Reads.Learnt
enter_unguided κs args = (tt, λ u x y p q. by_held x y p.1.0 q.1.0 u ((enter_tight κs args).1 (unguided_led u) x y p q))

pub leave_tight : TightBut of_events.leave.leave.ended (λ κs args w. tables_of w.0) (λ κs args. Led args.0.now) events.leave.leave.Reads.Asked events.leave.leave.Reads.Learnt
leave_tight κs args = (tt, λ led x y p q. by_outcome x y (p.0 led 0) (q.0 led 0))

pub leave_unguided : TightBut of_events.leave.leave.ended (λ κs args w. held_of w.0) (λ κs args. Unguided args.0.now) events.leave.leave.Reads.Asked events.leave.leave.Reads.Learnt
leave_unguided κs args = (tt, λ u x y p q. by_held x y p.1.0 q.1.0 u ((leave_tight κs args).1 (unguided_led u) x y p q))

pub capacity_asked_tight : Tight of_events.returns.capacity_asked.ended events.returns.capacity_asked.Reads.Asked events.returns.capacity_asked.Reads.Learnt
capacity_asked_tight κs args = (tt, by_reply)

pub returns_tight : TightBut of_events.returns.returns.ended (λ κs args w. tables_of w.0) (λ κs args. Led args.0.now) events.returns.returns.Reads.Asked events.returns.returns.Reads.Learnt
returns_tight κs args = (tt, λ led x y p q. by_outcome x y (p.0 led 0) (q.0 led 0))

pub returns_unguided : TightBut of_events.returns.returns.ended (λ κs args w. held_of w.0) (λ κs args. Unguided args.0.now) events.returns.returns.Reads.Asked events.returns.returns.Reads.Learnt
returns_unguided κs args = (tt, λ u x y p q. by_held x y p.1.0 q.1.0 u ((returns_tight κs args).1 (unguided_led u) x y p q))

pub state_tight : TightBut of_events.state.state.ended (λ κs args w. tables_of w.0) (λ κs args. Led args.0.now) events.state.state.Reads.Asked events.state.state.Reads.Learnt
state_tight κs args = (tt, λ led x y p q. by_outcome x y (p.0 led 0 None 0) (q.0 led 0 None 0))

pub state_unguided : TightBut of_events.state.state.ended (λ κs args w. held_of w.0) (λ κs args. Unguided args.0.now) events.state.state.Reads.Asked events.state.state.Reads.Learnt
state_unguided κs args = (tt, λ u x y p q. by_held x y p.1.0 q.1.0 u ((state_tight κs args).1 (unguided_led u) x y p q))

pub thread_of_tight : Tight of_events.items.thread_of.ended events.items.thread_of.Reads.Asked events.items.thread_of.Reads.Learnt
thread_of_tight κs args = (tt, by_reply)

pub move_item_tight : Tight of_events.items.move_item.ended events.items.move_item.Reads.Asked events.items.move_item.Reads.Learnt
move_item_tight κs args = (tt, λ x y p q. by_slice x y (p []) (q []))

pub on_event_tight : TightBut of_events.heard.on_event.ended (λ κs args w. tables_of w.0) (λ κs args. Led args.0.now × (lines_in args.0.now.book.now < most_lines) × (slots_named args.1.0 ≤ most_handles)) events.heard.on_event.Reads.Asked events.heard.on_event.Reads.Learnt
on_event_tight κs args = (tt, λ fit x y p q. by_outcome x y (p.0 fit.0 fit.1 fit.2) (q.0 fit.0 fit.1 fit.2))

pub on_event_unguided : TightBut of_events.heard.on_event.ended (λ κs args w. held_of w.0) (λ κs args. Unguided args.0.now × (lines_in args.0.now.book.now < most_lines) × (slots_named args.1.0 ≤ most_handles)) events.heard.on_event.Reads.Asked events.heard.on_event.Reads.Learnt
on_event_unguided κs args = (tt, λ u x y p q. by_held x y p.1.0 q.1.0 u.0 ((on_event_tight κs args).1 (unguided_led u.0, u.1, u.2) x y p q))
