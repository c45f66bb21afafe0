-- That the promises of the acting of a line are tight. Assumes nothing.
use Rattle.std.specs.Prelude.{⊤}
use Rattle.act.proofs as act
use Rattle.act.specs.contracts as of_act
use Rattle.tables.specs.Lent.{tables_of, Led, Unguided}
use Rattle.tables.proofs.Lending.{unguided_led}
use Rattle.tight.specs.Tight.{Tight, TightBut, held_of}
use Rattle.tight.proofs.Shapes.{by_reply, by_slice, by_lent, by_held}

pub is_delete_tight : Tight of_act.call.is_delete.ended act.call.is_delete.Reads.Asked act.call.is_delete.Reads.Learnt
is_delete_tight κs args = (tt, by_reply)

pub call_book_tight : Tight of_act.call.write_book.ended act.call.write_book.Reads.Asked act.call.write_book.Reads.Learnt
call_book_tight κs args = (tt, by_slice)

pub call_tight : TightBut of_act.call.call.ended (λ κs args w. tables_of w.0) (λ κs args. Led args.0.now) act.call.call.Reads.Asked act.call.call.Reads.Learnt
call_tight κs args = (tt, λ led x y p q. by_lent x y (p.0 led) (q.0 led))

pub call_unguided : TightBut of_act.call.call.ended (λ κs args w. held_of w.0) (λ κs args. Unguided args.0.now) act.call.call.Reads.Asked act.call.call.Reads.Learnt
call_unguided κs args = (tt, λ u x y p q. by_held x y p.1.0 q.1.0 u ((call_tight κs args).1 (unguided_led u) x y p q))

pub declare_tight : TightBut of_act.declare.declare.ended (λ κs args w. tables_of w.0) (λ κs args. ⊤) act.declare.declare.Reads.Asked act.declare.declare.Reads.Learnt
declare_tight κs args = (tt, λ any x y p q. by_lent x y (p.0 0 0) (q.0 0 0))

pub declare_unguided : TightBut of_act.declare.declare.ended (λ κs args w. held_of w.0) (λ κs args. Unguided args.0.now) act.declare.declare.Reads.Asked act.declare.declare.Reads.Learnt
declare_unguided κs args = (tt, λ u x y p q. by_held x y p.1.0 q.1.0 u ((declare_tight κs args).1 tt x y p q))

pub identify_tight : TightBut of_act.identify.identify.ended (λ κs args w. tables_of w.0) (λ κs args. ⊤) act.identify.identify.Reads.Asked act.identify.identify.Reads.Learnt
identify_tight κs args = (tt, λ any x y p q. by_lent x y p.0 q.0)

pub identify_unguided : TightBut of_act.identify.identify.ended (λ κs args w. held_of w.0) (λ κs args. Unguided args.0.now) act.identify.identify.Reads.Asked act.identify.identify.Reads.Learnt
identify_unguided κs args = (tt, λ u x y p q. by_held x y p.1.0 q.1.0 u ((identify_tight κs args).1 tt x y p q))

pub detach_book_tight : Tight of_act.detach.write_book.ended act.detach.write_book.Reads.Asked act.detach.write_book.Reads.Learnt
detach_book_tight κs args = (tt, by_slice)

pub detach_tight : TightBut of_act.detach.detach.ended (λ κs args w. tables_of w.0) (λ κs args. Led args.0.now) act.detach.detach.Reads.Asked act.detach.detach.Reads.Learnt
detach_tight κs args = (tt, λ led x y p q. by_lent x y (p.0 led 0 0) (q.0 led 0 0))

pub detach_unguided : TightBut of_act.detach.detach.ended (λ κs args w. held_of w.0) (λ κs args. Unguided args.0.now) act.detach.detach.Reads.Asked act.detach.detach.Reads.Learnt
detach_unguided κs args = (tt, λ u x y p q. by_held x y p.1.0 q.1.0 u ((detach_tight κs args).1 (unguided_led u) x y p q))

pub end_tight : TightBut of_act.end.end.ended (λ κs args w. tables_of w.0) (λ κs args. ⊤) act.end.end.Reads.Asked act.end.end.Reads.Learnt
end_tight κs args = (tt, λ any x y p q. by_lent x y (p.0 0 0) (q.0 0 0))

pub end_unguided : TightBut of_act.end.end.ended (λ κs args w. held_of w.0) (λ κs args. Unguided args.0.now) act.end.end.Reads.Asked act.end.end.Reads.Learnt
end_unguided κs args = (tt, λ u x y p q. by_held x y p.1.0 q.1.0 u ((end_tight κs args).1 tt x y p q))

pub enter_book_tight : Tight of_act.enter.write_book.ended act.enter.write_book.Reads.Asked act.enter.write_book.Reads.Learnt
enter_book_tight κs args = (tt, by_slice)

pub enter_tight : TightBut of_act.enter.enter.ended (λ κs args w. tables_of w.0) (λ κs args. Led args.0.now) act.enter.enter.Reads.Asked act.enter.enter.Reads.Learnt
enter_tight κs args = (tt, λ led x y p q. by_lent x y (p.0 led 0) (q.0 led 0))

pub enter_unguided : TightBut of_act.enter.enter.ended (λ κs args w. held_of w.0) (λ κs args. Unguided args.0.now) act.enter.enter.Reads.Asked act.enter.enter.Reads.Learnt
enter_unguided κs args = (tt, λ u x y p q. by_held x y p.1.0 q.1.0 u ((enter_tight κs args).1 (unguided_led u) x y p q))

pub leave_book_tight : Tight of_act.leave.write_book.ended act.leave.write_book.Reads.Asked act.leave.write_book.Reads.Learnt
leave_book_tight κs args = (tt, by_slice)

pub leave_tight : TightBut of_act.leave.leave.ended (λ κs args w. tables_of w.0) (λ κs args. Led args.0.now) act.leave.leave.Reads.Asked act.leave.leave.Reads.Learnt
leave_tight κs args = (tt, λ led x y p q. by_lent x y (p.0 led 0 0 0) (q.0 led 0 0 0))

pub leave_unguided : TightBut of_act.leave.leave.ended (λ κs args w. held_of w.0) (λ κs args. Unguided args.0.now) act.leave.leave.Reads.Asked act.leave.leave.Reads.Learnt
leave_unguided κs args = (tt, λ u x y p q. by_held x y p.1.0 q.1.0 u ((leave_tight κs args).1 (unguided_led u) x y p q))

pub pin_owner_tight : Tight of_act.owner.pin_owner.ended act.owner.pin_owner.Reads.Asked act.owner.pin_owner.Reads.Learnt
pin_owner_tight κs args = (tt, by_reply)

pub row_of_tight : Tight of_act.returns.row_of.ended act.returns.row_of.Reads.Asked act.returns.row_of.Reads.Learnt
row_of_tight κs args = (tt, by_reply)

pub returns_book_tight : TightBut of_act.returns.write_book.ended (λ κs args w. tables_of w.0) (λ κs args. ⊤) act.returns.write_book.Reads.Asked act.returns.write_book.Reads.Learnt
returns_book_tight κs args = (tt, λ any x y p q. by_lent x y p.0 q.0)

pub returns_book_unguided : TightBut of_act.returns.write_book.ended (λ κs args w. held_of w.0) (λ κs args. Unguided args.0.now) act.returns.write_book.Reads.Asked act.returns.write_book.Reads.Learnt
returns_book_unguided κs args = (tt, λ u x y p q. by_held x y p.1.0 q.1.0 u ((returns_book_tight κs args).1 tt x y p q))

pub returns_tight : TightBut of_act.returns.returns.ended (λ κs args w. tables_of w.0) (λ κs args. ⊤) act.returns.returns.Reads.Asked act.returns.returns.Reads.Learnt
returns_tight κs args = (tt, λ any x y p q. by_lent x y p.0 q.0)

pub returns_unguided : TightBut of_act.returns.returns.ended (λ κs args w. held_of w.0) (λ κs args. Unguided args.0.now) act.returns.returns.Reads.Asked act.returns.returns.Reads.Learnt
returns_unguided κs args = (tt, λ u x y p q. by_held x y p.1.0 q.1.0 u ((returns_tight κs args).1 tt x y p q))

pub state_tight : TightBut of_act.state.state.ended (λ κs args w. tables_of w.0) (λ κs args. ⊤) act.state.state.Reads.Asked act.state.state.Reads.Learnt
state_tight κs args = (tt, λ any x y p q. by_lent x y p.0 q.0)

pub state_unguided : TightBut of_act.state.state.ended (λ κs args w. held_of w.0) (λ κs args. Unguided args.0.now) act.state.state.Reads.Asked act.state.state.Reads.Learnt
state_unguided κs args = (tt, λ u x y p q. by_held x y p.1.0 q.1.0 u ((state_tight κs args).1 tt x y p q))
