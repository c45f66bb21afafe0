-- That the promises of what a line is told are tight. Assumes nothing.
use Rattle.std.specs.Prelude.{[]}
use Rattle.rows.specs.Table.{Table, table}
use Rattle.tables.specs.Looked.{RowsLed, PinsLed}
use Rattle.sight.proofs as sight
use Rattle.sight.specs.contracts as of_sight
use Rattle.tight.specs.Tight.{Tight, TightWhere}
use Rattle.tight.proofs.Shapes.{by_reply}

-- rows that are not looked at
none : Table
none = table [] []

pub call_tight : TightWhere of_sight.call.call.ended (λ κs args. RowsLed args.0 × PinsLed args.1.0) sight.call.call.Reads.Asked sight.call.call.Reads.Learnt
call_tight κs args = (tt, λ led x y p q. by_reply x y (p led) (q led))

pub declare_tight : Tight of_sight.declare.declare.ended sight.declare.declare.Reads.Asked sight.declare.declare.Reads.Learnt
declare_tight κs args = (tt, λ x y p q. by_reply x y (p none none []) (q none none []))

pub identify_tight : Tight of_sight.identify.identify.ended sight.identify.identify.Reads.Asked sight.identify.identify.Reads.Learnt
identify_tight κs args = (tt, λ x y p q. by_reply x y (p none none []) (q none none []))

pub detach_tight : TightWhere of_sight.detach.detach.ended (λ κs args. PinsLed args.0) sight.detach.detach.Reads.Asked sight.detach.detach.Reads.Learnt
detach_tight κs args = (tt, λ led x y p q. by_reply x y (p led none []) (q led none []))

pub end_tight : Tight of_sight.end.end.ended sight.end.end.Reads.Asked sight.end.end.Reads.Learnt
end_tight κs args = (tt, λ x y p q. by_reply x y (p []) (q []))

pub enter_tight : TightWhere of_sight.enter.enter.ended (λ κs args. RowsLed args.0) sight.enter.enter.Reads.Asked sight.enter.enter.Reads.Learnt
enter_tight κs args = (tt, λ led x y p q. by_reply x y (p led none []) (q led none []))

pub leave_tight : TightWhere of_sight.leave.leave.ended (λ κs args. RowsLed args.0 × PinsLed args.1.0) sight.leave.leave.Reads.Asked sight.leave.leave.Reads.Learnt
leave_tight κs args = (tt, λ led x y p q. by_reply x y (p led [] []) (q led [] []))

pub returns_tight : TightWhere of_sight.returns.returns.ended (λ κs args. RowsLed args.0) sight.returns.returns.Reads.Asked sight.returns.returns.Reads.Learnt
returns_tight κs args = (tt, λ led x y p q. by_reply x y (p led []) (q led []))

pub state_tight : TightWhere of_sight.state.state.ended (λ κs args. RowsLed args.0) sight.state.state.Reads.Asked sight.state.state.Reads.Learnt
state_tight κs args = (tt, λ led x y p q. by_reply x y (p led none []) (q led none []))
