-- That the promises of the kept rows are tight. Assumes nothing.
use Rattle.std.specs.Prelude.{⊤}
use Rattle.tables.proofs as tables
use Rattle.tables.specs.contracts as of_tables
use Rattle.tables.specs.Lent.{tables_of, Led, Unguided}
use Rattle.tables.proofs.Lending.{unguided_led}
use Rattle.tight.specs.Tight.{TightBut, held_of}
use Rattle.tight.proofs.Shapes.{by_lent, by_held}

pub store_tight : TightBut of_tables.kept.store.ended (λ κs args w. tables_of w.0) (λ κs args. ⊤) tables.kept.store.Reads.Asked tables.kept.store.Reads.Learnt
store_tight κs args = (tt, λ any x y p q. by_lent x y p.0 q.0)

pub store_unguided : TightBut of_tables.kept.store.ended (λ κs args w. held_of w.0) (λ κs args. Unguided args.0.now) tables.kept.store.Reads.Asked tables.kept.store.Reads.Learnt
store_unguided κs args = (tt, λ u x y p q. by_held x y p.1.0 q.1.0 u ((store_tight κs args).1 tt x y p q))

pub take_tight : TightBut of_tables.kept.take.ended (λ κs args w. tables_of w.0) (λ κs args. Led args.0.now) tables.kept.take.Reads.Asked tables.kept.take.Reads.Learnt
take_tight κs args = (tt, λ led x y p q. by_lent x y (p.0 led) (q.0 led))

pub take_unguided : TightBut of_tables.kept.take.ended (λ κs args w. held_of w.0) (λ κs args. Unguided args.0.now) tables.kept.take.Reads.Asked tables.kept.take.Reads.Learnt
take_unguided κs args = (tt, λ u x y p q. by_held x y p.1.0 q.1.0 u ((take_tight κs args).1 (unguided_led u) x y p q))

pub state_tight : TightBut of_tables.kept.state.ended (λ κs args w. tables_of w.0) (λ κs args. ⊤) tables.kept.state.Reads.Asked tables.kept.state.Reads.Learnt
state_tight κs args = (tt, λ any x y p q. by_lent x y p.0 q.0)

pub state_unguided : TightBut of_tables.kept.state.ended (λ κs args w. held_of w.0) (λ κs args. Unguided args.0.now) tables.kept.state.Reads.Asked tables.kept.state.Reads.Learnt
state_unguided κs args = (tt, λ u x y p q. by_held x y p.1.0 q.1.0 u ((state_tight κs args).1 tt x y p q))

pub end_tight : TightBut of_tables.kept.end.ended (λ κs args w. tables_of w.0) (λ κs args. ⊤) tables.kept.end.Reads.Asked tables.kept.end.Reads.Learnt
end_tight κs args = (tt, λ any x y p q. by_lent x y p.0 q.0)

pub end_unguided : TightBut of_tables.kept.end.ended (λ κs args w. held_of w.0) (λ κs args. Unguided args.0.now) tables.kept.end.Reads.Asked tables.kept.end.Reads.Learnt
end_unguided κs args = (tt, λ u x y p q. by_held x y p.1.0 q.1.0 u ((end_tight κs args).1 tt x y p q))

pub end_frames_tight : TightBut of_tables.kept.end_frames.ended (λ κs args w. tables_of w.0) (λ κs args. Led args.0.now) tables.kept.end_frames.Reads.Asked tables.kept.end_frames.Reads.Learnt
end_frames_tight κs args = (tt, λ led x y p q. by_lent x y (p.0 led) (q.0 led))

pub end_frames_unguided : TightBut of_tables.kept.end_frames.ended (λ κs args w. held_of w.0) (λ κs args. Unguided args.0.now) tables.kept.end_frames.Reads.Asked tables.kept.end_frames.Reads.Learnt
end_frames_unguided κs args = (tt, λ u x y p q. by_held x y p.1.0 q.1.0 u ((end_frames_tight κs args).1 (unguided_led u) x y p q))

pub store_pin_tight : TightBut of_tables.kept_pins.store.ended (λ κs args w. tables_of w.0) (λ κs args. ⊤) tables.kept_pins.store.Reads.Asked tables.kept_pins.store.Reads.Learnt
store_pin_tight κs args = (tt, λ any x y p q. by_lent x y p.0 q.0)

pub store_pin_unguided : TightBut of_tables.kept_pins.store.ended (λ κs args w. held_of w.0) (λ κs args. Unguided args.0.now) tables.kept_pins.store.Reads.Asked tables.kept_pins.store.Reads.Learnt
store_pin_unguided κs args = (tt, λ u x y p q. by_held x y p.1.0 q.1.0 u ((store_pin_tight κs args).1 tt x y p q))

pub end_pin_tight : TightBut of_tables.kept_pins.end.ended (λ κs args w. tables_of w.0) (λ κs args. ⊤) tables.kept_pins.end.Reads.Asked tables.kept_pins.end.Reads.Learnt
end_pin_tight κs args = (tt, λ any x y p q. by_lent x y p.0 q.0)

pub end_pin_unguided : TightBut of_tables.kept_pins.end.ended (λ κs args w. held_of w.0) (λ κs args. Unguided args.0.now) tables.kept_pins.end.Reads.Asked tables.kept_pins.end.Reads.Learnt
end_pin_unguided κs args = (tt, λ u x y p q. by_held x y p.1.0 q.1.0 u ((end_pin_tight κs args).1 tt x y p q))
