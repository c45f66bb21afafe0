-- That the promises of the lent rows and marks are tight. Assumes nothing.
use Rattle.rows.proofs as rows
use Rattle.rows.specs.contracts as of_rows
use Rattle.rows.specs.Table.{Table}
use Rattle.tight.specs.Tight.{given, Tight}
use Rattle.tight.proofs.Shapes.{by, by_reply, by_table, by_reply_and_table}

pub clear_tight : Tight of_rows.clear.ended rows.clear.Reads.Asked rows.clear.Reads.Learnt
clear_tight κs args = (tt, by_table)

pub references_room_tight : Tight of_rows.references.room.ended rows.references.room.Reads.Asked rows.references.room.Reads.Learnt
references_room_tight κs args = (tt, by_reply)

pub references_lowest_free_tight : Tight of_rows.references.lowest_free.ended rows.references.lowest_free.Reads.Asked rows.references.lowest_free.Reads.Learnt
references_lowest_free_tight κs args = (tt, by_reply)

pub references_free_from_tight : Tight of_rows.references.free_from.ended rows.references.free_from.Reads.Asked rows.references.free_from.Reads.Learnt
references_free_from_tight κs args = (tt, by_reply)

pub references_alive_tight : Tight of_rows.references.alive.ended rows.references.alive.Reads.Asked rows.references.alive.Reads.Learnt
references_alive_tight κs args = (tt, by_reply)

pub references_slot_tight : Tight of_rows.references.slot.ended rows.references.slot.Reads.Asked rows.references.slot.Reads.Learnt
references_slot_tight κs args = (tt, by_reply)

pub references_class_at_tight : Tight of_rows.references.class_at.ended rows.references.class_at.Reads.Asked rows.references.class_at.Reads.Learnt
references_class_at_tight κs args = (tt, by_reply)

pub references_state_tight : Tight of_rows.references.state.ended rows.references.state.Reads.Asked rows.references.state.Reads.Learnt
references_state_tight κs args = (tt, λ x y. by (λ (t : Table). given x.reply (t.rows, x.left.1)))

pub references_store_tight : Tight of_rows.references.store.ended rows.references.store.Reads.Asked rows.references.store.Reads.Learnt
references_store_tight κs args = (tt, by_table)

pub references_take_tight : Tight of_rows.references.take.ended rows.references.take.Reads.Asked rows.references.take.Reads.Learnt
references_take_tight κs args = (tt, by_reply_and_table)

pub references_end_tight : Tight of_rows.references.end.ended rows.references.end.Reads.Asked rows.references.end.Reads.Learnt
references_end_tight κs args = (tt, by_table)

pub references_find_tight : Tight of_rows.references.find.ended rows.references.find.Reads.Asked rows.references.find.Reads.Learnt
references_find_tight κs args = (tt, by_reply)

pub references_count_tight : Tight of_rows.references.count.ended rows.references.count.Reads.Asked rows.references.count.Reads.Learnt
references_count_tight κs args = (tt, by_reply)

pub references_globals_tight : Tight of_rows.references.globals.ended rows.references.globals.Reads.Asked rows.references.globals.Reads.Learnt
references_globals_tight κs args = (tt, by_reply)

pub references_end_frames_tight : Tight of_rows.references.end_frames.ended rows.references.end_frames.Reads.Asked rows.references.end_frames.Reads.Learnt
references_end_frames_tight κs args = (tt, by_table)

pub pins_room_tight : Tight of_rows.pins.room.ended rows.pins.room.Reads.Asked rows.pins.room.Reads.Learnt
pins_room_tight κs args = (tt, by_reply)

pub pins_lowest_free_tight : Tight of_rows.pins.lowest_free.ended rows.pins.lowest_free.Reads.Asked rows.pins.lowest_free.Reads.Learnt
pins_lowest_free_tight κs args = (tt, by_reply)

pub pins_alive_tight : Tight of_rows.pins.alive.ended rows.pins.alive.Reads.Asked rows.pins.alive.Reads.Learnt
pins_alive_tight κs args = (tt, by_reply)

pub pins_slot_tight : Tight of_rows.pins.slot.ended rows.pins.slot.Reads.Asked rows.pins.slot.Reads.Learnt
pins_slot_tight κs args = (tt, by_reply)

pub pins_store_tight : Tight of_rows.pins.store.ended rows.pins.store.Reads.Asked rows.pins.store.Reads.Learnt
pins_store_tight κs args = (tt, by_table)

pub pins_end_tight : Tight of_rows.pins.end.ended rows.pins.end.Reads.Asked rows.pins.end.Reads.Learnt
pins_end_tight κs args = (tt, by_table)

pub pins_find_tight : Tight of_rows.pins.find.ended rows.pins.find.Reads.Asked rows.pins.find.Reads.Learnt
pins_find_tight κs args = (tt, by_reply)

pub pins_outstanding_tight : Tight of_rows.pins.outstanding.ended rows.pins.outstanding.Reads.Asked rows.pins.outstanding.Reads.Learnt
pins_outstanding_tight κs args = (tt, by_reply)
