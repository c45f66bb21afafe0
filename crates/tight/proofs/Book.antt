-- That the promises of the thread book are tight. Assumes nothing.
use mathlib.Core.Path.{refl, sym, ◌∙◌}
use Rattle.book.proofs as book
use Rattle.book.specs.contracts as of_book
use Rattle.book.proofs.Changing.{one_top}
use Rattle.tight.specs.Tight.{Tight}
use Rattle.tight.proofs.Shapes.{by_reply, by_reply_first, by_slice}

pub env_of_tight : Tight of_book.env_of.ended book.env_of.Reads.Asked book.env_of.Reads.Learnt
env_of_tight κs args = (tt, by_reply)

pub env_elsewhere_tight : Tight of_book.env_elsewhere.ended book.env_elsewhere.Reads.Asked book.env_elsewhere.Reads.Learnt
env_elsewhere_tight κs args = (tt, by_reply)

pub set_env_tight : Tight of_book.set_env.ended book.set_env.Reads.Asked book.set_env.Reads.Learnt
set_env_tight κs args = (tt, by_slice)

pub pending_of_tight : Tight of_book.pending_of.ended book.pending_of.Reads.Asked book.pending_of.Reads.Learnt
pending_of_tight κs args = (tt, by_reply)

pub set_pending_tight : Tight of_book.set_pending.ended book.set_pending.Reads.Asked book.set_pending.Reads.Learnt
set_pending_tight κs args = (tt, by_slice)

pub monitors_of_tight : Tight of_book.monitors_of.ended book.monitors_of.Reads.Asked book.monitors_of.Reads.Learnt
monitors_of_tight κs args = (tt, by_reply)

pub all_monitors_tight : Tight of_book.all_monitors.ended book.all_monitors.Reads.Asked book.all_monitors.Reads.Learnt
all_monitors_tight κs args = (tt, by_reply)

pub add_monitor_tight : Tight of_book.add_monitor.ended book.add_monitor.Reads.Asked book.add_monitor.Reads.Learnt
add_monitor_tight κs args = (tt, by_slice)

pub take_monitor_tight : Tight of_book.take_monitor.ended book.take_monitor.Reads.Asked book.take_monitor.Reads.Learnt
take_monitor_tight κs args = (tt, by_slice)

pub drop_monitors_tight : Tight of_book.drop_monitors.ended book.drop_monitors.Reads.Asked book.drop_monitors.Reads.Learnt
drop_monitors_tight κs args = (tt, by_slice)

pub frames_of_tight : Tight of_book.frames_of.ended book.frames_of.Reads.Asked book.frames_of.Reads.Learnt
frames_of_tight κs args = (tt, λ x y. by_reply_first x y)

pub top_capacity_tight : Tight of_book.top_capacity.ended book.top_capacity.Reads.Asked book.top_capacity.Reads.Learnt
top_capacity_tight κs args = (tt, by_reply)

pub top_pushed_tight : Tight of_book.top_pushed.ended book.top_pushed.Reads.Asked book.top_pushed.Reads.Learnt
top_pushed_tight κs args = (tt, by_reply)

pub frames_left_tight : Tight of_book.frames_left.ended book.frames_left.Reads.Asked book.frames_left.Reads.Learnt
frames_left_tight κs args = (tt, λ x y. by_reply_first x y)

pub push_frame_tight : Tight of_book.push_frame.ended book.push_frame.Reads.Asked book.push_frame.Reads.Learnt
push_frame_tight κs args = (tt, by_slice)

pub leave_native_tight : Tight of_book.leave_native.ended book.leave_native.Reads.Asked book.leave_native.Reads.Learnt
leave_native_tight κs args = (tt, by_slice)

pub end_frames_tight : Tight of_book.end_frames.ended book.end_frames.Reads.Asked book.end_frames.Reads.Learnt
end_frames_tight κs args = (tt, by_slice)

pub pop_frame_tight : Tight of_book.pop_frame.ended book.pop_frame.Reads.Asked book.pop_frame.Reads.Learnt
pop_frame_tight κs args = (tt, by_slice)

pub raise_capacity_tight : Tight of_book.raise_capacity.ended book.raise_capacity.Reads.Asked book.raise_capacity.Reads.Learnt
raise_capacity_tight κs args = (tt, by_slice)

pub items_of_tight : Tight of_book.items_of.ended book.items_of.Reads.Asked book.items_of.Reads.Learnt
items_of_tight κs args = (tt, λ x y. by_reply_first x y)

pub top_item_tight : Tight of_book.top_item.ended book.top_item.Reads.Asked book.top_item.Reads.Learnt
top_item_tight κs args = (tt, λ x y p q. by_reply x y (one_top x.reply y.reply (p ∙ sym q)) refl)

pub push_item_tight : Tight of_book.push_item.ended book.push_item.Reads.Asked book.push_item.Reads.Learnt
push_item_tight κs args = (tt, by_slice)

pub pop_item_tight : Tight of_book.pop_item.ended book.pop_item.Reads.Asked book.pop_item.Reads.Learnt
pop_item_tight κs args = (tt, by_slice)

pub lines_of_tight : Tight of_book.lines_of.ended book.lines_of.Reads.Asked book.lines_of.Reads.Learnt
lines_of_tight κs args = (tt, by_reply)

pub count_line_tight : Tight of_book.count_line.ended book.count_line.Reads.Asked book.count_line.Reads.Learnt
count_line_tight κs args = (tt, by_slice)

pub is_closed_tight : Tight of_book.is_closed.ended book.is_closed.Reads.Asked book.is_closed.Reads.Learnt
is_closed_tight κs args = (tt, by_reply)

pub set_closed_tight : Tight of_book.set_closed.ended book.set_closed.Reads.Asked book.set_closed.Reads.Learnt
set_closed_tight κs args = (tt, by_slice)

pub is_overdone_tight : Tight of_book.is_overdone.ended book.is_overdone.Reads.Asked book.is_overdone.Reads.Learnt
is_overdone_tight κs args = (tt, by_reply)

pub unfit_tight : Tight of_book.unfit.ended book.unfit.Reads.Asked book.unfit.Reads.Learnt
unfit_tight κs args = (tt, by_reply)

pub clear_tight : Tight of_book.clear.ended book.clear.Reads.Asked book.clear.Reads.Learnt
clear_tight κs args = (tt, by_slice)
