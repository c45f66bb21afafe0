-- The book after each move: what is written to one row. Assumes nothing.
use Rattle.std.specs.Prelude.{ℕ, pred, ◌+◌, ◌-◌, ◌^◌, min, max, Bool, ltb, List, [], ◌∷◌, length, replicate, bit_and, bit_or, nat_lt}
use mathlib.Core.List.{tail}
use Rattle.words.specs.Choice.{if_true◌then◌else◌, one}
use Rattle.history.specs.Items.{Item}
use Rattle.history.specs.Frames.{without_native, without_pushed}
use Rattle.history.specs.Acceptance.{deepest}
use Rattle.history.specs.Replies.{most_lines}
use Rattle.rows.specs.Marks.{word}
use Rattle.book.specs.Layout.{lines_at, closed_at, env_at, pending_at, monitors_at, frames_at, capacity_at, pushed_at, items_at, natives_at, function_at, asked_at, cell, Write, into, wrote}
use Rattle.book.specs.Threads.{Thread, thread_in, top_capacity, marked_function, items_in, lines_in}

-- ---- frames

-- a frame more, if there is room
unfoldable pub push_frame : Thread → ℕ → Bool → List Write
push_frame x n p =
    if_true ltb (length x.frames) deepest then
    into (capacity_at (length x.frames)) n
    ∷ into (pushed_at (length x.frames)) (one p) ∷ into frames_at (length x.frames + 1) ∷ []
    else []

unfoldable pub frame_pushed : List ℕ → ℕ → ℕ → Bool → List ℕ
frame_pushed b t n p = wrote b t (push_frame (thread_in b t) n p)

-- X: without the frames of the top native
unfoldable pub leave_native : Thread → List Write
leave_native x = into frames_at (length (without_native x.frames)) ∷ []

unfoldable pub native_left : List ℕ → ℕ → List ℕ
native_left b t = wrote b t (leave_native (thread_in b t))

-- D: without any frame
unfoldable pub frames_ended : List ℕ → ℕ → List ℕ
frames_ended b t = wrote b t (into frames_at 0 ∷ [])

-- C of 20: without the top frame, if it was pushed
unfoldable pub pop_frame : Thread → List Write
pop_frame x = into frames_at (length (without_pushed x.frames)) ∷ []

unfoldable pub frame_popped : List ℕ → ℕ → List ℕ
frame_popped b t = wrote b t (pop_frame (thread_in b t))

-- R of 26: the top frame's capacity is k at least
unfoldable pub raise_capacity : Thread → ℕ → List Write
raise_capacity x k =
    if_true nat_lt 0 (length x.frames) then into (capacity_at (length x.frames - 1)) (max (top_capacity x.capacities) k) ∷ []
    else []

unfoldable pub capacity_raised : List ℕ → ℕ → ℕ → List ℕ
capacity_raised b t k = wrote b t (raise_capacity (thread_in b t) k)

-- ---- open items

-- the marks with item i's set, or cleared
unfoldable pub with_mark : ℕ → ℕ → Bool → ℕ
with_mark w i native = if_true native then bit_or w (2 ^ i) else bit_and w (2 ^ word - 1 - 2 ^ i)

-- an item more, if there is room
unfoldable pub push_item : List Item → ℕ → ℕ → ℕ → List Write
push_item is w f n =
    if_true ltb (length is) deepest then
    into (function_at (length is)) f
    ∷ into (asked_at (length is)) n ∷ into items_at (length is + 1) ∷ into natives_at (with_mark w (length is) (marked_function f)) ∷ []
    else []

unfoldable pub item_pushed : List ℕ → ℕ → ℕ → ℕ → List ℕ
item_pushed b t f n = wrote b t (push_item (items_in b t) (cell b t natives_at) f n)

-- without the top item
unfoldable pub pop_item : List Item → List Write
pop_item is = into items_at (length (tail is)) ∷ []

unfoldable pub item_popped : List ℕ → ℕ → List ℕ
item_popped b t = wrote b t (pop_item (items_in b t))

-- ---- the rest of a thread

unfoldable pub env_set : List ℕ → ℕ → ℕ → List ℕ
env_set b t v = wrote b t (into env_at v ∷ [])

unfoldable pub pending_set : List ℕ → ℕ → ℕ → List ℕ
pending_set b t v = wrote b t (into pending_at v ∷ [])

-- at most one over the limit, whatever stands there
unfoldable pub monitor_added : List ℕ → ℕ → List ℕ
monitor_added b t = wrote b t (into monitors_at (min (thread_in b t).monitors most_lines + 1) ∷ [])

-- one fewer, if there is any
unfoldable pub monitor_taken : List ℕ → ℕ → List ℕ
monitor_taken b t = wrote b t (into monitors_at (pred (thread_in b t).monitors) ∷ [])

-- D: none
unfoldable pub monitors_dropped : List ℕ → ℕ → List ℕ
monitors_dropped b t = wrote b t (into monitors_at 0 ∷ [])

-- ---- the trace

-- at most one over the limit, whatever stands there
unfoldable pub line_counted : List ℕ → List ℕ
line_counted b = wrote b 0 (into lines_at (min (lines_in b) most_lines + 1) ∷ [])

-- Z closes the trace
unfoldable pub closed_set : List ℕ → List ℕ
closed_set b = wrote b 0 (into closed_at 1 ∷ [])

-- a start: all numbers are 0
unfoldable pub cleared : List ℕ → List ℕ
cleared b = replicate (length b) 0
