-- Refusal 8: the lent thread book is not fit. Assumes nothing.
use Rattle.std.specs.Prelude.{ℕ, Bool, ◌&&◌, ◌||◌, List, length, ◌==◌, nat_lt}
use Rattle.words.specs.Lists.{any}
use Rattle.history.specs.Acceptance.{deepest}
use Rattle.history.specs.Replies.{most_lines}
use Rattle.history.specs.Thread.{all_threads}
use Rattle.book.specs.Layout.{whole, lines_at, monitors_at, frames_at, items_at, cell}
use Rattle.history.specs.Items.{Item}
use Rattle.book.specs.Threads.{Thread, items_in, natives}

-- over 64 open items or frames, more natives than frames, open items in a thread without a frame, or a monitor count over 1,000,000
abbrev pub overdone : ℕ → ℕ → ℕ → ℕ → Bool
overdone items frames natives monitors =
    nat_lt deepest items
    || nat_lt deepest frames
    || nat_lt frames natives || (nat_lt 0 items && frames == 0) || nat_lt most_lines monitors

-- thread t of the book, by what stands there
unfoldable pub overdone_in : List ℕ → ℕ → Bool
overdone_in b t = overdone (cell b t items_at) (cell b t frames_at) (natives (items_in b t)) (cell b t monitors_at)

-- the book is short, or has one of these, or a line count over 1,000,000
unfoldable pub unfit : List ℕ → Bool
unfit b = nat_lt (length b) whole || nat_lt most_lines (cell b 0 lines_at) || any (overdone_in b) all_threads

-- a thread and its open items, by their lists
unfoldable pub overdoes : Thread → List Item → Bool
overdoes x is = overdone (length is) (length x.frames) (natives is) x.monitors
