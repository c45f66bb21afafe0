-- An accepted line touches one thread of the lent book, its own, and counts itself. Assumes nothing.
use Prim.Native.Nat.{ℕ, suc, ◌+◌, ◌≤◌}
use mathlib.Core.Bool.{Bool, true, false}
use mathlib.Core.List.{List, []}
use native.Mathlib.Omega.{arith}
use lib.Dec.{eqb}
use lib.ListN.{length}
use Rattle.words.specs.Choice.{if_true◌then◌else◌}
use Rattle.facts.specs.Named.{PushLocalFrame, PopLocalFrame, EnsureLocalCapacity, MonitorEnter, MonitorExit}
use Rattle.lines.specs.Line.{Line, N, X, C, R, A, D, Z, states, is_zero, above_zero}
use Rattle.history.specs.Past.{thread_of}
use Rattle.history.specs.Handles.{in_frame}
use Rattle.history.specs.Capacities.{native_capacity}
use Rattle.book.specs.Threads.{thread_in, no_function, attached_function, lines_in}
use Rattle.book.specs.Moves.{frame_pushed, frames_ended, line_counted}
use Rattle.book.proofs.Elsewhere.{Elsewhere, further, keeping, nowhere, frame_pushed_elsewhere, native_left_elsewhere, frames_ended_elsewhere, frame_popped_elsewhere, capacity_raised_elsewhere, env_set_elsewhere, pending_set_elsewhere, monitor_added_elsewhere, monitor_taken_elsewhere, monitors_dropped_elsewhere, item_pushed_elsewhere, item_popped_elsewhere, line_counted_elsewhere, closed_set_elsewhere, counted_at_most}
use Rattle.tables.specs.Tables.{Tables, handles_in}
use Rattle.tables.specs.Acting.{env_kept, native_entered, status_acted, book_after, acted, items_moved}

either : {t n : ℕ} {b d e : List ℕ} (q : Bool) → Elsewhere t n b d → Elsewhere t n b e → Elsewhere t n b (if_true q then d else e)
either true x y = x
either false x y = y

-- ---- one line

module _ (b : List ℕ) (t : ℕ) where
  enter_touches : (env : ℕ) (hs : List ℕ) → Elsewhere t (lines_in b) b (native_entered b t env hs)
  enter_touches env hs =
      let d = frame_pushed b t (native_capacity hs) false in
      keeping (keeping (frame_pushed_elsewhere b t (native_capacity hs) false) (env_kept_elsewhere d)) (pending_set_elsewhere (env_kept d t env) t 0)
    where
      env_kept_elsewhere : (d : List ℕ) → Elsewhere t (lines_in d) d (env_kept d t env)
      env_kept_elsewhere d = either (eqb (thread_in d t).env 0) (env_set_elsewhere d t env) nowhere

  status_touches : (f held n : ℕ) → Elsewhere t (lines_in b) b (status_acted b t f held n)
  status_touches f held n =
      either (eqb f PushLocalFrame) (frame_pushed_elsewhere b t n true)
      (either (eqb f EnsureLocalCapacity) (capacity_raised_elsewhere b t (held + n))
      (either (eqb f MonitorEnter) (monitor_added_elsewhere b t) (either (eqb f MonitorExit) (monitor_taken_elsewhere b t) nowhere)))

pub items_touch : (e : Line) (b : List ℕ) → Elsewhere (thread_of e) (lines_in b) b (items_moved e b)
unfolding items_moved
items_touch (N t env hs) b = item_pushed_elsewhere b t no_function 0
items_touch (X t r) b = item_popped_elsewhere b t
items_touch (C t env f x y z n) b = item_pushed_elsewhere b t f (above_zero n)
items_touch (R t f r p) b = item_popped_elsewhere b t
items_touch (A t env) b = item_pushed_elsewhere b t attached_function 0
items_touch (D t) b = item_popped_elsewhere b t
items_touch Z b = nowhere
items_touch (states s) b = nowhere

module _ (n : ℕ) (T : Tables) where
  pub book_touched : (e : Line) → Elsewhere (thread_of e) (lines_in T.book) T.book (book_after e n T)
  unfolding book_after
  book_touched (N t env hs) = enter_touches T.book t env hs
  book_touched (X t r) = native_left_elsewhere T.book t
  book_touched (C t env f x y z m) = either (eqb f PopLocalFrame) (frame_popped_elsewhere T.book t) nowhere
  book_touched (R t f r p) =
      keeping
      (either (is_zero r)
      (status_touches T.book t f (handles_in T.references (in_frame t (length (thread_in T.book t).frames))) n)
      nowhere) (pending_set_elsewhere _ t p)
  book_touched (A t env) = enter_touches T.book t env []
  book_touched (D t) = keeping (frames_ended_elsewhere T.book t) (monitors_dropped_elsewhere (frames_ended T.book t) t)
  book_touched Z = closed_set_elsewhere T.book 0
  book_touched (states s) = nowhere

  module _ (line : ℕ) (e : Line) where
    -- all that an accepted line does to the book
    pub line_touches : Elsewhere (thread_of e) (lines_in (line_counted (book_after e n T))) T.book (items_moved e (acted line e n T).book)
    unfolding acted
    line_touches =
        keeping (further (book_touched e) (line_counted_elsewhere (book_after e n T) (thread_of e))) (items_touch e (line_counted (book_after e n T)))

    pub one_line_more : lines_in (items_moved e (acted line e n T).book) ≤ suc (lines_in T.book)
    one_line_more = omega (arith, line_touches.lines, counted_at_most (book_after e n T), (book_touched e).lines)
