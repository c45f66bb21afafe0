-- What an accepted line leaves in the lent tables. Assumes nothing.
use Rattle.std.specs.Prelude.{ℕ, suc, ◌+◌, Bool, true, false, ◌&&◌, ◌||◌, List, [], ◌∷◌, map, eqb, length}
use Rattle.words.specs.Choice.{if_true◌then◌else◌}
use Rattle.facts.specs.Table.{fact_of, family, is_critical}
use Rattle.facts.specs.Named.{PushLocalFrame, PopLocalFrame, DeleteGlobalRef, DeleteLocalRef, EnsureLocalCapacity, MonitorEnter, MonitorExit, DeleteWeakGlobalRef}
use Rattle.facts.specs.Results.{is_buffer_place}
use Rattle.lines.specs.Line.{Line, if_opens◌then◌else◌, if_N◌then◌else◌, if_X◌then◌else◌, if_C◌then◌else◌, if_R◌then◌else◌, if_A◌then◌else◌, if_D◌then◌else◌, if_Z◌then◌else◌, if_K◌then◌else◌, if_O◌then◌else◌, if_M◌then◌else◌, kind, is_zero, above_zero}
use Rattle.rows.specs.Table.{Layout, Table, found, taken, changed, ended, ended_all}
use Rattle.rows.specs.References.{references, with_class, is_handle, from_frame}
use Rattle.rows.specs.Pins.{pins, is_buffer}
use Rattle.history.specs.Frames.{without_native, top_pushed}
use Rattle.history.specs.Handles.{in_frame}
use Rattle.history.specs.Capacities.{native_capacity}
use Rattle.history.specs.Buffers.{gets}
use Rattle.history.specs.Statements.{class_by}
use Rattle.history.specs.Acceptance.{made_by}
use Rattle.classes.specs.Supers.{with_super}
use Rattle.classes.specs.Identities.{place_of, with_identity}
use Rattle.book.specs.Threads.{thread_in}
use Rattle.book.specs.Moves.{frame_pushed, native_left, frames_ended, frame_popped, capacity_raised, item_pushed, item_popped, env_set, pending_set, monitor_added, monitor_taken, monitors_dropped, line_counted, closed_set}
use Rattle.book.specs.Threads.{no_function, attached_function}
use Rattle.tables.specs.Tables.{Tables, seen_in, reference_of, pin_row_of, handles_in}

-- ---- rows

-- a row for each, in their order
unfoldable pub all_taken : {A : Type 0} → Layout A → Table → List A → Table
all_taken L T [] = T
all_taken L T (x ∷ xs) = all_taken L (taken L T x) xs

-- the lowest row that passes the test ended, if there is one
unfoldable pub first_ended : {A : Type 0} → Layout A → (A → Bool) → Table → Table
first_ended L test T = ended L T (found L test T)

-- C of 23, 22, 227 where the handle is of that place's kind
abbrev pub is_delete : ℕ → ℕ → Bool
is_delete f a =
    (eqb f DeleteLocalRef && eqb (kind a) 1)
    || (eqb f DeleteGlobalRef && eqb (kind a) 2) || (eqb f DeleteWeakGlobalRef && eqb (kind a) 3)

-- the thread in the row of what is deleted
abbrev pub delete_owner : ℕ → ℕ → ℕ
delete_owner f t = if_true eqb f DeleteLocalRef then t else 0

-- the thread in the row of a buffer
abbrev pub pin_owner : ℕ → ℕ → ℕ
pin_owner f t = if_true is_critical (family f) then t else 0

-- the thread in the row of what thread t names by h
abbrev pub owner_of : ℕ → ℕ → ℕ
owner_of t h = if_true eqb (kind h) 1 then t else 0

-- X ends the rows of its native's frames, D those of all frames of its thread; 20 those of the top frame, if it was pushed; what line number `line` makes carries that number,
-- and the class that the line gives it; O writes its class into the lowest matching row
unfoldable pub references_after : ℕ → Line → Tables → Table
references_after line e T =
    if_X e then (λ t r. ended_all references (from_frame t (suc (length (without_native (thread_in T.book t).frames)))) T.references)
    else if_C e then
    (λ t env f a b c n.
    if_true is_delete f a then first_ended references (is_handle (delete_owner f t) a) T.references
    else if_true eqb f PopLocalFrame && top_pushed (thread_in T.book t).frames then
    ended_all references (from_frame t (length (thread_in T.book t).frames)) T.references
    else T.references)
    else if_D e then (λ t. ended_all references (from_frame t 1) T.references)
    else if_O e then (λ t h c. changed references T.references (found references (is_handle (owner_of t h) h) T.references) (with_class c))
    else all_taken references T.references (map (reference_of line (class_by e)) (made_by e (seen_in T)))

-- a release ends the lowest matching row
unfoldable pub pins_after : ℕ → Line → Tables → Table
pins_after line e T =
    if_C e then
    (λ t env f a b c n.
    if_true is_buffer_place (fact_of f).b then first_ended pins (is_buffer (pin_owner f t) (family f) b) T.pins else T.pins)
    else all_taken pins T.pins (map (pin_row_of line) (gets e))

-- ---- the classes

-- K writes the super of its class, M what it states at the identity's place
unfoldable pub classes_after : Line → List ℕ → List ℕ
classes_after e cs =
    if_K e then (λ c s. with_super cs c s)
    else if_M e then (λ x sort c static final. with_identity cs (place_of cs x) x sort static final)
    else cs

-- ---- the book

-- an env once set stays
abbrev pub env_kept : List ℕ → ℕ → ℕ → List ℕ
env_kept b t env = if_true eqb (thread_in b t).env 0 then env_set b t env else b

-- N, and A, which has no handles, opens a frame, keeps the env and clears pending
abbrev pub native_entered : List ℕ → ℕ → ℕ → List ℕ → List ℕ
native_entered b t env hs = pending_set (env_kept (frame_pushed b t (native_capacity hs) false) t env) t 0

-- D ends the thread's frames, and drops its monitors
abbrev pub detached : List ℕ → ℕ → List ℕ
detached b t = monitors_dropped (frames_ended b t) t

-- what a status of 0 does: `held` locals are alive in the top frame, and `n` was asked of the open call
abbrev pub status_acted : List ℕ → ℕ → ℕ → ℕ → ℕ → List ℕ
status_acted b t f held n =
    if_true eqb f PushLocalFrame then frame_pushed b t n true
    else if_true eqb f EnsureLocalCapacity then capacity_raised b t (held + n)
    else if_true eqb f MonitorEnter then monitor_added b t
    else if_true eqb f MonitorExit then monitor_taken b t
    else b

unfoldable pub book_after : Line → ℕ → Tables → List ℕ
book_after e n T =
    if_opens e then (λ t env hs. native_entered T.book t env hs)
    else if_X e then (λ t r. native_left T.book t)
    else if_C e then (λ t env f a b c m. if_true eqb f PopLocalFrame then frame_popped T.book t else T.book)
    else if_R e then
    (λ t f r p.
    pending_set
    (if_true is_zero r then
    status_acted T.book t f (handles_in T.references (in_frame t (length (thread_in T.book t).frames))) n
    else T.book)
    t
    p)
    else if_D e then (λ t. detached T.book t)
    else if_Z e then closed_set T.book
    else T.book

-- all but the open items; line number `line`, `n` was asked of the open call on top
unfoldable pub acted : ℕ → Line → ℕ → Tables → Tables
acted line e n T =
    record {
      references = references_after line e T;
      pins = pins_after line e T;
      book = line_counted (book_after e n T);
      classes = classes_after e T.classes;
    }

-- ---- the open items

unfoldable pub items_moved : Line → List ℕ → List ℕ
items_moved e b =
    if_N e then (λ t env hs. item_pushed b t no_function 0)
    else if_X e then (λ t r. item_popped b t)
    else if_C e then (λ t env f a b' c n. item_pushed b t f (above_zero n))
    else if_R e then (λ t f r p. item_popped b t)
    else if_A e then (λ t env. item_pushed b t attached_function 0)
    else if_D e then (λ t. item_popped b t)
    else b
