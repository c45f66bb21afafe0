-- What R is told of the lent tables. Assumes nothing.
use Rattle.std.specs.Prelude.{ℕ, Bool, true, false, not, ◌&&◌, List, eqb, leb, ltb, length}
use Rattle.words.specs.Choice.{if_true◌then◌else◌}
use Rattle.facts.specs.Table.{fact_of}
use Rattle.facts.specs.Results.{is_local_result, is_handle_result, is_buffer_result}
use Rattle.facts.specs.declared.Result.{Result}
use Rattle.rows.specs.Table.{Table, room, free_row}
use Rattle.rows.specs.References.{references}
use Rattle.rows.specs.Pins.{pins}
use Rattle.history.specs.Handles.{is_local, is_shared, in_frame}
use Rattle.book.specs.Threads.{thread_in, top_capacity}
use Rattle.tables.specs.Tables.{Tables, handles_in}
use Rattle.sight.specs.declared.returns.Made.{Made}
use Rattle.sight.specs.declared.returns.ReturnSight.{ReturnSight}

-- ---- what is made

abbrev pub nothing_made : Made
nothing_made = record { alive = false; row = 0; fits = true }

-- a local in its thread, a global or weak in none
abbrev pub is_alive_as : Bool → Table → ℕ → ℕ → Bool
is_alive_as l R t h = if_true l then ltb 0 (handles_in R (is_local t h)) else ltb 0 (handles_in R (is_shared h))

unfoldable pub handle_made : Bool → Table → ℕ → ℕ → Made
handle_made l R t h =
    record {
      alive = is_alive_as l R t h;
      row = free_row references R;
      fits = ltb (free_row references R) (room references R);
    }

unfoldable pub buffer_made : Table → Made
buffer_made P = record { alive = false; row = free_row pins P; fits = ltb (free_row pins P) (room pins P) }

unfoldable pub made_sight : Table → Table → Result → ℕ → ℕ → Made
made_sight R P k t h =
    if_true eqb h 0 then nothing_made
    else if_true is_handle_result k then handle_made (is_local_result k) R t h
    else if_true is_buffer_result k then buffer_made P
    else nothing_made

-- ---- the capacity

-- one local more is more than the top frame's capacity
unfoldable pub over_capacity : Table → List ℕ → ℕ → Bool
over_capacity R b t =
    ltb 0 (length (thread_in b t).frames)
    && leb (top_capacity (thread_in b t).capacities) (handles_in R (in_frame t (length (thread_in b t).frames)))

-- a local that is made is more than that
unfoldable pub overflows_in : Table → List ℕ → Result → ℕ → ℕ → Bool
overflows_in R b k t h = (is_local_result k && not (eqb h 0)) && over_capacity R b t

-- ---- R of function f by thread t, with the result h

unfoldable pub return_sight : Tables → ℕ → ℕ → ℕ → ReturnSight
return_sight T t f h =
    record {
      kind = (fact_of f).result;
      made = made_sight T.references T.pins (fact_of f).result t h;
      frames = length (thread_in T.book t).frames;
      over = overflows_in T.references T.book (fact_of f).result t h;
    }
