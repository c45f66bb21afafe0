-- What a line is told of the lent tables: what is seen at its thread and values, and the rows found. Assumes nothing.
use Rattle.std.specs.Prelude.{ℕ, ◌-◌, Bool, List, ltb, length}
use Rattle.words.specs.Lists.{any}
use Rattle.facts.specs.Table.{fact_of}
use Rattle.facts.specs.Classes.{no_class, class_a, class_b}
use Rattle.rows.specs.Table.{Table, room, alive}
use Rattle.rows.specs.References.{references}
use Rattle.history.specs.Frames.{top_pushed}
use Rattle.history.specs.Handles.{is_local, global_or_weak}
use Rattle.history.specs.Classes.{is_known}
use Rattle.history.specs.Seen.{handle_alive}
use Rattle.history.specs.Acceptance.{everything}
use Rattle.history.specs.Breaches.{in_critical}
use Rattle.classes.specs.Identities.{identity_room, place_of}
use Rattle.book.specs.Threads.{env_elsewhere}
use Rattle.tables.specs.Tables.{Tables, handles_in, seen_in}
use Rattle.sight.specs.declared.call.CallSight.{CallSight}
use Rattle.sight.specs.declared.leave.LeaveSight.{LeaveSight}
use Rattle.sight.specs.declared.enter.EnterSight.{EnterSight}
use Rattle.sight.specs.declared.detach.DetachSight.{DetachSight}
use Rattle.sight.specs.declared.end.EndSight.{EndSight}
use Rattle.sight.specs.declared.declare.DeclareSight.{DeclareSight}
use Rattle.sight.specs.declared.state.StateSight.{StateSight}
use Rattle.sight.specs.declared.identify.IdentifySight.{IdentifySight}
use Rattle.sight.specs.Spots.{handle_row, handle_spot, place_spot}

-- C of function f by thread t with a b c
unfoldable pub call_sight : Tables → ℕ → ℕ → ℕ → ℕ → ℕ → CallSight
call_sight T t f a b c =
    record {
      env = (seen_in T).env t;
      pending = (seen_in T).pending t;
      monitors = (seen_in T).monitors t;
      pushed = top_pushed ((seen_in T).frames t);
      critical = in_critical t (seen_in T);
      pa = (fact_of f).a;
      pb = (fact_of f).b;
      pc = (fact_of f).c;
      a = place_spot (class_a f) (fact_of f).a T t f a;
      b = place_spot (class_b f) (fact_of f).b T t f b;
      c = place_spot no_class (fact_of f).c T t f c;
    }

-- X by thread t, with its result
unfoldable pub leave_sight : Tables → ℕ → ℕ → LeaveSight
leave_sight T t r = record { critical = in_critical t (seen_in T); result = handle_spot no_class T t r }

-- one of these is alive in the thread
unfoldable pub some_alive : Table → ℕ → List ℕ → Bool
some_alive R t hs = any (λ (h : ℕ). ltb 0 (handles_in R (is_local t h))) hs

-- N by thread t, and A, with no handles
unfoldable pub enter_sight : Tables → ℕ → ℕ → List ℕ → EnterSight
enter_sight T t env hs =
    record {
      env = (seen_in T).env t;
      elsewhere = env_elsewhere T.book t env;
      alive = some_alive T.references t hs;
      free = room references T.references - alive references T.references;
      frames = length ((seen_in T).frames t);
    }

-- D by thread t
unfoldable pub detach_sight : Tables → ℕ → DetachSight
detach_sight T t = record { critical = in_critical t (seen_in T); monitors = (seen_in T).monitors t }

-- Z
unfoldable pub end_sight : Tables → EndSight
end_sight T =
    record {
      buffers = (seen_in T).buffers everything;
      monitors = (seen_in T).all_monitors;
      handles = (seen_in T).handles global_or_weak;
    }

-- K of class c with super s
unfoldable pub declare_sight : Tables → ℕ → ℕ → DeclareSight
declare_sight T c s = record { known = is_known (seen_in T).super c; under = is_known (seen_in T).super s }

-- O by thread t of handle h, with class c
unfoldable pub state_sight : Tables → ℕ → ℕ → ℕ → StateSight
state_sight T t h c =
    record {
      known = is_known (seen_in T).super c;
      alive = handle_alive t h (seen_in T);
      row = handle_row T.references t h;
    }

-- M of identity x, with class c
unfoldable pub identify_sight : Tables → ℕ → ℕ → IdentifySight
identify_sight T x c =
    record {
      known = is_known (seen_in T).super c;
      place = place_of T.classes x;
      fits = ltb (place_of T.classes x) (identity_room T.classes);
    }
