-- What the code looked up for N, X, C, Z, K and O is what the tables show. Assumes nothing.
use Prim.Native.Nat.{ℕ, ◌≤◌, ◌*◌, ◌-◌, min}
use mathlib.Core.Path.{◌≡◌, ap, ap₂, ◌∙◌}
use mathlib.Core.Bool.{Bool, true}
use mathlib.Core.List.{List, [], ◌∷◌}
use native.Mathlib.Omega.{arith}
use lib.Dec.{ltb}
use lib.ListN.{length}
use Rattle.words.specs.Lists.{sum}
use Rattle.facts.specs.Classes.{no_class}
use Rattle.facts.specs.Places.{places_of}
use Rattle.facts.specs.declared.places.Places.{Places}
use Rattle.rows.specs.Table.{Table, room, alive, most}
use Rattle.rows.specs.References.{references}
use Rattle.rows.specs.Pins.{pins}
use Rattle.history.specs.Frames.{top_pushed}
use Rattle.history.specs.Thread.{all_threads}
use Rattle.history.specs.Handles.{global_or_weak}
use Rattle.history.specs.Buffers.{critical_of}
use Rattle.history.specs.Acceptance.{everything}
use Rattle.history.specs.Replies.{most_lines}
use Rattle.history.specs.Classes.{is_known}
use Rattle.history.specs.Breaches.{in_critical}
use Rattle.classes.specs.Supers.{super_in}
use Rattle.classes.specs.Identities.{identity_room, place_of}
use Rattle.book.specs.Threads.{thread_in, env_elsewhere, all_monitors}
use Rattle.tables.specs.Tables.{Tables, alive_of, handles_in, buffers_in, seen_in}
use Rattle.tables.proofs.RowCounts.{counted_all, counted_most}
use Rattle.sight.specs.declared.spot.Spot.{Spot}
use Rattle.sight.specs.Spots.{handle_spot, place_spot}
use Rattle.sight.specs.Sights.{call_sight, leave_sight, some_alive, enter_sight, detach_sight, end_sight, declare_sight, state_sight, identify_sight}

-- ---- C and X

module _ (T : Tables) (t : ℕ) where
  pub call_seen : (f a b c own thrown held : ℕ) (pushed region : Bool) (at : Places) (x y z : Spot)
      → own ≡ (thread_in T.book t).env → thrown ≡ (thread_in T.book t).pending → held ≡ (thread_in T.book t).monitors → pushed ≡ top_pushed (thread_in T.book t).frames
      → region ≡ ltb 0 (buffers_in T.pins (critical_of t)) → at ≡ places_of f
      → x ≡ place_spot at.first at.a T t f a → y ≡ place_spot at.second at.b T t f b → z ≡ place_spot no_class at.c T t f c
      → record { env = own; pending = thrown; monitors = held; pushed = pushed; critical = region; pa = at.a; pb = at.b; pc = at.c; a = x; b = y; c = z } ≡ call_sight T t f a b c
  unfolding call_sight seen_in in_critical
  call_seen f a b c own thrown held pushed region at x y z eo et eh ed er ep ex ey ez i =
      record {
        env = eo i;
        pending = et i;
        monitors = eh i;
        pushed = ed i;
        critical = er i;
        pa = (ep i).a;
        pb = (ep i).b;
        pc = (ep i).c;
        a = (ex ∙ ap (λ (p : Places). place_spot p.first p.a T t f a) ep) i;
        b = (ey ∙ ap (λ (p : Places). place_spot p.second p.b T t f b) ep) i;
        c = (ez ∙ ap (λ (p : Places). place_spot no_class p.c T t f c) ep) i;
      }

  pub leave_seen : (r : ℕ) (region : Bool) (x : Spot) → region ≡ ltb 0 (buffers_in T.pins (critical_of t)) → x ≡ handle_spot no_class T t r
      → record { critical = region; result = x } ≡ leave_sight T t r
  unfolding leave_sight seen_in in_critical
  leave_seen r region x er ex i = record { critical = er i; result = ex i }

  pub detach_seen : (region : Bool) (held : ℕ) → region ≡ ltb 0 (buffers_in T.pins (critical_of t)) → held ≡ (thread_in T.book t).monitors
      → record { critical = region; monitors = held } ≡ detach_sight T t
  unfolding detach_sight seen_in in_critical
  detach_seen region held er eh i = record { critical = er i; monitors = eh i }

  -- ---- N

  pub enter_seen : (env : ℕ) (hs : List ℕ) (own : ℕ) (other live : Bool) (n k r f : ℕ) → own ≡ (thread_in T.book t).env → other ≡ env_elsewhere T.book t env
      → live ≡ some_alive T.references t hs → n ≡ room references T.references → k ≡ alive references T.references → r ≡ n - k → f ≡ length (thread_in T.book t).frames
      → record { env = own; elsewhere = other; alive = live; free = r; frames = f } ≡ enter_sight T t env hs
  unfolding enter_sight seen_in
  enter_seen env hs own other live n k r f eo ee el en ek er ef i =
      record { env = eo i; elsewhere = ee i; alive = el i; free = (er ∙ ap₂ ◌-◌ en ek) i; frames = ef i }

-- ---- Z

pub buffers_le : (T : Table) (k : ℕ) → k ≡ alive pins T → k ≤ most
buffers_le T k e = omega (arith, e, counted_all pins T, counted_most pins (λ x. true) T)

pub all_buffers : (T : Table) (k : ℕ) → k ≡ alive pins T → k ≡ buffers_in T everything
unfolding buffers_in
all_buffers T k e = e ∙ counted_all pins T

pub globals_le : (T : Table) (k : ℕ) → k ≡ handles_in T global_or_weak → k ≤ most
unfolding handles_in
globals_le T k e = omega (arith, e, counted_most references (λ x. global_or_weak (alive_of x)) T)

sum_most : (f : ℕ → ℕ) (ts : List ℕ) → ((t : ℕ) → f t ≤ most_lines) → sum f ts ≤ most_lines * length ts
sum_most f [] h = omega arith
sum_most f (t ∷ ts) h = omega (arith, h t, sum_most f ts h)

pub monitors_le : (b : List ℕ) (k : ℕ) → k ≡ all_monitors b → k ≤ most_lines * length all_threads
unfolding all_monitors
monitors_le b k e = omega (arith, e, sum_most (λ (t : ℕ). min (thread_in b t).monitors most_lines) all_threads (λ t. omega arith))

pub end_seen : (T : Tables) (x y z : ℕ) → x ≡ buffers_in T.pins everything → y ≡ all_monitors T.book → z ≡ handles_in T.references global_or_weak
    → record { buffers = x; monitors = y; handles = z } ≡ end_sight T
unfolding end_sight seen_in
end_seen T x y z ex ey ez i = record { buffers = ex i; monitors = ey i; handles = ez i }

-- ---- K and O

module _ (T : Tables) where
  pub declare_seen : (c s : ℕ) (x y : Bool) → x ≡ is_known (super_in T.classes) c → y ≡ is_known (super_in T.classes) s
      → record { known = x; under = y } ≡ declare_sight T c s
  unfolding declare_sight seen_in
  declare_seen c s x y ex ey i = record { known = ex i; under = ey i }

  pub state_seen : (t h c : ℕ) (x : Bool) (y : Spot) → x ≡ is_known (super_in T.classes) c → y ≡ handle_spot no_class T t h
      → record { known = x; alive = y.there; row = y.row } ≡ state_sight T t h c
  unfolding state_sight handle_spot seen_in
  state_seen t h c x y ex ey i = record { known = ex i; alive = (ey i).there; row = (ey i).row }

  pub identify_seen : (x c k n : ℕ) (q : Bool) → q ≡ is_known (super_in T.classes) c → k ≡ place_of T.classes x → n ≡ identity_room T.classes
      → record { known = q; place = k; fits = ltb k n } ≡ identify_sight T x c
  unfolding identify_sight seen_in
  identify_seen x c k n q eq ek en i = record { known = eq i; place = ek i; fits = ltb (ek i) (en i) }
