-- The number given to a line is told by what was looked up for it. Assumes nothing.
use Prim.Native.Nat.{ℕ, suc, ◌+◌, ◌-◌, ◌≤◌, ◌<◌}
use mathlib.Core.Path.{◌≡◌, refl, sym, ap, ap₂, ◌∙◌}
use mathlib.Core.Bool.{Bool, true, false, not, ◌&&◌, ◌||◌}
use mathlib.Core.List.{List, [], ◌∷◌, map}
use Rattle.std.specs.Prelude.{Option}
use native.Mathlib.Decide.{dec_lt}
use native.Mathlib.Omega.{arith}
use borrow.Author.Tests.{eq-eqb, lt-ltb, le-ltb, lt-leb, le-leb}
use lib.Dec.{eqb, leb, ltb}
use lib.IntN.{ℤ}
use lib.ListN.{length, length-map}
use Rattle.words.specs.Choice.{if_true◌then◌else◌}
use Rattle.words.specs.Lists.{any}
use Rattle.facts.specs.Named.{PopLocalFrame}
use Rattle.lines.specs.Line.{Statement, K, O, M, N, X, C, A, D, Z, states}
use Rattle.rows.specs.Table.{room, alive}
use Rattle.rows.specs.References.{references}
use Rattle.rows.specs.Pins.{pins}
use Rattle.history.specs.Items.{Item, is_empty, is_native, is_call, is_attached, native_or_attached}
use Rattle.history.specs.Frames.{Frame, entered, pushed, without_native, without_pushed}
use Rattle.history.specs.Handles.{Alive, local, makes, is_local, same_handle}
use Rattle.history.specs.Buffers.{gets}
use Rattle.history.specs.Seen.{is_alive, handle_alive}
use Rattle.history.specs.Classes.{is_known}
use Rattle.history.specs.Acceptance.{in_step, env_right, made_by, twice, makes_anew, classes_right, names_alive, first_refusal, deepest}
use Rattle.classes.specs.Supers.{super_in}
use Rattle.classes.specs.Identities.{identity_room, place_of}
use Rattle.book.specs.Threads.{thread_in, closed_in, env_elsewhere}
use Rattle.book.proofs.Changing.{frames_within}
use Rattle.tables.specs.Tables.{Tables, handles_in, seen_in}
use Rattle.tables.specs.Weighing.{rows_left, place_left, refusal_in}
use Rattle.tables.proofs.RowCounts.{alive_most}
use Rattle.sight.specs.declared.state.StateSight.{StateSight}
use Rattle.sight.specs.Sights.{some_alive, enter_sight, declare_sight, state_sight, identify_sight}
use Rattle.weigh.specs.Enter.{enter_turn, named_twice, env_fits, enter_room, enter_refusal}
use Rattle.weigh.specs.Attach.{attach_turn}
use Rattle.weigh.specs.Detach.{detach_refusal}
use Rattle.weigh.specs.Leave.{leave_refusal}
use Rattle.weigh.specs.Call.{call_refusal}
use Rattle.weigh.specs.Declare.{declare_refusal}
use Rattle.weigh.specs.State.{state_refusal}
use Rattle.weigh.specs.Identify.{identify_refusal}

-- ---- room for a line that makes nothing

left_shorter : (fs : List Frame) → length (without_native fs) ≤ length fs
left_shorter [] = omega arith
left_shorter (entered ∷ fs) = omega arith
left_shorter (pushed ∷ fs) = omega (arith, left_shorter fs)

popped_shorter : (pops : Bool) (fs : List Frame) → length (if_true pops then without_pushed fs else fs) ≤ length fs
popped_shorter true [] = omega arith
popped_shorter true (entered ∷ fs) = omega arith
popped_shorter true (pushed ∷ fs) = omega arith
popped_shorter false fs = omega arith

nothing_made : (T : Tables) (n : ℕ) → n ≤ deepest
    → (leb (0 + alive references T.references) (room references T.references) && leb (0 + alive pins T.pins) (room pins T.pins) && leb n deepest) ≡ true
nothing_made T n h =
    rw (
      le-leb (0 + alive references T.references) (room references T.references) (omega (arith, alive_most references T.references)),
      le-leb (0 + alive pins T.pins) (room pins T.pins) (omega (arith, alive_most pins T.pins)),
      le-leb n deepest h,
    )
    refl

-- ---- X

leave_room : (T : Tables) (t r : ℕ) → rows_left (X t r) T ≡ true
unfolding rows_left made_by makes gets seen_in
leave_room T t r =
    nothing_made T (length (without_native (thread_in T.book t).frames))
    (omega (arith, left_shorter (thread_in T.book t).frames, frames_within T.book t))

by_step : (step : Bool) → first_refusal step true true true true true ≡ (if_true step then 0 else 4)
by_step true = refl
by_step false = refl

pub leave_told : (T : Tables) (top : Option Item) (many t r : ℕ) → refusal_in (X t r) top many T ≡ leave_refusal (closed_in T.book) top
unfolding refusal_in place_left leave_refusal in_step env_right classes_right names_alive makes_anew made_by makes seen_in
leave_told T top many t r =
    ap (λ (o : Bool). first_refusal (not (closed_in T.book) && is_native top) true true true true (o && true)) (leave_room T t r)
    ∙ by_step (not (closed_in T.book) && is_native top)

-- ---- D

detach_room : (T : Tables) (t : ℕ) → rows_left (D t) T ≡ true
unfolding rows_left made_by makes gets seen_in
detach_room T t = nothing_made T 0 (omega arith)

pub detach_told : (T : Tables) (top : Option Item) (many t : ℕ) → refusal_in (D t) top many T ≡ detach_refusal (closed_in T.book) top
unfolding refusal_in place_left detach_refusal in_step env_right classes_right names_alive makes_anew made_by makes seen_in
detach_told T top many t =
    ap (λ (o : Bool). first_refusal (not (closed_in T.book) && is_attached top) true true true true (o && true)) (detach_room T t)
    ∙ by_step (not (closed_in T.book) && is_attached top)

-- ---- C

call_room : (T : Tables) (t env f a b c : ℕ) (n : ℤ) → rows_left (C t env f a b c n) T ≡ true
unfolding rows_left made_by makes gets seen_in
call_room T t env f a b c n =
    nothing_made T (length (if_true eqb f PopLocalFrame then without_pushed (thread_in T.book t).frames else (thread_in T.book t).frames))
    (omega (arith, popped_shorter (eqb f PopLocalFrame) (thread_in T.book t).frames, frames_within T.book t))

by_items : (step : Bool) (many : ℕ) → first_refusal step true true true true (ltb many deepest) ≡ (if_true step then (if_true leb deepest many then 7 else 0) else 4)
by_items false many = refl
by_items true many = go (dec_lt many deepest)
  where
    go : Dec (many < deepest) → first_refusal true true true true true (ltb many deepest) ≡ (if_true leb deepest many then 7 else 0)
    go (yes h) = rw (lt-ltb many deepest h, lt-leb deepest many h) refl
    go (no h) = let k : deepest ≤ many = omega (arith, h) in rw (le-ltb many deepest k, le-leb deepest many k) refl

pub call_told : (T : Tables) (top : Option Item) (many t env f a b c : ℕ) (n : ℤ)
    → refusal_in (C t env f a b c n) top many T ≡ call_refusal (closed_in T.book) top many
unfolding refusal_in place_left call_refusal in_step env_right classes_right names_alive makes_anew made_by makes seen_in
call_told T top many t env f a b c n =
    ap (λ (o : Bool). first_refusal (not (closed_in T.book) && native_or_attached top) true true true true (o && ltb many deepest)) (call_room T t env f a b c n)
    ∙ by_items (not (closed_in T.book) && native_or_attached top) many

-- ---- Z

end_room : (T : Tables) → rows_left Z T ≡ true
unfolding rows_left made_by makes gets seen_in
end_room T = nothing_made T (length (thread_in T.book 0).frames) (frames_within T.book 0)

by_end : (over : Bool) → first_refusal (not over && true) true true true true true ≡ (if_true over then 4 else 0)
by_end true = refl
by_end false = refl

pub end_told : (T : Tables) (top : Option Item) (many : ℕ) → refusal_in Z top many T ≡ (if_true closed_in T.book then 4 else 0)
unfolding refusal_in place_left in_step env_right classes_right names_alive makes_anew made_by makes seen_in
end_told T top many =
    ap (λ (o : Bool). first_refusal (not (closed_in T.book) && true) true true true true (o && true)) (end_room T) ∙ by_end (closed_in T.book)

-- ---- K, O and M

statement_room : (T : Tables) (s : Statement) → rows_left (states s) T ≡ true
unfolding rows_left made_by makes gets seen_in
statement_room T s = nothing_made T (length (thread_in T.book 0).frames) (frames_within T.book 0)

by_declare : (over known under : Bool) → first_refusal (not over && true) true true (not known && under) true true ≡ (if_true over then 4 else if_true known || not under then 9 else 0)
by_declare true known under = refl
by_declare false true under = refl
by_declare false false true = refl
by_declare false false false = refl

pub declare_told : (T : Tables) (top : Option Item) (many c s : ℕ) → refusal_in (states (K c s)) top many T ≡ declare_refusal (closed_in T.book) (declare_sight T c s)
unfolding refusal_in place_left declare_refusal declare_sight in_step env_right makes_anew made_by makes classes_right names_alive seen_in
declare_told T top many c s =
    let known : Bool = is_known (super_in T.classes) c in
    let under : Bool = is_known (super_in T.classes) s in
    ap (λ (o : Bool). first_refusal (not (closed_in T.book) && true) true true (not known && under) true (o && true)) (statement_room T (K c s))
    ∙ by_declare (closed_in T.book) known under

by_state : (over known alive : Bool) → first_refusal (not over && true) true true known alive true ≡ (if_true over then 4 else if_true not known then 9 else if_true not alive then 10 else 0)
by_state true known alive = refl
by_state false true true = refl
by_state false true false = refl
by_state false false alive = refl

pub state_told : (T : Tables) (top : Option Item) (many t h c : ℕ) → refusal_in (states (O t h c)) top many T ≡ state_refusal (closed_in T.book) (state_sight T t h c)
unfolding refusal_in place_left state_refusal state_sight in_step env_right makes_anew made_by makes classes_right names_alive seen_in
state_told T top many t h c =
    let known : Bool = is_known (super_in T.classes) c in
    ap (λ (o : Bool). first_refusal (not (closed_in T.book) && true) true true known (handle_alive t h (seen_in T)) (o && true)) (statement_room T (O t h c))
    ∙ by_state (closed_in T.book) known (handle_alive t h (seen_in T))

by_identify : (over known fits : Bool) → first_refusal (not over && true) true true known true fits ≡ (if_true over then 4 else if_true not known then 9 else if_true not fits then 7 else 0)
by_identify true known fits = refl
by_identify false false fits = refl
by_identify false true true = refl
by_identify false true false = refl

fits_alone : (fits rows : Bool) → rows ≡ true → (fits && rows && true) ≡ fits
fits_alone true rows e = rw e refl
fits_alone false rows e = refl

pub identify_told : (T : Tables) (top : Option Item) (many x sort c static final : ℕ)
    → refusal_in (states (M x sort c static final)) top many T ≡ identify_refusal (closed_in T.book) (identify_sight T x c)
unfolding refusal_in place_left identify_refusal identify_sight in_step env_right makes_anew made_by makes classes_right names_alive seen_in
identify_told T top many x sort c static final =
    let known : Bool = is_known (super_in T.classes) c in
    let fits : Bool = ltb (place_of T.classes x) (identity_room T.classes) in
    ap (first_refusal (not (closed_in T.book) && true) true true known true)
    (fits_alone fits (rows_left (states (M x sort c static final)) T) (statement_room T (M x sort c static final)))
    ∙ by_identify (closed_in T.book) known fits

-- an accepted O names a handle that is alive
pub stated_alive : (closed : Bool) (s : StateSight) → state_refusal closed s ≡ 0 → s.alive ≡ true
unfolding state_refusal
stated_alive closed s = go closed s.known s.alive
  where
    go : (over known alive : Bool) → ◌≡◌ {A = ℕ} (if_true over then 4 else if_true not known then 9 else if_true not alive then 10 else 0) 0 → alive ≡ true
    go true known alive e = absurd (omega (arith, e))
    go false false alive e = absurd (omega (arith, e))
    go false true false e = absurd (omega (arith, e))
    go false true true e = refl

-- ---- N and A

some_local : (T : Tables) (t d : ℕ) (hs : List ℕ)
    → any (λ (x : Alive). is_alive (same_handle x) (seen_in T)) (map (local t d) hs) ≡ some_alive T.references t hs
unfolding some_alive seen_in
some_local T t d [] = refl
some_local T t d (h ∷ hs) = ap (λ (o : Bool). ltb 0 (handles_in T.references (is_local t h)) || o) (some_local T t d hs)

same_named : (t d h : ℕ) (hs : List ℕ) → any (is_local t h) (map (local t d) hs) ≡ any (λ (g : ℕ). eqb g h) hs
same_named t d h [] = refl
same_named t d h (g ∷ hs) = rw (eq-eqb t t refl) (ap (λ (o : Bool). eqb g h || o) (same_named t d h hs))

twice_named : (t d : ℕ) (hs : List ℕ) → twice (map (local t d) hs) ≡ named_twice hs
twice_named t d [] = refl
twice_named t d (h ∷ hs) = ap₂ ◌||◌ (same_named t d h hs) (twice_named t d hs)

neither : (a b : Bool) → (not a && not b) ≡ not (a || b)
neither true b = refl
neither false b = refl

enter_anew : (T : Tables) (t env : ℕ) (hs : List ℕ) → makes_anew (N t env hs) (seen_in T) ≡ not (some_alive T.references t hs || named_twice hs)
unfolding makes_anew made_by makes
enter_anew T t env hs =
    let d : ℕ = suc (length ((seen_in T).frames t)) in
    ap₂ (λ (a b : Bool). not a && not b) (some_local T t d hs) (twice_named t d hs) ∙ neither (some_alive T.references t hs) (named_twice hs)

and_middle : (a b c d : Bool) → b ≡ true → ((a && b && c) && d) ≡ (a && c && d)
and_middle true b c d e = rw e refl
and_middle false b c d e = refl

-- n rows more fit exactly when n is at most what is free
rows_more : (r a n : ℕ) → a ≤ r → leb (n + a) r ≡ leb n (r - a)
rows_more r a n l = go (dec_lt (r - a) n)
  where
    go : Dec (r - a < n) → leb (n + a) r ≡ leb n (r - a)
    go (yes h) = lt-leb (n + a) r (omega (arith, h, l)) ∙ sym (lt-leb n (r - a) h)
    go (no h) = le-leb (n + a) r (omega (arith, h, l)) ∙ sym (le-leb n (r - a) (omega (arith, h)))

enter_fits : (T : Tables) (many t env : ℕ) (hs : List ℕ) → (rows_left (N t env hs) T && ltb many deepest) ≡ enter_room many (length hs) (enter_sight T t env hs)
unfolding rows_left made_by makes gets seen_in enter_sight
enter_fits T many t env hs =
    let frames_fit : Bool = ltb (length (thread_in T.book t).frames) deepest in
    and_middle
    (leb (length (map (local t (suc (length (thread_in T.book t).frames))) hs) + alive references T.references) (room references T.references))
    (leb (0 + alive pins T.pins) (room pins T.pins))
    frames_fit
    (ltb many deepest)
    (le-leb (0 + alive pins T.pins) (room pins T.pins) (omega (arith, alive_most pins T.pins)))
    ∙ ap
    (λ (o : Bool). o && frames_fit && ltb many deepest)
    (ap (λ (n : ℕ). leb (n + alive references T.references) (room references T.references)) (length-map hs (local t (suc (length (thread_in T.book t).frames))))
    ∙ rows_more (room references T.references) (alive references T.references) (length hs) (alive_most references T.references))

by_turn : (turn env anew room : Bool) → first_refusal turn env anew true true room ≡ (if_true turn then first_refusal true env anew true true room else 4)
by_turn true env anew room = refl
by_turn false env anew room = refl

-- of N in its turn, or out of it
opened_told : (T : Tables) (turn : Bool) (many t env : ℕ) (hs : List ℕ)
    → first_refusal turn (env_right (N t env hs) (seen_in T)) (makes_anew (N t env hs) (seen_in T)) true true (rows_left (N t env hs) T && ltb many deepest)
    ≡ (if_true turn then enter_refusal many env hs (enter_sight T t env hs) else 4)
unfolding enter_refusal env_right env_elsewhere enter_sight seen_in
opened_told T turn many t env hs =
    let fits : Bool = env_fits env (enter_sight T t env hs) in
    ap₂ (λ (a r : Bool). first_refusal turn fits a true true r) (enter_anew T t env hs) (enter_fits T many t env hs)
    ∙ by_turn turn fits (not (some_alive T.references t hs || named_twice hs)) (enter_room many (length hs) (enter_sight T t env hs))

pub enter_told : (T : Tables) (top : Option Item) (many t env : ℕ) (hs : List ℕ)
    → refusal_in (N t env hs) top many T ≡ (if_true enter_turn (closed_in T.book) top then enter_refusal many env hs (enter_sight T t env hs) else 4)
unfolding refusal_in place_left in_step classes_right names_alive seen_in
enter_told T top many t env hs = opened_told T (not (closed_in T.book) && (is_empty top || is_call top)) many t env hs

-- A is told as N with no handles
pub attach_told : (T : Tables) (top : Option Item) (many t env : ℕ)
    → refusal_in (A t env) top many T ≡ (if_true attach_turn (closed_in T.book) top then enter_refusal many env [] (enter_sight T t env []) else 4)
unfolding refusal_in place_left in_step env_right makes_anew made_by makes rows_left gets classes_right names_alive seen_in
attach_told T top many t env = opened_told T (not (closed_in T.book) && is_empty top) many t env []
