-- The number given to R is told by what was looked up for it. Assumes nothing.
use Prim.Native.Nat.{ℕ, ◌+◌, ◌≤◌, ◌<◌}
use mathlib.Core.Path.{◌≡◌, refl, sym, ap, ap₂, ◌∙◌}
use mathlib.Core.Bool.{Bool, true, false, not, ◌&&◌, ◌||◌}
use mathlib.Core.List.{List, [], ◌∷◌}
use Rattle.std.specs.Prelude.{Option}
use native.Mathlib.Decide.{dec_lt}
use native.Mathlib.Omega.{arith}
use borrow.Author.Tests.{lt-ltb, le-ltb, lt-leb, le-leb, eqb-true}
use lib.Dec.{eqb, leb, ltb}
use lib.IntN.{ℤ, pos}
use lib.ListN.{length}
use Rattle.words.specs.Choice.{if_true◌then◌else◌}
use Rattle.words.specs.Lists.{any}
use Rattle.facts.specs.Table.{table as fact_table, fact_of}
use Rattle.facts.specs.Named.{PushLocalFrame}
use Rattle.facts.specs.Results.{is_buffer_result}
use Rattle.facts.specs.declared.Result.{Result}
use Rattle.lines.specs.Line.{R, is_zero, above_zero}
use Rattle.lines.specs.Events.{is_status, result_in_line}
use Rattle.lines.proofs.Tests.{and_true}
use Rattle.rows.specs.Table.{Layout, Table, room, alive, free_row}
use Rattle.rows.specs.References.{references}
use Rattle.rows.specs.Pins.{pins}
use Rattle.rows.proofs.ViewLaws.{free_below_room, alive_below_room}
use Rattle.history.specs.Items.{Item, is_call_of}
use Rattle.history.specs.Frames.{Frame, pushed}
use Rattle.history.specs.Handles.{Alive, local, shared, result_made, makes, same_handle}
use Rattle.history.specs.Buffers.{Pin, pin, gets}
use Rattle.history.specs.Acceptance.{in_step, env_right, made_by, twice, makes_anew, classes_right, names_alive, first_refusal, deepest}
use Rattle.book.specs.Threads.{thread_in, closed_in}
use Rattle.book.proofs.Changing.{frames_within}
use Rattle.tables.specs.Tables.{Tables, handles_in, seen_in}
use Rattle.tables.specs.Weighing.{rows_left, place_left, refusal_in}
use Rattle.tables.proofs.RowCounts.{alive_most}
use Rattle.sight.specs.declared.returns.Made.{Made}
use Rattle.sight.specs.Returns.{nothing_made, handle_made, buffer_made, made_sight, return_sight}
use Rattle.weigh.specs.Returns.{return_turn, frame_free, return_refusal}

-- ---- 6: made anew

-- no handle of these is alive, and none is named twice
abbrev anew : (Alive → Bool) → List Alive → Bool
anew test xs = not (any test xs) && not (twice xs)

-- what is made, unless the result is null
abbrev unless_null : Bool → Made → Made
unless_null null m = if_true null then nothing_made else m

one_anew : (test : Alive → Bool) (null : Bool) (x : Alive) (m : Made) → test x ≡ m.alive → anew test (if_true null then [] else x ∷ []) ≡ not (unless_null null m).alive
one_anew test true x m e = refl
one_anew test false x m e = go (test x) ∙ ap not e
  where
    go : (o : Bool) → (not (o || false) && true) ≡ not o
    go true = refl
    go false = refl

none_anew : (test : Alive → Bool) (a b : Bool) (m : Made) → m.alive ≡ false → anew test (if_true a then [] else []) ≡ not (unless_null b m).alive
none_anew test true true m e = refl
none_anew test true false m e = ap not (sym e)
none_anew test false true m e = refl
none_anew test false false m e = ap not (sym e)

module _ (H P : Table) (t d h : ℕ) (s : ℤ) where
  abbrev line_result : Result → ℤ
  line_result k = if_true is_status k then s else pos h

  abbrev lives : Alive → Bool
  lives x = ltb 0 (handles_in H (same_handle x))

  anew_as : (k : Result) → anew lives (if_true eqb (above_zero (line_result k)) 0 then [] else result_made k t d (above_zero (line_result k))) ≡ not (made_sight H P k t h).alive
  unfolding made_sight handle_made buffer_made
  anew_as Result.Local = one_anew lives (eqb h 0) (local t d h) (handle_made true H t h) refl
  anew_as Result.Global = one_anew lives (eqb h 0) (shared h) (handle_made false H t h) refl
  anew_as Result.Weak = one_anew lives (eqb h 0) (shared h) (handle_made false H t h) refl
  anew_as Result.Identity = none_anew lives (eqb h 0) (eqb h 0) nothing_made refl
  anew_as Result.Buffer = none_anew lives (eqb h 0) (eqb h 0) (buffer_made P) refl
  anew_as Result.Status = none_anew lives (eqb (above_zero s) 0) (eqb h 0) nothing_made refl
  anew_as Result.Nothing = none_anew lives (eqb h 0) (eqb h 0) nothing_made refl

return_anew : (T : Tables) (t f h p : ℕ) (s : ℤ)
    → makes_anew (R t f (result_in_line f h s) p) (seen_in T) ≡ not (made_sight T.references T.pins (fact_of f).result t h).alive
unfolding makes_anew made_by makes seen_in
return_anew T t f h p s = anew_as T.references T.pins t (length ((seen_in T).frames t)) h s (fact_of f).result

-- ---- 7: a row for what is made, and a frame for a push

module _ {A : Type 0} (L : Layout A) (T : Table) where
  none_fits : leb (0 + alive L T) (room L T) ≡ true
  none_fits = le-leb (0 + alive L T) (room L T) (omega (arith, alive_most L T))

  one_fits : leb (1 + alive L T) (room L T) ≡ ltb (free_row L T) (room L T)
  one_fits = go (dec_lt (free_row L T) (room L T))
    where
      go : Dec (free_row L T < room L T) → leb (1 + alive L T) (room L T) ≡ ltb (free_row L T) (room L T)
      go (yes h) =
          le-leb (1 + alive L T) (room L T) (omega (arith, alive_below_room L T h)) ∙ sym (lt-ltb (free_row L T) (room L T) h)
      go (no h) =
          lt-leb (1 + alive L T) (room L T) (full (dec_lt (alive L T) (room L T)))
          ∙ sym (le-ltb (free_row L T) (room L T) (omega (arith, h)))
        where
          full : Dec (alive L T < room L T) → room L T < 1 + alive L T
          full (yes k) = absurd (h (free_below_room L T k))
          full (no k) = omega (arith, k)

module _ (H P : Table) (t f d h : ℕ) (s : ℤ) where
  -- so many handles and buffers more fit
  abbrev both_fit : List Alive → List Pin → Bool
  both_fit xs ys = leb (length xs + alive references H) (room references H) && leb (length ys + alive pins P) (room pins P)

  none_more : both_fit [] [] ≡ true
  none_more = ap₂ ◌&&◌ (none_fits references H) (none_fits pins P)

  handle_more : (null : Bool) (x : Alive) (m : Made) → m.fits ≡ ltb (free_row references H) (room references H)
      → both_fit (if_true null then [] else x ∷ []) [] ≡ (unless_null null m).fits
  handle_more true x m e = none_more
  handle_more false x m e = ap₂ ◌&&◌ (one_fits references H ∙ sym e) (none_fits pins P) ∙ and_true m.fits

  buffer_more : (null : Bool) (m : Made) → m.fits ≡ ltb (free_row pins P) (room pins P)
      → both_fit (if_true null then [] else []) (if_true not null then pin t f h ∷ [] else []) ≡ (unless_null null m).fits
  buffer_more true m e = none_more
  buffer_more false m e = ap₂ ◌&&◌ (none_fits references H) (one_fits pins P ∙ sym e)

  nothing_more : (a b : Bool) → both_fit (if_true a then [] else []) [] ≡ (unless_null b nothing_made).fits
  nothing_more true true = none_more
  nothing_more true false = none_more
  nothing_more false true = none_more
  nothing_more false false = none_more

  fit_as : (k : Result)
      → both_fit (if_true eqb (above_zero (line_result H P t d h s k)) 0 then [] else result_made k t d (above_zero (line_result H P t d h s k)))
      (if_true is_buffer_result k && not (eqb (above_zero (line_result H P t d h s k)) 0) then pin t f (above_zero (line_result H P t d h s k)) ∷ [] else [])
      ≡ (made_sight H P k t h).fits
  unfolding made_sight handle_made buffer_made
  fit_as Result.Local = handle_more (eqb h 0) (local t d h) (handle_made true H t h) refl
  fit_as Result.Global = handle_more (eqb h 0) (shared h) (handle_made false H t h) refl
  fit_as Result.Weak = handle_more (eqb h 0) (shared h) (handle_made false H t h) refl
  fit_as Result.Identity = nothing_more (eqb h 0) (eqb h 0)
  fit_as Result.Buffer = buffer_more (eqb h 0) (buffer_made P) refl
  fit_as Result.Status = nothing_more (eqb (above_zero s) 0) (eqb h 0)
  fit_as Result.Nothing = nothing_more (eqb h 0) (eqb h 0)

-- a push that acts is one with status 0
push_acts : (f h : ℕ) (s : ℤ) → (eqb f PushLocalFrame && is_zero (result_in_line f h s)) ≡ (eqb f PushLocalFrame && is_zero s)
unfolding fact_of fact_table
push_acts f h s = go (eqb f PushLocalFrame) refl
  where
    go : (o : Bool) → eqb f PushLocalFrame ≡ o → (o && is_zero (result_in_line f h s)) ≡ (o && is_zero s)
    go false e = refl
    go true e = ap (λ (g : ℕ). is_zero (result_in_line g h s)) (eqb-true f PushLocalFrame e)

frame_fits : (fs : List Frame) (more : Bool) → length fs ≤ deepest → leb (length (if_true more then pushed ∷ fs else fs)) deepest ≡ (not more || ltb (length fs) deepest)
frame_fits fs true h = refl
frame_fits fs false h = le-leb (length fs) deepest h

return_fits : (T : Tables) (t f h p : ℕ) (s : ℤ)
    → rows_left (R t f (result_in_line f h s) p) T
    ≡ ((made_sight T.references T.pins (fact_of f).result t h).fits && frame_free f (is_zero s) (length (thread_in T.book t).frames))
unfolding rows_left made_by makes gets seen_in
return_fits T t f h p s =
    ap₂ ◌&&◌
    (fit_as T.references T.pins t f (length (thread_in T.book t).frames) h s (fact_of f).result)
    (ap (λ (more : Bool). leb (length (if_true more then pushed ∷ (thread_in T.book t).frames else (thread_in T.book t).frames)) deepest) (push_acts f h s)
    ∙ frame_fits (thread_in T.book t).frames (eqb f PushLocalFrame && is_zero s) (frames_within T.book t))

-- ---- the number

by_turn : (turn again fits : Bool) → first_refusal turn true (not again) true true (fits && true) ≡ (if_true turn then (if_true again then 6 else if_true fits then 0 else 7) else 4)
by_turn false again fits = refl
by_turn true true fits = refl
by_turn true false true = refl
by_turn true false false = refl

pub return_told : (T : Tables) (top : Option Item) (many t f h p : ℕ) (s : ℤ)
    → refusal_in (R t f (result_in_line f h s) p) top many T
    ≡ (if_true return_turn (closed_in T.book) f top then return_refusal f (is_zero s) (return_sight T t f h) else 4)
unfolding refusal_in place_left return_refusal return_sight in_step env_right classes_right names_alive seen_in
return_told T top many t f h p s =
    let new : Made = made_sight T.references T.pins (fact_of f).result t h in
    let turn : Bool = not (closed_in T.book) && is_call_of f top in
    ap₂ (λ (a r : Bool). first_refusal turn true a true true (r && true)) (return_anew T t f h p s) (return_fits T t f h p s)
    ∙ by_turn turn new.alive (new.fits && frame_free f (is_zero s) (length (thread_in T.book t).frames))
