-- Tied tables show what the history shows, and refuse what it refuses. Assumes nothing.
use Prim.Native.Nat.{ℕ, zero, suc}
use mathlib.Core.Path.{◌≡◌, refl, sym, ap, ap₂, ◌∙◌, fun_ext}
use mathlib.Core.Bool.{Bool, true, false, ◌&&◌}
use mathlib.Core.List.{List, [], ◌∷◌}
use native.Mathlib.Omega.{arith}
use lib.Dec.{eqb, leb, ltb}
use lib.ListN.{length}
use borrow.Author.Tests.{le-leb}
use Rattle.words.specs.Choice.{if_true◌then◌else◌}
use Rattle.words.specs.Lists.{count, sum, of_first}
use Rattle.lines.specs.Line.{Line, N, X, C, R, A, D, Z, states, K, O, M}
use Rattle.rows.specs.Slots.{held}
use Rattle.rows.specs.Table.{room as room_of_rows, alive}
use Rattle.rows.specs.View.{view}
use Rattle.rows.specs.References.{references}
use Rattle.rows.specs.Pins.{pins}
use Rattle.history.specs.Past.{History, thread_of, through, closed}
use Rattle.history.specs.Items.{items, top_of}
use Rattle.history.specs.Frames.{frames, frames_after, depth}
use Rattle.history.specs.Handles.{Alive, makes, living}
use Rattle.history.specs.Buffers.{Pin, outstanding}
use Rattle.history.specs.Thread.{all_threads, monitors}
use Rattle.history.specs.Leaks.{Made, by_what}
use Rattle.history.specs.Statements.{names, class_stated}
use Rattle.history.specs.Classes.{super_of}
use Rattle.history.specs.Identities.{identity_of, identities}
use Rattle.history.specs.Seen.{Seen, seen}
use Rattle.history.specs.Acceptance.{Room, everything, in_step, env_right, made_by, makes_anew, classes_right, names_alive, has_room, has_identity_room, has_item_room, first_refusal, refusal}
use Rattle.history.specs.Findings.{of_line}
use Rattle.history.specs.Replies.{accepted, not_accepted}
use Rattle.history.specs.Accepted.{Accepted}
use Rattle.history.proofs.Tests.{eqb_self}
use Rattle.history.proofs.Counts.{count_all, some_member}
use Rattle.history.proofs.Threads.{own_frames}
use Rattle.history.proofs.Stated.{names_means, same_class_stated, of_first_member, of_first_none}
use Rattle.history.proofs.Stacks.{monitors_in_lines, at_most_a_million}
use Rattle.book.specs.Threads.{Thread, thread_in, all_monitors}
use Rattle.book.proofs.Fitness.{all_monitors_are}
use Rattle.tables.specs.Tables.{Tables, alive_of, pin_of, handles_in, buffers_in, class_in, seen_in}
use Rattle.classes.specs.Supers.{super_in}
use Rattle.classes.specs.Identities.{identity_room, place_of, identity_in, used_places}
use Rattle.tables.specs.Weighing.{rows_left, place_left, refusal_in, weighed_in}
use Rattle.demands.specs.PastRows.{padded, reference_rows, pin_rows}
use Rattle.demands.specs.Tied.{encoded, reference_row, pin_row, past_references, past_pins, past_thread, Tied}
use Rattle.demands.proofs.Slots.{count_same, length_padded, held_padded}
use Rattle.demands.proofs.PastRows.{rows_hold, pin_rows_hold}
use Rattle.demands.proofs.PastRoom.{rows_short, references_left, pins_short, pins_left}
use Rattle.demands.proofs.Encoding.{encoded_counted, encoded_alive, encoded_room, encoded_of_first, unplaced, alive_of_reference, class_of_reference, unowned, pin_of_row}
use Rattle.demands.proofs.Placed.{rows_placed, pins_owned}
use Rattle.demands.proofs.PastClasses.{Holds, holds, stated_fit, place_fits}

-- a line's own thread, and no thread for Z and statements
pub frames_own : (e : Line) (past : History) → frames (thread_of e) (e ∷ past) ≡ frames_after e (frames (thread_of e) past)
frames_own (N t env hs) past = own_frames t (N t env hs) past (eqb_self t)
frames_own (X t r) past = own_frames t (X t r) past (eqb_self t)
frames_own (C t env f a b c n) past = own_frames t (C t env f a b c n) past (eqb_self t)
frames_own (R t f r p) past = own_frames t (R t f r p) past (eqb_self t)
frames_own (A t env) past = own_frames t (A t env) past (eqb_self t)
frames_own (D t) past = own_frames t (D t) past (eqb_self t)
frames_own Z past = unfold frames through in refl
frames_own (states s) past = unfold frames through in refl

of_first_same : {A : Type 0} (bad p q : A → Bool) (f g : A → ℕ) → ((x : A) → bad x ≡ false → p x ≡ q x) → ((x : A) → f x ≡ g x) → (l : List A) → count bad l ≡ 0 → of_first p f l ≡ of_first q g l
of_first_same bad p q f g same says [] fine = refl
of_first_same bad p q f g same says (x ∷ l) fine = go (bad x) refl fine (λ k. of_first_same bad p q f g same says l k)
  where
    go : (b : Bool) → bad x ≡ b → (if_true b then suc (count bad l) else count bad l) ≡ 0 → (count bad l ≡ 0 → of_first p f l ≡ of_first q g l)
        → of_first p f (x ∷ l) ≡ of_first q g (x ∷ l)
    go true e k ih = absurd (omega (arith, k))
    go false e k ih = rw (same x e, says x, ih k)

module _ (room : Room) (T : Tables) (past : History) (tied : Tied room T past) (so_far : Accepted room past) where
  -- ---- what the tables show

  pub references_encoded : view references T.references ≡ encoded (reference_row past) (padded room.references (reference_rows past))
  references_encoded = unfold past_references in tied.reference_table

  pub pins_encoded : view pins T.pins ≡ encoded pin_row (padded room.pins (pin_rows past))
  pins_encoded = unfold past_pins in tied.pin_table

  pub held_references : held (padded room.references (reference_rows past)) ≡ held (reference_rows past)
  held_references = held_padded room.references (reference_rows past) (rows_short room past so_far)

  pub held_pins : held (padded room.pins (pin_rows past)) ≡ held (pin_rows past)
  held_pins = held_padded room.pins (pin_rows past) (pins_short room past so_far)

  pub handles_tied : (test : Alive → Bool) → handles_in T.references test ≡ count test (living past)
  unfolding handles_in
  handles_tied test =
      encoded_counted references (reference_row past) T.references (padded room.references (reference_rows past)) references_encoded (λ x. test (alive_of x))
      ∙ ap (count (λ (x : Made Alive). test (alive_of (reference_row past x)))) held_references
      ∙ count_same (by_what unplaced) (λ x. test (alive_of (reference_row past x))) (by_what test) (λ x k. ap test (alive_of_reference x.line (class_stated past x.what) x.what k)) (held (reference_rows past)) (rows_placed room past so_far)
      ∙ rows_hold room past so_far test

  buffers_tied : (test : Pin → Bool) → buffers_in T.pins test ≡ count test (outstanding past)
  unfolding buffers_in
  buffers_tied test =
      encoded_counted pins pin_row T.pins (padded room.pins (pin_rows past)) pins_encoded (λ x. test (pin_of x))
      ∙ ap (count (λ (x : Made Pin). test (pin_of (pin_row x)))) held_pins
      ∙ count_same (by_what unowned) (λ x. test (pin_of (pin_row x))) (by_what test) (λ x k. ap test (pin_of_row x.line x.what k)) (held (pin_rows past)) (pins_owned room past so_far)
      ∙ pin_rows_hold past test

  -- a row's class is the one stated of its handle
  class_tied : (t h : ℕ) → class_in T.references t h ≡ of_first (names t h) (class_stated past) (living past)
  unfolding class_in
  class_tied t h =
      encoded_of_first references (reference_row past) T.references (padded room.references (reference_rows past)) references_encoded (λ x. names t h (alive_of x)) (λ x. x.class)
      ∙ ap (of_first (λ x. names t h (alive_of (reference_row past x))) (λ x. (reference_row past x).class)) held_references
      ∙ of_first_same (by_what unplaced) (λ x. names t h (alive_of (reference_row past x))) (by_what (names t h)) (λ x. (reference_row past x).class) (λ x. class_stated past x.what)
      (λ x k. ap (names t h) (alive_of_reference x.line (class_stated past x.what) x.what k))
      (λ x. class_of_reference x.line (class_stated past x.what) x.what) (held (reference_rows past)) (rows_placed room past so_far)
      ∙ go (count (names t h) (living past)) refl
    where
      go : (n : ℕ) → count (names t h) (living past) ≡ n → of_first (by_what (names t h)) (λ x. class_stated past x.what) (held (reference_rows past)) ≡ of_first (names t h) (class_stated past) (living past)
      go zero none =
          of_first_none (by_what (names t h)) (λ x. class_stated past x.what) (held (reference_rows past)) (rows_hold room past so_far (names t h) ∙ none)
          ∙ sym (of_first_none (names t h) (class_stated past) (living past) none)
      go (suc n) some =
          let (x, i, k) = some_member (names t h) (living past) (omega (arith, some)) in
          let (y, j, l) = some_member (by_what (names t h)) (held (reference_rows past)) (omega (arith, some, rows_hold room past so_far (names t h))) in
          of_first_member (by_what (names t h)) (λ z. class_stated past z.what) (held (reference_rows past)) y j l
          (λ z m. same_class_stated past t h z.what y.what (names_means t h z.what m) (names_means t h y.what l))
          ∙ same_class_stated past t h y.what x (names_means t h y.what l) (names_means t h x k)
          ∙ sym (of_first_member (names t h) (class_stated past) (living past) x i k (λ z m. same_class_stated past t h z x (names_means t h z m) (names_means t h x k)))

  table_tied : Holds (length T.classes) past
  unfolding identity_room
  table_tied = holds room (length T.classes) tied.all_classes tied.places past so_far

  pub super_tied : (c : ℕ) → super_in T.classes c ≡ super_of past c
  super_tied c = ap (λ (cs : List ℕ). super_in cs c) tied.class_table ∙ table_tied.supers c

  pub identity_tied : (x : ℕ) → identity_in T.classes x ≡ identity_of past x
  identity_tied x = ap (λ (cs : List ℕ). identity_in cs x) tied.class_table ∙ table_tied.stated x

  -- as many places are used as identities are stated
  pub used_identities : used_places T.classes ≡ length (identities past)
  used_identities = ap used_places tied.class_table ∙ table_tied.used

  monitors_tied : all_monitors T.book ≡ sum (λ t. monitors t past) all_threads
  unfolding past_thread
  monitors_tied =
      let held : (t : ℕ) → (thread_in T.book t).monitors ≡ monitors t past = λ t. ap (λ (x : Thread). x.monitors) (tied.threads t) in
      all_monitors_are T.book (λ t. omega (arith, held t, monitors_in_lines past t, at_most_a_million room past so_far))
      ∙ ap (λ (f : ℕ → ℕ). sum f all_threads) (fun_ext held)

  pub seen_tied : seen_in T ≡ seen past
  unfolding seen_in seen past_thread
  seen_tied =
      λ i.
      record {
        frames = λ t. (tied.threads t i).frames;
        capacities = λ t. (tied.threads t i).capacities;
        pending = λ t. (tied.threads t i).pending;
        monitors = λ t. (tied.threads t i).monitors;
        env = λ t. (tied.threads t i).env;
        all_monitors = monitors_tied i;
        handles = λ test. handles_tied test i;
        buffers = λ test. buffers_tied test i;
        class = λ t h. class_tied t h i;
        super = λ c. super_tied c i;
        identity = λ x. identity_tied x i;
        closed = tied.end_mark i;
      }

  pub own_frames_tied : (t : ℕ) → (thread_in T.book t).frames ≡ frames t past
  unfolding past_thread
  own_frames_tied t = ap (λ (x : Thread). x.frames) (tied.threads t)

  -- ---- room

  alive_tied : alive references T.references ≡ length (held (reference_rows past))
  alive_tied =
      encoded_alive references (reference_row past) T.references (padded room.references (reference_rows past)) references_encoded ∙ ap length held_references

  pins_tied : alive pins T.pins ≡ length (held (pin_rows past))
  pins_tied = encoded_alive pins pin_row T.pins (padded room.pins (pin_rows past)) pins_encoded ∙ ap length held_pins

  -- as many rows are used as are alive, and outstanding
  pub used_rows : alive references T.references ≡ length (living past)
  used_rows = alive_tied ∙ sym (count_all (held (reference_rows past))) ∙ rows_hold room past so_far everything ∙ count_all (living past)

  pub used_pin_rows : alive pins T.pins ≡ length (outstanding past)
  used_pin_rows = pins_tied ∙ sym (count_all (held (pin_rows past))) ∙ pin_rows_hold past everything ∙ count_all (outstanding past)

  room_references : room_of_rows references T.references ≡ room.references
  room_references =
      encoded_room references (reference_row past) T.references (padded room.references (reference_rows past)) references_encoded
      ∙ length_padded room.references (reference_rows past)

  room_pins : room_of_rows pins T.pins ≡ room.pins
  room_pins =
      encoded_room pins pin_row T.pins (padded room.pins (pin_rows past)) pins_encoded ∙ length_padded room.pins (pin_rows past)

  module _ (e : Line) where
    pub makes_tied : made_by e (seen_in T) ≡ makes e (depth (thread_of e) past)
    unfolding made_by seen depth
    makes_tied = ap (made_by e) seen_tied

    frames_tied : frames_after e ((seen_in T).frames (thread_of e)) ≡ frames (thread_of e) (e ∷ past)
    unfolding seen
    frames_tied = ap (λ (v : Seen). frames_after e (v.frames (thread_of e))) seen_tied ∙ sym (frames_own e past)

    -- there are rows left exactly when the history, with the line, is within the room
    rows_left_tied : rows_left e T ≡ has_room room (thread_of e) (seen (e ∷ past))
    unfolding rows_left has_room seen
    rows_left_tied =
        rw (makes_tied, alive_tied, room_references, pins_tied, room_pins, frames_tied, references_left room past so_far e, pins_left room past so_far e)

    -- and a place for the identity that it states
    place_left_tied : place_left e T ≡ has_identity_room room (e ∷ past)
    unfolding place_left identities identity_room
    place_left_tied = go e
      where
        fit : true ≡ leb (length (identities past)) room.identities
        fit = sym (le-leb (length (identities past)) room.identities (stated_fit room (length T.classes) tied.all_classes tied.places past table_tied))

        go : (e : Line) → place_left e T ≡ has_identity_room room (e ∷ past)
        go (N t env hs) = fit
        go (X t r) = fit
        go (C t env f a b c n) = fit
        go (R t f r p) = fit
        go (A t env) = fit
        go (D t) = fit
        go Z = fit
        go (states (K c s)) = fit
        go (states (O t h c)) = fit
        go (states (M x sort c static final)) =
            ap (λ (cs : List ℕ). ltb (place_of cs x) (identity_room cs)) tied.class_table
            ∙ place_fits room (length T.classes) tied.all_classes tied.places past table_tied x sort c static final

    pub refusal_tied : refusal_in e (top_of (items (thread_of e) past)) (length (items (thread_of e) past)) T ≡ refusal room e past
    unfolding refusal_in refusal seen
    refusal_tied =
        let top = top_of (items (thread_of e) past) in
        let many = length (items (thread_of e) past) in
        ap (λ (v : Seen). first_refusal (in_step e top v.closed) (env_right e v) (makes_anew e v) (classes_right e v) (names_alive e v) (place_left e T && rows_left e T && has_item_room e many)) seen_tied
        ∙ ap₂ (λ (p q : Bool). first_refusal (in_step e top (seen past).closed) (env_right e (seen past)) (makes_anew e (seen past)) (classes_right e (seen past)) (names_alive e (seen past)) (p && q && has_item_room e many)) place_left_tied rows_left_tied

    -- the same reply
    pub weighed_tied : (line : ℕ) → weighed_in line e (top_of (items (thread_of e) past)) (length (items (thread_of e) past)) T
        ≡ (if_true eqb (refusal room e past) 0 then accepted (of_line line e (seen past)) else not_accepted (refusal room e past))
    unfolding weighed_in
    weighed_tied line =
        ap₂ (λ (k : ℕ) (v : Seen). if_true eqb k 0 then accepted (of_line line e v) else not_accepted k) refusal_tied seen_tied
