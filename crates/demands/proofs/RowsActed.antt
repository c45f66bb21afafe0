-- After an accepted line the lent rows are those of the past with the line. Assumes nothing.
use Prim.Native.Nat.{ℕ, suc, ◌≤◌}
use mathlib.Core.Path.{◌≡◌, refl, sym, ap, ap₂, subst, ◌∙◌, fun_ext}
use mathlib.Core.Logic.{◌≢◌}
use mathlib.Core.Bool.{Bool, true, false, ◌&&◌}
use mathlib.Core.List.{List, [], ◌∷◌, map, map-map, Memᴰ}
use Rattle.std.specs.Prelude.{Option}
use native.Mathlib.Omega.{arith}
use lib.Dec.{eqb}
use lib.IntN.{ℤ}
use lib.ListN.{length}
use borrow.Author.Tests.{ne_eqb}
use Rattle.words.specs.Choice.{if_true◌then◌else◌}
use Rattle.words.specs.Lists.{count}
use Rattle.facts.specs.Table.{fact_of, family}
use Rattle.facts.specs.Named.{PopLocalFrame}
use Rattle.facts.specs.Results.{is_buffer_place}
use Rattle.lines.specs.Line.{Line, N, X, C, R, A, D, Z, states, K, O, M, kind, is_thread, is_value, is_class, is_allowed}
use Rattle.rows.specs.Slots.{held, wipe, wipe_first}
use Rattle.rows.specs.Table.{Table, found, changed, ended_all}
use Rattle.rows.specs.View.{view}
use Rattle.rows.specs.References.{references, with_class, is_handle, from_frame}
use Rattle.rows.specs.Pins.{pins, is_buffer}
use Rattle.history.specs.Past.{History, thread_of}
use Rattle.history.specs.Frames.{frames, without_native, without_pushed, top_pushed, depth}
use Rattle.history.specs.Handles.{Alive, local, shared, is_local, is_shared, same_handle, makes, deletes, living}
use Rattle.history.specs.Buffers.{Pin, pin, same_pin, gets, releases}
use Rattle.history.specs.Leaks.{Made, made_at, by_what}
use Rattle.history.specs.Lives.{Means, its_local, a_shared}
use Rattle.history.specs.Statements.{names, class_by, class_stated}
use Rattle.history.specs.Seen.{seen, handle_alive}
use Rattle.history.specs.Acceptance.{Room, made_by, makes_anew, names_alive}
use Rattle.history.specs.Accepted.{Accepted}
use Rattle.history.proofs.Tests.{eqb_self, and_left, never_true}
use Rattle.history.proofs.Counts.{some_any, member_counts}
use Rattle.history.proofs.Living.{made_makes}
use Rattle.history.proofs.Accepting.{Passed}
use Rattle.history.proofs.Once.{made_anew, alive_once}
use Rattle.history.proofs.Stated.{made_by_line, stating, class_next, nothing_by_O, made_class, alive_named}
use Rattle.history.proofs.Threads.{own_depth}
use Rattle.tables.specs.Tables.{Tables, seen_in, reference_of, pin_row_of}
use Rattle.tables.specs.Acting.{all_taken, first_ended, is_delete, delete_owner, owner_of, pin_owner, references_after, pins_after}
use Rattle.demands.specs.PastRows.{padded, put_or_add_all, reference_rows, pin_rows}
use Rattle.demands.specs.Tied.{encoded, reference_row, pin_row, past_references, past_pins, Tied}
use Rattle.demands.proofs.Slots.{put_all_padded, wipe_padded, wipe_first_padded, wipe_first_none, wipe_first_same}
use Rattle.demands.proofs.Encoding.{encoded_same, encoded_taken, encoded_ended, encoded_first_ended, encoded_changed, with_class_reference, unplaced, handle_is_local, handle_is_shared, is_from, frame_is_from, unowned, buffer_is}
use Rattle.demands.proofs.PastRows.{members_fail, count_none, rows_hold}
use Rattle.demands.proofs.Changed.{frames_grow_N, frames_grow_R, unpopped, popped, deletes_nothing, delete_is, delete_unpopped, rows_deleted, rows_added, rows_left}
use Rattle.demands.proofs.Placed.{rows_placed, pins_owned}
use Rattle.demands.proofs.Weighed.{references_encoded, pins_encoded, held_references, held_pins, own_frames_tied, makes_tied}
use Rattle.demands.proofs.Allowed.{is_a_thread, not_thread_zero}

-- ---- lists

map_members : {A B : Type 0} (f g : A → B) (l : List A) → ((x : A) → Memᴰ x l → f x ≡ g x) → map f l ≡ map g l
map_members f g [] same = refl
map_members {A} {B} f g (x ∷ l) same = ap₂ (λ (y : B) (m : List B). y ∷ m) (same x (Memᴰ.head refl)) (map_members f g l (λ y m. same y (Memᴰ.tail m)))

same_handle_self : (x : Alive) → same_handle x x ≡ true
same_handle_self (local t d h) = rw (eqb_self t, eqb_self h)
same_handle_self (shared h) = eqb_self h

means_kind : (t h : ℕ) (x : Alive) → Means t h x → kind h ≢ 0
means_kind t _ _ (its_local d h k) z = omega (arith, k, z)
means_kind t _ _ (a_shared h k) z = omega (arith, k, z)

-- a thread names one handle alive at most
names_once : (room : Room) (past : History) → Accepted room past → (t h : ℕ) → count (names t h) (living past) ≤ 1
unfolding names
names_once room past so_far t h = go (eqb (kind h) 0) (eqb (kind h) 1)
  where
    go : (a b : Bool) → count (λ (x : Alive). if_true a then false else if_true b then is_local t h x else is_shared h x) (living past) ≤ 1
    go true b = omega (arith, count_none (living past))
    go false true = alive_once room past so_far (local t 0 h)
    go false false = alive_once room past so_far (shared h)

module _ (room : Room) (T : Tables) (past : History) (tied : Tied room T past) (so_far : Accepted room past) where
  -- the line's number
  abbrev number : ℕ
  number = suc (length past)

  -- ---- references

  abbrev ReferencesAre : Table → Line → Type 0
  ReferencesAre S e = view references S ≡ past_references room.references (e ∷ past)

  -- the slots before the line
  abbrev slots : List (Option (Made Alive))
  slots = padded room.references (reference_rows past)

  before : view references T.references ≡ encoded (reference_row past) (padded room.references (reference_rows past))
  before = references_encoded room T past tied so_far

  -- a line changes no class of what is alive, but O that of its handle
  module _ (e : Line) (anew : makes_anew e (seen past) ≡ true) where
    none_again : count (by_what (made_by_line e past)) (held slots) ≡ 0
    none_again =
        ap (count (by_what (made_by_line e past))) (held_references room T past tied so_far)
        ∙ rows_hold room past so_far (made_by_line e past)
        ∙ members_fail (made_by_line e past) (living past)
        (λ x m. never_true (made_by_line e past x) (λ h.
        let (y, i, is) = some_any (same_handle x) (makes e (depth (thread_of e) past)) h in
        omega (arith, member_counts (same_handle x) (living past) x m (same_handle_self x), (made_anew e past anew x).1 (member_counts (same_handle x) (makes e (depth (thread_of e) past)) y i is))))

    still : ((x : Alive) → stating e x ≡ false) → view references T.references ≡ encoded (reference_row (e ∷ past)) slots
    still unsaid =
        before
        ∙ encoded_same (reference_row past) (reference_row (e ∷ past)) (by_what (made_by_line e past))
        (λ x k. ap (λ (c : ℕ). reference_of x.line c x.what) (sym (class_next e past x.what ∙ rw (k, unsaid x.what)))) slots none_again

    -- what it makes has the class that it gives
    new_rows : map (reference_of number (class_by e)) (makes e (depth (thread_of e) past)) ≡ map (reference_row (e ∷ past)) (map (made_at number) (makes e (depth (thread_of e) past)))
    new_rows =
        map_members (reference_of number (class_by e)) (λ (x : Alive). reference_row (e ∷ past) (made_at number x)) (makes e (depth (thread_of e) past))
        (λ x m. ap (λ (c : ℕ). reference_of number c x) (sym (made_class past e x (made_makes past e x m))))
        ∙ sym (map-map (reference_row (e ∷ past)) (made_at number) (makes e (depth (thread_of e) past)))

  -- rows taken for all that the line makes
  taken : (e : Line) → makes_anew e (seen past) ≡ true → ((x : Alive) → stating e x ≡ false)
      → reference_rows (e ∷ past) ≡ put_or_add_all (map (made_at number) (makes e (depth (thread_of e) past))) (reference_rows past)
      → ReferencesAre (all_taken references T.references (map (reference_of number (class_by e)) (made_by e (seen_in T)))) e
  unfolding past_references
  taken e anew unsaid rows =
      let made = makes e (depth (thread_of e) past) in
      let new = map (made_at number) made in
      rw (makes_tied room T past tied so_far e, rows, new_rows e anew)
      (encoded_taken references (reference_row (e ∷ past)) new T.references slots (still e anew unsaid)
      ∙ ap (encoded (reference_row (e ∷ past))) (put_all_padded room.references new (reference_rows past)))

  -- the rows of frames that the line takes
  ended : (e : Line) → makes_anew e (seen past) ≡ true → ((x : Alive) → stating e x ≡ false) → (t d : ℕ) → eqb t 0 ≡ false → d ≡ suc (depth t (e ∷ past))
      → reference_rows (e ∷ past) ≡ wipe (by_what (is_from t (suc (depth t (e ∷ past))))) (reference_rows past)
      → ReferencesAre (ended_all references (from_frame t d) T.references) e
  unfolding past_references
  ended e anew unsaid t d is_one same rows =
      let test = by_what (is_from t (suc (depth t (e ∷ past)))) in
      rw (rows, same)
      (encoded_ended references (reference_row (e ∷ past)) T.references slots (still e anew unsaid) (from_frame t (suc (depth t (e ∷ past))))
      ∙ ap (encoded (reference_row (e ∷ past)))
      (ap (λ (q : Made Alive → Bool). wipe q slots) (fun_ext (λ x. frame_is_from t (suc (depth t (e ∷ past))) is_one x.line (class_stated (e ∷ past) x.what) x.what))
      ∙ wipe_padded room.references test (reference_rows past)))

  unplaced_none : count (by_what unplaced) (held slots) ≡ 0
  unplaced_none = ap (count (by_what unplaced)) (held_references room T past tied so_far) ∙ rows_placed room past so_far

  module _ (t env f a b c : ℕ) (n : ℤ) (fine : is_allowed (C t env f a b c n) ≡ true) (anew : makes_anew (C t env f a b c n) (seen past) ≡ true) where
    is_one : eqb t 0 ≡ false
    is_one = not_thread_zero t (is_a_thread (C t env f a b c n) t (eqb_self t) fine)

    now : view references T.references ≡ encoded (reference_row (C t env f a b c n ∷ past)) slots
    now = still (C t env f a b c n) anew (λ x. refl)

    deleted : is_delete f a ≡ true → ReferencesAre (first_ended references (is_handle (delete_owner f t) a) T.references) (C t env f a b c n)
    unfolding past_references makes
    deleted d =
        let e = C t env f a b c n in
        let grows : length (frames t past) ≤ length (if_true eqb f PopLocalFrame then without_pushed (frames t past) else frames t past) =
        rw (delete_unpopped t env f a b c n d) (omega arith) in
        rw (rows_deleted room past so_far e grows)
        (encoded_first_ended references (reference_row (e ∷ past)) T.references slots now (is_handle (delete_owner f t) a)
        ∙ ap (encoded (reference_row (e ∷ past)))
        (wipe_first_same (by_what unplaced) (λ x. is_handle (delete_owner f t) a (reference_row (e ∷ past) x)) (by_what (deletes e))
        (λ x. delete_is t env f a b c n is_one d x.line (class_stated (e ∷ past) x.what) x.what) slots unplaced_none
        ∙ wipe_first_padded room.references (by_what (deletes e)) (reference_rows past)))

    pop : is_delete f a ≡ false → (eqb f PopLocalFrame && top_pushed (frames t past)) ≡ true
        → ReferencesAre (ended_all references (from_frame t (length (frames t past))) T.references) (C t env f a b c n)
    pop d q =
        let e = C t env f a b c n in
        ended e anew (λ x. refl) t (length (frames t past)) is_one (sym (popped f (frames t past) q) ∙ ap suc (sym (own_depth t e past (eqb_self t))))
        (rows_left room past so_far e t (λ s. refl) (deletes_nothing t env f a b c n d) (unfold makes in refl))

    other : is_delete f a ≡ false → (eqb f PopLocalFrame && top_pushed (frames t past)) ≡ false → ReferencesAre T.references (C t env f a b c n)
    unfolding past_references makes
    other d q =
        let e = C t env f a b c n in
        let same = unpopped f (frames t past) q in
        now
        ∙ ap (λ (s : List (Option (Made Alive))). encoded (reference_row (e ∷ past)) (padded room.references s))
        (sym (rows_added room past so_far e (rw same (omega arith)) (deletes_nothing t env f a b c n d)))

    called : ReferencesAre (references_after number (C t env f a b c n) T) (C t env f a b c n)
    unfolding references_after
    called = rw (own_frames_tied room T past tied so_far t) (go (is_delete f a) refl (eqb f PopLocalFrame && top_pushed (frames t past)) refl)
      where
        go : (d : Bool) → is_delete f a ≡ d → (q : Bool) → (eqb f PopLocalFrame && top_pushed (frames t past)) ≡ q
            → ReferencesAre (if_true d then first_ended references (is_handle (delete_owner f t) a) T.references
            else if_true q then ended_all references (from_frame t (length (frames t past))) T.references
            else T.references) (C t env f a b c n)
        go true d q p = deleted d
        go false d true p = pop d p
        go false d false p = other d p

  -- O writes the class of the one row of its handle
  module _ (t h c : ℕ) (fine : is_allowed (states (O t h c)) ≡ true) (alive : handle_alive t h (seen past) ≡ true) where
    is_a_handle : kind h ≢ 0
    is_a_handle = let (x, m, l) = (alive_named past t h).0 alive in means_kind t h x m

    some_thread : eqb t 0 ≡ false
    some_thread = not_thread_zero t (and_left (is_thread t) (is_value h) (and_left (is_thread t && is_value h) (is_class c) fine))

    names_row : (x : Made Alive) → by_what unplaced x ≡ false → is_handle (owner_of t h) h (reference_row past x) ≡ names t h x.what
    unfolding names
    names_row x placed = go (eqb (kind h) 1) refl
      where
        go : (q : Bool) → eqb (kind h) 1 ≡ q
            → is_handle (if_true q then t else 0) h (reference_row past x) ≡ (if_true eqb (kind h) 0 then false else if_true q then is_local t h x.what else is_shared h x.what)
        go true e = rw (ne_eqb (kind h) 0 is_a_handle) (handle_is_local t h some_thread x.line (class_stated past x.what) x.what)
        go false e = rw (ne_eqb (kind h) 0 is_a_handle) (handle_is_shared h x.line (class_stated past x.what) x.what placed)

    class_after : (x : Alive) → class_stated (states (O t h c) ∷ past) x ≡ (if_true names t h x then c else class_stated past x)
    class_after x = class_next (states (O t h c)) past x ∙ rw (nothing_by_O t h c past x)

    stated_row : (x : Made Alive) → names t h x.what ≡ true → with_class c (reference_row past x) ≡ reference_row (states (O t h c) ∷ past) x
    stated_row x k = with_class_reference x.line (class_stated past x.what) c x.what ∙ ap (λ (d : ℕ). reference_of x.line d x.what) (sym (class_after x.what ∙ rw k))

    kept_row : (x : Made Alive) → names t h x.what ≡ false → reference_row past x ≡ reference_row (states (O t h c) ∷ past) x
    kept_row x k = ap (λ (d : ℕ). reference_of x.line d x.what) (sym (class_after x.what ∙ rw k))

    one_named : count (by_what (names t h)) (held slots) ≤ 1
    one_named =
        subst (λ (n : ℕ). n ≤ 1) (sym (ap (count (by_what (names t h))) (held_references room T past tied so_far) ∙ rows_hold room past so_far (names t h)))
        (names_once room past so_far t h)

    stated : ReferencesAre (changed references T.references (found references (is_handle (owner_of t h) h) T.references) (with_class c)) (states (O t h c))
    unfolding past_references makes
    stated =
        rw (rows_added room past so_far (states (O t h c)) (omega arith) (λ x. unfold deletes in refl))
        (encoded_changed references (reference_row past) T.references slots before (reference_row (states (O t h c) ∷ past)) (by_what unplaced) (by_what (names t h))
        (is_handle (owner_of t h) h) (with_class c) names_row stated_row kept_row unplaced_none one_named)

  pub references_acted : (e : Line) → is_allowed e ≡ true → Passed room e past → ReferencesAre (references_after number e T) e
  unfolding references_after deletes
  references_acted (N t env hs) fine k =
      taken (N t env hs) k.anew (λ x. refl) (rows_added room past so_far (N t env hs) (frames_grow_N t env hs (frames t past)) (λ x. refl))
  references_acted (X t r) fine k =
      rw (own_frames_tied room T past tied so_far t)
      (ended (X t r) k.anew (λ x. refl) t (suc (length (without_native (frames t past)))) (not_thread_zero t (is_a_thread (X t r) t (eqb_self t) fine))
      (ap suc (sym (own_depth t (X t r) past (eqb_self t))))
      (rows_left room past so_far (X t r) t (λ s. refl) (λ x. refl) (unfold makes in refl)))
  references_acted (C t env f a b c n) fine k = called t env f a b c n fine k.anew
  references_acted (R t f r p) fine k =
      taken (R t f r p) k.anew (λ x. refl) (rows_added room past so_far (R t f r p) (frames_grow_R t f r p (frames t past)) (λ x. refl))
  references_acted (A t env) fine k =
      taken (A t env) k.anew (λ x. refl) (rows_added room past so_far (A t env) (omega arith) (λ x. refl))
  references_acted (D t) fine k =
      ended (D t) k.anew (λ x. refl) t 1 (not_thread_zero t (is_a_thread (D t) t (eqb_self t) fine)) (ap suc (sym (own_depth t (D t) past (eqb_self t))))
      (rows_left room past so_far (D t) t (λ s. refl) (λ x. refl) (unfold makes in refl))
  references_acted Z fine k = taken Z k.anew (λ x. refl) (rows_added room past so_far Z (omega arith) (λ x. refl))
  references_acted (states (K c s)) fine k =
      taken (states (K c s)) k.anew (λ x. refl) (rows_added room past so_far (states (K c s)) (omega arith) (λ x. refl))
  references_acted (states (M x sort c static final)) fine k =
      taken (states (M x sort c static final)) k.anew (λ x. refl) (rows_added room past so_far (states (M x sort c static final)) (omega arith) (λ x. refl))
  references_acted (states (O t h c)) fine k = stated t h c fine (unfold names_alive in k.alive)

  -- ---- pins

  abbrev PinsAre : Table → Line → Type 0
  PinsAre S e = view pins S ≡ past_pins room.pins (e ∷ past)

  abbrev pin_slots : List (Option (Made Pin))
  pin_slots = padded room.pins (pin_rows past)

  before_pins : view pins T.pins ≡ encoded pin_row (padded room.pins (pin_rows past))
  before_pins = pins_encoded room T past tied so_far

  none_released : (e : Line) → ((x : Pin) → releases e x ≡ false) → wipe_first (by_what (releases e)) (pin_rows past) ≡ pin_rows past
  none_released e none = ap (λ (g : Made Pin → Bool). wipe_first g (pin_rows past)) (fun_ext (λ x. none x.what)) ∙ wipe_first_none (pin_rows past)

  got : (e : Line) → ((x : Pin) → releases e x ≡ false) → PinsAre (all_taken pins T.pins (map (pin_row_of number) (gets e))) e
  unfolding past_pins pin_rows
  got e none =
      let new = map (made_at number) (gets e) in
      rw (← map-map pin_row (made_at number) (gets e))
      (encoded_taken pins pin_row new T.pins pin_slots before_pins
      ∙ ap (encoded pin_row)
      (put_all_padded room.pins new (pin_rows past)
      ∙ ap (λ (s : List (Option (Made Pin))). padded room.pins (put_or_add_all new s)) (sym (none_released e none))))

  module _ (t env f a b c : ℕ) (n : ℤ) where
    released : eqb t 0 ≡ false → is_buffer_place (fact_of f).b ≡ true → PinsAre (first_ended pins (is_buffer (pin_owner f t) (family f) b) T.pins) (C t env f a b c n)
    unfolding past_pins pin_rows releases gets
    released some_thread q =
        let test = by_what (releases (C t env f a b c n)) in
        encoded_first_ended pins pin_row T.pins pin_slots before_pins (is_buffer (pin_owner f t) (family f) b)
        ∙ ap (encoded pin_row)
        (wipe_first_same (by_what unowned) (λ x. is_buffer (pin_owner f t) (family f) b (pin_row x)) test
        (λ x k. buffer_is t f b some_thread x.line x.what k ∙ sym (ap (λ (u : Bool). u && same_pin (pin t f b) x.what) q)) pin_slots
        (ap (count (by_what unowned)) (held_pins room T past tied so_far) ∙ pins_owned room past so_far)
        ∙ wipe_first_padded room.pins test (pin_rows past))

    kept : is_buffer_place (fact_of f).b ≡ false → PinsAre T.pins (C t env f a b c n)
    unfolding past_pins pin_rows releases gets
    kept q =
        before_pins
        ∙ ap (λ (s : List (Option (Made Pin))). encoded pin_row (padded room.pins s)) (sym (none_released (C t env f a b c n) (λ x. ap (λ (u : Bool). u && same_pin (pin t f b) x) q)))

  pub pins_acted : (e : Line) → is_allowed e ≡ true → PinsAre (pins_after number e T) e
  unfolding pins_after releases
  pins_acted (N t env hs) fine = got (N t env hs) (λ x. refl)
  pins_acted (X t r) fine = got (X t r) (λ x. refl)
  pins_acted (C t env f a b c n) fine = go (is_buffer_place (fact_of f).b) refl
    where
      go : (q : Bool) → is_buffer_place (fact_of f).b ≡ q
          → PinsAre (if_true q then first_ended pins (is_buffer (pin_owner f t) (family f) b) T.pins else T.pins) (C t env f a b c n)
      go true q = released t env f a b c n (not_thread_zero t (is_a_thread (C t env f a b c n) t (eqb_self t) fine)) q
      go false q = kept t env f a b c n q
  pins_acted (R t f r p) fine = got (R t f r p) (λ x. refl)
  pins_acted (A t env) fine = got (A t env) (λ x. refl)
  pins_acted (D t) fine = got (D t) (λ x. refl)
  pins_acted Z fine = got Z (λ x. refl)
  pins_acted (states s) fine = got (states s) (λ x. refl)
