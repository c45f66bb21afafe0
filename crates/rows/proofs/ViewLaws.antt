-- What each function does, said of the list of slots, for rows of any layout: what a caller cites. Assumes nothing.
use mathlib.Core.Path.{◌≡◌, refl, sym, ap, ap₂, ◌∙◌}
use mathlib.Core.Bool.{Bool, true, false, not, ◌&&◌, false≢true}
use mathlib.Core.List.{List}
use Rattle.std.specs.Prelude.{Option, option_map, None, Some}
use Prim.Native.Nat.{ℕ, zero, suc, ◌+◌, ◌/◌, ◌%◌, ◌≤◌, ◌<◌}
use native.Mathlib.Nat.{le_refl}
use native.Mathlib.Decide.{ℕ_discrete, dec_lt}
use native.Mathlib.Omega.{arith}
use lib.ListN.{length, get_or, set, length-set, replicate, get_or-replicate, length-replicate, get_or-eq_default}
use lib.Seq.{length-sets, set_out}
use lib.Dec.{ltb}
use borrow.Author.Tests.{lt-ltb, le-ltb}
use Rattle.words.specs.Choice.{if_true◌then◌else◌}
use Rattle.words.specs.Lists.{any, count, place_of, of_first}
use Rattle.rows.specs.Scan.{some_below}
use Rattle.rows.specs.Slots.{held, holding, empty, put, wipe, wipe_first, change_first}
use Rattle.rows.specs.Marks.{word, used, free, marked, unmarked}
use Rattle.rows.specs.Table.{Layout, Table, table, each, put_row, room, row_at, matches, passes, free_row, alive, found, counted, some_row, stored, taken, changed, ended, ended_if, ended_from, ended_all, cleared}
use Rattle.rows.specs.View.{slot, view}
use Rattle.rows.proofs.ScanLaws.{how_many_ext, lowest_at, lowest_ext, one_fails, not_all_pass}
use Rattle.rows.proofs.BitLaws.{bit_of_zero}
use Rattle.rows.proofs.SlotLaws.{length_each, getD_each, each_ext, each_set, each_same, count_each, place_each, put_is_set, wipe_first_is_set, change_first_is_set, said, of_first_is_said, freed, wipe_each, count_held, length_held, any_held, held_put}
use Rattle.rows.proofs.RowLaws.{stored_out, changed_out, ended_out, slot_stored_same, slot_stored_other, slot_changed_same, slot_changed_other, slot_ended_same, slot_ended_other}

-- ---- no function changes a length
pub record SameLengths (S T : Table) : Type 0 where
  pub rows : length S.rows ≡ length T.rows
  pub marks : length S.marks ≡ length T.marks

lengths_trans : {S T U : Table} → SameLengths S T → SameLengths T U → SameLengths S U
lengths_trans a b = record { rows = a.rows ∙ b.rows; marks = a.marks ∙ b.marks }

pub cleared_lengths : (T : Table) → SameLengths (cleared T) T
unfolding cleared
cleared_lengths T = record { rows = length-replicate {A = ℕ} (length T.rows) 0; marks = length-replicate {A = ℕ} (length T.marks) 0 }

module _ {A : Type 0} (L : Layout A) where
  pub room_same : (S T : Table) → SameLengths S T → room L S ≡ room L T
  unfolding room
  room_same S T e = rw (e.rows, e.marks)

  pub stored_lengths : (T : Table) (r : ℕ) (x : A) → SameLengths (stored L T r x) T
  unfolding stored
  stored_lengths T r x = go (ltb r (room L T))
    where
      go : (b : Bool) → SameLengths (if_true b then table (put_row L.stride T.rows r (L.numbers x)) (marked T.marks r) else T) T
      go true = unfold put_row marked in record { rows = length-sets T.rows _ (L.numbers x); marks = length-set T.marks _ _ }
      go false = record { rows = refl; marks = refl }

  pub taken_lengths : (T : Table) (x : A) → SameLengths (taken L T x) T
  unfolding taken
  taken_lengths T x = stored_lengths T (free_row L T) x

  pub changed_lengths : (T : Table) (r : ℕ) (g : A → A) → SameLengths (changed L T r g) T
  unfolding changed
  changed_lengths T r g = go (ltb r (room L T)) (L.numbers (g (row_at L T.rows r)))
    where
      go : (b : Bool) (vs : List ℕ) → SameLengths (if_true b then table (put_row L.stride T.rows r vs) T.marks else T) T
      go true vs = unfold put_row in record { rows = length-sets T.rows _ vs; marks = refl }
      go false vs = record { rows = refl; marks = refl }

  pub ended_lengths : (T : Table) (r : ℕ) → SameLengths (ended L T r) T
  unfolding ended
  ended_lengths T r = go (ltb r (room L T))
    where
      go : (b : Bool) → SameLengths (if_true b then table (put_row L.stride T.rows r (replicate L.stride 0)) (unmarked T.marks r) else T) T
      go true = unfold put_row unmarked in record { rows = length-sets T.rows _ (replicate L.stride 0); marks = length-set T.marks _ _ }
      go false = record { rows = refl; marks = refl }

  ended_if_lengths : (q : A → Bool) (T : Table) (r : ℕ) → SameLengths (ended_if L q T r) T
  unfolding ended_if
  ended_if_lengths q T r = go (passes L q T r)
    where
      go : (b : Bool) → SameLengths (if_true b then ended L T r else T) T
      go true = ended_lengths T r
      go false = record { rows = refl; marks = refl }

  ended_from_lengths : (q : A → Bool) (T : Table) (a n : ℕ) → SameLengths (ended_from L q T a n) T
  unfolding ended_from
  ended_from_lengths q T a zero = record { rows = refl; marks = refl }
  ended_from_lengths q T a (suc n) = lengths_trans (ended_if_lengths q (ended_from L q T a n) (a + n)) (ended_from_lengths q T a n)

  pub ended_all_lengths : (q : A → Bool) (T : Table) → SameLengths (ended_all L q T) T
  unfolding ended_all
  ended_all_lengths q T = ended_from_lengths q T 0 (room L T)

  -- ---- a test of a row is a test of its slot
  pub length_view : (T : Table) → length (view L T) ≡ room L T
  unfolding view
  length_view T = length_each (slot L T) (room L T)

  pub view_at : (T : Table) (r : ℕ) → r < room L T → get_or (view L T) r None ≡ slot L T r
  unfolding view
  view_at T r h = getD_each (slot L T) (room L T) r None h

  pub view_past : (T : Table) (r : ℕ) → room L T ≤ r → get_or (view L T) r None ≡ None
  view_past T r h = get_or-eq_default (view L T) None (omega (arith, length_view T))

  pub used_slot : (T : Table) (k : ℕ) → used T.marks k ≡ holding (λ x. true) (slot L T k)
  unfolding slot
  used_slot T k = go (used T.marks k)
    where
      go : (b : Bool) → b ≡ holding (λ x. true) (if_true b then Some (row_at L T.rows k) else None)
      go true = refl
      go false = refl

  pub free_slot : (T : Table) (k : ℕ) → free T.marks k ≡ empty (slot L T k)
  unfolding free slot
  free_slot T k = go (used T.marks k)
    where
      go : (b : Bool) → not b ≡ empty (if_true b then Some (row_at L T.rows k) else None)
      go true = refl
      go false = refl

  pub passes_slot : (q : A → Bool) (T : Table) (k : ℕ) → passes L q T k ≡ holding q (slot L T k)
  unfolding passes matches slot
  passes_slot q T k = go (used T.marks k) (q (row_at L T.rows k)) refl
    where
      go : (b c : Bool) → c ≡ q (row_at L T.rows k) → (c && b) ≡ holding q (if_true b then Some (row_at L T.rows k) else None)
      go true true e = e
      go true false e = e
      go false true e = refl
      go false false e = refl

  -- ---- what is answered
  pub free_row_view : (T : Table) → free_row L T ≡ place_of empty (view L T)
  unfolding free_row view
  free_row_view T = lowest_ext _ _ (room L T) (λ k l. free_slot T k) ∙ place_each empty (slot L T) (room L T)

  pub alive_view : (T : Table) → alive L T ≡ length (held (view L T))
  unfolding alive view
  alive_view T =
      how_many_ext _ _ (room L T) (λ k l. used_slot T k) ∙ count_each (holding (λ x. true)) (slot L T) (room L T)
      ∙ length_held (each (slot L T) (room L T))

  pub found_view : (q : A → Bool) (T : Table) → found L q T ≡ place_of (holding q) (view L T)
  unfolding found view
  found_view q T = lowest_ext _ _ (room L T) (λ k l. passes_slot q T k) ∙ place_each (holding q) (slot L T) (room L T)

  pub counted_view : (q : A → Bool) (T : Table) → counted L q T ≡ count q (held (view L T))
  unfolding counted view
  counted_view q T =
      how_many_ext _ _ (room L T) (λ k l. passes_slot q T k) ∙ count_each (holding q) (slot L T) (room L T)
      ∙ count_held q (each (slot L T) (room L T))

  pub found_some : (q : A → Bool) (T : Table) → ltb (found L q T) (room L T) ≡ any q (held (view L T))
  found_some q T =
      ap₂ (λ (a b : ℕ). ltb a b) (found_view q T) (sym (length_view T)) ∙ any_held q (view L T)

  pub some_row_view : (q : A → Bool) (T : Table) → some_row L q T ≡ any q (held (view L T))
  some_row_view q T = by_found ∙ found_some q T
    where
      by_found : some_row L q T ≡ ltb (found L q T) (room L T)
      by_found = unfold some_row some_below found in refl

  -- the row found is used
  pub found_used : (q : A → Bool) (T : Table) → found L q T < room L T → used T.marks (found L q T) ≡ true
  unfolding found
  found_used q T h = go (matches L q T.rows (found L q T)) (used T.marks (found L q T)) (unfold passes in lowest_at (passes L q T) (room L T) h)
    where
      go : (a b : Bool) → (a && b) ≡ true → b ≡ true
      go true b e = e
      go false b e = absurd (false≢true e)

  pub of_first_view : (q : A → Bool) (f : A → ℕ) (T : Table)
      → (if_true ltb (found L q T) (room L T) then f (row_at L T.rows (found L q T)) else 0) ≡ of_first q f (held (view L T))
  of_first_view q f T = go (dec_lt (found L q T) (room L T)) ∙ ap (λ (r : ℕ). said f (get_or (view L T) r None)) (found_view q T) ∙ sym (of_first_is_said q f (view L T))
    where
      go : Dec (found L q T < room L T)
          → (if_true ltb (found L q T) (room L T) then f (row_at L T.rows (found L q T)) else 0) ≡ said f (get_or (view L T) (found L q T) None)
      go (yes h) = rw (lt-ltb (found L q T) (room L T) h, view_at T (found L q T) h) (unfold slot in rw (found_used q T h))
      go (no h) = let l : room L T ≤ found L q T = omega arith in rw (le-ltb (found L q T) (room L T) l, view_past T (found L q T) l)

  -- ---- there is a free row exactly when fewer than the room are alive
  pub free_below_room : (T : Table) → alive L T < room L T → free_row L T < room L T
  unfolding alive free_row free
  free_below_room T h = one_fails (used T.marks) (room L T) h

  pub alive_below_room : (T : Table) → free_row L T < room L T → alive L T < room L T
  unfolding alive free_row free
  alive_below_room T h = not_all_pass (used T.marks) (room L T) h

  -- ---- what is left
  pub view_stored : (T : Table) (r : ℕ) (x : A) → view L (stored L T r x) ≡ set (view L T) r (Some x)
  view_stored T r x = go (dec_lt r (room L T))
    where
      inside : r < room L T → view L (stored L T r x) ≡ set (view L T) r (Some x)
      inside h =
          unfold view in
          ap (each (slot L (stored L T r x))) (room_same (stored L T r x) T (stored_lengths T r x))
          ∙ each_set (slot L T) (slot L (stored L T r x)) (room L T) r (Some x) h (slot_stored_same L T r x h) (λ k n. slot_stored_other L T r k x h n)

      go : Dec (r < room L T) → view L (stored L T r x) ≡ set (view L T) r (Some x)
      go (yes h) = inside h
      go (no h) = ap (view L) (stored_out L T r x (omega arith)) ∙ sym (set_out (view L T) r (Some x) (omega (arith, length_view T)))

  pub view_taken : (T : Table) (x : A) → view L (taken L T x) ≡ put x (view L T)
  unfolding taken
  view_taken T x =
      view_stored T (free_row L T) x ∙ ap (λ (r : ℕ). set (view L T) r (Some x)) (free_row_view T) ∙ sym (put_is_set x (view L T))

  pub alive_taken : (T : Table) (x : A) → free_row L T < room L T → alive L (taken L T x) ≡ suc (alive L T)
  alive_taken T x h =
      alive_view (taken L T x) ∙ ap (λ (s : List (Option A)). length (held s)) (view_taken T x)
      ∙ held_put x (view L T) (omega (arith, free_row_view T, length_view T)) ∙ ap suc (sym (alive_view T))

  pub view_changed : (T : Table) (r : ℕ) (g : A → A) → view L (changed L T r g) ≡ set (view L T) r (option_map g (get_or (view L T) r None))
  view_changed T r g = go (dec_lt r (room L T))
    where
      inside : r < room L T → view L (changed L T r g) ≡ set (view L T) r (option_map g (slot L T r))
      inside h =
          unfold view in
          ap (each (slot L (changed L T r g))) (room_same (changed L T r g) T (changed_lengths T r g))
          ∙ each_set (slot L T) (slot L (changed L T r g)) (room L T) r (option_map g (slot L T r)) h (slot_changed_same L T r g h) (λ k n. slot_changed_other L T r k g h n)

      go : Dec (r < room L T) → view L (changed L T r g) ≡ set (view L T) r (option_map g (get_or (view L T) r None))
      go (yes h) = inside h ∙ ap (λ (s : Option A). set (view L T) r (option_map g s)) (sym (view_at T r h))
      go (no h) = ap (view L) (changed_out L T r g (omega arith)) ∙ sym (set_out (view L T) r _ (omega (arith, length_view T)))

  pub view_changed_found : (q : A → Bool) (g : A → A) (T : Table) → view L (changed L T (found L q T) g) ≡ change_first q g (view L T)
  view_changed_found q g T =
      view_changed T (found L q T) g ∙ ap (λ (r : ℕ). set (view L T) r (option_map g (get_or (view L T) r None))) (found_view q T)
      ∙ sym (change_first_is_set q g (view L T))

  pub view_ended : (T : Table) (r : ℕ) → view L (ended L T r) ≡ set (view L T) r None
  view_ended T r = go (dec_lt r (room L T))
    where
      inside : r < room L T → view L (ended L T r) ≡ set (view L T) r None
      inside h =
          unfold view in
          ap (each (slot L (ended L T r))) (room_same (ended L T r) T (ended_lengths T r))
          ∙ each_set (slot L T) (slot L (ended L T r)) (room L T) r None h (slot_ended_same L T r h) (λ k n. slot_ended_other L T r k h n)

      go : Dec (r < room L T) → view L (ended L T r) ≡ set (view L T) r None
      go (yes h) = inside h
      go (no h) = ap (view L) (ended_out L T r (omega arith)) ∙ sym (set_out (view L T) r None (omega (arith, length_view T)))

  pub view_ended_found : (q : A → Bool) (T : Table) → view L (ended L T (found L q T)) ≡ wipe_first q (view L T)
  view_ended_found q T =
      view_ended T (found L q T) ∙ ap (λ (r : ℕ). set (view L T) r None) (found_view q T) ∙ sym (wipe_first_is_set q (view L T))

  -- rows ended one after another: below n each slot that passes is free, the others are as they were
  pub record Ended (q : A → Bool) (T S : Table) (n : ℕ) : Type 0 where
    pub lengths : SameLengths S T
    pub below : (k : ℕ) → k < n → slot L S k ≡ freed q (slot L T k)
    pub above : (k : ℕ) → n ≤ k → slot L S k ≡ slot L T k

  freed_by : (q : A → Bool) (s : Option A) → freed q s ≡ (if_true holding q s then None else s)
  freed_by q None = refl
  freed_by q (Some x) = refl

  ended_more : (q : A → Bool) (T S : Table) (n : ℕ) → n < room L T → Ended q T S n → Ended q T (ended_if L q S n) (suc n)
  unfolding ended_if
  ended_more q T S n h e = go (passes L q S n) (passes_slot q S n ∙ ap (holding q) (e.above n (le_refl n)))
    where
      in_room : n < room L S
      in_room = omega (arith, room_same S T e.lengths)

      go : (b : Bool) → b ≡ holding q (slot L T n) → Ended q T (if_true b then ended L S n else S) (suc n)
      go true x = record {
        lengths = lengths_trans (ended_lengths S n) e.lengths;
        below = λ k l. at k (ℕ_discrete k n) l;
        above = λ k l. slot_ended_other L S n k in_room (omega arith) ∙ e.above k (omega arith);
      }
        where
          at : (k : ℕ) → Dec (k ≡ n) → k < suc n → slot L (ended L S n) k ≡ freed q (slot L T k)
          at k (yes y) l =
              ap (slot L (ended L S n)) y ∙ slot_ended_same L S n in_room
              ∙ ap (λ (b : Bool). if_true b then None else slot L T n) x ∙ sym (freed_by q (slot L T n)) ∙ ap (λ (m : ℕ). freed q (slot L T m)) (sym y)
          at k (no y) l = slot_ended_other L S n k in_room y ∙ e.below k (omega arith)
      go false x = record { lengths = e.lengths; below = λ k l. at k (ℕ_discrete k n) l; above = λ k l. e.above k (omega arith) }
        where
          at : (k : ℕ) → Dec (k ≡ n) → k < suc n → slot L S k ≡ freed q (slot L T k)
          at k (yes y) l =
              e.above k (omega arith)
              ∙ ap (slot L T) y ∙ ap (λ (b : Bool). if_true b then None else slot L T n) x ∙ sym (freed_by q (slot L T n)) ∙ ap (λ (m : ℕ). freed q (slot L T m)) (sym y)
          at k (no y) l = e.below k (omega arith)

  pub ended_below : (q : A → Bool) (T : Table) (n : ℕ) → n ≤ room L T → Ended q T (ended_from L q T 0 n) n
  unfolding ended_from
  ended_below q T zero h = record { lengths = record { rows = refl; marks = refl }; below = λ k l. absurd (omega arith); above = λ k l. refl }
  ended_below q T (suc n) h =
      let e : 0 + n ≡ n = omega arith in
      rw e (ended_more q T (ended_from L q T 0 n) n h (ended_below q T n (omega arith)))

  pub view_ended_all : (q : A → Bool) (T : Table) → view L (ended_all L q T) ≡ wipe q (view L T)
  unfolding view ended_all
  view_ended_all q T =
      let e = ended_below q T (room L T) (le_refl (room L T)) in
      let S = ended_from L q T 0 (room L T) in
      ap (each (slot L S)) (room_same S T e.lengths)
      ∙ each_ext (slot L S) (λ k. freed q (slot L T k)) (room L T) e.below
      ∙ wipe_each q (slot L T) (room L T)

  -- ---- after a start all slots are free
  pub getD_zero : (n i : ℕ) → ◌≡◌ {A = ℕ} (get_or (replicate n 0) i 0) 0
  getD_zero n i = go (dec_lt i n)
    where
      go : Dec (i < n) → ◌≡◌ {A = ℕ} (get_or (replicate n 0) i 0) 0
      go (yes h) = get_or-replicate n i 0 0 h
      go (no h) = get_or-eq_default (replicate n 0) 0 (omega (arith, length-replicate {A = ℕ} n 0))

  slot_cleared : (T : Table) (k : ℕ) → slot L (cleared T) k ≡ None
  unfolding slot cleared used
  slot_cleared T k = rw (getD_zero (length T.marks) (k / word), bit_of_zero (k % word))

  pub view_cleared : (T : Table) → view L (cleared T) ≡ replicate (room L T) None
  unfolding view
  view_cleared T =
      ap (each (slot L (cleared T))) (room_same (cleared T) T (cleared_lengths T))
      ∙ each_ext (slot L (cleared T)) (λ k. None) (room L T) (λ k l. slot_cleared T k) ∙ each_same None (room L T)
