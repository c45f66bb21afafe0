-- Unused rows hold zeros and no mark past the room is set: kept by each function, and so rows and marks are what the slots say. Assumes nothing.
use mathlib.Core.Path.{◌≡◌, refl, sym, ap, ◌∙◌}
use mathlib.Core.Bool.{Bool, true, false, not, false≢true}
use mathlib.Core.List.{List}
use Rattle.std.specs.Prelude.{None, Some}
use Prim.Native.Nat.{ℕ, zero, suc, ◌+◌, ◌*◌, ◌/◌, ◌%◌, ◌≤◌, ◌<◌}
use native.Mathlib.Decide.{ℕ_discrete, dec_lt}
use native.Mathlib.Omega.{arith}
use lib.ListN.{length, get_or, replicate, length-replicate}
use Rattle.words.specs.Choice.{if_true◌then◌else◌}
use Rattle.rows.specs.Slots.{empty}
use Rattle.rows.specs.Marks.{word, used, marked, unmarked}
use Rattle.rows.specs.Table.{Layout, Table, table, cell, row, put_row, room, row_at, passes, free_row, found, stored, taken, changed, ended, ended_if, ended_from, ended_all, cleared}
use Rattle.rows.specs.View.{slot, view}
use Rattle.rows.specs.Exact.{spelled, Exact}
use Rattle.rows.proofs.BitLaws.{bit_of_zero}
use Rattle.rows.proofs.SlotLaws.{each_ext, each_same}
use Rattle.rows.proofs.MarkLaws.{used_marked_same, used_marked_other, used_unmarked_other}
use Rattle.rows.proofs.RowLaws.{row_same, row_other, in_table, in_words, stored_in, stored_out, changed_in, changed_out, ended_in, ended_out}
use Rattle.rows.proofs.ViewLaws.{room_same, stored_lengths, changed_lengths, ended_lengths, view_at, view_past, found_used, getD_zero}

module _ {A : Type 0} (L : Layout A) where
  pub record Clean (T : Table) : Type 0 where
    pub zeroed : (r : ℕ) → used T.marks r ≡ false → row L.stride T.rows r ≡ replicate L.stride 0
    pub within : (r : ℕ) → room L T ≤ r → used T.marks r ≡ false

  -- after a start
  pub clean_cleared : (T : Table) → Clean (cleared T)
  clean_cleared T = record { zeroed = λ r u. no_row r; within = λ r h. no_mark r }
    where
      no_row : (r : ℕ) → row L.stride (cleared T).rows r ≡ replicate L.stride 0
      no_row r =
          unfold row cell cleared in
          each_ext (cell L.stride (replicate (length T.rows) 0) r) (λ j. 0) L.stride (λ j l. getD_zero L (length T.rows) (r * L.stride + j))
          ∙ each_same 0 L.stride

      no_mark : (r : ℕ) → used (cleared T).marks r ≡ false
      no_mark r = unfold used cleared in rw (getD_zero L (length T.marks) (r / word), bit_of_zero (r % word))

  -- one row with other numbers, and its mark: it is zeros, or marked
  clean_row : (T : Table) (r : ℕ) (vs ms : List ℕ) → length vs ≡ L.stride → r < room L T → room L (table (put_row L.stride T.rows r vs) ms) ≡ room L T
      → ((q : ℕ) → (q ≡ r → ⊥) → used ms q ≡ used T.marks q) → (used ms r ≡ false → vs ≡ replicate L.stride 0) → Clean T
      → Clean (table (put_row L.stride T.rows r vs) ms)
  clean_row T r vs ms long h same others here k =
      record { zeroed = λ q u. at q (ℕ_discrete q r) u; within = λ q l. past q (ℕ_discrete q r) l }
    where
      at : (q : ℕ) → Dec (q ≡ r) → used ms q ≡ false → row L.stride (put_row L.stride T.rows r vs) q ≡ replicate L.stride 0
      at q (yes e) u = rw e (row_same L.stride vs long T.rows r (in_table L T r h) ∙ here (rw e at u))
      at q (no n) u = row_other L.stride vs long T.rows r q n ∙ k.zeroed q (sym (others q n) ∙ u)

      past : (q : ℕ) → Dec (q ≡ r) → room L (table (put_row L.stride T.rows r vs) ms) ≤ q → used ms q ≡ false
      past q (yes e) l = absurd (omega (arith, same))
      past q (no n) l = others q n ∙ k.within q (omega (arith, same))

  clean_stored : (T : Table) (r : ℕ) (x : A) → Clean T → Clean (stored L T r x)
  clean_stored T r x k = go (dec_lt r (room L T))
    where
      go : Dec (r < room L T) → Clean (stored L T r x)
      go (yes h) =
          rw (stored_in L T r x h)
          (clean_row T r (L.numbers x) (marked T.marks r) (L.whole x) h
          (ap (room L) (sym (stored_in L T r x h)) ∙ room_same L (stored L T r x) T (stored_lengths L T r x))
          (λ q n. used_marked_other T.marks r q (in_words L T r h) n)
          (λ u. absurd (false≢true (sym u ∙ used_marked_same T.marks r (in_words L T r h)))) k)
      go (no h) = rw (stored_out L T r x (omega arith)) k

  pub clean_taken : (T : Table) (x : A) → Clean T → Clean (taken L T x)
  unfolding taken
  clean_taken T x k = clean_stored T (free_row L T) x k

  pub clean_changed : (q : A → Bool) (g : A → A) (T : Table) → Clean T → Clean (changed L T (found L q T) g)
  clean_changed q g T k = go (dec_lt (found L q T) (room L T))
    where
      r : ℕ
      r = found L q T

      x : A
      x = g (row_at L T.rows r)

      go : Dec (r < room L T) → Clean (changed L T r g)
      go (yes h) =
          rw (changed_in L T r g h)
          (clean_row T r (L.numbers x) T.marks (L.whole x) h
          (ap (room L) (sym (changed_in L T r g h)) ∙ room_same L (changed L T r g) T (changed_lengths L T r g))
          (λ q n. refl)
          (λ u. absurd (false≢true (sym u ∙ found_used L q T h))) k)
      go (no h) = rw (changed_out L T r g (omega arith)) k

  pub clean_ended : (T : Table) (r : ℕ) → Clean T → Clean (ended L T r)
  clean_ended T r k = go (dec_lt r (room L T))
    where
      go : Dec (r < room L T) → Clean (ended L T r)
      go (yes h) =
          rw (ended_in L T r h)
          (clean_row T r (replicate L.stride 0) (unmarked T.marks r) (length-replicate {A = ℕ} L.stride 0) h
          (ap (room L) (sym (ended_in L T r h)) ∙ room_same L (ended L T r) T (ended_lengths L T r))
          (λ q n. used_unmarked_other T.marks r q (in_words L T r h) n)
          (λ u. refl) k)
      go (no h) = rw (ended_out L T r (omega arith)) k

  clean_ended_from : (q : A → Bool) (T : Table) (a n : ℕ) → Clean T → Clean (ended_from L q T a n)
  unfolding ended_from ended_if
  clean_ended_from q T a zero k = k
  clean_ended_from q T a (suc n) k = go (passes L q (ended_from L q T a n) (a + n)) (clean_ended_from q T a n k)
    where
      go : (b : Bool) → Clean (ended_from L q T a n) → Clean (if_true b then ended L (ended_from L q T a n) (a + n) else ended_from L q T a n)
      go true c = clean_ended (ended_from L q T a n) (a + n) c
      go false c = c

  pub clean_ended_all : (q : A → Bool) (T : Table) → Clean T → Clean (ended_all L q T)
  unfolding ended_all
  clean_ended_all q T k = clean_ended_from q T 0 (room L T) k

  -- where a row is spelled by its numbers
  pub exact : (T : Table) → ((rs : List ℕ) (r : ℕ) → L.numbers (row_at L rs r) ≡ row L.stride rs r) → Clean T → Exact L T (view L T)
  exact T spells k =
      record {
        each_row = λ r. rw (at r) (rows r (used T.marks r) refl);
        each_mark = λ r. rw (at r) (marks (used T.marks r) (row_at L T.rows r));
      }
    where
      at : (r : ℕ) → get_or (view L T) r None ≡ (if_true used T.marks r then Some (row_at L T.rows r) else None)
      at r = go (dec_lt r (room L T))
        where
          go : Dec (r < room L T) → get_or (view L T) r None ≡ (if_true used T.marks r then Some (row_at L T.rows r) else None)
          go (yes h) = unfold slot in view_at L T r h
          go (no h) = view_past L T r (omega arith) ∙ rw (k.within r (omega arith))

      rows : (r : ℕ) (b : Bool) → used T.marks r ≡ b → row L.stride T.rows r ≡ spelled L (if_true b then Some (row_at L T.rows r) else None)
      rows r true u = sym (spells T.rows r)
      rows r false u = k.zeroed r u

      marks : (b : Bool) (x : A) → b ≡ not (empty (if_true b then Some x else None))
      marks true x = refl
      marks false x = refl
