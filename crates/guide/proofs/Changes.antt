-- Rows of any layout as what each holds: one more, as a store or a look at the next row makes it, and one less. Assumes nothing.
use mathlib.Core.Path.{◌≡◌, sym, ap, ◌∙◌}
use mathlib.Core.Bool.{true, false≢true}
use Rattle.std.specs.Prelude.{Option, None, Some}
use Prim.Native.Nat.{ℕ, suc, ◌+◌, ◌≤◌, ◌<◌}
use native.Mathlib.Decide.{ℕ_discrete}
use native.Mathlib.Omega.{arith}
use lib.Dec.{eqb}
use lib.ListN.{get_or}
use Rattle.words.specs.Choice.{one}
use Rattle.rows.specs.Slots.{holding}
use Rattle.rows.specs.Table.{Layout, Table, most, room, stored, ended}
use Rattle.rows.specs.View.{slot, view}
use Rattle.rows.proofs.RowLaws.{slot_stored_same, slot_stored_other, slot_ended_same, slot_ended_other}
use Rattle.rows.proofs.ViewLaws.{room_same, stored_lengths, ended_lengths, view_at}
use Rattle.guide.specs.Words.{lane}
use Rattle.guide.specs.Tallies.{tally}
use Rattle.guide.proofs.TallyLaws.{tally_more, tally_next}

pub not_none : {A : Type 0} (y : A) → None ≡ Some y → ⊥
not_none y e = false≢true (ap (holding (λ z. true)) e)

pub some_inj : {A : Type 0} (x y : A) → Some x ≡ Some y → x ≡ y
some_inj x y e = cc

pub below_last : (j n : ℕ) → j < suc n → (j ≡ n → ⊥) → j < n
below_last j n m d = omega (arith, m, d)

module _ {A : Type 0} (L : Layout A) where
  -- of the first n rows S tells what is known, of the first n' S': all of that, and that row r holds x. They are rows of T
  pub record Added (T : Table) (S : ℕ → Option A) (n : ℕ) (S' : ℕ → Option A) (n' r : ℕ) (x : A) : Type 0 where
    pub low : r < lane
    pub few : n' ≤ most
    pub this : S' r ≡ Some x
    pub old : (k : ℕ) (y : A) → k < n' → (k ≡ r → ⊥) → S' k ≡ Some y → (k < n) × (S k ≡ Some y)
    pub held : (k : ℕ) (y : A) → k < n' → S' k ≡ Some y → get_or (view L T) k None ≡ Some y
    pub grows : (cell : A → ℕ) (j : ℕ) → tally cell S' n' j ≡ tally cell S n j + one (eqb (cell x) j)

  low_row : (T : Table) (r : ℕ) → r < room L T → r < lane
  unfolding room
  low_row T r l = omega (arith, l)

  few_rows : (T : Table) → room L T ≤ most
  unfolding room
  few_rows T = omega arith

  module _ (T : Table) (r : ℕ) (x : A) (l : r < room L T) (free : slot L T r ≡ None) where
    abbrev after : Table
    after = stored L T r x

    same_room : room L after ≡ room L T
    same_room = room_same L after T (stored_lengths L T r x)

    pub added_stored : Added after (slot L T) (room L T) (slot L after) (room L after) r x
    added_stored =
        record {
          low = low_row T r l;
          few = few_rows after;
          this = slot_stored_same L T r x l;
          old = λ k y m d e. (omega (arith, m, same_room), sym (slot_stored_other L T r k x l d) ∙ e);
          held = λ k y m e. view_at L after k m ∙ e;
          grows = λ cell j.
              ap (λ (n : ℕ). tally cell (slot L after) n j) same_room
              ∙ tally_more cell (slot L T) (slot L after) (room L T) r x l free (slot_stored_same L T r x l) (λ k m d. slot_stored_other L T r k x l d) j;
        }

    pub stored_there : get_or (view L after) r None ≡ Some x
    stored_there = view_at L after r (omega (arith, l, same_room)) ∙ slot_stored_same L T r x l

  pub added_next : (T : Table) (n : ℕ) (x : A) → n < room L T → slot L T n ≡ Some x → Added T (slot L T) n (slot L T) (suc n) n x
  added_next T n x l e =
      record {
        low = low_row T n l;
        few = omega (arith, l, few_rows T);
        this = e;
        old = λ k y m d q. (below_last k n m d, q);
        held = λ k y m q. view_at L T k (omega arith) ∙ q;
        grows = λ cell j. tally_next cell (slot L T) n (Some x) e j;
      }

  -- row r holds x, then nothing; the other rows are the same
  pub record Removed (S S' : ℕ → Option A) (n r : ℕ) (x : A) : Type 0 where
    pub low : r < n
    pub was : S r ≡ Some x
    pub is : S' r ≡ None
    pub same : (k : ℕ) → k < n → (k ≡ r → ⊥) → S' k ≡ S k

  pub removed_ended : (T : Table) (r : ℕ) (x : A) → r < room L T → slot L T r ≡ Some x → Removed (slot L T) (slot L (ended L T r)) (room L T) r x
  removed_ended T r x l e = record { low = l; was = e; is = slot_ended_same L T r l; same = λ k m d. slot_ended_other L T r k l d }

  -- a row that was still there
  pub still : {S S' : ℕ → Option A} {n r : ℕ} {x : A} → Removed S S' n r x → (k : ℕ) (y : A) → k < n → S' k ≡ Some y → S k ≡ Some y
  still {S' = S'} d k y m e = sym (d.same k m (λ q. not_none y (sym d.is ∙ ap S' (sym q) ∙ e))) ∙ e

  -- a free row ended leaves what each row holds
  pub ended_free : (T : Table) (r k : ℕ) → r < room L T → slot L T r ≡ None → slot L (ended L T r) k ≡ slot L T k
  ended_free T r k l free = go (ℕ_discrete k r)
    where
      go : Dec (k ≡ r) → slot L (ended L T r) k ≡ slot L T k
      go (yes q) = ap (slot L (ended L T r)) q ∙ slot_ended_same L T r l ∙ sym free ∙ ap (slot L T) (sym q)
      go (no q) = slot_ended_other L T r k l q

  pub ended_room : (T : Table) (r : ℕ) → room L (ended L T r) ≡ room L T
  ended_room T r = room_same L (ended L T r) T (ended_lengths L T r)
