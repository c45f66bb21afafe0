-- A guide of pin rows: what it tells, and that it stays one as rows are stored and ended. Assumes nothing.
use mathlib.Core.Path.{◌≡◌, refl, sym, subst, ◌∙◌}
use mathlib.Core.Bool.{Bool, true, false, ◌&&◌, false≢true}
use mathlib.Core.List.{List}
use Rattle.std.specs.Prelude.{Option, None, Some}
use Prim.Native.Nat.{ℕ, zero, suc, ◌+◌, ◌≤◌, ◌<◌}
use native.Mathlib.Decide.{dec_lt}
use native.Mathlib.Omega.{arith}
use lib.Dec.{eqb, leb}
use lib.ListN.{length, get_or, replicate, get_or-replicate, length-replicate}
use borrow.Author.Tests.{eqb-true, ne_eqb, le-leb, leb-true}
use Rattle.words.specs.Choice.{if_true◌then◌else◌}
use Rattle.rows.specs.Scan.{how_many}
use Rattle.rows.specs.Slots.{holding}
use Rattle.rows.specs.Table.{Table, room, found, counted, stored, ended}
use Rattle.rows.specs.View.{slot, view}
use Rattle.rows.specs.declared.pins.Pin.{Pin}
use Rattle.rows.specs.Pins.{pins, of_thread, is_buffer}
use Rattle.rows.proofs.ScanLaws.{how_many_ext}
use Rattle.rows.proofs.RowLaws.{ended_out}
use Rattle.rows.proofs.ViewLaws.{passes_slot, view_at, view_past}
use Rattle.guide.specs.Tallies.{tally}
use Rattle.guide.specs.Pins.{places, size, first_of, second_of, first, second, cell_of, cell, found_in, with_slot, noted, without_slot, forgotten, filled, Guides, Leads, scans, by_guide}
use Rattle.guide.proofs.Changes.{added_stored, stored_there, added_next, removed_ended, ended_free, ended_room}
use Rattle.guide.proofs.ListingLaws.{found_by_is}
use Rattle.guide.proofs.NamedLaws.{found_unguided}
use Rattle.guide.proofs.Kept.{less_length, Kept, kept_length, kept_more, kept_less, kept_same, kept_skip}

-- ---- places and cells

first_low : (x : Pin) → first x < places
unfolding first_of
first_low x = omega arith

second_low : (x : Pin) → second x < places
unfolding second_of
second_low x = omega arith

pub cell_is_low : (t : ℕ) → cell_of t < 18
unfolding cell_of
cell_is_low t = go (leb t 16) refl
  where
    go : (x : Bool) → leb t 16 ≡ x → (if_true x then t else 17) < 18
    go true a = let p = leb-true t 16 a in omega (arith, p)
    go false a = omega arith

cell_low : (x : Pin) → places + cell x < size
cell_low x = omega (arith, cell_is_low x.thread)

abbrev Keeps : (ℕ → Option Pin) → ℕ → List ℕ → Type 0
Keeps = Kept pins first second cell places size first_low second_low cell_low

kept_of : {T : Table} {G : List ℕ} → Guides T G → Keeps (slot pins T) (room pins T) G
kept_of g = record { long = omega (arith, g.whole); listed = g.listed; tallied = g.tallied }

guides_of : {T : Table} {G : List ℕ} → length G ≡ size → Keeps (slot pins T) (room pins T) G → Guides T G
guides_of e k = record { whole = e; listed = k.listed; tallied = k.tallied }

-- ---- what it tells

pub pin_guide_finds : (T : Table) (G : List ℕ) (t f b : ℕ) → Guides T G → found_in T G t f b ≡ found pins (is_buffer t f b) T
unfolding found_in
pin_guide_finds T G t f b g = found_by_is pins first second (is_buffer t f b) T G (first_of t f b) (second_of t f b) its_places g.listed
  where
    left : (p q : Bool) → (p && q) ≡ true → p ≡ true
    left true q e = refl
    left false q e = e

    right : (p q : Bool) → (p && q) ≡ true → q ≡ true
    right true q e = e
    right false q e = absurd (false≢true e)

    its_places : (x : Pin) → is_buffer t f b x ≡ true → (first x ≡ first_of t f b) × (second x ≡ second_of t f b)
    its_places x e =
        let both : (eqb x.buffer b && eqb x.family f) ≡ true = left (eqb x.buffer b && eqb x.family f) (eqb x.thread t) e in
        let p : x.buffer ≡ b = eqb-true x.buffer b (left (eqb x.buffer b) (eqb x.family f) both) in
        let q : x.family ≡ f = eqb-true x.family f (right (eqb x.buffer b) (eqb x.family f) both) in
        let r : x.thread ≡ t = eqb-true x.thread t (right (eqb x.buffer b && eqb x.family f) (eqb x.thread t) e) in
        ((λ i. first_of (r i) (q i) (p i)), (λ i. second_of (r i) (q i) (p i)))

pub pin_leads_finds : (T : Table) (G : List ℕ) (t f b : ℕ) → Leads T G → found_in T G t f b ≡ found pins (is_buffer t f b) T
unfolding found_in
pin_leads_finds T G t f b (scans e) = found_unguided pins (is_buffer t f b) T G (first_of t f b) (second_of t f b) e
pin_leads_finds T G t f b (by_guide g) = pin_guide_finds T G t f b g

-- the cell of a thread is that thread
cell_is_thread : (t : ℕ) (x : Pin) → t ≤ 16 → eqb (cell x) (cell_of t) ≡ of_thread t x
unfolding cell_of
cell_is_thread t x a = rw (le-leb t 16 a) (go (leb x.thread 16) refl)
  where
    go : (y : Bool) → leb x.thread 16 ≡ y → eqb (if_true y then x.thread else 17) t ≡ eqb x.thread t
    go true e = refl
    go false e = ne_eqb 17 t (λ q. absurd (omega (arith, q))) ∙ sym (ne_eqb x.thread t (λ q. false≢true (sym e ∙ le-leb x.thread 16 (omega (arith, q)))))

pub pin_guide_counts : (T : Table) (G : List ℕ) (t : ℕ) → Guides T G → t ≤ 16 → get_or G (places + cell_of t) 0 ≡ counted pins (of_thread t) T
unfolding tally counted
pin_guide_counts T G t g a =
    g.tallied (cell_of t) (omega (arith, cell_is_low t)) ∙ how_many_ext _ _ (room pins T) (λ r l. at (slot pins T r) ∙ sym (passes_slot pins (of_thread t) T r))
  where
    at : (o : Option Pin) → holding (λ (x : Pin). eqb (cell x) (cell_of t)) o ≡ holding (of_thread t) o
    at None = refl
    at (Some x) = cell_is_thread t x a

-- ---- that it stays one

-- a row stored where none was
pub pin_guide_stored : (T : Table) (G : List ℕ) (r : ℕ) (x : Pin) → Guides T G → r < room pins T → slot pins T r ≡ None → Guides (stored pins T r x) (noted (stored pins T r x) G r)
unfolding noted
pin_guide_stored T G r x g l free =
    subst (λ (o : Option Pin). Guides T' (with_slot T' G r o)) (sym (stored_there pins T r x l free))
    (guides_of (kept_length pins first second cell places size first_low second_low cell_low T' G r x ∙ g.whole)
    (kept_more pins first second cell places size first_low second_low cell_low T' G (slot pins T) (slot pins T') (room pins T) (room pins T') r x (added_stored pins T r x l free) (kept_of g)))
  where
    T' : Table
    T' = stored pins T r x

-- a row ended
pub pin_guide_ended : (T : Table) (G : List ℕ) (r : ℕ) → Guides T G → Guides (ended pins T r) (forgotten T G r)
unfolding forgotten
pin_guide_ended T G r g = go (dec_lt r (room pins T))
  where
    T' : Table
    T' = ended pins T r

    same_room : {G' : List ℕ} → length G' ≡ size → Keeps (slot pins T') (room pins T) G' → Guides T' G'
    same_room {G'} e k = guides_of e (subst (λ (n : ℕ). Keeps (slot pins T') n G') (sym (ended_room pins T r)) k)

    by_slot : r < room pins T → (o : Option Pin) → slot pins T r ≡ o → Guides T' (without_slot G o)
    by_slot l None e =
        same_room g.whole
        (kept_same pins first second cell places size first_low second_low cell_low G (slot pins T) (slot pins T') (room pins T) (λ k m. ended_free pins T r k l e) (kept_of g))
    by_slot l (Some x) e =
        same_room (less_length G (places + cell x) ∙ g.whole)
        (kept_less pins first second cell places size first_low second_low cell_low G (slot pins T) (slot pins T') (room pins T) r x (removed_ended pins T r x l e) (kept_of g))

    go : Dec (r < room pins T) → Guides T' (without_slot G (get_or (view pins T) r None))
    go (yes l) = subst (λ (o : Option Pin). Guides T' (without_slot G o)) (sym (view_at pins T r l)) (by_slot l (slot pins T r) refl)
    go (no l) =
        subst (λ (o : Option Pin). Guides T' (without_slot G o)) (sym (view_past pins T r (omega arith)))
        (subst (λ (X : Table). Guides X G) (sym (ended_out pins T r (omega arith))) g)

-- ---- a guide filled

record Known (T : Table) (n : ℕ) (G : List ℕ) : Type 0 where
  whole : length G ≡ size
  kept : Keeps (slot pins T) n G

filled_known : (T : Table) (G : List ℕ) (n : ℕ) → n ≤ room pins T → Known T 0 G → Known T n (filled T G n)
unfolding filled noted
filled_known T G zero l c = c
filled_known T G (suc n) l c = next (filled_known T G n (omega arith) c)
  where
    by_slot : Known T n (filled T G n) → (o : Option Pin) → slot pins T n ≡ o → Known T (suc n) (with_slot T (filled T G n) n o)
    by_slot k None e =
        record { whole = k.whole; kept = kept_skip pins first second cell places size first_low second_low cell_low (filled T G n) (slot pins T) n e k.kept }
    by_slot k (Some x) e =
        record {
          whole = kept_length pins first second cell places size first_low second_low cell_low T (filled T G n) n x ∙ k.whole;
          kept = kept_more pins first second cell places size first_low second_low cell_low T (filled T G n) (slot pins T) (slot pins T) n (suc n) n x (added_next pins T n x l e) k.kept;
        }

    next : Known T n (filled T G n) → Known T (suc n) (with_slot T (filled T G n) n (get_or (view pins T) n None))
    next k = subst (λ (o : Option Pin). Known T (suc n) (with_slot T (filled T G n) n o)) (sym (view_at pins T n l)) (by_slot k (slot pins T n) refl)

pub pin_guide_filled : (T : Table) → Guides T (filled T (replicate size 0) (room pins T))
unfolding tally
pin_guide_filled T = let k = filled_known T (replicate size 0) (room pins T) (omega arith) start in guides_of k.whole k.kept
  where
    start : Known T 0 (replicate size 0)
    start =
        record {
          whole = length-replicate {A = ℕ} size 0;
          kept = record {
            long = omega (arith, length-replicate {A = ℕ} size 0);
            listed = λ r x l e. absurd (omega arith);
            tallied = λ k h. get_or-replicate size (places + k) 0 0 (omega arith) ∙ unfold how_many in refl;
          };
        }
