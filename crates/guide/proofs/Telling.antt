-- What a guide of reference rows tells of them. Assumes nothing.
use mathlib.Core.Path.{◌≡◌, refl, sym, ap, ap₂, ◌∙◌}
use mathlib.Core.Bool.{Bool, true, false, ◌&&◌, false≢true}
use mathlib.Core.List.{List}
use Rattle.std.specs.Prelude.{Option, None, Some}
use Prim.Native.Nat.{ℕ, ◌+◌, ◌-◌, ◌*◌, ◌≤◌, ◌<◌}
use native.Mathlib.Decide.{ℕ_discrete, dec_lt}
use native.Mathlib.Omega.{arith}
use lib.Bits.{bit_or}
use lib.Dec.{eqb, leb}
use lib.ListN.{get_or, get_or-eq_default}
use borrow.Author.Tests.{eqb-true, eq-eqb, ne_eqb, leb-true}
use Rattle.rows.specs.Slots.{holding, empty}
use Rattle.rows.specs.Marks.{word, bit}
use Rattle.rows.specs.Table.{Table, room, free_row, alive, found, counted}
use Rattle.rows.specs.Frees.{free_from}
use Rattle.rows.specs.View.{slot}
use Rattle.rows.specs.declared.references.Reference.{Reference}
use Rattle.rows.specs.References.{references, is_handle, in_frame, from_frame}
use Rattle.rows.proofs.ScanLaws.{how_many_ext}
use Rattle.rows.proofs.FreeLaws.{lowest_is_from}
use Rattle.rows.proofs.ViewLaws.{passes_slot, used_slot, free_slot}
use Rattle.guide.specs.Tallies.{tally}
use Rattle.guide.specs.Masks.{word_bit, mark_bit, all_bits, Shown}
use Rattle.guide.specs.Frees.{any}
use Rattle.guide.specs.References.{places, others, words, marks, used_at, low_at, first_of, second_of, first, second, cell_of, cell, found_in, bits_from, Guides, Leads, scans, by_guide}
use Rattle.guide.proofs.ListingLaws.{found_by_is}
use Rattle.guide.proofs.NamedLaws.{found_unguided}
use Rattle.guide.proofs.MaskLaws.{bit_left, bit_right, bit_among}
use Rattle.guide.proofs.Cells.{cell_inside, cell_outside, cell_is_low}

pub guide_finds : (T : Table) (G : List ℕ) (t h : ℕ) → Guides T G → found_in T G t h ≡ found references (is_handle t h) T
unfolding found_in
guide_finds T G t h g = found_by_is references first second (is_handle t h) T G (first_of t h) (second_of t h) its_places g.listed
  where
    left : (a b : Bool) → (a && b) ≡ true → a ≡ true
    left true b e = refl
    left false b e = e

    right : (a b : Bool) → (a && b) ≡ true → b ≡ true
    right true b e = e
    right false b e = absurd (false≢true e)

    its_places : (x : Reference) → is_handle t h x ≡ true → (first x ≡ first_of t h) × (second x ≡ second_of t h)
    its_places x e =
        let p : x.handle ≡ h = eqb-true x.handle h (left (eqb x.handle h) (eqb x.thread t) e) in
        let q : x.thread ≡ t = eqb-true x.thread t (right (eqb x.handle h) (eqb x.thread t) e) in
        (ap₂ first_of q p, ap₂ second_of q p)

pub leads_finds : (T : Table) (G : List ℕ) (t h : ℕ) → Leads T G → found_in T G t h ≡ found references (is_handle t h) T
unfolding found_in
leads_finds T G t h (scans e) = found_unguided references (is_handle t h) T G (first_of t h) (second_of t h) e
leads_finds T G t h (by_guide g) = guide_finds T G t h g

-- the cell of a frame is that frame
cell_is_frame : (t f : ℕ) (x : Reference) → t ≤ 16 → f ≤ 64 → eqb (cell x) (cell_of t f) ≡ in_frame t f x
cell_is_frame t f x a b = go (ℕ_discrete x.frame f) (ℕ_discrete x.thread t)
  where
    both_false : (p q : Bool) → q ≡ false → (p && q) ≡ false
    both_false true q e = e
    both_false false q e = refl

    apart : (cell_of x.thread x.frame ≡ t * 65 + f → (x.frame ≡ f) × (x.thread ≡ t))
    apart e = at (dec_lt 16 x.thread) (dec_lt 64 x.frame)
      where
        at : Dec (16 < x.thread) → Dec (64 < x.frame) → (x.frame ≡ f) × (x.thread ≡ t)
        at (no p) (no q) =
            let c = cell_inside x.thread x.frame (omega arith) (omega arith) in
            (omega (arith, sym c ∙ e, a, b), omega (arith, sym c ∙ e, a, b))
        at (yes p) q = let c = cell_outside x.thread x.frame (λ u v. absurd (omega arith)) in absurd (omega (arith, sym c ∙ e, a, b))
        at (no p) (yes q) = let c = cell_outside x.thread x.frame (λ u v. absurd (omega arith)) in absurd (omega (arith, sym c ∙ e, a, b))

    go : Dec (x.frame ≡ f) → Dec (x.thread ≡ t) → eqb (cell x) (cell_of t f) ≡ in_frame t f x
    go (yes p) (yes q) = eq-eqb (cell x) (cell_of t f) (ap₂ cell_of q p) ∙ sym (rw (eq-eqb x.frame f p, eq-eqb x.thread t q) refl)
    go (yes p) (no q) =
        ne_eqb (cell x) (cell_of t f) (λ e. q (apart (e ∙ cell_inside t f a b)).1) ∙ sym (both_false (eqb x.frame f) (eqb x.thread t) (ne_eqb x.thread t q))
    go (no p) q = ne_eqb (cell x) (cell_of t f) (λ e. p (apart (e ∙ cell_inside t f a b)).0) ∙ sym (ap (λ (y : Bool). y && eqb x.thread t) (ne_eqb x.frame f p))

pub guide_counts : (T : Table) (G : List ℕ) (t f : ℕ) → Guides T G → t ≤ 16 → f ≤ 64 → get_or G (places + cell_of t f) 0 ≡ counted references (in_frame t f) T
unfolding tally counted
guide_counts T G t f g a b =
    g.tallied (cell_of t f) (omega (arith, cell_is_low t f))
    ∙ how_many_ext _ _ (room references T) (λ r l. at (slot references T r) ∙ sym (passes_slot references (in_frame t f) T r))
  where
    at : (o : Option Reference) → holding (λ (x : Reference). eqb (cell x) (cell_of t f)) o ≡ holding (in_frame t f) o
    at None = refl
    at (Some x) = cell_is_frame t f x a b

-- row r is of thread t and frame f or above: its bit is set
frames_show : (bit_of : ℕ → ℕ) (from : ℕ) (T : Table) (G : List ℕ) (t f r : ℕ) (x : Reference) → Shown cell bit_of from (slot references T) (room references T) G
    → r < room references T → slot references T r ≡ Some x → from_frame t f x ≡ true → bit (bits_from G from t f) (bit_of r) ≡ true
unfolding bits_from
frames_show bit_of from T G t f r x g l e y = go (dec_lt 16 t) (dec_lt 64 x.frame)
  where
    left : (p q : Bool) → (p && q) ≡ true → p ≡ true
    left true q h = refl
    left false q h = h

    right : (p q : Bool) → (p && q) ≡ true → q ≡ true
    right true q h = h
    right false q h = absurd (false≢true h)

    high : f ≤ x.frame
    high = leb-true f x.frame (left (leb f x.frame) (eqb x.thread t) y)

    own : x.thread ≡ t
    own = eqb-true x.thread t (right (leb f x.frame) (eqb x.thread t) y)

    its : bit (get_or G (from + cell x) 0) (bit_of r) ≡ true
    its = g r x l e

    elsewhere : cell x ≡ others → bit (bit_or (get_or G (from + others) 0) (all_bits G (from + cell_of t f) (65 - f))) (bit_of r) ≡ true
    elsewhere c = bit_left (get_or G (from + others) 0) _ (bit_of r) (ap (λ (k : ℕ). bit (get_or G (from + k) 0) (bit_of r)) (sym c) ∙ its)

    go : Dec (16 < t) → Dec (64 < x.frame) → bit (bit_or (get_or G (from + others) 0) (all_bits G (from + cell_of t f) (65 - f))) (bit_of r) ≡ true
    go (yes u) h = elsewhere (cell_outside x.thread x.frame (λ m n. absurd (omega (arith, own, m, u))))
    go (no u) (yes h) = elsewhere (cell_outside x.thread x.frame (λ m n. absurd (omega (arith, n, h))))
    go (no u) (no h) =
        let c : cell x ≡ t * 65 + x.frame = ap (λ (s : ℕ). cell_of s x.frame) own ∙ cell_inside t x.frame (omega arith) (omega arith) in
        let d : cell_of t f ≡ t * 65 + f = cell_inside t f (omega arith) (omega (arith, high)) in
        let k : from + cell x ≡ (from + cell_of t f) + (x.frame - f) = omega (arith, c, d, high) in
        bit_right (get_or G (from + others) 0) _ (bit_of r)
        (bit_among G (from + cell_of t f) (65 - f) (x.frame - f) (bit_of r) (omega (arith, high, h)) (ap (λ (j : ℕ). bit (get_or G j 0) (bit_of r)) (sym k) ∙ its))

module _ (T : Table) (G : List ℕ) (t f r : ℕ) (x : Reference) (g : Guides T G) where
  pub word_shown : r < room references T → slot references T r ≡ Some x → from_frame t f x ≡ true → bit (bits_from G words t f) (word_bit r) ≡ true
  word_shown l e y = frames_show word_bit words T G t f r x g.words_shown l e y

  pub mark_shown : r < room references T → slot references T r ≡ Some x → from_frame t f x ≡ true → bit (bits_from G marks t f) (mark_bit r) ≡ true
  mark_shown l e y = frames_show mark_bit marks T G t f r x g.marks_shown l e y

-- how many rows are used
pub guide_used : (T : Table) (G : List ℕ) → Guides T G → get_or G used_at 0 ≡ alive references T
unfolding tally alive
guide_used T G g = g.counted 0 (omega arith) ∙ how_many_ext _ _ (room references T) (λ r l. at (slot references T r) ∙ sym (used_slot references T r))
  where
    at : (o : Option Reference) → holding (λ (x : Reference). eqb (any x) 0) o ≡ holding (λ (x : Reference). true) o
    at None = refl
    at (Some x) = refl

-- the lowest free row is not below the word that is named
pub guide_free : (T : Table) (G : List ℕ) → Guides T G → free_from references T (get_or G low_at 0) ≡ free_row references T
guide_free T G g = lowest_is_from references T (get_or G low_at 0) (λ r l u. free_slot references T r ∙ at r l u (slot references T r) refl)
  where
    at : (r : ℕ) → r < room references T → r < get_or G low_at 0 * word → (o : Option Reference) → slot references T r ≡ o → empty o ≡ false
    at r l u None e = absurd (omega (arith, u, g.low r l e))
    at r l u (Some x) e = refl

pub leads_free : (T : Table) (G : List ℕ) → Leads T G → free_from references T (get_or G low_at 0) ≡ free_row references T
leads_free T G (scans e) =
    let d : get_or G low_at 0 ≡ 0 = get_or-eq_default G 0 (omega (arith, e)) in
    lowest_is_from references T (get_or G low_at 0) (λ r l u. absurd (omega (arith, u, d)))
leads_free T G (by_guide g) = guide_free T G g
