-- Rows and words of marks that are passed over: those between two set bits. Assumes nothing.
use mathlib.Core.Path.{◌≡◌, refl, sym, ap, ◌∙◌}
use mathlib.Core.Bool.{Bool, true, false, ◌&&◌}
use mathlib.Core.List.{List}
use Prim.Native.Nat.{ℕ, zero, suc, ◌+◌, ◌-◌, ◌*◌, ◌/◌, ◌%◌, ◌^◌, ◌≤◌, ◌<◌, min}
use native.Mathlib.Decide.{ℕ_discrete, dec_lt}
use native.Mathlib.Omega.{arith}
use lib.Bits.{bit_and}
use lib.Count.{count_trailing_zeros}
use lib.ListN.{get_or}
use Rattle.words.specs.Choice.{if_true◌then◌else◌}
use Rattle.rows.specs.Marks.{word, bit, used}
use Rattle.rows.specs.Slots.{holding}
use Rattle.rows.specs.Table.{Layout, Table, table, room, matches, passes, ended, ended_if, ended_from}
use Rattle.rows.specs.View.{slot}
use Rattle.rows.specs.References.{references, from_frame}
use Rattle.rows.proofs.BitLaws.{bit-bit_and, bit_shr, trailing_lowest}
use Rattle.rows.proofs.ScanLaws.{lowest_below}
use Rattle.rows.proofs.RowLaws.{ended_out, slot_ended_same, slot_ended_other}
use Rattle.rows.proofs.ViewLaws.{room_same, ended_lengths, passes_slot}
use Rattle.rows.proofs.TableLaws.{ended_first, ended_next, ended_skip}
use Rattle.guide.specs.Masks.{mark_bit}
use Rattle.tables.specs.Unshown.{Unshown}

-- ---- bits

-- no bit is set below the zeros that a word has from bit i on
pub none_between : (v i p : ℕ) → p ≡ min (i + count_trailing_zeros word (v / 2 ^ i)) word → i < word → (i ≤ p) × (p ≤ word) × ((k : ℕ) → i ≤ k → k < p → bit v k ≡ false)
none_between v i p e l = (
  omega (arith, e, l),
  omega (arith, e),
  λ k a b.
      let n : i + (k - i) ≡ k = omega arith in
      ap (bit v) (sym n) ∙ sym (bit_shr v i (k - i)) ∙ lowest_below (bit (v / 2 ^ i)) word (k - i) (omega (arith, e, b, a, trailing_lowest word (v / 2 ^ i))),
)

-- nor where it is cut off
pub none_below : (v i m n p : ℕ) → p ≡ min n m → i ≤ n → i ≤ m → ((k : ℕ) → i ≤ k → k < n → bit v k ≡ false) → (i ≤ p) × (p ≤ m) × ((k : ℕ) → i ≤ k → k < p → bit v k ≡ false)
none_below v i m n p e a b h = (omega (arith, e), omega (arith, e), λ k u l. h k u (omega (arith, e)))

-- a bit stands for every 64th word
pub unshown_between : (s w f n p : ℕ) → p ≡ min (w / word * word + n) f → w ≤ f → w % word ≤ n → n ≤ word → ((k : ℕ) → w % word ≤ k → k < n → bit s k ≡ false)
    → (w ≤ p) × (p ≤ f) × ((k : ℕ) → w ≤ k → k < p → bit s (k % word) ≡ false)
unshown_between s w f n p e a b c h =
    (omega (arith, e), omega (arith, e), λ k u v. h (k % word) (omega (arith, e)) (omega (arith, e)))

-- ---- a row that does not pass does not when others are ended

module _ {A : Type 0} (L : Layout A) (q : A → Bool) where
  ended_fails : (T : Table) (k r : ℕ) → passes L q T r ≡ false → passes L q (ended L T k) r ≡ false
  ended_fails T k r e = go (dec_lt k (room L T)) (ℕ_discrete r k)
    where
      go : Dec (k < room L T) → Dec (r ≡ k) → passes L q (ended L T k) r ≡ false
      go (no l) d = ap (λ (X : Table). passes L q X r) (ended_out L T k (omega arith)) ∙ e
      go (yes l) (yes d) = passes_slot L q (ended L T k) r ∙ ap (holding q) (ap (slot L (ended L T k)) d ∙ slot_ended_same L T k l)
      go (yes l) (no d) = passes_slot L q (ended L T k) r ∙ ap (holding q) (slot_ended_other L T k r l d) ∙ sym (passes_slot L q T r) ∙ e

  ended_from_fails : (T : Table) (a n r : ℕ) → passes L q T r ≡ false → passes L q (ended_from L q T a n) r ≡ false
  unfolding ended_from ended_if
  ended_from_fails T a zero r e = e
  ended_from_fails T a (suc n) r e = go (ended_from_fails T a n r e) (passes L q (ended_from L q T a n) (a + n))
    where
      go : passes L q (ended_from L q T a n) r ≡ false → (b : Bool) → passes L q (if_true b then ended L (ended_from L q T a n) (a + n) else ended_from L q T a n) r ≡ false
      go h true = ended_fails (ended_from L q T a n) (a + n) r h
      go h false = h

  ended_from_room : (T : Table) (a n : ℕ) → room L (ended_from L q T a n) ≡ room L T
  unfolding ended_from ended_if
  ended_from_room T a zero = refl
  ended_from_room T a (suc n) = go (ended_from_room T a n) (passes L q (ended_from L q T a n) (a + n))
    where
      go : room L (ended_from L q T a n) ≡ room L T → (b : Bool) → room L (if_true b then ended L (ended_from L q T a n) (a + n) else ended_from L q T a n) ≡ room L T
      go h true = room_same L (ended L (ended_from L q T a n) (a + n)) (ended_from L q T a n) (ended_lengths L (ended_from L q T a n) (a + n)) ∙ h
      go h false = h

module _ (t f : ℕ) where
  pub unshown_still : (bit_of : ℕ → ℕ) (s : ℕ) (T S : Table) (a n : ℕ) → Unshown bit_of s t f T → S ≡ ended_from references (from_frame t f) T a n → Unshown bit_of s t f S
  unshown_still bit_of s T S a n h e r l b =
      let same : room references S ≡ room references T = ap (room references) e ∙ ended_from_room references (from_frame t f) T a n in
      ap (λ (X : Table). passes references (from_frame t f) X r) e ∙ ended_from_fails references (from_frame t f) T a n r (h r (omega (arith, same, l)) b)

  -- ---- the marks of a word

  -- a row whose mark is not set in both
  other_fails : (rs ms : List ℕ) (own w k : ℕ) → k < word → w * word + k < room references (table rs ms) → Unshown mark_bit own t f (table rs ms)
      → bit (bit_and (get_or ms w 0) own) k ≡ false → passes references (from_frame t f) (table rs ms) (w * word + k) ≡ false
  unfolding passes used
  other_fails rs ms own w k l i h e = go (bit own k) refl
    where
      mark : used ms (w * word + k) ≡ bit (get_or ms w 0) k
      mark =
          let x : (w * word + k) / word ≡ w = omega arith in
          let y : (w * word + k) % word ≡ k = omega arith in
          ap (λ (j : ℕ). bit (get_or ms j 0) ((w * word + k) % word)) x ∙ ap (bit (get_or ms w 0)) y

      right_false : (a b : Bool) → b ≡ false → (a && b) ≡ false
      right_false true b z = z
      right_false false b z = refl

      left_of : (a : Bool) → (a && true) ≡ false → a ≡ false
      left_of true z = z
      left_of false z = refl

      go : (b : Bool) → bit own k ≡ b → passes references (from_frame t f) (table rs ms) (w * word + k) ≡ false
      go true o =
          right_false (matches references (from_frame t f) rs (w * word + k)) (used ms (w * word + k))
          (mark ∙ left_of (bit (get_or ms w 0) k) (ap (λ (b : Bool). bit (get_or ms w 0) k && b) (sym o) ∙ sym (bit-bit_and (get_or ms w 0) own k) ∙ e))
      go false o = let y : (w * word + k) % word ≡ k = omega arith in h (w * word + k) i (ap (bit own) y ∙ o)

  -- the first such row of word w, and the next one
  pub own_first : (rs ms : List ℕ) (own w i : ℕ) → i ≤ word → w * word + i ≤ room references (table rs ms) → Unshown mark_bit own t f (table rs ms)
      → ((k : ℕ) → 0 ≤ k → k < i → bit (bit_and (get_or ms w 0) own) k ≡ false) → table rs ms ≡ ended_from references (from_frame t f) (table rs ms) (w * word) i
  own_first rs ms own w i l d u h =
      ended_skip references (from_frame t f) (table rs ms) (table rs ms) (w * word) 0 i (ended_first references (from_frame t f) (table rs ms) (w * word)) (omega arith)
      (λ k a b. other_fails rs ms own w k (omega arith) (omega arith) u (h k a b))

  pub own_next : (T S : Table) (rs ms : List ℕ) (own w i p : ℕ) → p ≤ word → w * word + p ≤ room references T → Unshown mark_bit own t f T
      → S ≡ ended_from references (from_frame t f) T (w * word) i → table rs ms ≡ ended_if references (from_frame t f) S (w * word + i) → i + 1 ≤ p
      → ((k : ℕ) → i + 1 ≤ k → k < p → bit (bit_and (get_or ms w 0) own) k ≡ false) → table rs ms ≡ ended_from references (from_frame t f) T (w * word) p
  own_next T S rs ms own w i p m d u e g l h =
      let done = ended_next references (from_frame t f) T S (table rs ms) (w * word) i e g in
      let same : room references (table rs ms) ≡ room references T = ap (room references) done ∙ ended_from_room references (from_frame t f) T (w * word) (i + 1) in
      ended_skip references (from_frame t f) T (table rs ms) (w * word) (i + 1) p done l
      (λ k a b. other_fails rs ms own w k (omega arith) (omega (arith, same)) (unshown_still mark_bit own T (table rs ms) (w * word) (i + 1) u done) (h k a b))
