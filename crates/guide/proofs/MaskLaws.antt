-- The masks of a guide: one bit more, the bits of several words together, and none in them. Assumes nothing.
use mathlib.Core.Path.{◌≡◌, refl, sym, ap, ◌∙◌}
use mathlib.Core.Bool.{Bool, true, false, ◌||◌}
use mathlib.Core.List.{List}
use Rattle.std.specs.Prelude.{Option, Some}
use Prim.Native.Nat.{ℕ, zero, suc, ◌+◌, ◌^◌, ◌<◌}
use native.Mathlib.Decide.{ℕ_discrete}
use native.Mathlib.Omega.{arith}
use lib.Bits.{bit_or}
use lib.ListN.{length, get_or, set, length-set}
use lib.Seq.{get_or-set_same, get_or-set_other}
use Rattle.rows.specs.Marks.{bit}
use Rattle.rows.specs.Table.{Layout, Table}
use Rattle.rows.proofs.BitLaws.{bit-bit_or}
use Rattle.rows.proofs.MarkLaws.{set_same, set_other}
use Rattle.guide.specs.Masks.{with_bit, all_bits, no_bits, Shown}
use Rattle.guide.proofs.Changes.{some_inj, Added}

-- ---- a bit set

pub bit_length : (G : List ℕ) (k i : ℕ) → length (with_bit G k i) ≡ length G
unfolding with_bit
bit_length G k i = length-set G k _

pub bit_elsewhere : (G : List ℕ) (k i j d : ℕ) → (j ≡ k → ⊥) → get_or (with_bit G k i) j d ≡ get_or G j d
unfolding with_bit
bit_elsewhere G k i j d n = get_or-set_other G k j _ d n

keeps : (v j i : ℕ) → bit v i ≡ true → bit (bit_or v (2 ^ j)) i ≡ true
keeps v j i e = go (ℕ_discrete i j)
  where
    go : Dec (i ≡ j) → bit (bit_or v (2 ^ j)) i ≡ true
    go (yes q) = ap (bit (bit_or v (2 ^ j))) q ∙ set_same v j
    go (no q) = set_other v j i q ∙ e

module _ {A : Type 0} (L : Layout A) (cell : A → ℕ) (bit_of : ℕ → ℕ) (from : ℕ) where
  pub shown_more : (T : Table) (G : List ℕ) (S S' : ℕ → Option A) (n n' r : ℕ) (x : A) → from + cell x < length G → Added L T S n S' n' r x → Shown cell bit_of from S n G
      → Shown cell bit_of from S' n' (with_bit G (from + cell x) (bit_of r))
  unfolding with_bit
  shown_more T G S S' n n' r x inside d c k y l e = go (ℕ_discrete k r)
    where
      v : ℕ
      v = bit_or (get_or G (from + cell x) 0) (2 ^ bit_of r)

      at_x : get_or (set G (from + cell x) v) (from + cell x) 0 ≡ v
      at_x = get_or-set_same G (from + cell x) v 0 inside

      stays : bit (get_or G (from + cell y) 0) (bit_of k) ≡ true → Dec (from + cell y ≡ from + cell x) → bit (get_or (set G (from + cell x) v) (from + cell y) 0) (bit_of k) ≡ true
      stays h (yes q) =
          ap (λ (i : ℕ). bit (get_or (set G (from + cell x) v) i 0) (bit_of k)) q ∙ ap (λ (u : ℕ). bit u (bit_of k)) at_x
          ∙ keeps (get_or G (from + cell x) 0) (bit_of r) (bit_of k) (ap (λ (i : ℕ). bit (get_or G i 0) (bit_of k)) (sym q) ∙ h)
      stays h (no q) = ap (λ (u : ℕ). bit u (bit_of k)) (get_or-set_other G (from + cell x) (from + cell y) v 0 q) ∙ h

      go : Dec (k ≡ r) → bit (get_or (set G (from + cell x) v) (from + cell y) 0) (bit_of k) ≡ true
      go (yes q) =
          let same : x ≡ y = some_inj x y (sym d.this ∙ ap S' (sym q) ∙ e) in
          ap (λ (z : A). bit (get_or (set G (from + cell x) v) (from + cell z) 0) (bit_of k)) (sym same)
          ∙ ap (λ (i : ℕ). bit (get_or (set G (from + cell x) v) (from + cell x) 0) (bit_of i)) q
          ∙ ap (λ (u : ℕ). bit u (bit_of r)) at_x
          ∙ set_same (get_or G (from + cell x) 0) (bit_of r)
      go (no q) = let o = d.old k y l q e in stays (c k y o.0 o.1) (ℕ_discrete (from + cell y) (from + cell x))

  -- numbers elsewhere
  pub shown_elsewhere : (G H : List ℕ) (S : ℕ → Option A) (n : ℕ) → ((x : A) → get_or H (from + cell x) 0 ≡ get_or G (from + cell x) 0) → Shown cell bit_of from S n G → Shown cell bit_of from S n H
  shown_elsewhere G H S n same c r x l e = ap (λ (v : ℕ). bit v (bit_of r)) (same x) ∙ c r x l e

  -- no used row has its cell among these
  pub shown_none : (G : List ℕ) (S : ℕ → Option A) (n k m : ℕ) → ((j : ℕ) → (j < k → ⊥) → (j < k + m) → (r : ℕ) (x : A) → r < n → S r ≡ Some x → from + cell x ≡ j → ⊥)
      → ((j : ℕ) → ((j < k → ⊥) → j < k + m → ⊥) → get_or (no_bits G k m) j 0 ≡ get_or G j 0) → Shown cell bit_of from S n G → Shown cell bit_of from S n (no_bits G k m)
  shown_none G S n k m free same c r x l e =
      ap (λ (v : ℕ). bit v (bit_of r)) (same (from + cell x) (λ a b. free (from + cell x) a b r x l e refl)) ∙ c r x l e

-- ---- several words

or_left : (a b : Bool) → a ≡ true → (a || b) ≡ true
or_left a b e = rw e refl

or_right : (a b : Bool) → b ≡ true → (a || b) ≡ true
or_right true b e = refl
or_right false b e = e

pub bit_left : (a b i : ℕ) → bit a i ≡ true → bit (bit_or a b) i ≡ true
bit_left a b i e = bit-bit_or a b i ∙ or_left (bit a i) (bit b i) e

pub bit_right : (a b i : ℕ) → bit b i ≡ true → bit (bit_or a b) i ≡ true
bit_right a b i e = bit-bit_or a b i ∙ or_right (bit a i) (bit b i) e

pub bit_among : (G : List ℕ) (k n j i : ℕ) → j < n → bit (get_or G (k + j) 0) i ≡ true → bit (all_bits G k n) i ≡ true
unfolding all_bits
bit_among G k zero j i l e = absurd (omega arith)
bit_among G k (suc n) j i l e = go (λ m. bit_among G k n j i m e) (ℕ_discrete j n)
  where
    go : (j < n → bit (all_bits G k n) i ≡ true) → Dec (j ≡ n) → bit (bit_or (all_bits G k n) (get_or G (k + n) 0)) i ≡ true
    go ih (yes q) = bit_right (all_bits G k n) (get_or G (k + n) 0) i (ap (λ (m : ℕ). bit (get_or G (k + m) 0) i) (sym q) ∙ e)
    go ih (no q) = bit_left (all_bits G k n) (get_or G (k + n) 0) i (ih (omega (arith, q)))

pub length_no_bits : (G : List ℕ) (k n : ℕ) → length (no_bits G k n) ≡ length G
unfolding no_bits
length_no_bits G k zero = refl
length_no_bits G k (suc n) = length-set (no_bits G k n) (k + n) 0 ∙ length_no_bits G k n

pub no_bits_any : (G : List ℕ) (k n j d : ℕ) → ((j < k → ⊥) → j < k + n → ⊥) → get_or (no_bits G k n) j d ≡ get_or G j d
unfolding no_bits
no_bits_any G k zero j d h = refl
no_bits_any G k (suc n) j d h =
    get_or-set_other (no_bits G k n) (k + n) j 0 d (λ q. h (λ l. absurd (omega (arith, q))) (omega (arith, q))) ∙ no_bits_any G k n j d (λ a b. h a (omega arith))

pub no_bits_elsewhere : (G : List ℕ) (k n j : ℕ) → ((j < k → ⊥) → j < k + n → ⊥) → get_or (no_bits G k n) j 0 ≡ get_or G j 0
no_bits_elsewhere G k n j h = no_bits_any G k n j 0 h
