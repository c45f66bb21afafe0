-- What the code does to the words and numbers of a guide, step by step. Assumes nothing.
use mathlib.Core.Path.{◌≡◌, refl, sym, ap, ap₂, ◌∙◌}
use mathlib.Core.Bool.{◌||◌}
use mathlib.Core.List.{List, [], ◌∷◌, ◌++◌}
use Prim.Native.Nat.{ℕ, zero, suc, ◌+◌, ◌-◌, ◌/◌, ◌≤◌, ◌<◌, min}
use native.Mathlib.Nat.{le_of_suc-le-suc, not-suc-le-zero, add-zero, add-suc}
use native.Mathlib.Numerals.{add-one}
use native.Mathlib.Decide.{dec_lt}
use native.Mathlib.Omega.{arith}
use lib.Bits.{bit_or, or_zero_r}
use lib.Dec.{eqb}
use lib.ListN.{length, get_or, set, replicate, take, drop, length-drop, get_or-eq_default}
use lib.Seq.{paste, set-get_or, set_out}
use Rattle.std.specs.Prelude.{fold}
use Rattle.std.proofs.lemmas.List.{get_or-drop, take_more}
use Rattle.std.proofs.lemmas.List.Edits.{fill_from_more, paste_none}
use borrow.Author.Tests.{lt-ltb, le-ltb}
use Rattle.rows.specs.Marks.{word}
use Rattle.rows.specs.Table.{most}
use Rattle.guide.specs.Words.{name_a, name_b, name_c, named}
use Rattle.guide.specs.Listing.{word_at}
use Rattle.guide.specs.Tallies.{more_at}
use Rattle.guide.specs.Masks.{with_bit, all_bits, no_bits}
use Rattle.guide.specs.Frees.{raised_at}
use Rattle.guide.proofs.MaskLaws.{length_no_bits}

-- ---- a word

any_default : (G : List ℕ) (s d e : ℕ) → s < length G → get_or G s d ≡ get_or G s e
any_default [] s d e h = absurd (not-suc-le-zero h)
any_default (x ∷ G) zero d e h = refl
any_default (x ∷ G) (suc s) d e h = any_default G s d e (le_of_suc-le-suc h)

-- the word at one of two places, whatever stands for a third
pub word_of_two : (G : List ℕ) (a b i w : ℕ) → i < 2 → w ≡ word_at G (get_or (a ∷ b ∷ []) i 0) → w ≡ word_at G (get_or (a ∷ b ∷ []) i b)
word_of_two G a b i w h e = e ∙ ap (word_at G) (any_default (a ∷ b ∷ []) i 0 b h)

pub last_of_two : (a b i : ℕ) → get_or (a ∷ b ∷ []) (i + 1) b ≡ b
last_of_two a b i = rw (add-one i) (go i)
  where
    go : (k : ℕ) → get_or (a ∷ b ∷ []) (suc k) b ≡ b
    go zero = refl
    go (suc k) = refl

pub named_of : (w r a b c : ℕ) → a ≡ name_a w → b ≡ name_b w → c ≡ name_c w → ((eqb a r || eqb b r) || eqb c r) ≡ named w r
unfolding named
named_of w r a b c ea eb ec = rw (ea, eb, ec)

-- ---- a number

pub one_more : (G H : List ℕ) (k n : ℕ) → n ≡ get_or G k 0 → n < most → H ≡ set G k (n + 1) → H ≡ more_at G k
unfolding more_at
one_more G H k n e l s = s ∙ ap (set G k) (rw (lt-ltb (get_or G k 0) most (omega (arith, e, l))) (omega (arith, e)))

pub no_more : (G : List ℕ) (k n : ℕ) → n ≡ get_or G k 0 → most ≤ n → G ≡ more_at G k
unfolding more_at
no_more G k n e l = rw (le-ltb (get_or G k 0) most (omega (arith, e, l))) (sym (set-get_or G k 0))

-- read where a place is counted from p
pub number_of : (G : List ℕ) (p k i n : ℕ) → k ≡ i → n ≡ get_or G (p + k) 0 → n ≡ get_or G (p + i) 0
number_of G p k i n e h = h ∙ ap (λ (j : ℕ). get_or G (p + j) 0) e

-- ---- the word of the lowest free row

pub raised_to : (G H : List ℕ) (k r : ℕ) → H ≡ set G k (r / word) → H ≡ raised_at G k r
unfolding raised_at
raised_to G H k r e = e

-- ---- bits

pub bit_past : (G : List ℕ) (k i : ℕ) → length G ≤ k → G ≡ with_bit G k i
unfolding with_bit
bit_past G k i h = sym (set_out G k _ h)

-- past the end there is no bit, and nothing to clear
bits_past : (G : List ℕ) (k m n : ℕ) → length G ≤ k + m → all_bits G k (m + n) ≡ all_bits G k m
unfolding all_bits
bits_past G k m zero h = ap (all_bits G k) (add-zero m)
bits_past G k m (suc n) h =
    ap (all_bits G k) (add-suc m n)
    ∙ ap (bit_or (all_bits G k (m + n))) (get_or-eq_default G 0 (omega (arith, h)))
    ∙ or_zero_r (all_bits G k (m + n)) ∙ bits_past G k m n h

none_past : (G : List ℕ) (k m n : ℕ) → length G ≤ k + m → no_bits G k (m + n) ≡ no_bits G k m
unfolding no_bits
none_past G k m zero h = ap (no_bits G k) (add-zero m)
none_past G k m (suc n) h =
    ap (no_bits G k) (add-suc m n)
    ∙ set_out (no_bits G k (m + n)) (k + (m + n)) 0 (omega (arith, h, length_no_bits G k (m + n)))
    ∙ none_past G k m n h

-- so many words are there of n
module _ (G : List ℕ) (k i n : ℕ) (e : i ≡ min n (length G - k)) where
  whole : n ≡ i + (n - i)
  whole = omega (arith, e)

  pub bits_cut : all_bits G k i ≡ all_bits G k n
  bits_cut = go (dec_lt (k + i) (length G))
    where
      go : Dec (k + i < length G) → all_bits G k i ≡ all_bits G k n
      go (yes l) = ap (all_bits G k) (omega (arith, e, l))
      go (no l) = sym (ap (all_bits G k) whole ∙ bits_past G k i (n - i) (omega (arith, l)))

  pub none_cut : no_bits G k i ≡ no_bits G k n
  none_cut = go (dec_lt (k + i) (length G))
    where
      go : Dec (k + i < length G) → no_bits G k i ≡ no_bits G k n
      go (yes l) = ap (no_bits G k) (omega (arith, e, l))
      go (no l) = sym (ap (no_bits G k) whole ∙ none_past G k i (n - i) (omega (arith, l)))

-- of no words, wherever they stand
pub no_bit : (G : List ℕ) (j k : ℕ) → all_bits G j 0 ≡ all_bits G k 0
unfolding all_bits
no_bit G j k = refl

pub no_none : (G : List ℕ) (j k : ℕ) → no_bits G j 0 ≡ no_bits G k 0
unfolding no_bits
no_none G j k = refl

-- zeros in place of words that are there
pub none_pasted : (G : List ℕ) (k n : ℕ) → k + n ≤ length G → no_bits G k n ≡ paste G k (replicate n 0) n
unfolding no_bits
none_pasted G k zero h = paste_none G k []
none_pasted G k (suc n) h =
    ap (λ (X : List ℕ). set X (k + n) 0) (none_pasted G k n (omega (arith, h))) ∙ fill_from_more G k n 0 (omega (arith, h))
    ∙ ap (λ (m : ℕ). paste G k (replicate m 0) m) (add-one n)

-- the bits of words that are there
fold_last : (a y : ℕ) (xs : List ℕ) → fold bit_or a (xs ++ (y ∷ [])) ≡ bit_or (fold bit_or a xs) y
fold_last a y [] = refl
fold_last a y (x ∷ xs) = fold_last (bit_or a x) y xs

pub bits_folded : (G : List ℕ) (k n : ℕ) → k + n ≤ length G → fold bit_or 0 (take n (drop k G)) ≡ all_bits G k n
unfolding all_bits
bits_folded G k zero h = refl
bits_folded G k (suc n) h =
    ap (λ (m : ℕ). fold bit_or 0 (take m (drop k G))) (sym (add-one n))
    ∙ ap (fold bit_or 0) (take_more (drop k G) n 0 (simp length-drop (omega (arith, h))))
    ∙ fold_last 0 (get_or (drop k G) n 0) (take n (drop k G))
    ∙ ap₂ bit_or (bits_folded G k n (omega (arith, h))) (get_or-drop k G n 0)
