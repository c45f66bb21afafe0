-- The guide of reference rows, step by step of the code. Assumes nothing.
use mathlib.Core.Path.{◌≡◌, refl, sym, ap, ap₂, ◌∙◌}
use mathlib.Core.Bool.{Bool, true, false, ◌&&◌, false≢true}
use mathlib.Core.List.{List}
use Rattle.std.specs.Prelude.{None, Some, fold}
use Prim.Native.Nat.{ℕ, ◌+◌, ◌-◌, ◌*◌, ◌/◌, ◌%◌, ◌^◌, ◌≤◌, ◌<◌, min}
use native.Mathlib.Numerals.{add-one}
use native.Mathlib.Decide.{dec_lt}
use native.Mathlib.Omega.{arith}
use Rattle.std.proofs.lemmas.Slice.{put_mid-paste}
use lib.Bits.{bit_or}
use lib.Dec.{leb}
use lib.ListN.{length, get_or, replicate, take, drop, length-replicate}
use borrow.Rule.Slice.PartMut.{mid_of, put_mid, mid_len}
use borrow.Author.Tests.{leb-true}
use Rattle.rows.specs.declared.references.Reference.{Reference}
use Rattle.rows.specs.Table.{Table, room}
use Rattle.rows.specs.View.{view}
use Rattle.rows.specs.References.{references}
use Rattle.guide.specs.Spread.{spread}
use Rattle.guide.specs.Listing.{with_listed}
use Rattle.guide.specs.Tallies.{more_at, less_at}
use Rattle.guide.specs.Masks.{word_bit, mark_bit, with_bit, all_bits, no_bits}
use Rattle.guide.specs.Frees.{lowered_at}
use Rattle.guide.specs.References.{places, others, cells, words, marks, used_at, low_at, first_of, second_of, first, second, cell_of, noted, forgotten, bits_from, none_from, filled}
use Rattle.guide.proofs.Steps.{bits_cut, bits_folded, no_bit, no_none, none_cut, none_pasted}

-- ---- places and cells

pub first_is : (t h d : ℕ) → d ≡ spread h (t % 32) → d / 131072 % 32768 ≡ first_of t h
unfolding first_of
first_is t h d e = rw e

pub second_is : (t h d : ℕ) → d ≡ spread h (t % 32) → d / 4 % 32768 ≡ second_of t h
unfolding second_of
second_is t h d e = rw e

pub cell_own : (t f : ℕ) → (leb t 16 && leb f 64) ≡ true → t * 65 + f ≡ cell_of t f
unfolding cell_of
cell_own t f h = rw h

pub cell_low : (t f : ℕ) → (leb t 16 && leb f 64) ≡ true → t * 65 + f < cells
cell_low t f h = go (leb t 16) (leb f 64) refl refl h
  where
    go : (a b : Bool) → leb t 16 ≡ a → leb f 64 ≡ b → (a && b) ≡ true → t * 65 + f < cells
    go true true ea eb e = omega (arith, leb-true t 16 ea, leb-true f 64 eb)
    go true false ea eb e = absurd (false≢true e)
    go false b ea eb e = absurd (false≢true e)

pub cell_thread : (t f : ℕ) → (leb t 16 && leb f 64) ≡ true → t * 65 < 2 ^ 64
cell_thread t f h = omega (arith, cell_low t f h)

pub cell_fits : (t f : ℕ) → (leb t 16 && leb f 64) ≡ true → t * 65 + f < 2 ^ 64
cell_fits t f h = omega (arith, cell_low t f h)

pub cell_other : (t f : ℕ) → (leb t 16 && leb f 64) ≡ false → others ≡ cell_of t f
unfolding cell_of
cell_other t f h = rw h

-- ---- a row noted, and forgotten

module _ (T : Table) (G : List ℕ) (r : ℕ) where
  pub noted_row : (x : Reference) (i j k : ℕ) (H I J K M : List ℕ) → get_or (view references T) r None ≡ Some x → i ≡ first x → j ≡ second x
      → H ≡ with_listed references first second T G i j r → k ≡ cell_of x.thread x.frame → I ≡ more_at H (places + k) → J ≡ with_bit I (words + k) (word_bit r)
      → K ≡ with_bit J (marks + k) (mark_bit r) → M ≡ more_at K used_at → M ≡ noted T G r
  unfolding noted
  noted_row x i j k H I J K M e ei ej eh ek ew eb ed em = em ∙ rw (e, ed, eb, ew, eh, ei, ej, ek)

  pub noted_none : get_or (view references T) r None ≡ None → G ≡ noted T G r
  unfolding noted
  noted_none e = rw e

  pub forgotten_row : (x : Reference) (k : ℕ) (H I J : List ℕ) → get_or (view references T) r None ≡ Some x → k ≡ cell_of x.thread x.frame → H ≡ less_at G (places + k)
      → I ≡ less_at H used_at → J ≡ lowered_at I low_at r → J ≡ forgotten T G r
  unfolding forgotten
  forgotten_row x k H I J e ek eh ei ej = ej ∙ rw (e, ei, eh, ek)

  pub forgotten_none : get_or (view references T) r None ≡ None → G ≡ forgotten T G r
  unfolding forgotten
  forgotten_none e = rw e

-- ---- the frames from f on

-- k is where they stand, or the end, and of n of them there are words
module _ (G : List ℕ) (from t f d k n : ℕ) (ed : d ≡ cell_of t f) (ek : k ≡ min (length G) (from + d)) (en : n ≡ min (65 - f) (length G - k)) where
  within : k + n ≤ length G
  within = omega (arith, ek, en)

  all_there : all_bits G k n ≡ all_bits G (from + d) (65 - f)
  all_there = go (dec_lt (from + d) (length G))
    where
      go : Dec (from + d < length G) → all_bits G k n ≡ all_bits G (from + d) (65 - f)
      go (yes l) = let e : k ≡ from + d = omega (arith, ek, l) in ap (λ (j : ℕ). all_bits G j n) e ∙ bits_cut G (from + d) n (65 - f) (omega (arith, en, e))
      go (no l) = let z : n ≡ 0 = omega (arith, en, ek, l) in ap (all_bits G k) z ∙ no_bit G k (from + d) ∙ bits_cut G (from + d) 0 (65 - f) (omega (arith, l))

  pub bits_are : (m o : ℕ) → m ≡ fold bit_or 0 (take (k + n - k) (drop k G)) → o ≡ get_or G (from + others) 0 → bit_or o m ≡ bits_from G from t f
  unfolding bits_from
  bits_are m o em eo =
      let c : k + n - k ≡ n = omega arith in
      ap₂ bit_or eo (em ∙ ap (λ (i : ℕ). fold bit_or 0 (take i (drop k G))) c ∙ bits_folded G k n within ∙ all_there) ∙ rw ed

  there : no_bits G k n ≡ no_bits G (from + d) (65 - f)
  there = go (dec_lt (from + d) (length G))
    where
      go : Dec (from + d < length G) → no_bits G k n ≡ no_bits G (from + d) (65 - f)
      go (yes l) = let e : k ≡ from + d = omega (arith, ek, l) in ap (λ (j : ℕ). no_bits G j n) e ∙ none_cut G (from + d) n (65 - f) (omega (arith, en, e))
      go (no l) = let z : n ≡ 0 = omega (arith, en, ek, l) in ap (no_bits G k) z ∙ no_none G k (from + d) ∙ none_cut G (from + d) 0 (65 - f) (omega (arith, l))

  pub none_filled : (vs : List ℕ) → vs ≡ replicate (length (mid_of k (k + n - k) G)) 0 → put_mid k (k + n - k) G vs ≡ none_from G from t f
  unfolding none_from
  none_filled vs e =
      let m : length (mid_of k (k + n - k) G) ≡ n = omega (arith, mid_len k (k + n) G within) in
      put_mid-paste k (k + n - k) G vs (replicate n 0) n (e ∙ ap (λ (i : ℕ). replicate i 0) m) (omega arith) (sym (length-replicate n 0))
      ∙ sym (none_pasted G k n within) ∙ there ∙ rw ed

pub both_none : (G H I : List ℕ) (t f : ℕ) → H ≡ none_from G words t f → I ≡ none_from H marks t f → I ≡ none_from (none_from G words t f) marks t f
both_none G H I t f e h = h ∙ ap (λ (X : List ℕ). none_from X marks t f) e

-- ---- all rows

pub filled_first : (T : Table) (G : List ℕ) → G ≡ filled T G 0
unfolding filled
filled_first T G = refl

pub filled_more : (T : Table) (G H I : List ℕ) (r : ℕ) → H ≡ filled T G r → I ≡ noted T H r → I ≡ filled T G (r + 1)
unfolding filled
filled_more T G H I r e f = f ∙ rw (add-one, e)

pub filled_all : (T : Table) (G H : List ℕ) (r n : ℕ) → n ≡ room references T → r ≤ n → n ≤ r → H ≡ filled T G r → H ≡ filled T G (room references T)
filled_all T G H r n e l g h = h ∙ ap (filled T G) (omega (arith, e, l, g))
