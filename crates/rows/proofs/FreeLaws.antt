-- The lowest free row that does not stand below a word of marks, and where it is the lowest of all. Assumes nothing.
use mathlib.Core.Path.{◌≡◌, sym, ap, ◌∙◌}
use mathlib.Core.Bool.{Bool, false, ◌&&◌}
use mathlib.Core.List.{List}
use Prim.Native.Nat.{ℕ, ◌+◌, ◌*◌, ◌≤◌, ◌<◌}
use native.Mathlib.Decide.{dec_lt}
use native.Mathlib.Omega.{arith}
use borrow.Author.Tests.{le-leb, lt-leb}
use Rattle.rows.specs.Scan.{lowest}
use Rattle.rows.specs.Marks.{word, in_word, free}
use Rattle.rows.specs.Table.{Layout, Table, table, most, room, free_row}
use Rattle.rows.specs.Frees.{free_at, free_from}
use Rattle.rows.proofs.ScanLaws.{lowest_ext, lowest_none}

below_at : (ms : List ℕ) (w r : ℕ) → r < w * word → free_at ms w r ≡ false
unfolding free_at
below_at ms w r l = ap (λ (b : Bool). b && free ms r) (lt-leb (w * word) r l)

above_at : (ms : List ℕ) (w r : ℕ) → w * word ≤ r → free ms r ≡ free_at ms w r
unfolding free_at
above_at ms w r l = sym (ap (λ (b : Bool). b && free ms r) (le-leb (w * word) r l))

-- ---- word after word

pub none_below : (ms : List ℕ) (w : ℕ) → w * word ≡ lowest (free_at ms w) (w * word)
none_below ms w = lowest_none (free_at ms w) (w * word) (λ k l. below_at ms w k l)

pub free_later : (ms : List ℕ) (from w i : ℕ) → from ≤ w → i ≡ lowest (in_word (free ms) w) word → i ≡ lowest (in_word (free_at ms from) w) word
unfolding in_word
free_later ms from w i l e = e ∙ lowest_ext (λ k. free ms (w * word + k)) (λ k. free_at ms from (w * word + k)) word (λ k u. above_at ms from (w * word + k) (omega arith))

-- ---- of the room

module _ {A : Type 0} (L : Layout A) where
  -- below word 0 there is no row
  pub lowest_of_all : (rs ms : List ℕ) (n r : ℕ) → n ≡ room L (table rs ms) → r ≡ lowest (free_at ms 0) n → r ≡ free_row L (table rs ms)
  unfolding free_row
  lowest_of_all rs ms n r a b = b ∙ lowest_ext (free_at ms 0) (free ms) n (λ k l. sym (above_at ms 0 k (omega arith))) ∙ ap (lowest (free ms)) a

  pub lowest_from : (rs ms : List ℕ) (n r w : ℕ) → n ≡ room L (table rs ms) → r ≡ lowest (free_at ms w) n → r ≡ free_from L (table rs ms) w
  unfolding free_from
  lowest_from rs ms n r w a b = cc

  -- no row stands so high
  pub none_from : (rs ms : List ℕ) (n w : ℕ) → n ≡ room L (table rs ms) → most ≤ w → n ≡ free_from L (table rs ms) w
  unfolding free_from room
  none_from rs ms n w a l = a ∙ lowest_none (free_at ms w) _ (λ k u. below_at ms w k (omega (arith, u, l)))

  -- where no free row stands below the word
  pub lowest_is_from : (T : Table) (w : ℕ) → ((r : ℕ) → r < room L T → r < w * word → free T.marks r ≡ false) → free_from L T w ≡ free_row L T
  unfolding free_from free_row
  lowest_is_from T w h = lowest_ext (free_at T.marks w) (free T.marks) (room L T) (λ k l. at k l (dec_lt k (w * word)))
    where
      at : (k : ℕ) → k < room L T → Dec (k < w * word) → free_at T.marks w k ≡ free T.marks k
      at k l (yes u) = below_at T.marks w k u ∙ sym (h k l u)
      at k l (no u) = sym (above_at T.marks w k (omega arith))
