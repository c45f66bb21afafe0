-- How long a piece is. Assumes nothing.
use mathlib.Core.Path.{◌≡◌, refl}
use mathlib.Core.Bool.{Bool, true, false}
use mathlib.Core.List.{List, ◌++◌}
use Prim.Native.Nat.{ℕ, suc, ◌≤◌, ◌<◌}
use native.Mathlib.Omega.{arith}
use lib.Dec.{ltb}
use lib.ListN.{length, length-append}
use borrow.Author.Tests.{lt-ltb, le-ltb, ltb-true, ltb-false}
use Rattle.words.specs.Lists.{any}
use Rattle.lines.specs.Line.{longest}
use Rattle.pieces.specs.Pieces.{ends_line, before_lf, piece_length}
use Rattle.pieces.proofs.FirstLf.{before_most, lf_nowhere, before_append}

module _ (s : List ℕ) where
  pub size_some : before_lf s < length s → suc (before_lf s) ≡ piece_length s
  unfolding piece_length
  size_some h = rw (lt-ltb (before_lf s) (length s) h)

  pub size_none : length s ≤ before_lf s → 0 ≡ piece_length s
  unfolding piece_length
  size_none h = rw (le-ltb (before_lf s) (length s) h)

  -- one of the two
  sized : {P : Type 0} → (before_lf s < length s → suc (before_lf s) ≡ piece_length s → P) → (length s ≤ before_lf s → 0 ≡ piece_length s → P) → P
  sized {P} some none = go (ltb (before_lf s) (length s)) refl
    where
      go : (t : Bool) → ltb (before_lf s) (length s) ≡ t → P
      go true p = let l = ltb-true (before_lf s) (length s) p in some l (size_some l)
      go false p = let l = ltb-false (before_lf s) (length s) p in none l (size_none l)

  pub piece_some : (n : ℕ) → piece_length s ≡ suc n → (before_lf s ≡ n) × (n < length s)
  piece_some n h = sized (λ l e. (omega arith, omega arith)) (λ l e. absurd (omega arith))

  all_counted : piece_length s ≡ 0 → length s ≤ before_lf s
  all_counted h = sized (λ l e. absurd (omega arith)) (λ l e. l)

  pub piece_within : (piece_length s ≤ length s) × (piece_length s ≤ suc longest)
  piece_within = let m = before_most s in sized (λ l e. (omega arith, omega arith)) (λ l e. (omega arith, omega arith))

  -- more is read only where at most 224 bytes are left and none is an LF
  pub piece_none : piece_length s ≡ 0 → (length s ≤ longest) × (any ends_line s ≡ false)
  piece_none h = let l = all_counted h in let m = before_most s in (omega arith, lf_nowhere s l)

-- a piece stays the piece, whatever is read after it
pub piece_stays : (s t : List ℕ) (n : ℕ) → piece_length s ≡ suc n → piece_length (s ++ t) ≡ suc n
piece_stays s t n h =
    let p = piece_some s n h in
    let b = before_append s t (omega arith) in
    let l = length-append s t in
    let k = size_some (s ++ t) (omega arith) in
    omega arith
