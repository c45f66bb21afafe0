-- Laws of the first LF. Assumes nothing.
use mathlib.Core.Path.{◌≡◌, refl, ap, sym, ◌∙◌}
use mathlib.Core.Bool.{Bool, true, false, ◌||◌}
use mathlib.Core.List.{List, [], ◌∷◌, ◌++◌}
use Prim.Native.Nat.{ℕ, min, zero, suc, ◌≤◌, ◌<◌}
use native.Mathlib.Omega.{arith}
use native.Mathlib.Decide.{dec_le}
use Rattle.std.specs.List.{position_or_len}
use lib.ListN.{length, take, get_or, length-take}
use lib.Seq.{take_all, get_or-take}
use Rattle.words.specs.Choice.{if_true◌then◌else◌}
use Rattle.words.specs.Lists.{any, place_of}
use Rattle.lines.specs.Line.{longest}
use Rattle.pieces.specs.Pieces.{ends_line, before_lf}

-- of at most k bytes
pub take_least : (k : ℕ) (xs : List ℕ) → take (min (length xs) k) xs ≡ take k xs
take_least k xs = go (dec_le (length xs) k)
  where
    go : Dec (length xs ≤ k) → take (min (length xs) k) xs ≡ take k xs
    go (yes l) = let e : min (length xs) k ≡ length xs = omega arith in rw e (take_all (length xs) xs (omega arith) ∙ sym (take_all k xs l))
    go (no l) = let e : min (length xs) k ≡ k = omega arith in rw e

-- as the library counts it
pub place_is : (f : ℕ → Bool) (s : List ℕ) → place_of f s ≡ position_or_len f s
place_is f [] = refl
place_is f (x ∷ s) = go (f x) refl (place_is f s)
  where
    go : (t : Bool) → f x ≡ t → place_of f s ≡ position_or_len f s → place_of f (x ∷ s) ≡ position_or_len f (x ∷ s)
    go true e ih = rw e
    go false e ih = rw e (ap suc ih ∙ omega arith)

-- ---- the first place that passes a test, of any list

module _ {A : Type 0} (f : A → Bool) where
  place_most : (s : List A) → place_of f s ≤ length s
  place_most [] = omega arith
  place_most (x ∷ s) = go (f x) (place_most s)
    where
      go : (t : Bool) → place_of f s ≤ length s → (if_true t then 0 else suc (place_of f s)) ≤ suc (length s)
      go true h = omega arith
      go false h = omega arith

  place_found : (s : List A) (d : A) → place_of f s < length s → f (get_or s (place_of f s) d) ≡ true
  place_found [] d h = absurd (omega arith)
  place_found (x ∷ s) d h = go (f x) refl h (place_found s d)
    where
      go : (t : Bool) → f x ≡ t → (if_true t then 0 else suc (place_of f s)) < suc (length s)
          → (place_of f s < length s → f (get_or s (place_of f s) d) ≡ true)
          → f (get_or (x ∷ s) (if_true t then 0 else suc (place_of f s)) d) ≡ true
      go true e h ih = e
      go false e h ih = ih (omega arith)

  place_none : (s : List A) → length s ≤ place_of f s → any f s ≡ false
  place_none [] h = refl
  place_none (x ∷ s) h = go (f x) h (place_none s)
    where
      go : (t : Bool) → suc (length s) ≤ (if_true t then 0 else suc (place_of f s)) → (length s ≤ place_of f s → any f s ≡ false) → (t || any f s) ≡ false
      go true h ih = absurd (omega arith)
      go false h ih = ih (omega arith)

  none_before : (k : ℕ) (s : List A) → any f (take (place_of f (take k s)) s) ≡ false
  none_before zero s = refl
  none_before (suc k) [] = refl
  none_before (suc k) (x ∷ s) = go (f x) refl (none_before k s)
    where
      go : (t : Bool) → f x ≡ t → any f (take (place_of f (take k s)) s) ≡ false
          → any f (take (if_true t then 0 else suc (place_of f (take k s))) (x ∷ s)) ≡ false
      go true e ih = refl
      go false e ih = rw e ih

  -- whatever stands after
  place_append : (k : ℕ) (s t : List A) → place_of f (take k s) < length s → place_of f (take k (s ++ t)) ≡ place_of f (take k s)
  place_append zero s t h = refl
  place_append (suc k) [] t h = absurd (omega arith)
  place_append (suc k) (x ∷ s) t h = go (f x) h (place_append k s t)
    where
      go : (b : Bool) → (if_true b then 0 else suc (place_of f (take k s))) < suc (length s)
          → (place_of f (take k s) < length s → place_of f (take k (s ++ t)) ≡ place_of f (take k s))
          → (if_true b then 0 else suc (place_of f (take k (s ++ t)))) ≡ (if_true b then 0 else suc (place_of f (take k s)))
      go true h ih = refl
      go false h ih = ap suc (ih (omega arith))

-- ---- where at most 224 bytes are counted

pub before_short : (s : List ℕ) → length s ≤ longest → place_of ends_line s ≡ before_lf s
unfolding before_lf
before_short s h = rw (take_all longest s h)

pub before_most : (s : List ℕ) → (before_lf s ≤ longest) × (before_lf s ≤ length s)
unfolding before_lf
before_most s =
    let m = place_most ends_line (take longest s) in
    let l = length-take longest s in
    (omega arith, omega arith)

-- no LF stands before the first
pub none_first : (s : List ℕ) → any ends_line (take (before_lf s) s) ≡ false
unfolding before_lf
none_first s = none_before ends_line longest s

-- where fewer than 224 were counted, an LF stands there
pub lf_there : (s : List ℕ) → before_lf s < longest → before_lf s < length s → ends_line (get_or s (before_lf s) 0) ≡ true
unfolding before_lf
lf_there s h l =
    let m = length-take longest s in
    let p : place_of ends_line (take longest s) < length (take longest s) = omega arith in
    rw (get_or-take longest s (place_of ends_line (take longest s)) 0 h) at (place_found ends_line (take longest s) 0 p)

-- where nothing stands after those counted, there is none
pub lf_nowhere : (s : List ℕ) → length s ≤ before_lf s → any ends_line s ≡ false
lf_nowhere s h = let m = before_most s in place_none ends_line s (rw (before_short s (omega arith)) h)

pub before_append : (s t : List ℕ) → before_lf s < length s → before_lf (s ++ t) ≡ before_lf s
unfolding before_lf
before_append s t h = place_append ends_line longest s t h
