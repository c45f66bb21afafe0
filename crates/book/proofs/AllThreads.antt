-- A test, and a sum, over all threads, one thread after another. Assumes nothing.
use Rattle.std.proofs.Common.{◌≡◌, ℕ, zero, suc, ◌+◌, ◌-◌, ◌<◌, ◌≤◌, Bool, true, false, ◌||◌, ◌⊎◌, List, [], ◌∷◌, sym, refl, ◌∙◌, ap₂, inl, inr, eq-or-lt_of_le, arith}
use mathlib.Core.Bool.{false≢true}
use Rattle.words.specs.Lists.{any, sum}
use Rattle.lines.specs.Line.{threads}
use Rattle.history.specs.Thread.{all_threads}

-- n threads from t on
abbrev pub from : ℕ → ℕ → List ℕ
from t zero = []
from t (suc n) = t ∷ from (suc t) n

-- those that a loop at t has still to look at
unfoldable pub rest : ℕ → List ℕ
rest t = from t (suc threads - t)

pub rest_all : rest 1 ≡ all_threads
unfolding rest
rest_all = refl

pub rest_none : (t : ℕ) → threads < t → rest t ≡ []
unfolding rest
rest_none t h = let e : suc threads - t ≡ 0 = omega arith in rw e

pub rest_more : (t : ℕ) → t ≤ threads → rest t ≡ t ∷ rest (t + 1)
unfolding rest
rest_more t h =
    let e : suc threads - t ≡ suc (threads - t) = omega arith in
    let f : suc threads - (t + 1) ≡ threads - t = omega arith in
    let g : t + 1 ≡ suc t = omega arith in
    rw (e, f, g)

-- ---- a test
pub any_first : (p : ℕ → Bool) (r : Bool) → (r || any p all_threads) ≡ (r || any p (rest 1))
any_first p r = rw rest_all

-- by each thread
pub or_left : (x y : Bool) → (x || y) ≡ false → x ≡ false
or_left false y h = refl
or_left true y h = h

pub or_right : (x y : Bool) → (x || y) ≡ false → y ≡ false
or_right false y h = h
or_right true y h = absurd (false≢true (sym h))

same_from : (p q : ℕ → Bool) (t n : ℕ) → ((s : ℕ) → t ≤ s → s < t + n → p s ≡ q s) → any p (from t n) ≡ any q (from t n)
same_from p q t zero h = refl
same_from p q t (suc n) h = ap₂ (λ x y. x || y) (h t (omega arith) (omega arith)) (same_from p q (suc t) n (λ s a b. h s (omega arith) (omega arith)))

pub any_same : (p q : ℕ → Bool) → ((t : ℕ) → 1 ≤ t → t ≤ threads → p t ≡ q t) → any p all_threads ≡ any q all_threads
any_same p q h = same_from p q 1 threads (λ s a b. h s a (omega arith))

none_from : (t n : ℕ) → any (λ (s : ℕ). false) (from t n) ≡ false
none_from t zero = refl
none_from t (suc n) = none_from (suc t) n

pub any_none : (p : ℕ → Bool) → ((t : ℕ) → 1 ≤ t → t ≤ threads → p t ≡ false) → any p all_threads ≡ false
any_none p h = any_same p (λ (s : ℕ). false) h ∙ none_from 1 threads

each_from : (p : ℕ → Bool) (t n s : ℕ) → any p (from t n) ≡ false → t ≤ s → s < t + n → p s ≡ false
each_from p t zero s h a b = absurd (omega arith)
each_from p t (suc n) s h a b = go (eq-or-lt_of_le a) (λ l. each_from p (suc t) n s (or_right (p t) (any p (from (suc t) n)) h) l (omega arith))
  where
    go : (t ≡ s) ⊎ (t < s) → (t < s → p s ≡ false) → p s ≡ false
    go (inl e) ih = rw (← e) (or_left (p t) (any p (from (suc t) n)) h)
    go (inr l) ih = ih l

pub any_each : (p : ℕ → Bool) (t : ℕ) → any p all_threads ≡ false → 1 ≤ t → t ≤ threads → p t ≡ false
any_each p t h a b = each_from p 1 threads t h a (omega arith)

-- ---- a sum
sums_from : (f g : ℕ → ℕ) (t n : ℕ) → ((s : ℕ) → t ≤ s → s < t + n → f s ≡ g s) → sum f (from t n) ≡ sum g (from t n)
sums_from f g t zero h = refl
sums_from f g t (suc n) h = ap₂ (λ x y. x + y) (h t (omega arith) (omega arith)) (sums_from f g (suc t) n (λ s a b. h s (omega arith) (omega arith)))

pub sum_same : (f g : ℕ → ℕ) → ((t : ℕ) → 1 ≤ t → t ≤ threads → f t ≡ g t) → sum f all_threads ≡ sum g all_threads
sum_same f g h = sums_from f g 1 threads (λ s a b. h s a (omega arith))
