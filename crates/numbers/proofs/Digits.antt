-- The digits of a number: the last one after those of the tenth part, and how many there are. Assumes nothing.
use mathlib.Core.Path.{◌≡◌, refl, ap, sym, ◌∙◌}
use mathlib.Core.List.{List, [], ◌∷◌, ◌++◌}
use Prim.Native.Nat.{ℕ, suc, zero, ◌+◌, ◌*◌, ◌/◌, ◌%◌, ◌^◌, ◌≤◌, ◌<◌}
use native.Mathlib.Omega.{arith}
use native.Mathlib.Decide.{dec_lt}
use native.Mathlib.Nat.{pow-succ'}
use Rattle.std.proofs.Math.Nat.{one-le-pow}
use lib.ListN.{length, length-append}
use borrow.Author.Tests.{lt-ltb, le-ltb}
use Rattle.numbers.specs.Decimal.{zero_digit, digits_in, digits}

-- one digit as bytes
abbrev pub digit : ℕ → List ℕ
digit d = (zero_digit + d) ∷ []

-- ---- one step of `digits_in`, by the test that picks its case

step_one : (steps n : ℕ) → n < 10 → digits_in steps n ≡ digit n
unfolding digits_in
step_one zero n h = refl
step_one (suc steps) n h = rw (digits_in, lt-ltb n 10 h)

step_more : (steps n : ℕ) → 10 ≤ n → digits_in (suc steps) n ≡ digits_in steps (n / 10) ++ digit (n % 10)
unfolding digits_in
step_more steps n h = rw (digits_in, le-ltb n 10 h)

-- the digits do not depend on the steps, where these are enough
same_steps : (k j n : ℕ) → n ≤ k → n ≤ j → digits_in k n ≡ digits_in j n
same_steps zero j n h g = step_one zero n (omega arith) ∙ sym (step_one j n (omega arith))
same_steps (suc k) zero n h g = step_one (suc k) n (omega arith) ∙ sym (step_one zero n (omega arith))
same_steps (suc k) (suc j) n h g = go (dec_lt n 10) (λ l. same_steps k j (n / 10) (omega arith) (omega arith))
  where
    go : Dec (n < 10) → (10 ≤ n → digits_in k (n / 10) ≡ digits_in j (n / 10)) → digits_in (suc k) n ≡ digits_in (suc j) n
    go (yes l) ih = step_one (suc k) n l ∙ sym (step_one (suc j) n l)
    go (no l) ih = step_more k n (omega arith) ∙ ap (λ s. s ++ digit (n % 10)) (ih (omega arith)) ∙ sym (step_more j n (omega arith))

-- ---- digits by the last one

pub digits_one : (d : ℕ) → d < 10 → digits d ≡ digit d
unfolding digits
digits_one d h = step_one d d h

pub digits_step : (n : ℕ) → 10 ≤ n → digits n ≡ digits (n / 10) ++ digit (n % 10)
unfolding digits
digits_step zero h = absurd (omega arith)
digits_step (suc k) h =
    step_more k (suc k) h ∙ ap (λ s. s ++ digit (suc k % 10)) (same_steps k (suc k / 10) (suc k / 10) (omega arith) (omega arith))

pub digits_more : (n d : ℕ) → 0 < n → d < 10 → digits (n * 10 + d) ≡ digits n ++ digit d
digits_more n d hn hd =
    let q : (n * 10 + d) / 10 ≡ n = omega arith in
    let r : (n * 10 + d) % 10 ≡ d = omega arith in
    digits_step (n * 10 + d) (omega arith) ∙ rw (q, r)

-- ---- how many digits there are

pub length_one : (d : ℕ) → d < 10 → length (digits d) ≡ 1
length_one d h = rw (digits_one d h)

pub length_step : (n : ℕ) → 10 ≤ n → length (digits n) ≡ length (digits (n / 10)) + 1
length_step n h = ap length (digits_step n h) ∙ length-append (digits (n / 10)) (digit (n % 10))

-- below ten to the power of k there are k at most
pub length_below : (k n : ℕ) → n < 10 ^ suc k → length (digits n) ≤ suc k
length_below zero n h = let e = length_one n h in omega arith
length_below (suc k) n h = go (dec_lt n 10) (length_below k (n / 10))
  where
    go : Dec (n < 10) → (n / 10 < 10 ^ suc k → length (digits (n / 10)) ≤ suc k) → length (digits n) ≤ suc (suc k)
    go (yes l) ih = let e = length_one n l in omega arith
    go (no l) ih =
        let p : 10 ^ suc (suc k) ≡ 10 * 10 ^ suc k = pow-succ' 10 (suc k) in
        let q : n / 10 < 10 ^ suc k = omega arith in
        let r = ih q in
        let e : length (digits n) ≡ length (digits (n / 10)) + 1 = length_step n (omega arith) in
        omega arith

pub length_some : (n : ℕ) → 1 ≤ length (digits n)
length_some n = go (dec_lt n 10)
  where
    go : Dec (n < 10) → 1 ≤ length (digits n)
    go (yes l) = let e = length_one n l in omega arith
    go (no l) = let e : length (digits n) ≡ length (digits (n / 10)) + 1 = length_step n (omega arith) in omega arith

-- and from there on there are more than k
pub length_above : (k n : ℕ) → 10 ^ k ≤ n → suc k ≤ length (digits n)
length_above zero n h = length_some n
length_above (suc k) n h =
    let p : 10 ^ suc k ≡ 10 * 10 ^ k = pow-succ' 10 k in
    let o : 1 ≤ 10 ^ k = one-le-pow k 10 (omega arith) in
    let r = length_above k (n / 10) (omega arith) in
    let e : length (digits n) ≡ length (digits (n / 10)) + 1 = length_step n (omega arith) in
    omega arith
