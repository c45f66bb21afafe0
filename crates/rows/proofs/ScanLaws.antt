-- Laws of `how_many` and `lowest`, for any test. Assumes nothing.
use mathlib.Core.Path.{◌≡◌, refl, sym, ap, ◌∙◌}
use mathlib.Core.Bool.{Bool, true, false, not}
use Prim.Native.Nat.{ℕ, zero, suc, ◌+◌, ◌-◌, ◌≤◌, ◌<◌, min, zero-le, suc-le-suc}
use native.Mathlib.Nat.{add-suc, add-zero, zero-lt-suc, le_of_suc-le-suc, not-suc-le-zero}
use native.Mathlib.Numerals.{add-one}
use native.Mathlib.Decide.{dec_lt}
use native.Mathlib.Omega.{arith}
use borrow.Author.Count.{below_more}
use Rattle.words.specs.Choice.{if_true◌then◌else◌, one}
use Rattle.rows.specs.Scan.{how_many, lowest}

-- one more number at the top
pub how_many_suc : (p : ℕ → Bool) (n : ℕ) → how_many p (suc n) ≡ how_many p n + one (p n)
unfolding how_many
how_many_suc p zero = omega arith
how_many_suc p (suc n) = omega (arith, how_many_suc (λ k. p (suc k)) n)

pub how_many_ext : (p q : ℕ → Bool) (n : ℕ) → ((k : ℕ) → k < n → p k ≡ q k) → how_many p n ≡ how_many q n
unfolding how_many
how_many_ext p q zero h = refl
how_many_ext p q (suc n) h =
    let a : one (p zero) ≡ one (q zero) = ap one (h zero (zero-lt-suc n)) in
    omega (arith, how_many_ext (λ k. p (suc k)) (λ k. q (suc k)) n (λ k l. h (suc k) (suc-le-suc l)))

pub how_many_add : (p : ℕ → Bool) (m n : ℕ) → how_many p (m + n) ≡ how_many p m + how_many (λ k. p (m + k)) n
unfolding how_many
how_many_add p m zero = ap (how_many p) (add-zero m) ∙ sym (add-zero (how_many p m))
how_many_add p m (suc n) =
    ap (how_many p) (add-suc m n) ∙ how_many_suc p (m + n)
    ∙ (omega (arith, how_many_add p m n, how_many_suc (λ k. p (m + k)) n))

one_le : (b : Bool) → one b ≤ 1
one_le true = omega arith
one_le false = omega arith

pub how_many_le : (p : ℕ → Bool) (n : ℕ) → how_many p n ≤ n
unfolding how_many
how_many_le p zero = zero-le
how_many_le p (suc n) = omega (arith, how_many_le (λ k. p (suc k)) n, one_le (p zero))

-- where none passes, each fails, and the other way round
pub each_fails : (p : ℕ → Bool) (n k : ℕ) → how_many p n ≡ 0 → k < n → p k ≡ false
unfolding how_many
each_fails p zero k e l = absurd (not-suc-le-zero l)
each_fails p (suc n) zero e l = go (p zero) e
  where
    go : (b : Bool) → one b + how_many (λ k. p (suc k)) n ≡ 0 → b ≡ false
    go true e = absurd (omega arith)
    go false e = refl
each_fails p (suc n) (suc k) e l = each_fails (λ k. p (suc k)) n k (omega arith) (le_of_suc-le-suc l)

pub none_passes : (p : ℕ → Bool) (n : ℕ) → ((k : ℕ) → k < n → p k ≡ false) → how_many p n ≡ 0
unfolding how_many
none_passes p zero h = refl
none_passes p (suc n) h =
    let a : one (p zero) ≡ 0 = ap one (h zero (zero-lt-suc n)) in
    omega (arith, none_passes (λ k. p (suc k)) n (λ k l. h (suc k) (suc-le-suc l)))

-- ---- the lowest
pub lowest_le : (p : ℕ → Bool) (n : ℕ) → lowest p n ≤ n
unfolding lowest
lowest_le p zero = zero-le
lowest_le p (suc n) = go (lowest_le (λ k. p (suc k)) n) (p zero)
  where
    go : lowest (λ k. p (suc k)) n ≤ n → (b : Bool) → (if_true b then zero else suc (lowest (λ k. p (suc k)) n)) ≤ suc n
    go ih true = zero-le
    go ih false = suc-le-suc ih

-- what is the lowest is so by what it says
pub lowest_is : (p : ℕ → Bool) (n r : ℕ) → r ≤ n → ((k : ℕ) → k < r → p k ≡ false) → (r < n → p r ≡ true) → lowest p n ≡ r
unfolding lowest
lowest_is p zero zero h b t = refl
lowest_is p zero (suc r) h b t = absurd (not-suc-le-zero h)
lowest_is p (suc n) zero h b t = ap (λ (x : Bool). if_true x then zero else suc (lowest (λ k. p (suc k)) n)) (t (zero-lt-suc n))
lowest_is p (suc n) (suc r) h b t =
    ap (λ (x : Bool). if_true x then zero else suc (lowest (λ k. p (suc k)) n)) (b zero (zero-lt-suc r))
    ∙ ap suc (lowest_is (λ k. p (suc k)) n r (le_of_suc-le-suc h) (λ k l. b (suc k) (suc-le-suc l)) (λ l. t (suc-le-suc l)))

pub lowest_below : (p : ℕ → Bool) (n k : ℕ) → k < lowest p n → p k ≡ false
unfolding lowest
lowest_below p zero k h = absurd (not-suc-le-zero h)
lowest_below p (suc n) k h = go (λ k l. lowest_below (λ k. p (suc k)) n k l) k (p zero) refl h
  where
    go : ((k : ℕ) → k < lowest (λ k. p (suc k)) n → p (suc k) ≡ false) → (k : ℕ) (b : Bool) → p zero ≡ b
        → k < (if_true b then zero else suc (lowest (λ k. p (suc k)) n)) → p k ≡ false
    go ih k true e l = absurd (not-suc-le-zero l)
    go ih zero false e l = e
    go ih (suc k) false e l = ih k (le_of_suc-le-suc l)

pub lowest_at : (p : ℕ → Bool) (n : ℕ) → lowest p n < n → p (lowest p n) ≡ true
unfolding lowest
lowest_at p zero h = absurd (not-suc-le-zero h)
lowest_at p (suc n) h = go (λ l. lowest_at (λ k. p (suc k)) n l) (p zero) refl h
  where
    go : (lowest (λ k. p (suc k)) n < n → p (suc (lowest (λ k. p (suc k)) n)) ≡ true) → (b : Bool) → p zero ≡ b
        → (if_true b then zero else suc (lowest (λ k. p (suc k)) n)) < suc n → p (if_true b then zero else suc (lowest (λ k. p (suc k)) n)) ≡ true
    go ih true e l = e
    go ih false e l = ih (le_of_suc-le-suc l)

pub lowest_ext : (p q : ℕ → Bool) (n : ℕ) → ((k : ℕ) → k < n → p k ≡ q k) → lowest p n ≡ lowest q n
unfolding lowest
lowest_ext p q zero h = refl
lowest_ext p q (suc n) h =
    ap (λ (b : Bool). if_true b then zero else suc (lowest (λ k. p (suc k)) n)) (h zero (zero-lt-suc n))
    ∙ ap (λ (m : ℕ). if_true q zero then zero else suc m) (lowest_ext (λ k. p (suc k)) (λ k. q (suc k)) n (λ k l. h (suc k) (suc-le-suc l)))

pub lowest_none : (p : ℕ → Bool) (n : ℕ) → ((k : ℕ) → k < n → p k ≡ false) → n ≡ lowest p n
lowest_none p n h = sym (lowest_is p n n (omega arith) h (λ l. absurd (omega arith)))

-- with fewer than n passing one fails, and the other way round
pub one_fails : (p : ℕ → Bool) (n : ℕ) → how_many p n < n → lowest (λ k. not (p k)) n < n
unfolding lowest how_many
one_fails p zero h = h
one_fails p (suc n) h = go (λ l. one_fails (λ k. p (suc k)) n l) (p zero) h
  where
    go : (how_many (λ k. p (suc k)) n < n → lowest (λ k. not (p (suc k))) n < n) → (b : Bool) → one b + how_many (λ k. p (suc k)) n < suc n
        → (if_true not b then zero else suc (lowest (λ k. not (p (suc k))) n)) < suc n
    go ih true l = suc-le-suc (ih (omega arith))
    go ih false l = zero-lt-suc n

pub not_all_pass : (p : ℕ → Bool) (n : ℕ) → lowest (λ k. not (p k)) n < n → how_many p n < n
unfolding lowest how_many
not_all_pass p zero h = h
not_all_pass p (suc n) h = go (λ l. not_all_pass (λ k. p (suc k)) n l) (p zero) h
  where
    go : (lowest (λ k. not (p (suc k))) n < n → how_many (λ k. p (suc k)) n < n) → (b : Bool)
        → (if_true not b then zero else suc (lowest (λ k. not (p (suc k))) n)) < suc n → one b + how_many (λ k. p (suc k)) n < suc n
    go ih true l = omega (arith, ih (le_of_suc-le-suc l))
    go ih false l = omega (arith, how_many_le (λ k. p (suc k)) n)

-- ---- a search that goes up: nothing below i passes
pub lowest_first : (p : ℕ → Bool) → 0 ≡ lowest p 0
unfolding lowest
lowest_first p = refl

pub lowest_next : (p : ℕ → Bool) (i : ℕ) (b : Bool) → i ≡ lowest p i → b ≡ p i → b ≡ false → i + 1 ≡ lowest p (i + 1)
lowest_next p i b a e f =
    lowest_none p (i + 1) (below_more (λ k. p k ≡ false) i (λ k l. lowest_below p i k (omega arith)) (sym e ∙ f))

pub lowest_hit : (p : ℕ → Bool) (i m : ℕ) (b : Bool) → i ≡ lowest p i → i < m → b ≡ p i → b ≡ true → i ≡ lowest p m
lowest_hit p i m b a l e f = sym (lowest_is p m i (omega arith) (λ k h. lowest_below p i k (omega arith)) (λ _. sym e ∙ f))

pub lowest_end : (p : ℕ → Bool) (i m : ℕ) → i ≡ lowest p i → i ≤ m → m ≤ i → m ≡ lowest p m
lowest_end p i m a l g = lowest_none p m (λ k h. lowest_below p i k (omega arith))

-- the lowest below m, where there is one, is the lowest below any n or above it
pub lowest_cut : (p : ℕ → Bool) (x m n : ℕ) → x ≡ lowest p m → x < m → min x n ≡ lowest p n
lowest_cut p x m n e l =
    sym (lowest_is p n (min x n) (omega arith) (λ k h. lowest_below p m k (omega arith)) (λ h. at (omega arith)))
  where
    at : min x n ≡ x → p (min x n) ≡ true
    at s = ap p (s ∙ e) ∙ lowest_at p m (omega arith)

-- nothing below a passes: on from a
pub lowest_add : (p : ℕ → Bool) (a i n : ℕ) → a ≡ lowest p a → i ≡ lowest (λ k. p (a + k)) n → a + i ≡ lowest p (a + n)
lowest_add p a i n e f =
    sym (lowest_is p (a + n) (a + i) (omega (arith, lowest_le (λ k. p (a + k)) n)) (λ k l. go k l (dec_lt k a)) (λ l. at (omega arith)))
  where
    go : (k : ℕ) → k < a + i → Dec (k < a) → p k ≡ false
    go k l (yes m) = lowest_below p a k (omega arith)
    go k l (no m) =
        let s : k ≡ a + (k - a) = omega arith in
        ap p s ∙ lowest_below (λ k. p (a + k)) n (k - a) (omega arith)

    at : i < n → p (a + i) ≡ true
    at l = ap (λ (j : ℕ). p (a + j)) f ∙ lowest_at (λ k. p (a + k)) n (omega arith)

-- ---- a count that goes up
pub how_many_first : (p : ℕ → Bool) → 0 ≡ how_many p 0
unfolding how_many
how_many_first p = refl

pub how_many_next : (p : ℕ → Bool) (s i k : ℕ) (b : Bool) → s ≡ how_many p i → b ≡ p i → k ≡ one b → s + k ≡ how_many p (i + 1)
how_many_next p s i k b e f g = rw (add-one i, how_many_suc p i) (cc)
