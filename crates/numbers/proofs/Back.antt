-- What was written is read back, and what was read was written so; over numbers of any size. Assumes nothing.
use mathlib.Core.Path.{◌≡◌, refl, ap, sym, ◌∙◌}
use mathlib.Core.Bool.{Bool, true, false}
use mathlib.Core.List.{List, [], ◌∷◌, ◌++◌, append-nil}
use Rattle.std.specs.Prelude.{Option, None, Some}
use Prim.Native.Nat.{ℕ, suc, zero, ◌+◌, ◌-◌, ◌*◌, ◌/◌, ◌%◌, ◌≤◌, ◌<◌}
use native.Mathlib.Omega.{arith}
use native.Mathlib.Decide.{dec_lt}
use lib.Dec.{eqb}
use lib.IntN.{ℤ, pos, negsuc}
use lib.Seq.{append_snoc}
use borrow.Author.Tests.{le-leb, ne_eqb, eqb-true, eqb-false}
use Rattle.words.specs.Choice.{if_true◌then◌else◌}
use Rattle.numbers.specs.Decimal.{zero_digit, minus_sign, digits, shown, is_digit, read_on, nothing_more, decimal, not_negative, negative, number}
use Rattle.numbers.proofs.Digits.{digit, digits_one, digits_step, digits_more}
use Rattle.numbers.proofs.Run.{digit_range, read_on_digit, read_on_other}

none_is_not : {n : ℕ} → None ≡ Some n → ⊥
none_is_not {n} e = let z : ◌≡◌ {A = ℕ} 0 1 = cc in omega arith

pub digit_is : (d : ℕ) → d < 10 → is_digit (zero_digit + d) ≡ true
digit_is d h = rw (le-leb zero_digit (zero_digit + d) (omega arith)) (le-leb (zero_digit + d) (zero_digit + 9) (omega arith))

nothing_read : (n : ℕ) → read_on n [] ≡ Some n
unfolding read_on
nothing_read n = refl

-- ---- digits

-- what digits that read as a number begin with
begins : (n b : ℕ) (s : List ℕ) {m : ℕ} → read_on n (b ∷ s) ≡ Some m → is_digit b ≡ true
begins n b s e = go (is_digit b) refl
  where
    go : (t : Bool) → is_digit b ≡ t → is_digit b ≡ true
    go true h = h
    go false h = absurd (none_is_not (sym (read_on_other n b s h) ∙ e))

-- digits read on, and one digit more
one_more : (s : List ℕ) (n m d : ℕ) → read_on n s ≡ Some m → d < 10 → read_on n (s ++ digit d) ≡ Some (m * 10 + d)
unfolding read_on
one_more [] n m d e h =
    let i : n ≡ m = cc in
    let k : zero_digit + d - zero_digit ≡ d = omega arith in
    rw (digit_is d h, k, i)
one_more (b ∷ s) n m d e h =
    let t : is_digit b ≡ true = begins n b s e in
    rw t (one_more s (n * 10 + (b - zero_digit)) m d (sym (read_on_digit n b s t) ∙ e) h)

-- the digits of a number that is not 0: a first one that is not 0, and all read as the number
record Begun (n : ℕ) : Type 0 where
  head : ℕ
  tail : List ℕ
  is : digits n ≡ head ∷ tail
  low : zero_digit < head
  reads : read_on 0 (digits n) ≡ Some n

begun : (k n : ℕ) → n ≤ k → 0 < n → Begun n
begun zero n h p = absurd (omega arith)
begun (suc k) n h p = go (dec_lt n 10) (begun k (n / 10) (omega arith))
  where
    go : Dec (n < 10) → (0 < n / 10 → Begun (n / 10)) → Begun n
    go (yes l) ih =
        let z : 0 * 10 + n ≡ n = omega arith in
        record {
          head = zero_digit + n;
          tail = [];
          is = digits_one n l;
          low = omega arith;
          reads = rw (digits_one n l) (one_more [] 0 0 n (nothing_read 0) l ∙ ap Some z);
        }
    go (no l) ih =
        let r = ih (omega arith) in
        let e : n / 10 * 10 + n % 10 ≡ n = omega arith in
        record {
          head = r.head;
          tail = r.tail ++ digit (n % 10);
          is = digits_step n (omega arith) ∙ ap (λ s. s ++ digit (n % 10)) r.is;
          low = r.low;
          reads = rw (digits_step n (omega arith)) (one_more (digits (n / 10)) 0 (n / 10) (n % 10) r.reads (omega arith) ∙ ap Some e);
        }

decimal_digits : (n : ℕ) → decimal (digits n) ≡ Some n
decimal_digits zero = rw (digits_one 0 (omega arith))
decimal_digits (suc k) =
    let r = begun (suc k) (suc k) (omega arith) (omega arith) in
    rw r.is (rw (ne_eqb r.head zero_digit (λ e. omega arith)) (rw (← r.is) r.reads))

read_on_back : (s : List ℕ) (n m : ℕ) → 0 < n → read_on n s ≡ Some m → digits m ≡ digits n ++ s
read_on_back [] n m p e = let i : m ≡ n = cc (nothing_read n) in rw (i, append-nil)
read_on_back (b ∷ s) n m p e =
    let t : is_digit b ≡ true = begins n b s e in
    let w = digit_range b t in
    let k : zero_digit + (b - zero_digit) ≡ b = omega arith in
    read_on_back s (n * 10 + (b - zero_digit)) m (omega arith) (sym (read_on_digit n b s t) ∙ e)
    ∙ ap (λ x. x ++ s) (digits_more n (b - zero_digit) p (omega arith)) ∙ rw (k, append_snoc)

digits_decimal : (s : List ℕ) (n : ℕ) → decimal s ≡ Some n → digits n ≡ s
digits_decimal [] n e = absurd (none_is_not e)
digits_decimal (b ∷ s) n e = go (eqb b zero_digit) refl
  where
    lone : (x : List ℕ) → b ≡ zero_digit → nothing_more x ≡ Some n → digits n ≡ b ∷ x
    lone [] h a = let i : n ≡ 0 = cc in rw (i, h) (digits_one 0 (omega arith))
    lone (y ∷ x) h a = absurd (none_is_not a)

    go : (t : Bool) → eqb b zero_digit ≡ t → digits n ≡ b ∷ s
    go true h = lone s (eqb-true b zero_digit h) (rw h at e)
    go false h =
        let a : read_on 0 (b ∷ s) ≡ Some n = rw h at e in
        let t : is_digit b ≡ true = begins 0 b s a in
        let w = digit_range b t in
        let v = eqb-false b zero_digit h in
        let z : 0 * 10 + (b - zero_digit) ≡ b - zero_digit = omega arith in
        let k : zero_digit + (b - zero_digit) ≡ b = omega arith in
        let r : read_on (b - zero_digit) s ≡ Some n = rw z at (sym (read_on_digit 0 b s t) ∙ a) in
        read_on_back s (b - zero_digit) n (omega arith) r ∙ rw (digits_one (b - zero_digit) (omega arith), k)

-- ---- numbers

without_minus : (s : List ℕ) (b : ℕ) (t : List ℕ) → s ≡ b ∷ t → zero_digit ≤ b → number s ≡ not_negative (decimal s)
without_minus [] b t e h = refl
without_minus (x ∷ s) b t e h = let i : x ≡ b = cc in rw (ne_eqb x minus_sign (λ k. omega arith))

pub written_is_read : (z : ℤ) → number (shown z) ≡ Some z
written_is_read (pos zero) = rw (digits_one 0 (omega arith))
written_is_read (pos (suc k)) =
    let r = begun (suc k) (suc k) (omega arith) (omega arith) in
    without_minus (digits (suc k)) r.head r.tail r.is (omega arith) ∙ ap not_negative (decimal_digits (suc k))
written_is_read (negsuc k) = ap negative (decimal_digits (suc k))

pub read_was_written : (s : List ℕ) (z : ℤ) → number s ≡ Some z → shown z ≡ s
read_was_written [] z e = let x : ◌≡◌ {A = ℕ} 0 1 = cc in absurd (omega arith)
read_was_written (b ∷ s) z e = go (eqb b minus_sign) refl e
  where
    after_minus : (o : Option ℕ) → decimal s ≡ o → b ≡ minus_sign → negative o ≡ Some z → shown z ≡ b ∷ s
    after_minus None d h a = let x : ◌≡◌ {A = ℕ} 0 1 = cc in absurd (omega arith)
    after_minus (Some zero) d h a = let x : ◌≡◌ {A = ℕ} 0 1 = cc in absurd (omega arith)
    after_minus (Some (suc n)) d h a =
        let i : z ≡ negsuc n = cc in
        rw (i, h, digits_decimal s (suc n) d)

    plain : (o : Option ℕ) → decimal (b ∷ s) ≡ o → not_negative o ≡ Some z → shown z ≡ b ∷ s
    plain None d a = let x : ◌≡◌ {A = ℕ} 0 1 = cc in absurd (omega arith)
    plain (Some n) d a =
        let i : z ≡ pos n = cc in
        rw i (digits_decimal (b ∷ s) n d)

    go : (t : Bool) → eqb b minus_sign ≡ t → (if_true t then negative (decimal s) else not_negative (decimal (b ∷ s))) ≡ Some z → shown z ≡ b ∷ s
    go true h a = after_minus (decimal s) refl (eqb-true b minus_sign h) a
    go false h a = plain (decimal (b ∷ s)) refl a
