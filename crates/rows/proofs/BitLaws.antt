-- Laws of a word's bits: one by one, their count, the lowest that is clear. Assumes nothing.
use mathlib.Core.Path.{◌≡◌, refl, sym, ap, ap₂, ◌∙◌}
use mathlib.Core.Bool.{Bool, false, not, ◌&&◌, ◌||◌}
use Prim.Native.Nat.{ℕ, zero, suc, ◌+◌, ◌-◌, ◌/◌, ◌%◌, ◌^◌, ◌<◌, max, min}
use native.Mathlib.Nat.{pow-suc, div-one, mod-lt}
use native.Mathlib.Numerals.{add-one, one-add}
use native.Mathlib.Omega.{arith}
use lib.Dec.{eqb, eqb-suc-suc, eqb-zero-suc, eqb-suc-zero}
use lib.Arith.{lt-one}
use lib.Pow.{shr-shr, field, mod-mod-pow, pow_pos}
use lib.Bits.{bit_and, bit_or, and_step, or_step, and_shr, or_shr}
use lib.Count.{ones, ones_in, ones_step, count_trailing_zeros, under}
use Rattle.words.specs.Choice.{if_true◌then◌else◌, one}
use Rattle.rows.specs.Scan.{how_many, lowest}
use Rattle.rows.specs.Marks.{bit}
use Rattle.rows.proofs.ScanLaws.{how_many_ext, lowest_ext}

-- a digit is 0 or 1
digit : (n : ℕ) → n < 2 → one (eqb n 1) ≡ n
digit zero h = refl
digit (suc zero) h = refl
digit (suc (suc n)) h = absurd (omega arith)

two : (n : ℕ) → n % 2 < 2
two n = omega arith

-- the lowest digit, and the others
pub bit_zero : (w : ℕ) → bit w 0 ≡ eqb (w % 2) 1
unfolding bit
bit_zero w = ap (λ (n : ℕ). eqb (n % 2) 1) (div-one w)

pub bit_suc : (w i : ℕ) → bit w (suc i) ≡ bit (w / 2) i
unfolding bit
bit_suc w i = ap (λ (n : ℕ). eqb (n % 2) 1) (ap (λ (k : ℕ). w / 2 ^ k) (sym (one-add i)) ∙ sym (shr-shr w 1 i))

-- the digits from i on
pub bit_shr : (w i j : ℕ) → bit (w / 2 ^ i) j ≡ bit w (i + j)
unfolding bit
bit_shr w i j = ap (λ (n : ℕ). eqb (n % 2) 1) (shr-shr w i j)

pub bit_of_zero : (i : ℕ) → bit 0 i ≡ false
bit_of_zero zero = bit_zero 0
bit_of_zero (suc i) = bit_suc 0 i ∙ bit_of_zero i

pub bit_pow : (j i : ℕ) → bit (2 ^ j) i ≡ eqb i j
bit_pow zero zero = bit_zero 1
bit_pow zero (suc i) = bit_suc 1 i ∙ bit_of_zero i ∙ sym (eqb-suc-zero i)
bit_pow (suc j) zero =
    let e : 2 ^ suc j % 2 ≡ 0 = omega (arith, pow-suc 2 j) in
    bit_zero (2 ^ suc j) ∙ ap (λ (n : ℕ). eqb n 1) e ∙ sym (eqb-zero-suc j)
bit_pow (suc j) (suc i) =
    let e : 2 ^ suc j / 2 ≡ 2 ^ j = omega (arith, pow-suc 2 j) in
    bit_suc (2 ^ suc j) i ∙ ap (λ (n : ℕ). bit n i) e ∙ bit_pow j i ∙ sym (eqb-suc-suc i j)

-- or, and, not: digit by digit
or_digit : (x y : ℕ) → x < 2 → y < 2 → eqb (max x y) 1 ≡ (eqb x 1 || eqb y 1)
or_digit zero zero h k = refl
or_digit zero (suc zero) h k = refl
or_digit (suc zero) zero h k = refl
or_digit (suc zero) (suc zero) h k = refl
or_digit zero (suc (suc y)) h k = absurd (omega arith)
or_digit (suc zero) (suc (suc y)) h k = absurd (omega arith)
or_digit (suc (suc x)) y h k = absurd (omega arith)

and_digit : (x y : ℕ) → x < 2 → y < 2 → eqb (min x y) 1 ≡ (eqb x 1 && eqb y 1)
and_digit zero zero h k = refl
and_digit zero (suc zero) h k = refl
and_digit (suc zero) zero h k = refl
and_digit (suc zero) (suc zero) h k = refl
and_digit zero (suc (suc y)) h k = absurd (omega arith)
and_digit (suc zero) (suc (suc y)) h k = absurd (omega arith)
and_digit (suc (suc x)) y h k = absurd (omega arith)

not_digit : (x : ℕ) → x < 2 → eqb (1 - x) 1 ≡ not (eqb x 1)
not_digit zero h = refl
not_digit (suc zero) h = refl
not_digit (suc (suc x)) h = absurd (omega arith)

pub bit-bit_or : (a b i : ℕ) → bit (bit_or a b) i ≡ (bit a i || bit b i)
unfolding bit
bit-bit_or a b i =
    let e : bit_or (a / 2 ^ i) (b / 2 ^ i) % 2 ≡ max (a / 2 ^ i % 2) (b / 2 ^ i % 2) = omega (arith, or_step (a / 2 ^ i) (b / 2 ^ i)) in
    ap (λ (n : ℕ). eqb (n % 2) 1) (or_shr a b i) ∙ ap (λ (n : ℕ). eqb n 1) e
    ∙ or_digit (a / 2 ^ i % 2) (b / 2 ^ i % 2) (two (a / 2 ^ i)) (two (b / 2 ^ i))

pub bit-bit_and : (a b i : ℕ) → bit (bit_and a b) i ≡ (bit a i && bit b i)
unfolding bit
bit-bit_and a b i =
    let e : bit_and (a / 2 ^ i) (b / 2 ^ i) % 2 ≡ min (a / 2 ^ i % 2) (b / 2 ^ i % 2) = omega (arith, and_step (a / 2 ^ i) (b / 2 ^ i)) in
    ap (λ (n : ℕ). eqb (n % 2) 1) (and_shr a b i) ∙ ap (λ (n : ℕ). eqb n 1) e
    ∙ and_digit (a / 2 ^ i % 2) (b / 2 ^ i % 2) (two (a / 2 ^ i)) (two (b / 2 ^ i))

pub bit_not : (k a i : ℕ) → a < 2 ^ k → i < k → bit (2 ^ k - 1 - a) i ≡ not (bit a i)
bit_not zero a i h l = absurd (omega arith)
bit_not (suc k) a zero h l =
    let e : (2 ^ suc k - 1 - a) % 2 ≡ 1 - a % 2 = omega (arith, pow-suc 2 k) in
    bit_zero (2 ^ suc k - 1 - a) ∙ ap (λ (n : ℕ). eqb n 1) e
    ∙ not_digit (a % 2) (two a) ∙ ap not (sym (bit_zero a))
bit_not (suc k) a (suc i) h l =
    let e : (2 ^ suc k - 1 - a) / 2 ≡ 2 ^ k - 1 - a / 2 = omega (arith, pow-suc 2 k) in
    bit_suc (2 ^ suc k - 1 - a) i ∙ ap (λ (n : ℕ). bit n i) e
    ∙ bit_not k (a / 2) i (omega (arith, pow-suc 2 k)) (omega arith) ∙ ap not (sym (bit_suc a i))

-- ---- counts
onesIn_count : (k w : ℕ) → ones_in k w ≡ how_many (bit w) k
unfolding ones_in how_many
onesIn_count zero w = refl
onesIn_count (suc k) w =
    ap₂ (λ (x y : ℕ). x + y) (sym (digit (w % 2) (two w)) ∙ ap one (sym (bit_zero w)))
    (onesIn_count k (w / 2) ∙ how_many_ext (bit (w / 2)) (λ j. bit w (suc j)) k (λ j l. sym (bit_suc w j)))

ones_onesIn : (k w : ℕ) → w < 2 ^ k → ones w ≡ ones_in k w
unfolding ones_in ones
ones_onesIn zero w h = ap ones (lt-one h)
ones_onesIn (suc k) w h = ones_step w ∙ ap (λ (n : ℕ). w % 2 + n) (ones_onesIn k (w / 2) (omega (arith, pow-suc 2 k)))

pub ones_count : (k w : ℕ) → w < 2 ^ k → ones w ≡ how_many (bit w) k
ones_count k w h = ones_onesIn k w h ∙ onesIn_count k w

onesIn_mod : (k w : ℕ) → ones_in k (w % 2 ^ k) ≡ ones_in k w
unfolding ones_in
onesIn_mod zero w = refl
onesIn_mod (suc k) w =
    ap₂ (λ (x y : ℕ). x + ones_in k y)
    (ap (λ (m : ℕ). w % 2 ^ m % 2) (sym (add-one k)) ∙ mod-mod-pow w k 1)
    (ap (λ (m : ℕ). w % 2 ^ m / 2) (sym (add-one k)) ∙ field w k 1)
    ∙ ap (λ (n : ℕ). w % 2 + n) (onesIn_mod k (w / 2))

-- the digits of a remainder are the k lowest
pub ones_low_count : (k w : ℕ) → ones (w % 2 ^ k) ≡ how_many (bit w) k
ones_low_count k w = ones_onesIn k (w % 2 ^ k) (mod-lt w (pow_pos k)) ∙ onesIn_mod k w ∙ onesIn_count k w

-- ---- the zeros below the lowest set digit of a word, and of the inverted one
under_is : (x t : ℕ) → x < 2 → under x t ≡ (if_true eqb x 1 then 0 else suc t)
under_is zero t h = refl
under_is (suc zero) t h = refl
under_is (suc (suc x)) t h = absurd (omega arith)

pub trailing_lowest : (k w : ℕ) → count_trailing_zeros k w ≡ lowest (bit w) k
unfolding count_trailing_zeros lowest
trailing_lowest zero w = refl
trailing_lowest (suc k) w =
    under_is (w % 2) (count_trailing_zeros k (w / 2)) (two w)
    ∙ ap₂ (λ (b : Bool) (n : ℕ). if_true b then 0 else suc n) (sym (bit_zero w))
    (trailing_lowest k (w / 2) ∙ lowest_ext (bit (w / 2)) (λ j. bit w (suc j)) k (λ j l. sym (bit_suc w j)))

pub trailing_not : (k w : ℕ) → w < 2 ^ k → count_trailing_zeros k (2 ^ k - 1 - w) ≡ lowest (λ i. not (bit w i)) k
trailing_not k w h =
    trailing_lowest k (2 ^ k - 1 - w)
    ∙ lowest_ext (bit (2 ^ k - 1 - w)) (λ i. not (bit w i)) k (λ i l. bit_not k w i h l)
