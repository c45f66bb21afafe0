-- Numbers in range, and how they come back from their sizes and one sign. Assumes nothing.
use mathlib.Core.Path.{◌≡◌, refl, ap, ap₂, sym, subst, ◌∙◌}
use mathlib.Core.Bool.{Bool, true, false, not, ◌&&◌, true≢false}
use mathlib.Core.List.{List, [], ◌∷◌, map}
use mathlib.Core.Logic.{◌⊎◌, inl, inr}
use Prim.Native.Nat.{ℕ, zero, suc, ◌+◌, ◌≤◌, ◌<◌}
use native.Mathlib.Omega.{arith}
use native.Mathlib.Decide.{dec_lt}
use native.Mathlib.Numerals.{add-one}
use lib.Dec.{eqb}
use lib.IntN.{ℤ, pos, negsuc, nat_abs}
use lib.ListN.{length}
use borrow.Author.Tests.{le-ltb, eq-eqb, ne_eqb}
use Rattle.words.specs.Choice.{if_true◌then◌else◌}
use Rattle.words.specs.Lists.{any}
use Rattle.numbers.specs.Signed.{signed, is_negative}
use Rattle.lines.specs.Line.{Line, is_allowed, largest}
use Rattle.lines.specs.Forms.{Form, most_fields, no_place, form_of, letter_of, numbers_of}
use Rattle.lines.specs.Reading.{says, refused, without, line_of}
use Rattle.lines.specs.Sizes.{signed_at, numbers_in, right_count}
use Rattle.lines.proofs.Tests.{neither}
use Rattle.lines.proofs.Numbered.{in_form_said, line_says, line_said}
use Rattle.lines.proofs.Fits.{Each, allowed_fits}
use Rattle.lines.proofs.Gathering.{too_large, wrong_at, any_wrong}

-- ---- the numbers of an allowed line are in range

-- a number that is not below zero
right : (k i : ℕ) (z : ℤ) → nat_abs z ≤ largest → is_negative z ≡ false → wrong_at k i z ≡ false
right k i z h n = rw (le-ltb largest (nat_abs z) h, n)

-- that at place k
right_signed : (k : ℕ) (z : ℤ) → nat_abs z ≤ largest → wrong_at k k z ≡ false
right_signed k (pos n) h = rw (le-ltb largest n h)
right_signed k (negsuc n) h = rw (le-ltb largest (suc n) h, eq-eqb k k refl)

right_rest : (k i : ℕ) (ns : List ℤ) → Each ns → any is_negative ns ≡ false → any_wrong k i ns ≡ false
unfolding any_wrong
right_rest k i [] f h = refl
right_rest k i (n ∷ ns) f h =
    let q = neither (is_negative n) (any is_negative ns) h in
    rw (right k i n f.0 q.0) (right_rest k (i + 1) ns f.1 q.1)

right_all : (j i : ℕ) (ns : List ℤ) → Each ns → any is_negative (without j ns) ≡ false → any_wrong (i + j) i ns ≡ false
unfolding any_wrong
right_all j i [] f h = refl
right_all zero i (n ∷ ns) f h =
    let k : i ≡ i + 0 = omega arith in
    rw (subst (λ (x : ℕ). wrong_at (i + 0) x n ≡ false) (sym k) (right_signed (i + 0) n f.0)) (right_rest (i + 0) (i + 1) ns f.1 h)
right_all (suc j) i (n ∷ ns) f h =
    let q = neither (is_negative n) (any is_negative (without j ns)) h in
    let k : i + 1 + j ≡ i + suc j = omega arith in
    rw (right (i + suc j) i n f.0 q.0) (subst (λ (x : ℕ). any_wrong x (i + 1) ns ≡ false) k (right_all j (i + 1) ns f.1 q.1))

in_range : (e : Line) → is_allowed e ≡ true → any_wrong (form_of (letter_of e)).signed 0 (numbers_of e) ≡ false
unfolding line_of
in_range e h =
    let f = form_of (letter_of e) in
    let k : 0 + f.signed ≡ f.signed = omega arith in
    subst (λ (x : ℕ). any_wrong x 0 (numbers_of e) ≡ false) k
    (right_all f.signed 0 (numbers_of e) (allowed_fits e h) (in_form_said f (numbers_of e) e (line_says e h)).plain)

-- so a line of which one is out of range is refused by 3
pub wrong_refused : (b : ℕ) (ns : List ℤ) → right_count b (length ns) ≡ true → any_wrong (form_of b).signed 0 ns ≡ true → line_of b ns ≡ refused 3
unfolding line_of
wrong_refused b ns c w = go (any is_negative (without f.signed ns)) refl (is_allowed (f.line ns)) refl
  where
    f : Form
    f = form_of b

    no_line : (e : Line) → line_of b ns ≡ says e → ⊥
    no_line e s =
        let k = line_said b ns e s in
        let r = subst (λ (x : ℕ). any_wrong (form_of x).signed 0 (numbers_of e) ≡ false) k.letter (in_range e k.allowed) in
        true≢false (sym w ∙ ap (any_wrong (form_of b).signed 0) (sym k.numbers) ∙ r)

    go : (n : Bool) → any is_negative (without f.signed ns) ≡ n → (a : Bool) → is_allowed (f.line ns) ≡ a → line_of b ns ≡ refused 3
    go true p a q = rw (c, p)
    go false p false q = rw (c, p, q)
    go false p true q = absurd (no_line (f.line ns) (rw (c, p, q)))

-- ---- where none is out of range, sizes and the sign give the numbers again

-- k is no place from i on
abbrev pub Away : ℕ → ℕ → ℕ → Type 0
Away k i n = (k < i) ⊎ (i + n ≤ k)

pub away : (k i n : ℕ) → Away k i (suc n) → eqb i k ≡ false
away k i n (inl h) = ne_eqb i k (λ e. omega arith)
away k i n (inr h) = ne_eqb i k (λ e. omega arith)

pub away_next : (k i n : ℕ) → Away k i (suc n) → Away k (suc i) n
away_next k i n (inl h) = inl (omega arith)
away_next k i n (inr h) = inr (omega arith)

not_negative : (k i : ℕ) (z : ℤ) → eqb i k ≡ false → wrong_at k i z ≡ false → is_negative z ≡ false
not_negative k i (pos n) e h = refl
not_negative k i (negsuc n) e h =
    let q : (true && not (eqb i k)) ≡ false = (neither (too_large (negsuc n)) (not (eqb i k)) h).1 in
    absurd (true≢false (ap not (sym e) ∙ q))

none_negative : (k i : ℕ) (ns : List ℤ) → Away k i (length ns) → any_wrong k i ns ≡ false → any is_negative ns ≡ false
unfolding any_wrong
none_negative k i [] a h = refl
none_negative k i (n ∷ ns) a h =
    let q = neither (wrong_at k i n) (any_wrong k (i + 1) ns) h in
    rw (not_negative k i n (away k i (length ns) a) q.0)
    (none_negative k (suc i) ns (away_next k i (length ns) a) (ap (λ (j : ℕ). any_wrong k j ns) (sym (add-one i)) ∙ q.1))

plain_size : (k i : ℕ) (z : ℤ) → eqb i k ≡ false → is_negative z ≡ false → signed (eqb i k) (nat_abs z) ≡ z
plain_size k i (pos n) e h = rw e
plain_size k i (negsuc n) e h = absurd (true≢false h)

plain_sizes : (k i : ℕ) (ns : List ℤ) → Away k i (length ns) → any is_negative ns ≡ false → signed_at i k (map nat_abs ns) ≡ ns
unfolding signed_at
plain_sizes k i [] a h = refl
plain_sizes k i (n ∷ ns) a h =
    let q = neither (is_negative n) (any is_negative ns) h in
    ap₂ (λ (x : ℤ) (xs : List ℤ). x ∷ xs) (plain_size k i n (away k i (length ns) a) q.0) (plain_sizes k (suc i) ns (away_next k i (length ns) a) q.1)

signs : (k i : ℕ) (ns : List ℤ) → i ≤ k → i + length ns ≤ most_fields → any_wrong k i ns ≡ false
    → signed_at i (if_true any is_negative ns then k else no_place) (map nat_abs ns) ≡ ns
unfolding signed_at any_wrong
signs k i [] l m h = refl
signs k i (z ∷ ns) l m h = go (dec_lt i k) z (neither (wrong_at k i z) (any_wrong k (i + 1) ns) h).0 (signs k (suc i) ns)
  where
    rest : any_wrong k (suc i) ns ≡ false
    rest = ap (λ (j : ℕ). any_wrong k j ns) (sym (add-one i)) ∙ (neither (wrong_at k i z) (any_wrong k (i + 1) ns) h).1

    other : (t : Bool) → i < k → eqb i (if_true t then k else no_place) ≡ false
    other true b = ne_eqb i k (λ e. omega arith)
    other false b = ne_eqb i no_place (λ e. omega arith)

    go : Dec (i < k) → (z : ℤ) → wrong_at k i z ≡ false
        → (suc i ≤ k → suc i + length ns ≤ most_fields → any_wrong k (suc i) ns ≡ false → signed_at (suc i) (if_true any is_negative ns then k else no_place) (map nat_abs ns) ≡ ns)
        → signed_at i (if_true any is_negative (z ∷ ns) then k else no_place) (map nat_abs (z ∷ ns)) ≡ z ∷ ns
    go (yes b) (pos n) w ih =
        rw (other (any is_negative ns) b) (ap (λ (xs : List ℤ). pos n ∷ xs) (ih (omega arith) (omega arith) rest))
    go (yes b) (negsuc n) w ih = absurd (true≢false (not_negative k i (negsuc n) (ne_eqb i k (λ e. omega arith)) w))
    go (no b) (pos n) w ih =
        let none = none_negative k (suc i) ns (inl (omega arith)) rest in
        rw (none, ne_eqb i no_place (λ e. omega arith)) (ap (λ (xs : List ℤ). pos n ∷ xs) (plain_sizes no_place (suc i) ns (inr (omega arith)) none))
    go (no b) (negsuc n) w ih =
        let none = none_negative k (suc i) ns (inl (omega arith)) rest in
        rw (eq-eqb i k (omega arith)) (ap (λ (xs : List ℤ). negsuc n ∷ xs) (plain_sizes k (suc i) ns (inl (omega arith)) none))

pub sizes_back : (b : ℕ) (ns : List ℤ) → length ns ≤ most_fields → any_wrong (form_of b).signed 0 ns ≡ false → numbers_in b (any is_negative ns) (map nat_abs ns) ≡ ns
sizes_back b ns l h = signs (form_of b).signed 0 ns (omega arith) (omega arith) h
