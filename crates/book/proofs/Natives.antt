-- How many open items are natives, by their marks. Assumes nothing.
use Rattle.std.proofs.Common.{◌≡◌, ℕ, zero, suc, ◌+◌, ◌-◌, ◌*◌, ◌/◌, ◌%◌, ◌<◌, ◌≤◌, min, Bool, true, false, ◌&&◌, eqb, List, ◌∷◌, length, cond, sym, refl, ap, ◌∙◌, arith}
use native.Mathlib.Decide.{ℕ_discrete}
use lib.Bits.{bit_and, bit_or}
use Rattle.std.specs.List.{range_with_len, filter}
use Rattle.words.specs.Choice.{if_true◌then◌else◌, one}
use Rattle.history.specs.Items.{Item, in_native, attached}
use Rattle.history.specs.Acceptance.{deepest}
use Rattle.rows.specs.Scan.{how_many}
use Rattle.rows.specs.Marks.{bit}
use Rattle.rows.proofs.ScanLaws.{how_many_suc}
use Rattle.rows.proofs.BitLaws.{bit_zero, bit_suc, bit-bit_and, bit-bit_or, bit_of_zero}
use Rattle.book.specs.Layout.{items_at, natives_at, function_at, asked_at}
use Rattle.book.specs.Threads.{Row, stack, opened, attached_function, item_is, items_of, natives}
use Rattle.book.specs.Turns.{ByTurns}
use Rattle.book.proofs.AllThreads.{or_left, or_right}
use Rattle.book.proofs.Items.{item_in}

-- ---- how many pass, one after another
passing_from : (p q : ℕ → Bool) (a n : ℕ) → ((k : ℕ) → p (a + k) ≡ q k) → length (filter p (range_with_len a n)) ≡ how_many q n
unfolding how_many
passing_from p q a zero h = refl
passing_from p q a (suc n) h =
    let z : a ≡ a + 0 = omega arith in
    go (p a) (ap p z ∙ h 0) (passing_from p (λ k. q (suc k)) (a + 1) n (λ k. let e : a + 1 + k ≡ a + suc k = omega arith in ap p e ∙ h (suc k)))
  where
    go : (b : Bool) → b ≡ q 0 → length (filter p (range_with_len (a + 1) n)) ≡ how_many (λ k. q (suc k)) n
        → length (cond b (a ∷ filter p (range_with_len (a + 1) n)) (filter p (range_with_len (a + 1) n))) ≡ one (q 0) + how_many (λ k. q (suc k)) n
    go true e i = omega (arith, ap one e, i)
    go false e i = omega (arith, ap one e, i)

pub passing : (p : ℕ → Bool) (n : ℕ) → length (filter p (range_with_len 0 n)) ≡ how_many p n
passing p n = passing_from p p 0 n (λ k. let z : 0 + k ≡ k = omega arith in ap p z)

-- ---- a count of marks
native_more : (p : Bool) (f n : ℕ) (is : List Item) → natives (item_is p f n ∷ is) ≡ natives is + one p
unfolding item_is
native_more true f n is = go (eqb f attached_function)
  where
    go : (q : Bool) → natives ((if_true q then attached else in_native) ∷ is) ≡ natives is + 1
    go true = omega arith
    go false = omega arith
native_more false f n is = omega arith

natives_below : (c : Row) (d : ℕ) → natives (stack (item_in c) d) ≡ how_many (bit (c natives_at)) d
natives_below c zero = unfold how_many in refl
natives_below c (suc d) =
    omega (arith, native_more (bit (c natives_at) d) (c (function_at d)) (c (asked_at d)) (stack (item_in c) d), natives_below c d, how_many_suc (bit (c natives_at)) d)

pub natives_are : (c : Row) → natives (items_of c) ≡ how_many (bit (c natives_at)) (min (c items_at) deepest)
unfolding items_of opened
natives_are c = natives_below c (min (c items_at) deepest)

-- ---- calls at every second place

-- the marks of the second item of each of n pairs; of 32 pairs, as the code has them
abbrev at_calls : ℕ → ℕ
at_calls zero = 0
at_calls (suc n) = 2 + 4 * at_calls n

abbrev pub all_calls : ℕ
all_calls = 12297829382473034410

call_marked : (n i : ℕ) → i < n → bit (at_calls n) (2 * i + 1) ≡ true
call_marked zero i h = absurd (omega arith)
call_marked (suc n) zero h =
    let e : (2 + 4 * at_calls n) / 2 % 2 ≡ 1 = omega arith in
    bit_suc (2 + 4 * at_calls n) 0 ∙ bit_zero ((2 + 4 * at_calls n) / 2) ∙ ap (λ (x : ℕ). eqb x 1) e
call_marked (suc n) (suc i) h =
    let k : 2 * suc i + 1 ≡ suc (suc (2 * i + 1)) = omega arith in
    let e : (2 + 4 * at_calls n) / 2 / 2 ≡ at_calls n = omega arith in
    rw k (bit_suc (2 + 4 * at_calls n) (suc (2 * i + 1)) ∙ bit_suc ((2 + 4 * at_calls n) / 2) (2 * i + 1) ∙ ap (λ (x : ℕ). bit x (2 * i + 1)) e ∙ call_marked n i (omega arith))

and_false : (p q : Bool) → (p && q) ≡ false → q ≡ true → p ≡ false
and_false true q h e = sym e ∙ h
and_false false q h e = refl

pub in_turn : (w : ℕ) → bit_and w all_calls ≡ 0 → ByTurns w
unfolding ByTurns
in_turn w z i l o =
    let e : 2 * (i / 2) + 1 ≡ i = omega arith in
    and_false (bit w i) (bit all_calls i) (sym (bit-bit_and w all_calls i) ∙ ap (λ (x : ℕ). bit x i) z ∙ bit_of_zero i)
    (ap (λ (k : ℕ). bit all_calls k) (sym e) ∙ call_marked 32 (i / 2) (omega arith))

-- of two words together, each
pub turns_left : (v w : ℕ) → ByTurns (bit_or v w) → ByTurns v
unfolding ByTurns
turns_left v w h i l o = or_left (bit v i) (bit w i) (sym (bit-bit_or v w i) ∙ h i l o)

pub turns_right : (v w : ℕ) → ByTurns (bit_or v w) → ByTurns w
unfolding ByTurns
turns_right v w h i l o = or_right (bit v i) (bit w i) (sym (bit-bit_or v w i) ∙ h i l o)

one_at_most : (p : Bool) → one p ≤ 1
one_at_most true = omega arith
one_at_most false = omega arith

-- ---- no more than these, without a count
half : (w d : ℕ) → ByTurns w → d ≤ deepest → how_many (bit w) d ≤ d - d / 2
unfolding ByTurns
half w zero z l = unfold how_many in omega arith
half w (suc d) z l = go (ℕ_discrete (d % 2) 1) (half w d z (omega arith))
  where
    go : Dec (d % 2 ≡ 1) → how_many (bit w) d ≤ d - d / 2 → how_many (bit w) (suc d) ≤ suc d - suc d / 2
    go (yes o) h = omega (arith, how_many_suc (bit w) d, h, ap one (z d (omega arith) o))
    go (no e) h = omega (arith, how_many_suc (bit w) d, h, one_at_most (bit w d), e)

pub half_of : (w n : ℕ) → ByTurns w → how_many (bit w) (min n deepest) ≤ n - n / 2
half_of w n z = omega (arith, half w (min n deepest) z (omega arith))

pub half_at_most : (c : Row) → ByTurns (c natives_at) → natives (items_of c) ≤ c items_at - c items_at / 2
half_at_most c z = omega (arith, natives_are c, half_of (c natives_at) (c items_at) z)
