-- Laws of the marks: words of 64 bits, one after another. Assumes nothing.
use mathlib.Core.Path.{◌≡◌, refl, sym, ap, ap₂, ◌∙◌}
use mathlib.Core.Bool.{Bool, true, false, not, ◌&&◌, ◌||◌}
use mathlib.Core.List.{List}
use Prim.Native.Nat.{ℕ, ◌+◌, ◌-◌, ◌*◌, ◌/◌, ◌%◌, ◌^◌, ◌≤◌, ◌<◌, min}
use native.Mathlib.Decide.{ℕ_discrete}
use native.Mathlib.Omega.{arith}
use lib.ListN.{length, get_or, set}
use lib.Seq.{get_or-set_same, get_or-set_other}
use lib.Pow.{shl_exact, pow-lt}
use lib.Bits.{bit_and, bit_or}
use lib.Count.{ones, count_trailing_zeros}
use borrow.Author.Tests.{eq-eqb, ne_eqb, not-false}
use Rattle.words.specs.Choice.{one}
use Rattle.rows.specs.Scan.{how_many, lowest}
use Rattle.rows.specs.Marks.{word, in_word, bit, used, free, marked, unmarked}
use Rattle.rows.proofs.ScanLaws.{how_many_add, how_many_ext, how_many_next, lowest_next, lowest_hit, lowest_ext, lowest_le, lowest_below, lowest_none, lowest_add, lowest_cut, lowest_end}
use Rattle.rows.proofs.BitLaws.{bit-bit_or, bit-bit_and, bit_not, bit_pow, bit_of_zero, ones_count, ones_low_count, trailing_not}

pub shl_one : (k : ℕ) → k < word → 1 * 2 ^ k % 2 ^ word ≡ 2 ^ k
shl_one k h = let e : 1 * 2 ^ k ≡ 2 ^ k = omega arith in shl_exact 1 k word (omega arith) (omega arith) ∙ e

-- bit i of word w is row w * 64 + i's
used_in_word : (ms : List ℕ) (w i : ℕ) → i < word → in_word (used ms) w i ≡ bit (get_or ms w 0) i
unfolding in_word used
used_in_word ms w i h =
    let q : (w * word + i) / word ≡ w = omega arith in
    let r : (w * word + i) % word ≡ i = omega arith in
    ap₂ (λ (a b : ℕ). bit (get_or ms a 0) b) q r

free_in_word : (ms : List ℕ) (w i : ℕ) → i < word → in_word (free ms) w i ≡ not (bit (get_or ms w 0) i)
unfolding in_word free
free_in_word ms w i h = ap not (used_in_word ms w i h)

-- ---- what a word says of its rows
pub free_of_word : (ms : List ℕ) (w : ℕ) → get_or ms w 0 < 2 ^ word → count_trailing_zeros word (2 ^ word - 1 - get_or ms w 0) ≡ lowest (in_word (free ms) w) word
free_of_word ms w h =
    trailing_not word (get_or ms w 0) h
    ∙ lowest_ext (λ i. not (bit (get_or ms w 0) i)) (in_word (free ms) w) word (λ i l. sym (free_in_word ms w i l))

pub used_of_word : (ms : List ℕ) (w : ℕ) → get_or ms w 0 < 2 ^ word → ones (get_or ms w 0) ≡ how_many (in_word (used ms) w) word
used_of_word ms w h =
    ones_count word (get_or ms w 0) h
    ∙ how_many_ext (bit (get_or ms w 0)) (in_word (used ms) w) word (λ i l. sym (used_in_word ms w i l))

pub used_of_part : (ms : List ℕ) (w m : ℕ) → m < word → ones (get_or ms w 0 % 2 ^ m) ≡ how_many (in_word (used ms) w) m
used_of_part ms w m h =
    ones_low_count m (get_or ms w 0)
    ∙ how_many_ext (bit (get_or ms w 0)) (in_word (used ms) w) m (λ i l. sym (used_in_word ms w i (omega arith)))

-- a word of 0 has no row used, one whose inverse is 0 has all
pub word_unused : (ms : List ℕ) (w i : ℕ) → get_or ms w 0 ≡ 0 → i < word → in_word (used ms) w i ≡ false
word_unused ms w i e h = used_in_word ms w i h ∙ ap (λ (x : ℕ). bit x i) e ∙ bit_of_zero i

pub word_used : (ms : List ℕ) (w i : ℕ) → get_or ms w 0 < 2 ^ word → 2 ^ word - 1 - get_or ms w 0 ≡ 0 → i < word → in_word (used ms) w i ≡ true
word_used ms w i f e h =
    used_in_word ms w i h
    ∙ not-false (bit (get_or ms w 0) i) (sym (bit_not word (get_or ms w 0) i f h) ∙ ap (λ (x : ℕ). bit x i) e ∙ bit_of_zero i)

-- ---- row after row of a word
pub seek_next : (p : ℕ → Bool) (w i : ℕ) (b : Bool) → i ≡ lowest (in_word p w) i → b ≡ p (w * word + i) → b ≡ false
    → i + 1 ≡ lowest (in_word p w) (i + 1)
unfolding in_word
seek_next p w i b a e f = lowest_next (in_word p w) i b a e f

pub seek_hit : (p : ℕ → Bool) (w i m : ℕ) (b : Bool) → i ≡ lowest (in_word p w) i → i < m → b ≡ p (w * word + i) → b ≡ true
    → i ≡ lowest (in_word p w) m
unfolding in_word
seek_hit p w i m b a l e f = lowest_hit (in_word p w) i m b a l e f

pub sum_next : (p : ℕ → Bool) (w s i k : ℕ) (b : Bool) → s ≡ how_many (in_word p w) i → b ≡ p (w * word + i) → k ≡ one b
    → s + k ≡ how_many (in_word p w) (i + 1)
unfolding in_word
sum_next p w s i k b a e f = how_many_next (in_word p w) s i k b a e f

-- ---- word after word: a count
words_next : (p : ℕ → Bool) (w m : ℕ) → how_many p (w * word + m) ≡ how_many p (w * word) + how_many (in_word p w) m
unfolding in_word
words_next p w m = how_many_add p (w * word) m

pub count_word : (p : ℕ → Bool) (s k w : ℕ) → s ≡ how_many p (w * word) → k ≡ how_many (in_word p w) word → s + k ≡ how_many p ((w + 1) * word)
count_word p s k w a b =
    let e : (w + 1) * word ≡ w * word + word = omega arith in
    omega (arith, words_next p w word, ap (how_many p) e)

pub count_last : (p : ℕ → Bool) (s k w n m : ℕ) → s ≡ how_many p (w * word) → w ≤ n / word → n / word ≤ w → n ≡ m
    → k ≡ how_many (in_word p (n / word)) (n % word) → s + k ≡ how_many p m
count_last p s k w n m a l g x b =
    let c : w ≡ n / word = omega arith in
    let e : m ≡ n / word * word + n % word = omega arith in
    let d : how_many p (w * word) ≡ how_many p (n / word * word) = ap (λ (v : ℕ). how_many p (v * word)) c in
    omega (arith, words_next p (n / word) (n % word), ap (how_many p) e)

pub count_whole : (p : ℕ → Bool) (s w n : ℕ) → s ≡ how_many p (w * word) → w ≤ n / word → n / word ≤ w → n % word ≡ 0 → s ≡ how_many p n
count_whole p s w n a l g z = let e : w * word ≡ n = omega arith in a ∙ ap (how_many p) e

-- ---- word after word: a search
onward : (p : ℕ → Bool) (w i m : ℕ) → w * word ≡ lowest p (w * word) → i ≡ lowest (in_word p w) m → w * word + i ≡ lowest p (w * word + m)
unfolding in_word
onward p w i m a b = lowest_add p (w * word) i m a b

pub search_word : (p : ℕ → Bool) (w i : ℕ) → w * word ≡ lowest p (w * word) → i ≡ lowest (in_word p w) word → word ≤ i
    → (w + 1) * word ≡ lowest p ((w + 1) * word)
search_word p w i a b l =
    let e : w * word + word ≡ (w + 1) * word = omega arith in
    lowest_end p (w * word + word) ((w + 1) * word)
    (omega (arith, onward p w i word a b, lowest_le p (w * word + word))) (omega arith) (omega arith)

cut : (p : ℕ → Bool) (w i n : ℕ) → w * word ≡ lowest p (w * word) → i ≡ lowest (in_word p w) word → i < word → min (w * word + i) n ≡ lowest p n
cut p w i n a b l = lowest_cut p (w * word + i) (w * word + word) n (onward p w i word a b) (omega arith)

pub search_cut : (p : ℕ → Bool) (w i n x : ℕ) → w * word ≡ lowest p (w * word) → i ≡ lowest (in_word p w) word → i < word → x ≡ min (w * word + i) n
    → x ≡ lowest p n
search_cut p w i n x a b l e = e ∙ cut p w i n a b l

pub search_hit : (p : ℕ → Bool) (w i n m : ℕ) → w * word ≡ lowest p (w * word) → i ≡ lowest (in_word p w) word → i < word → w < n / word → n ≡ m
    → w * word + i ≡ lowest p m
search_hit p w i n m a b l g e =
    let f : w * word + i ≡ min (w * word + i) m = omega arith in
    f ∙ cut p w i m a b l

pub search_last : (p : ℕ → Bool) (w i n m : ℕ) → w * word ≡ lowest p (w * word) → w ≤ n / word → n / word ≤ w → n ≡ m
    → i ≡ lowest (in_word p (n / word)) (n % word) → n / word * word + i ≡ lowest p m
search_last p w i n m a l g e b =
    let c : w ≡ n / word = omega arith in
    let f : n / word * word + n % word ≡ m = omega arith in
    onward p (n / word) i (n % word) (ap (λ (v : ℕ). v * word) (sym c) ∙ a ∙ ap (λ (v : ℕ). lowest p (v * word)) c) b ∙ ap (lowest p) f

pub search_end : (p : ℕ → Bool) (w n : ℕ) → w * word ≡ lowest p (w * word) → n ≤ w * word → n ≡ lowest p n
search_end p w n a l = lowest_none p n (λ k h. lowest_below p (w * word) k (omega arith))

-- ---- a bit set, a bit cleared
or_true : (a : Bool) → (a || true) ≡ true
or_true true = refl
or_true false = refl

or_false : (a : Bool) → (a || false) ≡ a
or_false true = refl
or_false false = refl

and_true : (a : Bool) → (a && true) ≡ a
and_true true = refl
and_true false = refl

and_false : (a : Bool) → (a && false) ≡ false
and_false true = refl
and_false false = refl

pub set_same : (w j : ℕ) → bit (bit_or w (2 ^ j)) j ≡ true
set_same w j = bit-bit_or w (2 ^ j) j ∙ ap (λ (x : Bool). bit w j || x) (bit_pow j j ∙ eq-eqb j j refl) ∙ or_true (bit w j)

pub set_other : (w j i : ℕ) → (i ≡ j → ⊥) → bit (bit_or w (2 ^ j)) i ≡ bit w i
set_other w j i n = bit-bit_or w (2 ^ j) i ∙ ap (λ (x : Bool). bit w i || x) (bit_pow j i ∙ ne_eqb i j n) ∙ or_false (bit w i)

pub clear_same : (w j : ℕ) → j < word → bit (bit_and w (2 ^ word - 1 - 2 ^ j)) j ≡ false
clear_same w j h =
    bit-bit_and w (2 ^ word - 1 - 2 ^ j) j
    ∙ ap (λ (x : Bool). bit w j && x) (bit_not word (2 ^ j) j (pow-lt h) h ∙ ap not (bit_pow j j ∙ eq-eqb j j refl)) ∙ and_false (bit w j)

pub clear_other : (w j i : ℕ) → j < word → i < word → (i ≡ j → ⊥) → bit (bit_and w (2 ^ word - 1 - 2 ^ j)) i ≡ bit w i
clear_other w j i h k n =
    bit-bit_and w (2 ^ word - 1 - 2 ^ j) i
    ∙ ap (λ (x : Bool). bit w i && x) (bit_not word (2 ^ j) i (pow-lt h) k ∙ ap not (bit_pow j i ∙ ne_eqb i j n)) ∙ and_true (bit w i)

-- ---- one word of the list changed at the bit of row r
word_same : (ms : List ℕ) (r x : ℕ) (b : Bool) → r < length ms * word → bit x (r % word) ≡ b → used (set ms (r / word) x) r ≡ b
unfolding used
word_same ms r x b h e =
    let a : r / word < length ms = omega arith in ap (λ (w : ℕ). bit w (r % word)) (get_or-set_same ms (r / word) x 0 a) ∙ e

word_other : (ms : List ℕ) (r k x : ℕ) → r < length ms * word → (k ≡ r → ⊥)
    → ((k % word ≡ r % word → ⊥) → bit x (k % word) ≡ bit (get_or ms (r / word) 0) (k % word)) → used (set ms (r / word) x) k ≡ used ms k
unfolding used
word_other ms r k x h n e = go (ℕ_discrete (k / word) (r / word))
  where
    go : Dec (k / word ≡ r / word) → used (set ms (r / word) x) k ≡ used ms k
    go (yes q) =
        let a : r / word < length ms = omega arith in
        ap (λ (m : ℕ). bit (get_or (set ms (r / word) x) m 0) (k % word)) q
        ∙ ap (λ (w : ℕ). bit w (k % word)) (get_or-set_same ms (r / word) x 0 a)
        ∙ e (λ s. n (omega arith))
        ∙ ap (λ (m : ℕ). bit (get_or ms m 0) (k % word)) (sym q)
    go (no q) = ap (λ (w : ℕ). bit w (k % word)) (get_or-set_other ms (r / word) (k / word) x 0 q)

pub used_marked_same : (ms : List ℕ) (r : ℕ) → r < length ms * word → used (marked ms r) r ≡ true
unfolding marked
used_marked_same ms r h = word_same ms r _ true h (set_same (get_or ms (r / word) 0) (r % word))

pub used_marked_other : (ms : List ℕ) (r k : ℕ) → r < length ms * word → (k ≡ r → ⊥) → used (marked ms r) k ≡ used ms k
unfolding marked
used_marked_other ms r k h n = word_other ms r k _ h n (λ s. set_other (get_or ms (r / word) 0) (r % word) (k % word) s)

pub used_unmarked_same : (ms : List ℕ) (r : ℕ) → r < length ms * word → used (unmarked ms r) r ≡ false
unfolding unmarked
used_unmarked_same ms r h = word_same ms r _ false h (clear_same (get_or ms (r / word) 0) (r % word) (omega arith))

pub used_unmarked_other : (ms : List ℕ) (r k : ℕ) → r < length ms * word → (k ≡ r → ⊥) → used (unmarked ms r) k ≡ used ms k
unfolding unmarked
used_unmarked_other ms r k h n = word_other ms r k _ h n (λ s. clear_other (get_or ms (r / word) 0) (r % word) (k % word) (omega arith) (omega arith) s)
