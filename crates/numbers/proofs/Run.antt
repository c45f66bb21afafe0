-- A run of digits read on, place by place: what the loops of the reader keep. Assumes nothing.
use mathlib.Core.Path.{◌≡◌, refl, ap, ap₂, sym, ◌∙◌}
use mathlib.Core.Bool.{Bool, true, false, not, ◌&&◌, ◌||◌, false≢true}
use mathlib.Core.List.{List, [], ◌∷◌}
use Rattle.std.specs.Prelude.{None, Some, unwrap_or, cond}
use Prim.Native.Nat.{ℕ, max, ◌+◌, ◌-◌, ◌*◌, ◌≤◌, ◌<◌}
use native.Mathlib.Omega.{arith}
use native.Mathlib.Nat.{add-zero, add_comm}
use native.Mathlib.Numerals.{add-one}
use lib.Dec.{leb, eqb, ltb}
use lib.ListN.{length, get_or, take, drop, length-drop}
use lib.Seq.{length-take-le}
use native.Mathlib.Decide.{dec_lt}
use Rattle.std.proofs.lemmas.List.{take_all}
use Rattle.std.proofs.lemmas.List.Sums.{prefix_len-le-length}
use Rattle.std.specs.List.{list_all, position_or_len}
use borrow.Author.Tests.{le-leb, lt-leb, lt-ltb, le-ltb, leb-true, not-true, not-false}
use Rattle.words.specs.Lists.{any}
use Rattle.numbers.specs.Decimal.{zero_digit, is_digit, read_on, not_negative}
use Rattle.numbers.specs.Reading.{bounded, field_at, found_on, out_or_bad, not_digit, until, skipped}
use Rattle.numbers.specs.declared.Field.{Field}
use Rattle.numbers.specs.declared.Field.TheVariants.{Plus}
use Rattle.numbers.specs.declared.Found.{Found}
use Rattle.numbers.proofs.Reading.{answer, field_end, field_stop, field_more, next_more}

pub digit_range : (b : ℕ) → is_digit b ≡ true → (zero_digit ≤ b) × (b ≤ zero_digit + 9)
digit_range b = go (leb zero_digit b) refl
  where
    go : (t : Bool) → leb zero_digit b ≡ t → (t && leb b (zero_digit + 9)) ≡ true → (zero_digit ≤ b) × (b ≤ zero_digit + 9)
    go true e h = (leb-true zero_digit b e, leb-true b (zero_digit + 9) h)
    go false e h = absurd (false≢true h)

pub read_on_digit : (n b : ℕ) (f : List ℕ) → is_digit b ≡ true → read_on n (b ∷ f) ≡ read_on (n * 10 + (b - zero_digit)) f
unfolding read_on
read_on_digit n b f t = rw t

pub read_on_other : (n b : ℕ) (f : List ℕ) → is_digit b ≡ false → read_on n (b ∷ f) ≡ None
unfolding read_on
read_on_other n b f t = rw t

-- a number past the bound stays past it
over : (max n : ℕ) (f : List ℕ) → max < n → out_or_bad (not (any not_digit f)) ≡ bounded max (not_negative (read_on n f))
unfolding read_on
over max n [] h = rw (lt-leb n max h)
over max n (b ∷ f) h = go (is_digit b) refl (over max (n * 10 + (b - zero_digit)) f (omega arith))
  where
    go :
        (t : Bool) → is_digit b ≡ t → out_or_bad (not (any not_digit f)) ≡ bounded max (not_negative (read_on (n * 10 + (b - zero_digit)) f))
        → out_or_bad (not (not t || any not_digit f)) ≡ bounded max (not_negative (read_on n (b ∷ f)))
    go true e ih = ih ∙ sym (ap (λ o. bounded max (not_negative o)) (read_on_digit n b f e))
    go false e ih = sym (ap (λ o. bounded max (not_negative o)) (read_on_other n b f e))

-- ---- a digit that does not stop the field

pub record Digit (stop b : ℕ) : Type 0 where
  pub apart : b ≡ stop → ⊥
  pub is : is_digit b ≡ true
  pub low : zero_digit ≤ b
  pub high : b ≤ zero_digit + 9

digit_apart : (stop b : ℕ) → (b ≡ stop → ⊥) → is_digit b ≡ true → Digit stop b
digit_apart stop b e y = let r = digit_range b y in record { apart = e; is = y; low = r.0; high = r.1 }

-- by the tests that the loops make
pub digit_here : {u : Bool} (stop b : ℕ) → (b ≡ stop → ⊥) → u ≡ is_digit b → not u ≡ false → Digit stop b
digit_here {u} stop b e q h = digit_apart stop b e (sym q ∙ not-false u h)

pub digit_still : {t u : Bool} (stop b : ℕ) → t ≡ is_digit stop → u ≡ is_digit b → (t || not u) ≡ false → Digit stop b
digit_still {t} {u} stop b p q h = go t p h
  where
    go : (t : Bool) → t ≡ is_digit stop → (t || not u) ≡ false → Digit stop b
    go true p h = absurd (false≢true (sym h))
    go false p h =
        let y : is_digit b ≡ true = sym q ∙ not-false u h in
        digit_apart stop b (λ e. false≢true (p ∙ ap is_digit (sym e) ∙ y)) y

-- ---- digits read so far

-- n is in the bound, and what is found from i on is what was found from the start
pub record Going (max stop : ℕ) (s : List ℕ) (at start i n : ℕ) : Type 0 where
  pub in_bound : n ≤ max
  pub rest : found_on max stop s at start ≡ found_on max stop s i n

pub set_out : (max stop : ℕ) (s : List ℕ) (at start : ℕ) → start ≤ max → Going max stop s at start at start
set_out max stop s at start h = record { in_bound = h; rest = refl }

module _ {max stop : ℕ} {s : List ℕ} {at start i n : ℕ} (g : Going max stop s at start i n) where
  pub then_found : {r : Found} → r ≡ found_on max stop s i n → r ≡ found_on max stop s at start
  then_found e = e ∙ sym g.rest

  none_left : field_at s i stop ≡ [] → answer (Plus n) i ≡ found_on max stop s at start
  unfolding found_on read_on
  none_left e = then_found (rw e (rw (le-leb n max g.in_bound) (ap (answer (Plus n)) (sym (add-zero i)))))

  pub at_end : length s ≤ i → answer (Plus n) i ≡ found_on max stop s at start
  at_end h = none_left (field_end s i stop h)

  module _ (h : i < length s) where
    pub at_stop : get_or s i 0 ≡ stop → answer (Plus n) i ≡ found_on max stop s at start
    at_stop e = none_left (field_stop s i stop h e)

    -- what stands at i, and the field after it
    first_read : (get_or s i 0 ≡ stop → ⊥) → read_on n (field_at s i stop) ≡ read_on n (get_or s i 0 ∷ field_at s (i + 1) stop)
    first_read e = ap (read_on n) (field_more s i stop h e)

    first_skipped :
        (get_or s i 0 ≡ stop → ⊥) → {u : Bool} → is_digit (get_or s i 0) ≡ u
        → out_or_bad (not (any not_digit (field_at s i stop))) ≡ out_or_bad (not (not u || any not_digit (field_at s (i + 1) stop)))
    first_skipped e t =
        ap (λ f. out_or_bad (not (any not_digit f))) (field_more s i stop h e)
        ∙ ap (λ u. out_or_bad (not (not u || any not_digit (field_at s (i + 1) stop)))) t

    pub at_other : (get_or s i 0 ≡ stop → ⊥) → {u : Bool} → u ≡ is_digit (get_or s i 0) → not u ≡ true → skipped stop s i ≡ found_on max stop s at start
    unfolding found_on skipped
    at_other e {u} q k =
        let t : is_digit (get_or s i 0) ≡ false = sym q ∙ not-true u k in
        then_found
        (ap (λ f. answer f (i + length (field_at s i stop)))
        (first_skipped e t ∙ sym (ap (λ o. bounded max (not_negative o)) (first_read e ∙ read_on_other n (get_or s i 0) (field_at s (i + 1) stop) t))))

    module _ (d : Digit stop (get_or s i 0)) where
      pub too_large : max < n * 10 + (get_or s i 0 - zero_digit) → skipped stop s i ≡ found_on max stop s at start
      unfolding found_on skipped
      too_large m =
          then_found
          (ap (λ f. answer f (i + length (field_at s i stop)))
          (first_skipped d.apart d.is
          ∙ over max (n * 10 + (get_or s i 0 - zero_digit)) (field_at s (i + 1) stop) m
          ∙ sym (ap (λ o. bounded max (not_negative o)) (first_read d.apart ∙ read_on_digit n (get_or s i 0) (field_at s (i + 1) stop) d.is))))

      pub one_digit : {x : ℕ} → x ≡ get_or s i 0 - zero_digit → n * 10 + x ≤ max → Going max stop s at start (i + 1) (n * 10 + x)
      unfolding found_on
      one_digit {x} k m =
          record {
            in_bound = m;
            rest =
                g.rest
                ∙ ap₂ answer
                (ap (λ o. bounded max (not_negative o))
                (first_read d.apart
                ∙ read_on_digit n (get_or s i 0) (field_at s (i + 1) stop) d.is
                ∙ ap (λ y. read_on (n * 10 + y) (field_at s (i + 1) stop)) (sym k)))
                (next_more s i stop h d.apart);
          }

-- where a loop ends that goes from `at` to the end
pub end_is : (at n i : ℕ) → (at ≤ n → i ≤ n) → n ≤ i → (n ≤ at → i ≡ at) → max at n ≡ i
end_is at n i a h b = go (dec_lt at n)
  where
    go : Dec (at < n) → max at n ≡ i
    go (yes l) = let k = a (omega arith) in omega arith
    go (no l) = let k = b (omega arith) in omega arith

-- ---- the rest of a field skipped

-- where the first byte is that passes, or the end
pub first_or_end : (test : ℕ → Bool) (xs : List ℕ) → unwrap_or (cond (ltb (position_or_len test xs) (length xs)) (Some (position_or_len test xs)) None) (length xs) ≡ position_or_len test xs
first_or_end test xs = go (dec_lt (position_or_len test xs) (length xs))
  where
    go :
        Dec (position_or_len test xs < length xs)
        → unwrap_or (cond (ltb (position_or_len test xs) (length xs)) (Some (position_or_len test xs)) None) (length xs) ≡ position_or_len test xs
    go (yes l) = rw (lt-ltb (position_or_len test xs) (length xs) l)
    go (no l) =
        let m : position_or_len test xs ≤ length xs = prefix_len-le-length (λ x. not (test x)) xs in
        rw (le-ltb (position_or_len test xs) (length xs) (omega arith)) (omega arith)

abbrev stop_at : ℕ → ℕ → Bool
stop_at stop b = eqb b stop

until_is : (stop : ℕ) (s : List ℕ) → until stop s ≡ take (position_or_len (stop_at stop) s) s
unfolding until
until_is stop [] = refl
until_is stop (b ∷ s) = go (eqb b stop) refl (until_is stop s)
  where
    go :
        (t : Bool) → eqb b stop ≡ t → until stop s ≡ take (position_or_len (stop_at stop) s) s
        → until stop (b ∷ s) ≡ take (position_or_len (stop_at stop) (b ∷ s)) (b ∷ s)
    go true e ih = rw e
    go false e ih = rw e (ap (λ x. b ∷ x) ih ∙ sym (ap (λ k. take k (b ∷ s)) (add_comm 1 (position_or_len (stop_at stop) s) ∙ add-one _)))

all_or_any : (f : List ℕ) → list_all is_digit f ≡ not (any not_digit f)
all_or_any [] = refl
all_or_any (b ∷ f) = go (is_digit b) (all_or_any f)
  where
    go : (t : Bool) → list_all is_digit f ≡ not (any not_digit f) → (t && list_all is_digit f) ≡ not (not t || any not_digit f)
    go true ih = ih
    go false ih = refl

pub skips :
    {n : ℕ} {ok : Bool} {r : Field} (stop : ℕ) (s : List ℕ) (at : ℕ) → n ≡ position_or_len (λ b. eqb b stop) (take (length s - at) (drop at s))
    → ok ≡ list_all is_digit (take n (take (length s - at) (drop at s))) → r ≡ out_or_bad ok → answer r (at + n) ≡ skipped stop s at
unfolding skipped
skips {n} {ok} {r} stop s at p q e =
    let w : take (length s - at) (drop at s) ≡ drop at s = take_all (length s - at) (drop at s) (omega (arith, length-drop at s)) in
    let u : take n (drop at s) ≡ field_at s at stop = ap (λ k. take k (drop at s)) (p ∙ ap (position_or_len (stop_at stop)) w) ∙ sym (until_is stop (drop at s)) in
    let m : n ≤ length (drop at s) = omega (arith, p ∙ ap (position_or_len (stop_at stop)) w, prefix_len-le-length (λ b. not (stop_at stop b)) (drop at s)) in
    let l : n ≡ length (field_at s at stop) = sym (length-take-le n (drop at s) m) ∙ ap length u in
    ap₂ answer (e ∙ ap out_or_bad (q ∙ ap (λ x. list_all is_digit (take n x)) w ∙ ap (list_all is_digit) u ∙ all_or_any (field_at s at stop))) (ap (λ k. at + k) l)
