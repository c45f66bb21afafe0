-- Bytes put into a list at a place: one after the other is both at once, and the length stays. Assumes nothing.
use mathlib.Core.Path.{◌≡◌, refl, ap, ap₂, sym, ◌∙◌}
use mathlib.Core.List.{List, [], ◌∷◌, ◌++◌, append_assoc}
use Prim.Native.Nat.{ℕ, suc, ◌+◌, ◌-◌, ◌/◌, ◌%◌, ◌≤◌, ◌<◌}
use native.Mathlib.Omega.{arith}
use native.Mathlib.Decide.{dec_lt}
use native.Mathlib.Nat.{add_assoc, add-zero}
use native.Mathlib.Numerals.{add-one}
use lib.ListN.{length, take, drop, set, length-append, length-drop, take-append-drop}
use lib.Seq.{length-take-le, take_at, drop_at, drop-append-add, drop-drop, set_split, take-set-le}
use borrow.Author.Tests.{le-leb, lt-leb}
use Rattle.std.specs.Prelude.{Option, None, Some}
use Rattle.numbers.specs.Decimal.{zero_digit, digits}
use Rattle.numbers.specs.Writing.{put, Puts}
use Rattle.numbers.proofs.Digits.{digits_one, digits_step, length_one, length_step, length_some}

pub put_none : (d : List ℕ) (at : ℕ) → put d at [] ≡ d
put_none d at = ap (λ k. take at d ++ drop k d) (add-zero at) ∙ take-append-drop at d

pub put_one : (d : List ℕ) (at b : ℕ) → at < length d → set d at b ≡ put d at (b ∷ [])
put_one d at b h = rw add-one (set_split d at b h)

pub length_put : (d : List ℕ) (at : ℕ) (xs : List ℕ) → at + length xs ≤ length d → length (put d at xs) ≡ length d
length_put d at xs h = let e = length-take-le at d (omega arith) in simp (length-append, length-drop) (omega arith)

pub put_put : (d : List ℕ) (at : ℕ) (xs ys : List ℕ) → at + length xs ≤ length d → put (put d at xs) (at + length xs) ys ≡ put d at (xs ++ ys)
put_put d at xs ys h =
    let p = take at d ++ xs in
    let n : length p ≡ at + length xs = length-append (take at d) xs ∙ ap (λ k. k + length xs) (length-take-le at d (omega arith)) in
    let r = drop (at + length xs) d in
    let whole : put d at xs ≡ p ++ r = sym (append_assoc (take at d) xs r) in
    let front : take (at + length xs) (p ++ r) ≡ p = take_at p r (at + length xs) n in
    let back : drop (at + length xs + length ys) (p ++ r) ≡ drop (at + length (xs ++ ys)) d =
    ap (λ k. drop (k + length ys) (p ++ r)) (sym n) ∙ drop-append-add p r (length ys) ∙ drop-drop (length ys) (at + length xs) d
    ∙ ap (λ k. drop k d) (add_assoc at (length xs) (length ys) ∙ ap (λ k. at + k) (sym (length-append xs ys))) in
    ap (λ w. take (at + length xs) w ++ (ys ++ drop (at + length xs + length ys) w)) whole
    ∙ ap₂ (λ a b. a ++ (ys ++ b)) front back
    ∙ append_assoc (take at d) xs (ys ++ drop (at + length (xs ++ ys)) d)
    ∙ ap (λ w. take at d ++ w) (sym (append_assoc xs ys (drop (at + length (xs ++ ys)) d)))

pub put_cons : (d : List ℕ) (at b : ℕ) (xs : List ℕ) → at + suc (length xs) ≤ length d → put (set d at b) (at + 1) xs ≡ put d at (b ∷ xs)
put_cons d at b xs h = ap (λ x. put x (at + 1) xs) (put_one d at b (omega arith)) ∙ put_put d at (b ∷ []) xs (omega arith)

-- the last byte first, then those before it
pub put_last : (d : List ℕ) (at b : ℕ) (xs : List ℕ) → at + length xs < length d → put (set d (at + length xs) b) at xs ≡ put d at (xs ++ (b ∷ []))
put_last d at b xs h =
    let p = at + length xs in
    let here : drop p (set d p b) ≡ b ∷ drop (suc p) d = ap (drop p) (set_split d p b h) ∙ drop_at (take p d) (b ∷ drop (suc p) d) p (length-take-le p d (omega arith)) in
    let past : suc p ≡ at + length (xs ++ (b ∷ [])) = simp length-append (omega arith) in
    ap₂ (λ u v. u ++ (xs ++ v)) (take-set-le at d p b (omega arith)) (here ∙ ap (λ k. b ∷ drop k d) past)
    ∙ ap (λ w. take at d ++ w) (sym (append_assoc xs (b ∷ []) (drop (at + length (xs ++ (b ∷ []))) d)))

-- ---- the digits of a number up to i: one alone, and the last one before those of the tenth part

pub put_digit : (d : List ℕ) (at n : ℕ) {i : ℕ} → n < 10 → i + 1 ≡ at + length (digits n) → i < length d → set d i (zero_digit + n) ≡ put d at (digits n)
put_digit d at n {i} h e l =
    let k = length_one n h in
    let same : i ≡ at = omega arith in
    put_one d i (zero_digit + n) l ∙ ap₂ (put d) same (sym (digits_one n h))

pub put_last_digit :
    (d : List ℕ) (at n : ℕ) {i : ℕ} → 10 ≤ n → i + 1 ≡ at + length (digits n) → i < length d
    → put (set d i (zero_digit + n % 10)) at (digits (n / 10)) ≡ put d at (digits n)
put_last_digit d at n {i} h e l =
    let k = length_step n h in
    let same : i ≡ at + length (digits (n / 10)) = omega arith in
    ap (λ j. put (set d j (zero_digit + n % 10)) at (digits (n / 10))) same
    ∙ put_last d at (zero_digit + n % 10) (digits (n / 10)) (omega arith)
    ∙ ap (put d at) (sym (digits_step n h))

-- ---- digits written from the last one on

-- the digits of the rest end before i; once they are written too, those of n are
pub record Filling (d0 : List ℕ) (at n : ℕ) (d : List ℕ) (i rest : ℕ) : Type 0 where
  pub ends : at < i → i ≡ at + length (digits rest)
  pub more : at < i → put d at (digits rest) ≡ put d0 at (digits n)
  pub done : i ≤ at → d ≡ put d0 at (digits n)

pub fill_out : (d : List ℕ) (at n : ℕ) {i : ℕ} → i ≡ at + length (digits n) → Filling d at n d i n
fill_out d at n e =
    let s = length_some n in
    record { ends = λ _. e; more = λ _. refl; done = λ h. absurd (omega arith) }

module _ {d0 d : List ℕ} {at n i rest : ℕ} (g : Filling d0 at n d i rest) where
  pub filled : i ≤ at → d ≡ put d0 at (digits n)
  filled h = g.done h

  pub one_filled : at < i → i ≤ length d → Filling d0 at n (set d (i - 1) (zero_digit + rest % 10)) (i - 1) (rest / 10)
  one_filled h l = go (dec_lt rest 10)
    where
      go : Dec (rest < 10) → Filling d0 at n (set d (i - 1) (zero_digit + rest % 10)) (i - 1) (rest / 10)
      go (yes b) =
          let k = length_one rest b in
          let e = g.ends h in
          let m : rest % 10 ≡ rest = omega arith in
          record {
            ends = λ a. absurd (omega arith);
            more = λ a. absurd (omega arith);
            done = λ _. ap (λ x. set d (i - 1) (zero_digit + x)) m ∙ put_digit d at rest b (omega arith) (omega arith) ∙ g.more h;
          }
      go (no b) =
          let k = length_step rest (omega arith) in
          let s = length_some (rest / 10) in
          let e = g.ends h in
          record {
            ends = λ _. omega arith;
            more = λ _. put_last_digit d at rest (omega arith) (omega arith) (omega arith) ∙ g.more h;
            done = λ a. absurd (omega arith);
          }

-- ---- a writer's reply and what it leaves, with room and without

pub roomy :
    {d : List ℕ} {at : ℕ} {xs : List ℕ} {r : Option ℕ} {d' : List ℕ} → at + length xs ≤ length d → r ≡ Some (at + length xs) → d' ≡ put d at xs → Puts d at xs r d'
roomy {d} {at} {xs} h p q = record { reply = rw (le-leb (at + length xs) (length d) h) p; left = rw (le-leb (at + length xs) (length d) h) q }

pub short : {at : ℕ} {xs : List ℕ} {d : List ℕ} → length d < at + length xs → Puts d at xs None d
short {at} {xs} {d} h = record { reply = rw (lt-leb (at + length xs) (length d) h); left = rw (lt-leb (at + length xs) (length d) h) }

-- the same bytes otherwise said
pub puts_as : {d : List ℕ} {at : ℕ} {xs ys : List ℕ} {r : Option ℕ} {d' : List ℕ} → xs ≡ ys → Puts d at xs r d' → Puts d at ys r d'
puts_as {d} {at} {xs} {ys} {r} {d'} e p = rw (← e) p
