-- The event that the code makes of a line's numbers. Assumes nothing.
use mathlib.Core.Path.{◌≡◌, refl, ap, sym, subst, ◌∙◌}
use mathlib.Core.Bool.{Bool, true, false, not, true≢false}
use mathlib.Core.Logic.{◌≢◌}
use mathlib.Core.List.{List, [], ◌∷◌, map}
use Prim.Native.Nat.{ℕ, zero, suc, ◌+◌, ◌≤◌}
use Prim.Native.Char.{code}
use native.Mathlib.Omega.{arith}
use lib.Dec.{eqb, leb}
use lib.IntN.{ℤ, pos}
use lib.ListN.{length, get_or, take, length-take}
use borrow.Author.Tests.{ne_eqb, eqb-true, leb-true}
use Rattle.words.specs.Choice.{within}
use Rattle.facts.specs.Identities.{method, field}
use Rattle.words.specs.Lists.{any}
use Rattle.facts.specs.Table.{fact_of, is_function, first_function, last_function}
use Rattle.numbers.specs.Signed.{signed, is_i32}
use Rattle.lines.specs.Line.{K, O, M, Line, N, X, C, R, A, D, Z, states, is_allowed, is_thread, is_env, is_value, is_class, is_identity, is_sort, is_argument, place_allows, capacity_allows, result_allows, threads, classes, most_handles}
use Rattle.lines.specs.Forms.{most_fields, no_place, of_letter}
use Rattle.lines.specs.Reading.{says, refused, if_allowed, line_of}
use Rattle.lines.specs.Sizes.{signed_at, numbers_in, right_count, line_in, named}
use Rattle.lines.proofs.Tests.{both, all3, all4, all5, all7}
use Rattle.lines.proofs.Listed.{of_length}
use Rattle.lines.proofs.Formed.{within_low, within_high, within_one, no_count}
use Rattle.lines.proofs.Numbered.{enter_numbers}
use Rattle.lines.proofs.RangeLaws.{capacity_i32}

-- ---- the numbers that keep to 32 bits, all but the function

abbrev pub Narrow : Line → Type 0
Narrow (N t env hs) = t ≤ threads
Narrow (X t r) = t ≤ threads
Narrow (C t env f a b c n) = t ≤ threads
Narrow (R t f r p) = (t ≤ threads) × (p ≤ 1)
Narrow (A t env) = t ≤ threads
Narrow (D t) = t ≤ threads
Narrow Z = Unit
Narrow (states (K c s)) = (c ≤ classes) × (s ≤ classes)
Narrow (states (O t h c)) = (t ≤ threads) × (c ≤ classes)
Narrow (states (M x sort c static final)) = (sort ≤ field) × (c ≤ classes) × (static ≤ 1) × (final ≤ 1)

pub narrow : (e : Line) → is_allowed e ≡ true → Narrow e
narrow (N t env hs) h = within_high 1 threads t (all4 (is_thread t) (is_env env) (leb (length hs) most_handles) (not (any (λ (x : ℕ). not (is_argument x)) hs)) h).0
narrow (X t r) h = within_high 1 threads t (both (is_thread t) (is_value r) h).0
narrow (C t env f a b c n) h =
    within_high 1 threads t
    (all7 (is_thread t) (is_env env) (is_function f) (place_allows (fact_of f).a a) (place_allows (fact_of f).b b) (place_allows (fact_of f).c c) (capacity_allows f n) h).0
narrow (R t f r p) h =
    let k = all4 (is_thread t) (is_function f) (result_allows (fact_of f).result r) (leb p 1) h in
    (within_high 1 threads t k.0, leb-true p 1 k.3)
narrow (A t env) h = within_high 1 threads t (both (is_thread t) (is_env env) h).0
narrow (D t) h = within_high 1 threads t h
narrow Z h = tt
narrow (states (K c s)) h = let k = both (is_class c) (is_class s) h in (within_high 1 classes c k.0, within_high 1 classes s k.1)
narrow (states (O t v c)) h =
    let k = all3 (is_thread t) (is_value v) (is_class c) h in
    (within_high 1 threads t k.0, within_high 1 classes c k.2)
narrow (states (M x sort c static final)) h =
    let k = all5 (is_identity x) (is_sort sort) (is_class c) (leb static 1) (leb final 1) h in
    (within_high method field sort k.1, within_high 1 classes c k.2, leb-true static 1 k.3, leb-true final 1 k.4)

pub narrow_function : (f : ℕ) → is_function f ≡ true → f ≤ last_function
narrow_function f h = within_high first_function last_function f h

-- ---- capacity and status are signed 32-bit numbers

pub call_i32 : (t env f a b c : ℕ) (n : ℤ) → is_allowed (C t env f a b c n) ≡ true → is_i32 n ≡ true
call_i32 t env f a b c n h =
    capacity_i32 f n
    (all7 (is_thread t) (is_env env) (is_function f) (place_allows (fact_of f).a a) (place_allows (fact_of f).b b) (place_allows (fact_of f).c c) (capacity_allows f n) h).6

pub wrong_count : (b n : ℕ) (minus : Bool) (vs : List ℕ) → right_count b n ≡ false → refused 2 ≡ line_in b n minus vs
unfolding line_in
wrong_count b n minus vs h = rw h

-- ---- by the letter

-- no place below most-fields is signed
plain_at : (i : ℕ) (vs : List ℕ) → i + length vs ≤ most_fields → signed_at i no_place vs ≡ map pos vs
unfolding signed_at
plain_at i [] h = refl
plain_at i (v ∷ vs) h = rw (ne_eqb i no_place (λ e. omega arith)) (ap (λ (x : List ℤ). pos v ∷ x) (plain_at (suc i) vs (omega arith)))

-- n numbers at the front of vs are those of a line
abbrev Front : ℕ → ℕ → Bool → List ℕ → Line → Type 0
Front b n minus vs e = if_allowed e ≡ line_of b (numbers_in b minus (take n vs))

-- the line of a letter's numbers, by their sizes and the sign
abbrev pub enter_line : ℕ → List ℕ → Line
enter_line n vs = N (get_or vs 0 0) (get_or vs 1 0) (named n vs)

abbrev pub leave_line : Bool → List ℕ → Line
leave_line minus vs = X (get_or vs 0 0) (get_or vs 1 0)

abbrev pub call_line : Bool → List ℕ → Line
call_line minus vs = C (get_or vs 0 0) (get_or vs 1 0) (get_or vs 2 0) (get_or vs 3 0) (get_or vs 4 0) (get_or vs 5 0) (signed minus (get_or vs 6 0))

abbrev pub return_line : Bool → List ℕ → Line
return_line minus vs = R (get_or vs 0 0) (get_or vs 1 0) (signed minus (get_or vs 2 0)) (get_or vs 3 0)

abbrev pub attach_line : Bool → List ℕ → Line
attach_line minus vs = A (get_or vs 0 0) (get_or vs 1 0)

abbrev pub detach_line : Bool → List ℕ → Line
detach_line minus vs = D (get_or vs 0 0)

abbrev pub declare_line : Bool → List ℕ → Line
declare_line minus vs = states (K (get_or vs 0 0) (get_or vs 1 0))

abbrev pub state_line : Bool → List ℕ → Line
state_line minus vs = states (O (get_or vs 0 0) (get_or vs 1 0) (get_or vs 2 0))

abbrev pub identify_line : Bool → List ℕ → Line
identify_line minus vs = states (M (get_or vs 0 0) (get_or vs 1 0) (get_or vs 2 0) (get_or vs 3 0) (get_or vs 4 0))

enter_front : (n : ℕ) (minus : Bool) (vs : List ℕ) → length vs ≡ most_fields → within 2 most_fields n ≡ true
    → Front (code "N") n minus vs (enter_line n vs)
unfolding of_letter signed_at
enter_front (suc (suc n)) minus (t ∷ env ∷ vs) l c = go minus
  where
    few : length (take n vs) ≤ most_handles
    few = omega (arith, length-take n vs)

    same : if_allowed (N t env (take n vs)) ≡ line_of (code "N") (pos t ∷ pos env ∷ signed_at 2 no_place (take n vs))
    same = sym (ap (λ (xs : List ℤ). line_of (code "N") (pos t ∷ pos env ∷ xs)) (plain_at 2 (take n vs) (omega (arith, few))) ∙ enter_numbers t env (take n vs) few)

    go : (minus : Bool) → Front (code "N") (suc (suc n)) minus (t ∷ env ∷ vs) (N t env (take n vs))
    go true = same
    go false = same
enter_front (suc zero) minus vs l c = absurd (omega (arith, within_low 2 most_fields 1 c))
enter_front zero minus vs l c = absurd (omega (arith, within_low 2 most_fields 0 c))
enter_front (suc (suc n)) minus [] l c = absurd (omega arith)
enter_front (suc (suc n)) minus (t ∷ []) l c = absurd (omega arith)

leave_front : (minus : Bool) (vs : List ℕ) → length vs ≡ most_fields → Front (code "X") 2 minus vs (leave_line minus vs)
unfolding line_of of_letter signed_at
leave_front true = of_length 10 (λ vs. Front (code "X") 2 true vs (leave_line true vs)) (λ _ _ _ _ _ _ _ _ _ _. refl)
leave_front false = of_length 10 (λ vs. Front (code "X") 2 false vs (leave_line false vs)) (λ _ _ _ _ _ _ _ _ _ _. refl)

call_front : (minus : Bool) (vs : List ℕ) → length vs ≡ most_fields → Front (code "C") 7 minus vs (call_line minus vs)
unfolding line_of of_letter signed_at
call_front true = of_length 10 (λ vs. Front (code "C") 7 true vs (call_line true vs)) (λ _ _ _ _ _ _ _ _ _ _. refl)
call_front false = of_length 10 (λ vs. Front (code "C") 7 false vs (call_line false vs)) (λ _ _ _ _ _ _ _ _ _ _. refl)

return_front : (minus : Bool) (vs : List ℕ) → length vs ≡ most_fields → Front (code "R") 4 minus vs (return_line minus vs)
unfolding line_of of_letter signed_at
return_front true = of_length 10 (λ vs. Front (code "R") 4 true vs (return_line true vs)) (λ _ _ _ _ _ _ _ _ _ _. refl)
return_front false = of_length 10 (λ vs. Front (code "R") 4 false vs (return_line false vs)) (λ _ _ _ _ _ _ _ _ _ _. refl)

attach_front : (minus : Bool) (vs : List ℕ) → length vs ≡ most_fields → Front (code "A") 2 minus vs (attach_line minus vs)
unfolding line_of of_letter signed_at
attach_front true = of_length 10 (λ vs. Front (code "A") 2 true vs (attach_line true vs)) (λ _ _ _ _ _ _ _ _ _ _. refl)
attach_front false = of_length 10 (λ vs. Front (code "A") 2 false vs (attach_line false vs)) (λ _ _ _ _ _ _ _ _ _ _. refl)

detach_front : (minus : Bool) (vs : List ℕ) → length vs ≡ most_fields → Front (code "D") 1 minus vs (detach_line minus vs)
unfolding line_of of_letter signed_at
detach_front true = of_length 10 (λ vs. Front (code "D") 1 true vs (detach_line true vs)) (λ _ _ _ _ _ _ _ _ _ _. refl)
detach_front false = of_length 10 (λ vs. Front (code "D") 1 false vs (detach_line false vs)) (λ _ _ _ _ _ _ _ _ _ _. refl)

declare_front : (minus : Bool) (vs : List ℕ) → length vs ≡ most_fields → Front (code "K") 2 minus vs (declare_line minus vs)
unfolding line_of of_letter signed_at
declare_front true = of_length 10 (λ vs. Front (code "K") 2 true vs (declare_line true vs)) (λ _ _ _ _ _ _ _ _ _ _. refl)
declare_front false = of_length 10 (λ vs. Front (code "K") 2 false vs (declare_line false vs)) (λ _ _ _ _ _ _ _ _ _ _. refl)

state_front : (minus : Bool) (vs : List ℕ) → length vs ≡ most_fields → Front (code "O") 3 minus vs (state_line minus vs)
unfolding line_of of_letter signed_at
state_front true = of_length 10 (λ vs. Front (code "O") 3 true vs (state_line true vs)) (λ _ _ _ _ _ _ _ _ _ _. refl)
state_front false = of_length 10 (λ vs. Front (code "O") 3 false vs (state_line false vs)) (λ _ _ _ _ _ _ _ _ _ _. refl)

identify_front : (minus : Bool) (vs : List ℕ) → length vs ≡ most_fields → Front (code "M") 5 minus vs (identify_line minus vs)
unfolding line_of of_letter signed_at
identify_front true = of_length 10 (λ vs. Front (code "M") 5 true vs (identify_line true vs)) (λ _ _ _ _ _ _ _ _ _ _. refl)
identify_front false = of_length 10 (λ vs. Front (code "M") 5 false vs (identify_line false vs)) (λ _ _ _ _ _ _ _ _ _ _. refl)

end_front : (minus : Bool) (vs : List ℕ) → Front (code "Z") 0 minus vs Z
unfolding line_of of_letter signed_at
end_front true vs = refl
end_front false vs = refl

-- ---- the code's letter and count

module _ (b n : ℕ) (minus : Bool) (vs : List ℕ) (ten : length vs ≡ most_fields) (right : right_count b n ≡ true) where
  fronted : (e : Line) → Front b n minus vs e → if_allowed e ≡ line_in b n minus vs
  unfolding line_in
  fronted e f = rw right f

  right_at : {x : ℕ} → b ≡ x → right_count x n ≡ true
  right_at e = ap (λ (y : ℕ). right_count y n) (sym e) ∙ right

  -- a letter with one count
  one_count : (x k : ℕ) (e : Line) → b ≡ x → n ≡ k → Front x k minus vs e → if_allowed e ≡ line_in b n minus vs
  one_count x k e p q f = fronted e (subst (λ (y : ℕ). Front y n minus vs e) (sym p) (subst (λ (i : ℕ). Front x i minus vs e) (sym q) f))

  pub enter_right : b ≡ code "N" → within 2 most_fields n ≡ true
  unfolding of_letter
  enter_right e = right_at e

  pub enter_in : b ≡ code "N" → if_allowed (enter_line n vs) ≡ line_in b n minus vs
  enter_in e = fronted (enter_line n vs) (subst (λ (y : ℕ). Front y n minus vs (enter_line n vs)) (sym e) (enter_front n minus vs ten (enter_right e)))

  pub leave_in : b ≡ code "X" → if_allowed (leave_line minus vs) ≡ line_in b n minus vs
  unfolding of_letter
  leave_in e = one_count (code "X") 2 (leave_line minus vs) e (within_one 2 n (right_at e)) (leave_front minus vs ten)

  pub call_in : b ≡ code "C" → if_allowed (call_line minus vs) ≡ line_in b n minus vs
  unfolding of_letter
  call_in e = one_count (code "C") 7 (call_line minus vs) e (within_one 7 n (right_at e)) (call_front minus vs ten)

  pub return_in : b ≡ code "R" → if_allowed (return_line minus vs) ≡ line_in b n minus vs
  unfolding of_letter
  return_in e = one_count (code "R") 4 (return_line minus vs) e (within_one 4 n (right_at e)) (return_front minus vs ten)

  pub attach_in : b ≡ code "A" → if_allowed (attach_line minus vs) ≡ line_in b n minus vs
  unfolding of_letter
  attach_in e = one_count (code "A") 2 (attach_line minus vs) e (within_one 2 n (right_at e)) (attach_front minus vs ten)

  pub detach_in : b ≡ code "D" → if_allowed (detach_line minus vs) ≡ line_in b n minus vs
  unfolding of_letter
  detach_in e = one_count (code "D") 1 (detach_line minus vs) e (within_one 1 n (right_at e)) (detach_front minus vs ten)

  pub declare_in : b ≡ code "K" → if_allowed (declare_line minus vs) ≡ line_in b n minus vs
  unfolding of_letter
  declare_in e = one_count (code "K") 2 (declare_line minus vs) e (within_one 2 n (right_at e)) (declare_front minus vs ten)

  pub state_in : b ≡ code "O" → if_allowed (state_line minus vs) ≡ line_in b n minus vs
  unfolding of_letter
  state_in e = one_count (code "O") 3 (state_line minus vs) e (within_one 3 n (right_at e)) (state_front minus vs ten)

  pub identify_in : b ≡ code "M" → if_allowed (identify_line minus vs) ≡ line_in b n minus vs
  unfolding of_letter
  identify_in e = one_count (code "M") 5 (identify_line minus vs) e (within_one 5 n (right_at e)) (identify_front minus vs ten)

  -- no other letter has a count
  pub end_in : b ≢ code "N" → b ≢ code "X" → b ≢ code "C" → b ≢ code "R" → b ≢ code "A" → b ≢ code "D" → b ≢ code "K" → b ≢ code "O" → b ≢ code "M" → says Z ≡ line_in b n minus vs
  unfolding of_letter
  end_in hn hx hc hr ha hd hk ho hm = go (eqb b (code "Z")) refl
    where
      go : (t : Bool) → eqb b (code "Z") ≡ t → says Z ≡ line_in b n minus vs
      go true e = let p = eqb-true b (code "Z") e in one_count (code "Z") 0 Z p (within_one 0 n (right_at p)) (end_front minus vs)
      go false e = absurd (true≢false (sym right ∙ rw (ne_eqb b 78 hn, ne_eqb b 88 hx, ne_eqb b 67 hc, ne_eqb b 82 hr, ne_eqb b 65 ha, ne_eqb b 68 hd, ne_eqb b 75 hk, ne_eqb b 79 ho, ne_eqb b 77 hm, e) (no_count n)))
