-- How long the numbers of an allowed line are: the whole line fits. Assumes nothing.
use mathlib.Core.Path.{◌≡◌, refl}
use mathlib.Core.Bool.{Bool, true, false, not, ◌||◌}
use mathlib.Core.List.{List, [], ◌∷◌, map}
use Prim.Native.Nat.{ℕ, suc, ◌*◌, ◌≤◌}
use native.Mathlib.Omega.{arith}
use lib.Dec.{eqb, leb}
use lib.IntN.{ℤ, pos, negsuc, nat_abs}
use lib.ListN.{length, length-append}
use borrow.Author.Tests.{leb-true, eqb-true, not-true}
use Rattle.words.specs.Choice.{if_true◌then◌else◌, within}
use Rattle.words.specs.Lists.{any}
use Rattle.words.specs.Text.{line_feed}
use Rattle.numbers.specs.Decimal.{shown}
use Rattle.numbers.proofs.Digits.{length_below}
use Rattle.numbers.specs.Signed.{is_i32, largest_i32}
use Rattle.facts.specs.Table.{fact_of, is_function, first_function, last_function}
use Rattle.facts.specs.declared.Place.{Place}
use Rattle.facts.specs.declared.Result.{Result}
use Rattle.lines.specs.Line.{K, O, M, Line, N, X, C, R, A, D, Z, states, is_allowed, is_thread, is_env, is_value, is_class, is_identity, is_sort, is_argument, is_made, is_zero, kind, threads, classes, largest, longest, most_handles, place_allows, capacity_allows, value_allows, result_allows}
use Rattle.lines.specs.Forms.{most_fields, form_of, letter_of, numbers_of}
use Rattle.lines.specs.Reading.{line_of}
use Rattle.lines.specs.Writing.{tabbed, written}
use Rattle.lines.proofs.Tests.{both, all3, all4, all5, all7, neither}
use Rattle.lines.proofs.Formed.{within_high, most_few}
use Rattle.lines.proofs.Numbered.{in_form_said, line_says}

-- no size is over the largest
abbrev pub Each : List ℤ → Type 0
Each [] = Unit
Each (n ∷ ns) = (nat_abs n ≤ largest) × Each ns

-- ---- the tests of a line

thread_fits : (t : ℕ) → is_thread t ≡ true → t ≤ largest
thread_fits t h = let k = within_high 1 threads t h in omega arith

function_fits : (f : ℕ) → is_function f ≡ true → f ≤ largest
function_fits f h = let k = within_high first_function last_function f h in omega arith

class_fits : (c : ℕ) → is_class c ≡ true → c ≤ largest
class_fits c h = let k = within_high 1 classes c h in omega arith

arguments_fit : (hs : List ℕ) → any (λ (h : ℕ). not (is_argument h)) hs ≡ false → Each (map pos hs)
arguments_fit [] h = tt
arguments_fit (x ∷ hs) h =
    let k = neither (not (is_argument x)) (any (λ (h : ℕ). not (is_argument h)) hs) h in
    let a : is_argument x ≡ true = passed (is_argument x) k.0 in
    (leb-true x largest (both (eqb (kind x) 1) (is_value x) a).1, arguments_fit hs k.1)
  where
    passed : (t : Bool) → not t ≡ false → t ≡ true
    passed true h = refl
    passed false h = let z : ◌≡◌ {A = ℕ} 0 1 = cc in absurd (omega arith)

place_fits : (p : Place) (v : ℕ) → place_allows p v ≡ true → v ≤ largest
place_fits Place.Unused v h = let k = eqb-true v 0 h in omega arith
place_fits Place.Handle v h = leb-true v largest h
place_fits Place.HandleOrNull v h = leb-true v largest h
place_fits Place.LocalOrNull v h = leb-true v largest h
place_fits Place.GlobalOrNull v h = leb-true v largest h
place_fits Place.WeakOrNull v h = leb-true v largest h
place_fits Place.Identity v h = leb-true v largest h
place_fits Place.Buffer v h = leb-true v largest h

i32_fits : (n : ℤ) → is_i32 n ≡ true → nat_abs n ≤ largest
i32_fits (pos n) h = let k = leb-true n largest_i32 h in omega arith
i32_fits (negsuc n) h = let k = leb-true n largest_i32 h in omega arith

zero_fits : (n : ℤ) → is_zero n ≡ true → nat_abs n ≤ largest
zero_fits (pos n) h = let k = eqb-true n 0 h in omega arith
zero_fits (negsuc n) h = let z : ◌≡◌ {A = ℕ} 0 1 = cc in absurd (omega arith)

capacity_fits : (f : ℕ) (n : ℤ) → capacity_allows f n ≡ true → nat_abs n ≤ largest
capacity_fits f n = go (eqb f 19 || eqb f 26)
  where
    go : (t : Bool) → (if_true t then is_i32 n else is_zero n) ≡ true → nat_abs n ≤ largest
    go true h = i32_fits n h
    go false h = zero_fits n h

value_fits : (test : ℕ → Bool) (n : ℤ) → value_allows test n ≡ true → nat_abs n ≤ largest
value_fits test (pos v) h = leb-true v largest (both (is_value v) (test v) h).0
value_fits test (negsuc v) h = let z : ◌≡◌ {A = ℕ} 0 1 = cc in absurd (omega arith)

result_fits : (k : Result) (n : ℤ) → result_allows k n ≡ true → nat_abs n ≤ largest
result_fits Result.Local n h = value_fits (is_made 1) n h
result_fits Result.Global n h = value_fits (is_made 2) n h
result_fits Result.Weak n h = value_fits (is_made 3) n h
result_fits Result.Identity n h = value_fits (is_made 0) n h
result_fits Result.Buffer n h = value_fits (λ v. true) n h
result_fits Result.Status n h = i32_fits n h
result_fits Result.Nothing n h = zero_fits n h

-- ---- every number of an allowed line

pub allowed_fits : (e : Line) → is_allowed e ≡ true → Each (numbers_of e)
allowed_fits (N t env hs) h =
    let k = all4 (is_thread t) (is_env env) (leb (length hs) most_handles) (not (any (λ (x : ℕ). not (is_argument x)) hs)) h in
    (thread_fits t k.0, (within_high 1 largest env k.1, arguments_fit hs (not-true (any (λ (x : ℕ). not (is_argument x)) hs) k.3)))
allowed_fits (X t r) h = let k = both (is_thread t) (is_value r) h in (thread_fits t k.0, (leb-true r largest k.1, tt))
allowed_fits (C t env f a b c n) h =
    let k = all7 (is_thread t) (is_env env) (is_function f) (place_allows (fact_of f).a a) (place_allows (fact_of f).b b) (place_allows (fact_of f).c c) (capacity_allows f n) h in (
      thread_fits t k.0,
      (
        within_high 1 largest env k.1,
        (
          function_fits f k.2,
          (
            place_fits (fact_of f).a a k.3,
            (
              place_fits (fact_of f).b b k.4,
              (
                place_fits (fact_of f).c c k.5,
                (
                  capacity_fits f n k.6,
                  tt,
                ),
              ),
            ),
          ),
        ),
      ),
    )
allowed_fits (R t f r p) h =
    let k = all4 (is_thread t) (is_function f) (result_allows (fact_of f).result r) (leb p 1) h in
    let q = leb-true p 1 k.3 in
    (thread_fits t k.0, (function_fits f k.1, (result_fits (fact_of f).result r k.2, (omega arith, tt))))
allowed_fits (A t env) h = let k = both (is_thread t) (is_env env) h in (thread_fits t k.0, (within_high 1 largest env k.1, tt))
allowed_fits (D t) h = (thread_fits t h, tt)
allowed_fits Z h = tt
allowed_fits (states (K c s)) h = let k = both (is_class c) (is_class s) h in (class_fits c k.0, (class_fits s k.1, tt))
allowed_fits (states (O t v c)) h =
    let k = all3 (is_thread t) (is_value v) (is_class c) h in
    (thread_fits t k.0, (leb-true v largest k.1, (class_fits c k.2, tt)))
allowed_fits (states (M x sort c static final)) h =
    let k = all5 (is_identity x) (is_sort sort) (is_class c) (leb static 1) (leb final 1) h in (
      within_high 1 largest x (both (within 1 largest x) (eqb (kind x) 0) k.0).0,
      (omega (arith, within_high 1 2 sort k.1), (class_fits c k.2, (omega (arith, leb-true static 1 k.3), (omega (arith, leb-true final 1 k.4), tt)))),
    )

pub few_numbers : (e : Line) → is_allowed e ≡ true → length (numbers_of e) ≤ most_fields
unfolding line_of
few_numbers e h =
    let f = form_of (letter_of e) in
    let k = in_form_said f (numbers_of e) e (line_says e h) in
    let l = within_high f.least f.most (length (numbers_of e)) k.count in
    omega (arith, most_few (letter_of e))

-- ---- lengths

length_shown : (n : ℤ) → nat_abs n ≤ largest → length (shown n) ≤ 21
length_shown (pos n) h = let k = length_below 19 n (omega arith) in omega arith
length_shown (negsuc n) h = let k = length_below 19 (suc n) (omega arith) in omega arith

length_tabbed : (ns : List ℤ) → Each ns → length (tabbed ns) ≤ 22 * length ns
unfolding tabbed
length_tabbed [] h = omega arith
length_tabbed (n ∷ ns) h =
    let a = length_shown n h.0 in
    let b = length-append (shown n) (tabbed ns) in
    let c = length_tabbed ns h.1 in
    omega arith

pub length_written : (e : Line) → is_allowed e ≡ true → length (written e) ≤ suc longest
unfolding written
length_written e h =
    let a = length_tabbed (numbers_of e) (allowed_fits e h) in
    let b = length-append (tabbed (numbers_of e)) (line_feed ∷ []) in
    let c = few_numbers e h in
    omega arith
