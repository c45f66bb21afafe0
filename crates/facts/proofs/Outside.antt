-- A number that is no function stands in no row, no list of marks and no family, and wants no identity. Assumes nothing.
use mathlib.Core.Path.{◌≡◌, refl, ap, sym, ◌∙◌}
use mathlib.Core.Bool.{Bool, true, false, ◌&&◌, ◌||◌, false≢true}
use mathlib.Core.List.{List, [], ◌∷◌}
use Prim.Native.Nat.{ℕ, suc, ◌-◌, ◌<◌}
use native.Mathlib.Omega.{arith}
use lib.Dec.{leb, eqb}
use lib.ListN.{length}
use borrow.Author.Tests.{le-leb, lt-leb, leb-true, eqb-true}
use Rattle.words.specs.Choice.{within}
use Rattle.words.specs.Lists.{any, count, place_of}
use Rattle.facts.specs.Table.{Span, only, ◌to◌, in_span, lists, first_function, last_function, is_function, Row, table, no_fact, find, fact_of, allowed_pending, is_allowed_pending, is_allowed_critical, Pair, ◌released_by◌, in_pair, families, family}
use Rattle.facts.specs.Classes.{no_class, class_a, class_b}
use Rattle.facts.specs.Identities.{wanted_of, writes_field}
use Rattle.facts.specs.Letters.{no_family}
use Rattle.facts.specs.declared.identities.Wanted.TheVariants as Wanted

-- ---- tests

pub both_true : (a b : Bool) → (a && b) ≡ true → (a ≡ true) × (b ≡ true)
both_true true b h = (refl, h)
both_true false b h = absurd (false≢true h)

both_here : {a b : Bool} → a ≡ true → b ≡ true → (a && b) ≡ true
both_here {a} {b} p q = rw p q

either_false : {a b : Bool} → a ≡ false → b ≡ false → (a || b) ≡ false
either_false {a} {b} p q = rw p q

false_by : (t : Bool) → (t ≡ true → ⊥) → t ≡ false
false_by true h = absurd (h refl)
false_by false h = refl

-- so many functions there are
abbrev pub how_many : ℕ
how_many = suc last_function - first_function

-- ---- lists whose elements all pass one test, and so fail another

abbrev all_of : {A : Type 0} → (A → Bool) → List A → Bool
all_of p [] = true
all_of p (x ∷ xs) = p x && all_of p xs

module _ {A : Type 0} (p t : A → Bool) (fails : (x : A) → p x ≡ true → t x ≡ false) where
  any_none : (xs : List A) → all_of p xs ≡ true → any t xs ≡ false
  any_none [] h = refl
  any_none (x ∷ xs) h = let k = both_true (p x) (all_of p xs) h in either_false (fails x k.0) (any_none xs k.1)

  count_none : (xs : List A) → all_of p xs ≡ true → count t xs ≡ 0
  count_none [] h = refl
  count_none (x ∷ xs) h = let k = both_true (p x) (all_of p xs) h in rw (fails x k.0) (count_none xs k.1)

  place_none : (xs : List A) → all_of p xs ≡ true → place_of t xs ≡ length xs
  place_none [] h = refl
  place_none (x ∷ xs) h = let k = both_true (p x) (all_of p xs) h in rw (fails x k.0) (ap suc (place_none xs k.1))

-- ---- spans, rows and pairs of functions alone

abbrev of_functions : Span → Bool
of_functions (only n) = is_function n
of_functions (lo to hi) = leb first_function lo && leb hi last_function

abbrev row_of_functions : Row → Bool
row_of_functions r = all_of of_functions r.numbers

abbrev pair_of_functions : Pair → Bool
pair_of_functions (get released_by release) = is_function get && is_function release

-- f is the first of a pair, or the second
abbrev pub gets : ℕ → Pair → Bool
gets f (get released_by release) = eqb f get

abbrev pub releases : ℕ → Pair → Bool
releases f (get released_by release) = eqb f release

module _ (f : ℕ) (none : is_function f ≡ false) where
  other : (n : ℕ) → is_function n ≡ true → eqb f n ≡ false
  other n h = false_by (eqb f n) (λ e. false≢true (sym none ∙ ap is_function (eqb-true f n e) ∙ h))

  not_in_span : (x : Span) → of_functions x ≡ true → in_span f x ≡ false
  not_in_span (only n) h = other n h
  not_in_span (lo to hi) h =
      let p = both_true (leb first_function lo) (leb hi last_function) h in
      let a = leb-true first_function lo p.0 in
      let b = leb-true hi last_function p.1 in
      false_by
      (within lo hi f)
      (λ w.
      let q = both_true (leb lo f) (leb f hi) w in
      let c = leb-true lo f q.0 in
      let d = leb-true f hi q.1 in
      false≢true (sym none ∙ both_here (le-leb first_function f (omega arith)) (le-leb f last_function (omega arith))))

  not_listed : (xs : List Span) → all_of of_functions xs ≡ true → lists xs f ≡ false
  not_listed = any_none of_functions (in_span f) not_in_span

  not_found : (xs : List Row) → all_of row_of_functions xs ≡ true → find f xs ≡ no_fact
  not_found [] h = refl
  not_found (x ∷ xs) h =
      let p = both_true (row_of_functions x) (all_of row_of_functions xs) h in
      rw (not_listed x.numbers p.0) (not_found xs p.1)

  not_first : (x : Pair) → pair_of_functions x ≡ true → gets f x ≡ false
  not_first (get released_by release) h = other get (both_true (is_function get) (is_function release) h).0

  not_second : (x : Pair) → pair_of_functions x ≡ true → releases f x ≡ false
  not_second (get released_by release) h = other release (both_true (is_function get) (is_function release) h).1

  not_in_pair : (x : Pair) → pair_of_functions x ≡ true → in_pair f x ≡ false
  not_in_pair (get released_by release) h = either_false (not_first (get released_by release) h) (not_second (get released_by release) h)

  -- ---- the tables of document 01, each tested once

  pub no_fact_outside : fact_of f ≡ no_fact
  unfolding fact_of table
  no_fact_outside = not_found table refl

  pub no_row_outside : count (λ (r : Row). lists r.numbers f) table ≡ 0
  unfolding table
  no_row_outside = count_none row_of_functions (λ (r : Row). lists r.numbers f) (λ r. not_listed r.numbers) table refl

  pub not_pending_outside : is_allowed_pending f ≡ false
  unfolding is_allowed_pending
  not_pending_outside = not_listed allowed_pending refl

  pub not_critical_outside : is_allowed_critical f ≡ false
  unfolding is_allowed_critical
  not_critical_outside = not_listed (222 to 225 ∷ []) refl

  pub no_family_outside : family f ≡ no_family
  unfolding family
  no_family_outside = place_none pair_of_functions (in_pair f) not_in_pair families refl

  pub no_pair_outside : count (in_pair f) families ≡ 0
  no_pair_outside = count_none pair_of_functions (in_pair f) not_in_pair families refl

  pub no_getter_outside : any (gets f) families ≡ false
  no_getter_outside = any_none pair_of_functions (gets f) not_first families refl

  pub no_releaser_outside : any (releases f) families ≡ false
  no_releaser_outside = any_none pair_of_functions (releases f) not_second families refl

  pub no_class_a_outside : class_a f ≡ no_class
  unfolding class_a
  no_class_a_outside =
      rw (
        not_listed (9 to 12 ∷ only 14 ∷ 27 to 30 ∷ only 33 ∷ only 94 ∷ 113 to 162 ∷ only 172 ∷ only 215 ∷ only 216 ∷ []) refl,
        not_listed (164 to 166 ∷ 168 to 170 ∷ only 220 ∷ only 221 ∷ only 224 ∷ only 225 ∷ []) refl,
        not_listed (only 13 ∷ []) refl,
      )

  pub no_class_b_outside : class_b f ≡ no_class
  unfolding class_b
  no_class_b_outside = rw (not_listed (only 11 ∷ only 32 ∷ 64 to 93 ∷ []) refl)

  pub nothing_wanted_outside : wanted_of f ≡ Wanted.Nothing
  unfolding wanted_of
  nothing_wanted_outside =
      rw (
        not_listed (28 to 30 ∷ 34 to 93 ∷ []) refl,
        not_listed (114 to 143 ∷ []) refl,
        not_listed (95 to 112 ∷ []) refl,
        not_listed (145 to 162 ∷ []) refl,
        not_listed (only 9 ∷ []) refl,
        not_listed (only 12 ∷ []) refl,
      )

  pub writes_nothing_outside : writes_field f ≡ false
  unfolding writes_field
  writes_nothing_outside = not_listed (104 to 112 ∷ 154 to 162 ∷ []) refl

pub above_last : (f : ℕ) → last_function < f → is_function f ≡ false
above_last f h = rw (le-leb first_function f (omega arith)) (lt-leb f last_function h)
