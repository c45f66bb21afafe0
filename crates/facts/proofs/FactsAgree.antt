-- Document 01's table of functions, its marks and its buffer families, and document 02's places with a class and its identities, agree with each other, for every number. Assumes nothing.
use mathlib.Core.Path.{◌≡◌, refl, ap, sym, ◌∙◌}
use mathlib.Core.Bool.{Bool, true, false, not, ◌||◌, false≢true}
use mathlib.Core.List.{List, [], ◌∷◌}
use mathlib.Core.Logic.{◌≢◌}
use Prim.Native.Nat.{ℕ, zero, suc, ◌<◌}
use Prim.Native.Char.{code}
use native.Mathlib.Omega.{arith}
use native.Mathlib.Decide.{dec_lt}
use lib.Dec.{ltb, eqb}
use borrow.Author.Tests.{eqb-true, eq-eqb}
use Rattle.words.specs.Choice.{one}
use Rattle.words.specs.Lists.{any, count}
use Rattle.facts.specs.Table.{lists, first_function, last_function, is_function, place, Row, table, fact_of, is_allowed_pending, is_allowed_critical, in_pair, families, family, is_critical}
use Rattle.facts.specs.Results.{is_buffer_result, is_buffer_place, is_identity_place}
use Rattle.facts.specs.Classes.{no_class, class_a, class_b}
use Rattle.facts.specs.Identities.{wanted_of, writes_field}
use Rattle.facts.specs.Letters.{place_letter, no_letter, wanted_letter, no_family}
use Rattle.facts.specs.declared.Place.{Place}
use Rattle.facts.proofs.Letters.{place_back, one_back}
use Rattle.facts.proofs.Each.{each, each_at}
use Rattle.facts.proofs.Outside.{how_many, above_last, gets, releases, no_fact_outside, no_row_outside, not_pending_outside, not_critical_outside, no_family_outside, no_pair_outside, no_getter_outside, no_releaser_outside, no_class_a_outside, no_class_b_outside, nothing_wanted_outside, writes_nothing_outside}

-- ---- a test computed once over the functions holds for each

abbrev tested : (ℕ → Bool) → Bool
tested t = each t (suc last_function)

-- the functions, and outside of them
by_functions : (t : ℕ → Bool) → tested t ≡ true → ((f : ℕ) → is_function f ≡ false → t f ≡ true) → (f : ℕ) → t f ≡ true
by_functions t h out f = go (dec_lt f (suc last_function))
  where
    go : Dec (f < suc last_function) → t f ≡ true
    go (yes l) = each_at t (suc last_function) f h l
    go (no l) = out f (above_last f (omega arith))

-- two numbers that a computed test finds equal at each function, and that are known outside
same_numbers : (a b : ℕ → ℕ) → tested (λ f. eqb (a f) (b f)) ≡ true → ((f : ℕ) → is_function f ≡ false → a f ≡ b f) → (f : ℕ) → a f ≡ b f
same_numbers a b h out f = eqb-true (a f) (b f) (by_functions (λ f. eqb (a f) (b f)) h (λ f e. eq-eqb (a f) (b f) (out f e)) f)

same_tests : (a b : ℕ → Bool) → tested (λ f. eqb (one (a f)) (one (b f))) ≡ true → ((f : ℕ) → is_function f ≡ false → a f ≡ b f) → (f : ℕ) → a f ≡ b f
same_tests a b h out f = one_back (a f) (b f) (same_numbers (λ f. one (a f)) (λ f. one (b f)) h (λ f e. ap one (out f e)) f)

-- ---- rows

abbrev pub rows_with : ℕ → ℕ
rows_with f = count (λ (r : Row). lists r.numbers f) table

-- each of 4 to 232 stands in one row of the table, and no other number in any
pub one_row_each : (f : ℕ) → rows_with f ≡ one (is_function f)
unfolding table
one_row_each = same_numbers rows_with (λ f. one (is_function f)) refl (λ f e. no_row_outside f e ∙ sym (ap one e))

-- ---- marks

abbrev numbers : ℕ → ℕ → List ℕ
numbers zero lo = []
numbers (suc n) lo = lo ∷ numbers n (suc lo)

-- 4 to 232
abbrev pub functions : List ℕ
functions = numbers how_many first_function

-- 22 functions are allowed with an exception pending, and no other number is
pub pending_count : count is_allowed_pending functions ≡ 22
unfolding is_allowed_pending
pending_count = refl

pub pending_are_functions : (f : ℕ) → is_allowed_pending f ≡ true → is_function f ≡ true
pending_are_functions f h = go (is_function f) refl
  where
    go : (t : Bool) → is_function f ≡ t → t ≡ true
    go true e = refl
    go false e = absurd (false≢true (sym (not_pending_outside f e) ∙ h))

-- ---- buffers

-- a buffer is got by the first function of a pair
pub buffers_got : (f : ℕ) → is_buffer_result (fact_of f).result ≡ any (gets f) families
unfolding table fact_of
buffers_got =
    same_tests (λ f. is_buffer_result (fact_of f).result) (λ f. any (gets f) families) refl
    (λ f e. ap (λ x. is_buffer_result x.result) (no_fact_outside f e) ∙ sym (no_getter_outside f e))

-- and released, at place b, by the second
pub buffers_released : (f : ℕ) → is_buffer_place (fact_of f).b ≡ any (releases f) families
unfolding table fact_of
buffers_released =
    same_tests (λ f. is_buffer_place (fact_of f).b) (λ f. any (releases f) families) refl
    (λ f e. ap (λ x. is_buffer_place x.b) (no_fact_outside f e) ∙ sym (no_releaser_outside f e))

-- no place but b is a buffer's
pub buffers_at_b : (f : ℕ) → (is_buffer_place (fact_of f).a || is_buffer_place (fact_of f).c) ≡ false
unfolding table fact_of
buffers_at_b =
    same_tests (λ f. is_buffer_place (fact_of f).a || is_buffer_place (fact_of f).c) (λ f. false) refl
    (λ f e. ap (λ x. is_buffer_place x.a || is_buffer_place x.c) (no_fact_outside f e))

-- ---- families

-- a function stands in one pair at most, and in one exactly where it has a family
pub one_family_each : (f : ℕ) → count (in_pair f) families ≡ one (ltb (family f) no_family)
unfolding family
one_family_each =
    same_numbers (λ f. count (in_pair f) families) (λ f. one (ltb (family f) no_family)) refl
    (λ f e. no_pair_outside f e ∙ sym (ap (λ k. one (ltb k no_family)) (no_family_outside f e)))

-- the critical families are those of 222 to 225
pub critical_families : (f : ℕ) → is_critical (family f) ≡ is_allowed_critical f
unfolding family is_critical is_allowed_critical
critical_families =
    same_tests (λ f. is_critical (family f)) is_allowed_critical refl
    (λ f e. ap is_critical (no_family_outside f e) ∙ sym (not_critical_outside f e))

-- ---- classes

-- a place whose class is fixed is a handle's, and never null
abbrev has_handle : ℕ → Place → Bool
has_handle class p = eqb class no_class || eqb (place_letter p) (code "r")

handle_there : (class : ℕ) (p : Place) → has_handle class p ≡ true → class ≢ no_class → p ≡ Place.Handle
handle_there class p h some = go (eqb class no_class) refl h
  where
    go : (q : Bool) → eqb class no_class ≡ q → (q || eqb (place_letter p) (code "r")) ≡ true → p ≡ Place.Handle
    go true e k = absurd (some (eqb-true class no_class e))
    go false e k = sym (place_back p) ∙ ap place (eqb-true (place_letter p) (code "r") k)

pub class_a_handles : (f : ℕ) → class_a f ≢ no_class → (fact_of f).a ≡ Place.Handle
unfolding table fact_of class_a
class_a_handles f =
    handle_there (class_a f) (fact_of f).a (by_functions (λ f. has_handle (class_a f) (fact_of f).a) refl (λ f e. rw (no_class_a_outside f e)) f)

pub class_b_handles : (f : ℕ) → class_b f ≢ no_class → (fact_of f).b ≡ Place.Handle
unfolding table fact_of class_b
class_b_handles f =
    handle_there (class_b f) (fact_of f).b (by_functions (λ f. has_handle (class_b f) (fact_of f).b) refl (λ f e. rw (no_class_b_outside f e)) f)

-- ---- identities

-- a function is handed an identity exactly where one is wanted
abbrev has_identity : ℕ → Bool
has_identity f = is_identity_place (fact_of f).a || is_identity_place (fact_of f).b || is_identity_place (fact_of f).c

pub identities_wanted : (f : ℕ) → has_identity f ≡ not (eqb (wanted_letter (wanted_of f)) no_letter)
unfolding table fact_of wanted_of
identities_wanted =
    same_tests has_identity (λ f. not (eqb (wanted_letter (wanted_of f)) no_letter)) refl
    (λ f e. ap (λ x. is_identity_place x.a || is_identity_place x.b || is_identity_place x.c) (no_fact_outside f e) ∙ sym (ap (λ w. not (eqb (wanted_letter w) no_letter)) (nothing_wanted_outside f e)))

-- what writes wants a field
abbrev field_wanted : ℕ → Bool
field_wanted f = eqb (wanted_letter (wanted_of f)) (code "f") || eqb (wanted_letter (wanted_of f)) (code "F")

pub written_are_fields : (f : ℕ) → (not (writes_field f) || field_wanted f) ≡ true
unfolding wanted_of writes_field
written_are_fields =
    by_functions (λ f. not (writes_field f) || field_wanted f) refl (λ f e. rw (writes_nothing_outside f e) refl)
