-- The rule that a value breaks at a place, by the tests that the code makes. Assumes nothing.
use Prim.Native.Nat.{ℕ, ◌%◌}
use mathlib.Core.Path.{◌≡◌, refl, sym, ap, ◌∙◌}
use mathlib.Core.Bool.{Bool, true, false, not}
use Rattle.std.specs.Prelude.{Option, None, Some}
use borrow.Author.Tests.{eq-eqb, ne_eqb, not-true, not-false}
use Rattle.words.specs.Choice.{if_true◌then◌else◌}
use Rattle.facts.specs.Results.{is_handle_place, is_identity_place}
use Rattle.facts.specs.declared.Place.{Place}
use Rattle.history.specs.Breaches.{handle_rule, kind_rule, place_rule}

module _ (h : ℕ) (there fits : Bool) where
  -- a nonzero identity in a handle place
  pub identity_there : h % 4 ≡ 0 → Some 4 ≡ handle_rule h there fits
  unfolding handle_rule
  identity_there e = rw (eq-eqb (h % 4) 0 e) refl

  pub handle_fits : (h % 4 ≡ 0 → ⊥) → there ≡ true → fits ≡ true → None ≡ handle_rule h there fits
  unfolding handle_rule
  handle_fits z y f = rw (ne_eqb (h % 4) 0 z, y, f) refl

  pub wrong_class : (h % 4 ≡ 0 → ⊥) → there ≡ true → fits ≡ false → Some 4 ≡ handle_rule h there fits
  unfolding handle_rule
  wrong_class z y f = rw (ne_eqb (h % 4) 0 z, y, f) refl

  pub local_dead : (h % 4 ≡ 0 → ⊥) → there ≡ false → h % 4 ≡ 1 → Some 11 ≡ handle_rule h there fits
  unfolding handle_rule
  local_dead z y e = rw (ne_eqb (h % 4) 0 z, eq-eqb (h % 4) 1 e, y) refl

  pub shared_dead : (h % 4 ≡ 0 → ⊥) → there ≡ false → (h % 4 ≡ 1 → ⊥) → Some 10 ≡ handle_rule h there fits
  unfolding handle_rule
  shared_dead z y e = rw (ne_eqb (h % 4) 0 z, ne_eqb (h % 4) 1 e, y) refl

  pub null_kind : (k : ℕ) → h ≡ 0 → None ≡ kind_rule k h there fits
  unfolding kind_rule
  null_kind k e = rw (eq-eqb h 0 e) refl

  pub right_kind : (k : ℕ) (r : Option ℕ) → (h ≡ 0 → ⊥) → h % 4 ≡ k → r ≡ handle_rule h there fits → r ≡ kind_rule k h there fits
  unfolding kind_rule
  right_kind k r z e q = rw (ne_eqb h 0 z, eq-eqb (h % 4) k e) q

  pub other_kind : (k : ℕ) → (h ≡ 0 → ⊥) → (h % 4 ≡ k → ⊥) → Some 4 ≡ kind_rule k h there fits
  unfolding kind_rule
  other_kind k z e = rw (ne_eqb h 0 z, ne_eqb (h % 4) k e) refl

  pub null_or_handle : h ≡ 0 → None ≡ place_rule Place.HandleOrNull h there fits
  unfolding place_rule
  null_or_handle e = rw (eq-eqb h 0 e) refl

  pub handle_or_null : (r : Option ℕ) → (h ≡ 0 → ⊥) → r ≡ handle_rule h there fits → r ≡ place_rule Place.HandleOrNull h there fits
  unfolding place_rule
  handle_or_null r z q = rw (ne_eqb h 0 z) q

  pub null_handle : h ≡ 0 → Some 7 ≡ place_rule Place.Handle h there fits
  unfolding place_rule
  null_handle e = rw (eq-eqb h 0 e) refl

  pub some_handle : (r : Option ℕ) → (h ≡ 0 → ⊥) → r ≡ handle_rule h there fits → r ≡ place_rule Place.Handle h there fits
  unfolding place_rule
  some_handle r z q = rw (ne_eqb h 0 z) q

  pub null_buffer : h ≡ 0 → Some 7 ≡ place_rule Place.Buffer h there fits
  unfolding place_rule
  null_buffer e = rw (eq-eqb h 0 e) refl

  pub buffer_out : (h ≡ 0 → ⊥) → there ≡ true → None ≡ place_rule Place.Buffer h there fits
  unfolding place_rule
  buffer_out z y = rw (ne_eqb h 0 z, y) refl

  pub buffer_not_out : (h ≡ 0 → ⊥) → there ≡ false → Some 8 ≡ place_rule Place.Buffer h there fits
  unfolding place_rule
  buffer_not_out z y = rw (ne_eqb h 0 z, y) refl

  pub null_identity : h ≡ 0 → Some 7 ≡ place_rule Place.Identity h there fits
  unfolding place_rule
  null_identity e = rw (eq-eqb h 0 e) refl

  pub not_wanted : (h ≡ 0 → ⊥) → h % 4 ≡ 0 → not there ≡ true → Some 5 ≡ place_rule Place.Identity h there fits
  unfolding place_rule
  not_wanted z e n = rw (ne_eqb h 0 z, eq-eqb (h % 4) 0 e, not-true there n) refl

  pub right_identity : (h ≡ 0 → ⊥) → h % 4 ≡ 0 → not there ≡ false → fits ≡ true → None ≡ place_rule Place.Identity h there fits
  unfolding place_rule
  right_identity z e n f = rw (ne_eqb h 0 z, eq-eqb (h % 4) 0 e, not-false there n, f) refl

  pub final_written : (h ≡ 0 → ⊥) → h % 4 ≡ 0 → not there ≡ false → fits ≡ false → Some 6 ≡ place_rule Place.Identity h there fits
  unfolding place_rule
  final_written z e n f = rw (ne_eqb h 0 z, eq-eqb (h % 4) 0 e, not-false there n, f) refl

  pub handle_there : (h ≡ 0 → ⊥) → (h % 4 ≡ 0 → ⊥) → Some 4 ≡ place_rule Place.Identity h there fits
  unfolding place_rule
  handle_there z e = rw (ne_eqb h 0 z, ne_eqb (h % 4) 0 e) refl

  -- a class is judged only at a handle's place, what may be taken only at an identity's
  pub judged_there : (take : Bool) (p : Place)
      → place_rule p h there (if_true is_handle_place p then fits else if_true is_identity_place p then take else true) ≡ place_rule p h there (if_true is_identity_place p then take else fits)
  unfolding place_rule
  judged_there take Place.Handle = refl
  judged_there take Place.HandleOrNull = refl
  judged_there take Place.LocalOrNull = refl
  judged_there take Place.GlobalOrNull = refl
  judged_there take Place.WeakOrNull = refl
  judged_there take Place.Identity = refl
  judged_there take Place.Buffer = refl
  judged_there take Place.Unused = refl

  -- ---- by the kind of place

  pub at_place : (p q : Place) (r : Option ℕ) → p ≡ q → r ≡ place_rule q h there fits → r ≡ place_rule p h there fits
  at_place p q r e k = k ∙ ap (λ (x : Place). place_rule x h there fits) (sym e)

  pub at_kind : (p q : Place) (k : ℕ) (r : Option ℕ) → place_rule q h there fits ≡ kind_rule k h there fits → p ≡ q → r ≡ kind_rule k h there fits → r ≡ place_rule p h there fits
  at_kind p q k r d e y = at_place p q r e (y ∙ sym d)

  pub at_local : (p : Place) (r : Option ℕ) → p ≡ Place.LocalOrNull → r ≡ kind_rule 1 h there fits → r ≡ place_rule p h there fits
  unfolding place_rule
  at_local p r = at_kind p Place.LocalOrNull 1 r refl

  pub at_global : (p : Place) (r : Option ℕ) → p ≡ Place.GlobalOrNull → r ≡ kind_rule 2 h there fits → r ≡ place_rule p h there fits
  unfolding place_rule
  at_global p r = at_kind p Place.GlobalOrNull 2 r refl

  pub at_weak : (p : Place) (r : Option ℕ) → p ≡ Place.WeakOrNull → r ≡ kind_rule 3 h there fits → r ≡ place_rule p h there fits
  unfolding place_rule
  at_weak p r = at_kind p Place.WeakOrNull 3 r refl

  pub at_unused : (p : Place) → p ≡ Place.Unused → None ≡ place_rule p h there fits
  unfolding place_rule
  at_unused p e = at_place p Place.Unused None e refl
