-- Rows found and counted under a test, as callers want them.
use Prim.Native.Nat.{suc, ◌≤◌}
use mathlib.Core.Path.{◌≡◌, refl, sym, ap, ◌∙◌, fun_ext}
use mathlib.Core.Bool.{Bool, true, false, ◌||◌}
use mathlib.Core.List.{List, [], ◌∷◌}
use Rattle.std.specs.Prelude.{Option, None, Some}
use native.Mathlib.Omega.{arith}
use borrow.Author.Tests.{lt-ltb}
use lib.Dec.{ltb}
use lib.ListN.{length}
use Rattle.words.specs.Choice.{if_true◌then◌else◌}
use Rattle.words.specs.Lists.{any, count}
use Rattle.rows.specs.Slots.{held}
use Rattle.rows.specs.Table.{Layout, Table, room, alive, found, counted, some_row, most}
use Rattle.rows.specs.View.{view}
use Rattle.rows.proofs.ViewLaws.{length_view, alive_view, counted_view, found_some, some_row_view}

-- ---- on lists

module _ {A : Type 0} (q : A → Bool) where
  any_counted : (l : List A) → any q l ≡ ltb 0 (count q l)
  any_counted [] = refl
  any_counted (x ∷ l) = go (q x) (any_counted l)
    where
      go : (b : Bool) → any q l ≡ ltb 0 (count q l) → (b || any q l) ≡ ltb 0 (if_true b then suc (count q l) else count q l)
      go true e = sym (lt-ltb 0 (suc (count q l)) (omega arith))
      go false e = e

  count_none : (l : List A) → ((x : A) → q x ≡ false) → count q l ≡ 0
  count_none [] e = refl
  count_none (x ∷ l) e = rw (e x) (count_none l e)

  count_most : (l : List A) → count q l ≤ length l
  count_most [] = omega arith
  count_most (x ∷ l) = go (q x) (count_most l)
    where
      go : (b : Bool) → count q l ≤ length l → (if_true b then suc (count q l) else count q l) ≤ suc (length l)
      go true h = omega arith
      go false h = omega arith

count_all : {A : Type 0} (l : List A) → length l ≡ count (λ x. true) l
count_all [] = refl
count_all (x ∷ l) = ap suc (count_all l)

held_most : {A : Type 0} (l : List (Option A)) → length (held l) ≤ length l
held_most [] = omega arith
held_most (None ∷ l) = omega (arith, held_most l)
held_most (Some x ∷ l) = omega (arith, held_most l)

-- ---- on rows

module _ {A : Type 0} (L : Layout A) where
  -- a row is found exactly when they are not none
  pub found_counted : (q : A → Bool) (T : Table) → ltb (found L q T) (room L T) ≡ ltb 0 (counted L q T)
  found_counted q T = found_some L q T ∙ any_counted q (held (view L T)) ∙ ap (ltb 0) (sym (counted_view L q T))

  pub some_row_counted : (q : A → Bool) (T : Table) → some_row L q T ≡ ltb 0 (counted L q T)
  some_row_counted q T = some_row_view L q T ∙ any_counted q (held (view L T)) ∙ ap (ltb 0) (sym (counted_view L q T))

  -- equal tests count the same, and one that nothing passes counts none
  pub counted_same : (p q : A → Bool) (T : Table) → ((x : A) → p x ≡ q x) → counted L p T ≡ counted L q T
  counted_same p q T e = ap (λ (r : A → Bool). counted L r T) (fun_ext e)

  pub counted_none : (q : A → Bool) (T : Table) → ((x : A) → q x ≡ false) → counted L q T ≡ 0
  counted_none q T e = counted_view L q T ∙ count_none q (held (view L T)) e

  -- without a test all used rows are counted
  pub counted_all : (T : Table) → alive L T ≡ counted L (λ x. true) T
  counted_all T = alive_view L T ∙ count_all (held (view L T)) ∙ sym (counted_view L (λ x. true) T)

  pub alive_most : (T : Table) → alive L T ≤ room L T
  alive_most T = omega (arith, alive_view L T, length_view L T, held_most (view L T))

  room_most : (T : Table) → room L T ≤ most
  unfolding room
  room_most T = omega arith

  pub counted_most : (q : A → Bool) (T : Table) → counted L q T ≤ most
  counted_most q T =
      omega (arith, counted_view L q T, count_most q (held (view L T)), held_most (view L T), length_view L T, room_most T)
