-- A row stored, changed or ended: what each row and each slot then is. Assumes nothing.
use mathlib.Core.Path.{◌≡◌, refl, sym, ap, ◌∙◌}
use mathlib.Core.Bool.{Bool, true, false}
use mathlib.Core.List.{List}
use Rattle.std.specs.Prelude.{option_map, None, Some}
use Prim.Native.Nat.{ℕ, suc, ◌+◌, ◌*◌, ◌/◌, ◌≤◌, ◌<◌}
use native.Mathlib.Nat.{mul-le-mul_right, suc-mul, div-mul-le_self}
use native.Mathlib.Omega.{arith}
use lib.ListN.{length, replicate, length-replicate}
use lib.Seq.{ext_get_or}
use borrow.Author.Tests.{lt-ltb, le-ltb}
use Rattle.words.specs.Choice.{if_true◌then◌else◌}
use Rattle.rows.specs.Marks.{word, used, marked, unmarked}
use Rattle.rows.specs.Table.{Layout, Table, table, each, cell, row, put_row, room, row_at, stored, changed, ended}
use Rattle.rows.specs.View.{slot}
use Rattle.rows.proofs.SlotLaws.{length_each, getD_each, each_ext}
use Rattle.rows.proofs.CellLaws.{cell_in, cell_out}
use Rattle.rows.proofs.MarkLaws.{used_marked_same, used_marked_other, used_unmarked_same, used_unmarked_other}

-- ---- the numbers of a row, of any stride
module _ (k : ℕ) (vs : List ℕ) (long : length vs ≡ k) where
  pub row_same : (rs : List ℕ) (r : ℕ) → r * k + k ≤ length rs → row k (put_row k rs r vs) r ≡ vs
  unfolding row cell put_row
  row_same rs r h =
      let f : ℕ → ℕ = cell k (put_row k rs r vs) r in
      let a = length_each f k in
      ext_get_or 0 (each f k) vs (a ∙ sym long)
      (λ j l. getD_each f k j 0 (omega (arith, a)) ∙ cell_in k vs long rs r j h (omega (arith, a)))

  pub row_other : (rs : List ℕ) (r q : ℕ) → (q ≡ r → ⊥) → row k (put_row k rs r vs) q ≡ row k rs q
  unfolding row cell put_row
  row_other rs r q n = each_ext (cell k (put_row k rs r vs) q) (cell k rs q) k (λ j l. cell_out k vs long rs r q j n l)

module _ {A : Type 0} (L : Layout A) where
  pub in_table : (T : Table) (r : ℕ) → r < room L T → r * L.stride + L.stride ≤ length T.rows
  unfolding room
  in_table T r h =
      let a : suc r ≤ length T.rows / L.stride = omega arith in
      omega (arith, mul-le-mul_right L.stride a, suc-mul r L.stride, div-mul-le_self (length T.rows) L.stride)

  pub in_words : (T : Table) (r : ℕ) → r < room L T → r < length T.marks * word
  unfolding room
  in_words T r h = omega arith

  -- ---- where there is such a row, and where not
  pub stored_in : (T : Table) (r : ℕ) (x : A) → r < room L T → stored L T r x ≡ table (put_row L.stride T.rows r (L.numbers x)) (marked T.marks r)
  unfolding stored
  stored_in T r x h = rw (lt-ltb r (room L T) h)

  pub stored_out : (T : Table) (r : ℕ) (x : A) → room L T ≤ r → stored L T r x ≡ T
  unfolding stored
  stored_out T r x h = rw (le-ltb r (room L T) h)

  pub changed_in : (T : Table) (r : ℕ) (g : A → A) → r < room L T
      → changed L T r g ≡ table (put_row L.stride T.rows r (L.numbers (g (row_at L T.rows r)))) T.marks
  unfolding changed
  changed_in T r g h = rw (lt-ltb r (room L T) h)

  pub changed_out : (T : Table) (r : ℕ) (g : A → A) → room L T ≤ r → changed L T r g ≡ T
  unfolding changed
  changed_out T r g h = rw (le-ltb r (room L T) h)

  pub ended_in : (T : Table) (r : ℕ) → r < room L T → ended L T r ≡ table (put_row L.stride T.rows r (replicate L.stride 0)) (unmarked T.marks r)
  unfolding ended
  ended_in T r h = rw (lt-ltb r (room L T) h)

  pub ended_out : (T : Table) (r : ℕ) → room L T ≤ r → ended L T r ≡ T
  unfolding ended
  ended_out T r h = rw (le-ltb r (room L T) h)

  -- ---- what stands in a row
  pub at_same : (rs : List ℕ) (r : ℕ) (x : A) → r * L.stride + L.stride ≤ length rs → row_at L (put_row L.stride rs r (L.numbers x)) r ≡ x
  unfolding row_at
  at_same rs r x h = ap L.row_of (row_same L.stride (L.numbers x) (L.whole x) rs r h) ∙ L.back x

  pub at_other : (rs vs : List ℕ) (r k : ℕ) → length vs ≡ L.stride → (k ≡ r → ⊥) → row_at L (put_row L.stride rs r vs) k ≡ row_at L rs k
  unfolding row_at
  at_other rs vs r k e n = ap L.row_of (row_other L.stride vs e rs r k n)

  -- ---- the slots
  pub slot_stored_same : (T : Table) (r : ℕ) (x : A) → r < room L T → slot L (stored L T r x) r ≡ Some x
  unfolding slot
  slot_stored_same T r x h =
      rw (stored_in T r x h, used_marked_same T.marks r (in_words T r h), at_same T.rows r x (in_table T r h))

  pub slot_stored_other : (T : Table) (r k : ℕ) (x : A) → r < room L T → (k ≡ r → ⊥) → slot L (stored L T r x) k ≡ slot L T k
  unfolding slot
  slot_stored_other T r k x h n =
      rw (stored_in T r x h, used_marked_other T.marks r k (in_words T r h) n, at_other T.rows (L.numbers x) r k (L.whole x) n)

  pub slot_changed_same : (T : Table) (r : ℕ) (g : A → A) → r < room L T → slot L (changed L T r g) r ≡ option_map g (slot L T r)
  unfolding slot
  slot_changed_same T r g h = rw (changed_in T r g h, at_same T.rows r (g (row_at L T.rows r)) (in_table T r h)) (go (used T.marks r))
    where
      go : (b : Bool) → (if_true b then Some (g (row_at L T.rows r)) else None) ≡ option_map g (if_true b then Some (row_at L T.rows r) else None)
      go true = refl
      go false = refl

  pub slot_changed_other : (T : Table) (r k : ℕ) (g : A → A) → r < room L T → (k ≡ r → ⊥) → slot L (changed L T r g) k ≡ slot L T k
  unfolding slot
  slot_changed_other T r k g h n =
      rw (changed_in T r g h, at_other T.rows (L.numbers (g (row_at L T.rows r))) r k (L.whole (g (row_at L T.rows r))) n)

  pub slot_ended_same : (T : Table) (r : ℕ) → r < room L T → slot L (ended L T r) r ≡ None
  unfolding slot
  slot_ended_same T r h = rw (ended_in T r h, used_unmarked_same T.marks r (in_words T r h))

  pub slot_ended_other : (T : Table) (r k : ℕ) → r < room L T → (k ≡ r → ⊥) → slot L (ended L T r) k ≡ slot L T k
  unfolding slot
  slot_ended_other T r k h n =
      rw (
        ended_in T r h,
        used_unmarked_other T.marks r k (in_words T r h) n,
        at_other T.rows (replicate L.stride 0) r k (length-replicate {A = ℕ} L.stride 0) n,
      )
