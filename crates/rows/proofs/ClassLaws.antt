-- The stated class of a reference row: read in the room, and written as the one number that it is. Assumes nothing.
use mathlib.Core.Path.{◌≡◌, ap, ◌∙◌}
use mathlib.Core.List.{List}
use Prim.Native.Nat.{ℕ, ◌+◌, ◌*◌, ◌≤◌, ◌<◌}
use native.Mathlib.Nat.{add-zero}
use native.Mathlib.Numerals.{towards_suc}
use native.Mathlib.Omega.{arith}
use lib.ListN.{set}
use lib.Seq.{set-get_or}
use borrow.Author.Tests.{lt-ltb, le-ltb}
use Rattle.rows.specs.declared.references.Reference.{Reference}
use Rattle.rows.specs.Table.{table, cell, row, put_row, room, row_at}
use Rattle.rows.specs.References.{references, with_class, class_at}

pub class_some : (rs ms : List ℕ) (n r : ℕ) (x : Reference) → n ≡ room references (table rs ms) → r < n → x ≡ row_at references rs r
    → x.class ≡ class_at (table rs ms) r
unfolding class_at
class_some rs ms n r x a l e = ap (λ (y : Reference). y.class) e ∙ rw (lt-ltb r (room references (table rs ms)) (omega arith))

pub class_none : (rs ms : List ℕ) (n r : ℕ) → n ≡ room references (table rs ms) → n ≤ r → 0 ≡ class_at (table rs ms) r
unfolding class_at
class_none rs ms n r a l = rw (le-ltb r (room references (table rs ms)) (omega arith))

-- the row's other numbers are as they were
pub class_put : (rs : List ℕ) (r c : ℕ) → set rs (r * references.stride + 4) c ≡ put_row references.stride rs r (references.numbers (with_class c (row_at references rs r)))
unfolding put_row row_at row cell
class_put rs r c = simp (towards_suc, add-zero, set-get_or)
