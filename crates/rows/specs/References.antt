-- Reference rows: thread (0 for global and weak), handle, frame from 1 (0 likewise), making line, stated class or 0. Assumes nothing.
use Rattle.std.specs.Prelude.{refl, Bool, ◌&&◌, [], ◌∷◌, ℕ, get_or, eqb, leb, ltb}
use Rattle.words.specs.Choice.{if_true◌then◌else◌}
use Rattle.rows.specs.declared.references.Reference.{Reference}
use Rattle.rows.specs.Table.{Layout, Table, room, row_at}

-- five numbers to a row
abbrev pub references : Layout Reference
references =
    record {
      stride = 5;
      numbers = λ x. x.thread ∷ x.handle ∷ x.frame ∷ x.line ∷ x.class ∷ [];
      row_of = λ vs. record { thread = get_or vs 0 0; handle = get_or vs 1 0; frame = get_or vs 2 0; line = get_or vs 3 0; class = get_or vs 4 0 };
      whole = λ x. refl;
      back = λ x. refl;
    }

-- the row is of thread t
abbrev pub of_thread : ℕ → Reference → Bool
of_thread t x = eqb x.thread t

-- the row has handle h, of whatever thread
abbrev pub has_handle : ℕ → Reference → Bool
has_handle h x = eqb x.handle h

-- the row is that of handle h in thread t
abbrev pub is_handle : ℕ → ℕ → Reference → Bool
is_handle t h x = has_handle h x && of_thread t x

-- the row is of thread t and frame f
abbrev pub in_frame : ℕ → ℕ → Reference → Bool
in_frame t f x = eqb x.frame f && of_thread t x

-- the row is of thread t and frame f or above
abbrev pub from_frame : ℕ → ℕ → Reference → Bool
from_frame t f x = leb f x.frame && of_thread t x

-- the row with c as its stated class
abbrev pub with_class : ℕ → Reference → Reference
with_class c x = record { thread = x.thread; handle = x.handle; frame = x.frame; line = x.line; class = c }

-- the stated class of row r, used or not; 0 where there is no row r
unfoldable pub class_at : Table → ℕ → ℕ
class_at T r = if_true ltb r (room references T) then (row_at references T.rows r).class else 0
