-- The leaks at the places, one behind another. Assumes nothing.
use Rattle.std.specs.Prelude.{ℕ, ◌+◌, ◌-◌, ◌≡◌, List, ◌++◌, eqb, ltb, length, get_or, take, Option, None, Some}
use Rattle.words.specs.Choice.{if_true◌then◌else◌}
use Rattle.rows.specs.Slots.{held}
use Rattle.rows.specs.Table.{Table, most, each, room}
use Rattle.rows.specs.View.{view}
use Rattle.rows.specs.References.{references}
use Rattle.rows.specs.Pins.{pins}
use Rattle.rows.specs.declared.references.Reference.{Reference}
use Rattle.rows.specs.declared.pins.Pin.{Pin}
use Rattle.leaks.specs.declared.entries.Entry.{Entry}
use Rattle.leaks.specs.Entries.{first_reference}

abbrev pub places : ℕ
places = first_reference + most

abbrev pub of_pin : ℕ → Option Pin → Option Entry
of_pin p None = None
of_pin p (Some x) = Some (record { place = p; thread = x.thread; value = x.buffer; line = x.line })

-- a handle of a thread does not leak
abbrev pub of_reference : ℕ → Option Reference → Option Entry
of_reference p None = None
of_reference p (Some x) = if_true eqb x.thread 0 then Some (record { place = p; thread = x.thread; value = x.handle; line = x.line }) else None

-- of the references and the pins
unfoldable pub found_at : Table → Table → ℕ → Option Entry
found_at R P p =
    if_true ltb p first_reference then of_pin p (get_or (view pins P) p None)
    else of_reference p (get_or (view references R) (p - first_reference) None)

-- at n places from a on
unfoldable pub found_from : Table → Table → ℕ → ℕ → List Entry
found_from R P a n = held (each (λ i. found_at R P (a + i)) n)

unfoldable pub found_in : Table → Table → List Entry
found_in R P = found_from R P 0 (room pins P) ++ found_from R P first_reference (room references R)

-- these behind `at` entries make n
pub record Added (more : List Entry) (at n : ℕ) (before after : List Entry) : Type 0 where
  pub many : n ≡ at + length more
  pub front : take n after ≡ take at before ++ more
