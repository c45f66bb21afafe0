-- The lent tables that travel as one, what they hold, and how their guides lead. Assumes nothing.
use Rattle.std.specs.Prelude.{◌≡◌, ◌<◌, ℕ, List, length}
use Rattle.rows.specs.Table.{Table, free_row}
use Rattle.rows.specs.References.{references}
use Rattle.rows.specs.Pins.{pins}
use Rattle.guide.specs.References.{Leads}
use Rattle.guide.specs.Pins.{Leads as PinLeads}
use Rattle.tables.specs.Tables.{Tables, tables}
use Rattle.tables.specs.declared.Lent.{Lent}

-- what they hold; the guides are no part of it
abbrev pub tables_of : Lent → Tables
tables_of l = tables l.rows.now l.marks.now l.pins.now l.pinmarks.now l.book.now l.classes.now

-- the same slices, and guides as long
pub record Same (k l : Lent) : Type 0 where
  pub rows : k.rows.ghost_name ≡ l.rows.ghost_name
  pub marks : k.marks.ghost_name ≡ l.marks.ghost_name
  pub guide : k.guide.ghost_name ≡ l.guide.ghost_name
  pub pins : k.pins.ghost_name ≡ l.pins.ghost_name
  pub pinmarks : k.pinmarks.ghost_name ≡ l.pinmarks.ghost_name
  pub pinguide : k.pinguide.ghost_name ≡ l.pinguide.ghost_name
  pub book : k.book.ghost_name ≡ l.book.ghost_name
  pub classes : k.classes.ghost_name ≡ l.classes.ghost_name
  pub guide_length : length k.guide.now ≡ length l.guide.now
  pub pinguide_length : length k.pinguide.now ≡ length l.pinguide.now

-- rows are looked up by guides of them, or by none
pub record Led (l : Lent) : Type 0 where
  pub references : Leads (tables_of l).references l.guide.now
  pub pins : PinLeads (tables_of l).pins l.pinguide.now

-- by none
pub record Unguided (l : Lent) : Type 0 where
  pub references : length l.guide.now ≡ 0
  pub pins : length l.pinguide.now ≡ 0

-- where there is a guide, a row that is stored must be the lowest free one
abbrev pub NextRow : Lent → ℕ → Type 0
NextRow l r = 0 < length l.guide.now → r ≡ free_row references (tables_of l).references

abbrev pub NextPin : Lent → ℕ → Type 0
NextPin l r = 0 < length l.pinguide.now → r ≡ free_row pins (tables_of l).pins

-- with other rows, or another book
abbrev pub with_references : Tables → Table → Tables
with_references T R = record { references = R; pins = T.pins; book = T.book; classes = T.classes }

abbrev pub with_pins : Tables → Table → Tables
with_pins T P = record { references = T.references; pins = P; book = T.book; classes = T.classes }

abbrev pub with_book : Tables → List ℕ → Tables
with_book T b = record { references = T.references; pins = T.pins; book = b; classes = T.classes }
