-- A sort of rows as they are looked at, what it holds, and how its guide leads. Assumes nothing.
use Rattle.std.specs.Prelude.{List, ℕ}
use Rattle.rows.specs.Table.{Table, table}
use Rattle.guide.specs.References.{Leads}
use Rattle.guide.specs.Pins.{Leads as PinLeads}
use Rattle.tables.specs.Tables.{Tables}
use Rattle.tables.specs.declared.Looked.{Looked}

-- what it holds; the guide is no part of it
abbrev pub table_of : Looked → Table
table_of k = table k.rows.now k.marks.now

-- its rows are looked up by a guide of them, or by none
abbrev pub RowsLed : Looked → Type 0
RowsLed k = Leads (table_of k) k.guide.now

abbrev pub PinsLed : Looked → Type 0
PinsLed k = PinLeads (table_of k) k.guide.now

-- all that is lent
abbrev pub with_all : Table → Table → List ℕ → List ℕ → Tables
with_all R P b cs = record { references = R; pins = P; book = b; classes = cs }
