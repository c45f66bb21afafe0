-- The lent tables as lists of numbers, and what a judgement sees in them, whatever they hold. Assumes nothing.
use Rattle.std.specs.Prelude.{ℕ, Bool, List, eqb}
use Rattle.words.specs.Choice.{if_true◌then◌else◌}
use Rattle.words.specs.Lists.{of_first}
use Rattle.rows.specs.Table.{Table, table, counted}
use Rattle.rows.specs.Slots.{held}
use Rattle.rows.specs.View.{view}
use Rattle.rows.specs.References.{references}
use Rattle.rows.specs.Pins.{pins}
use Rattle.rows.specs.declared.references.Reference.{Reference}
use Rattle.rows.specs.declared.pins.Pin.{Pin as PinRow}
use Rattle.book.specs.Threads.{thread_in, all_monitors, closed_in}
use Rattle.history.specs.Handles.{Alive, local, shared}
use Rattle.history.specs.Buffers.{Pin, ordinary, critical}
use Rattle.history.specs.Statements.{names}
use Rattle.history.specs.Seen.{Seen}
use Rattle.classes.specs.Supers.{super_in}
use Rattle.classes.specs.Identities.{identity_in}

pub record Tables : Type 0 where
  pub references : Table
  pub pins : Table
  pub book : List ℕ
  pub classes : List ℕ

abbrev pub tables : List ℕ → List ℕ → List ℕ → List ℕ → List ℕ → List ℕ → Tables
tables rs ms ps ns b cs = record { references = table rs ms; pins = table ps ns; book = b; classes = cs }

-- ---- a row and what it stands for: thread 0 is for a global or weak, and for a buffer of no thread; the making line and the stated class are forgotten

abbrev pub alive_of : Reference → Alive
alive_of x = if_true eqb x.thread 0 then shared x.handle else local x.thread x.frame x.handle

-- the row of a handle that line `line` made, with its stated class
abbrev pub reference_of : ℕ → ℕ → Alive → Reference
reference_of line class (local t d h) = record { thread = t; handle = h; frame = d; line = line; class = class }
reference_of line class (shared h) = record { thread = 0; handle = h; frame = 0; line = line; class = class }

abbrev pub pin_of : PinRow → Pin
pin_of x = if_true eqb x.thread 0 then ordinary x.family x.buffer else critical x.thread x.family x.buffer

abbrev pub pin_row_of : ℕ → Pin → PinRow
pin_row_of line (ordinary k b) = record { thread = 0; family = k; buffer = b; line = line }
pin_row_of line (critical t k b) = record { thread = t; family = k; buffer = b; line = line }

-- ---- what is seen

unfoldable pub handles_in : Table → (Alive → Bool) → ℕ
handles_in T test = counted references (λ x. test (alive_of x)) T

unfoldable pub buffers_in : Table → (Pin → Bool) → ℕ
buffers_in T test = counted pins (λ x. test (pin_of x)) T

-- the class in the lowest row of the handle that thread t names by h
unfoldable pub class_in : Table → ℕ → ℕ → ℕ
class_in T t h = of_first (λ x. names t h (alive_of x)) (λ x. x.class) (held (view references T))

unfoldable pub seen_in : Tables → Seen
seen_in T =
    record {
      frames = λ t. (thread_in T.book t).frames;
      capacities = λ t. (thread_in T.book t).capacities;
      pending = λ t. (thread_in T.book t).pending;
      monitors = λ t. (thread_in T.book t).monitors;
      env = λ t. (thread_in T.book t).env;
      all_monitors = all_monitors T.book;
      handles = handles_in T.references;
      buffers = buffers_in T.pins;
      class = class_in T.references;
      super = super_in T.classes;
      identity = identity_in T.classes;
      closed = closed_in T.book;
    }
