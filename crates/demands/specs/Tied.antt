-- The lent tables hold what the accepted lines say, and nothing besides. Assumes nothing.
use Rattle.std.specs.Prelude.{ℕ, ◌≤◌, ◌≡◌, List, [], ◌∷◌, length, replicate, Option, None, Some}
use Rattle.lines.specs.Line.{classes}
use Rattle.rows.specs.View.{view}
use Rattle.rows.specs.References.{references}
use Rattle.rows.specs.Pins.{pins}
use Rattle.rows.specs.declared.references.Reference.{Reference}
use Rattle.rows.specs.declared.pins.Pin.{Pin as PinRow}
use Rattle.history.specs.Past.{History, closed}
use Rattle.history.specs.Handles.{Alive}
use Rattle.history.specs.Buffers.{Pin}
use Rattle.history.specs.Leaks.{Made}
use Rattle.history.specs.Items.{items}
use Rattle.history.specs.Frames.{frames}
use Rattle.history.specs.Capacities.{capacities}
use Rattle.history.specs.Thread.{pending, monitors, env_of}
use Rattle.history.specs.Statements.{class_stated}
use Rattle.history.specs.Acceptance.{Room}
use Rattle.book.specs.Layout.{whole, cell}
use Rattle.book.specs.Threads.{Thread, thread_in, items_in, lines_in, closed_in}
use Rattle.book.specs.Changes.{Kept}
use Rattle.classes.specs.Identities.{identity_room}
use Rattle.tables.specs.Tables.{Tables, reference_of, pin_row_of}
use Rattle.tables.specs.Acting.{classes_after}
use Rattle.demands.specs.PastRows.{padded, reference_rows, pin_rows}

module _ {A B : Type 0} where
  -- what each used slot holds, as a row
  abbrev pub encoded : (B → A) → List (Option B) → List (Option A)
  encoded f [] = []
  encoded f (None ∷ s) = None ∷ encoded f s
  encoded f (Some x ∷ s) = Some (f x) ∷ encoded f s

-- what was made, as a row, with the class stated of it so far
abbrev pub reference_row : History → Made Alive → Reference
reference_row past x = reference_of x.line (class_stated past x.what) x.what

abbrev pub pin_row : Made Pin → PinRow
pin_row x = pin_row_of x.line x.what

-- the lent rows that stand for the rows of the past, in a room of n
unfoldable pub past_references : ℕ → History → List (Option Reference)
past_references n past = encoded (reference_row past) (padded n (reference_rows past))

unfoldable pub past_pins : ℕ → History → List (Option PinRow)
past_pins n past = encoded pin_row (padded n (pin_rows past))

-- a class table of n numbers as the lines leave it
unfoldable pub past_classes : ℕ → History → List ℕ
past_classes n [] = replicate n 0
past_classes n (e ∷ past) = classes_after e (past_classes n past)

-- a thread by the history, but for its open items
unfoldable pub past_thread : ℕ → History → Thread
past_thread t past =
    record {
      frames = frames t past;
      capacities = capacities t past;
      pending = pending t past;
      monitors = monitors t past;
      env = env_of t past;
    }

-- all but the open items
pub record Tied (room : Room) (T : Tables) (past : History) : Type 0 where
  pub reference_table : view references T.references ≡ past_references room.references past
  pub pin_table : view pins T.pins ≡ past_pins room.pins past
  pub threads : (t : ℕ) → thread_in T.book t ≡ past_thread t past
  pub lines : lines_in T.book ≡ length past
  pub end_mark : closed_in T.book ≡ closed past
  pub long : whole ≤ length T.book
  pub class_table : T.classes ≡ past_classes (length T.classes) past
  pub all_classes : classes ≤ length T.classes
  pub places : identity_room T.classes ≡ room.identities

-- the open items, and the counts that stand with them
pub record ItemsTied (b : List ℕ) (past : History) : Type 0 where
  pub open_items : (t : ℕ) → items_in b t ≡ items t past
  pub counts : (t : ℕ) → Kept (cell b t)

pub record AllTied (room : Room) (T : Tables) (past : History) : Type 0 where
  pub tables : Tied room T past
  pub opened : ItemsTied T.book past
