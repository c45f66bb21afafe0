-- The guide of pin rows: where a buffer is listed, and how many buffers each thread has. Assumes nothing.
use Rattle.std.specs.Prelude.{◌≡◌, List, ℕ, zero, suc, ◌+◌, ◌*◌, ◌/◌, ◌%◌, leb, length, get_or, Option, None, Some}
use Rattle.words.specs.Choice.{if_true◌then◌else◌}
use Rattle.rows.specs.declared.pins.Pin.{Pin}
use Rattle.rows.specs.Table.{Table, room}
use Rattle.rows.specs.View.{slot, view}
use Rattle.rows.specs.Pins.{pins, is_buffer}
use Rattle.guide.specs.Spread.{spread}
use Rattle.guide.specs.Listing.{found_by, with_listed, Listed}
use Rattle.guide.specs.Tallies.{more_at, less_at, Tallied}

-- the places of buffers come first, then a number for each thread
abbrev pub places : ℕ
places = 4096

abbrev pub size : ℕ
size = 4114

unfoldable pub first_of : ℕ → ℕ → ℕ → ℕ
first_of t f b = spread b (t % 32 * 16 + f % 16) / 1048576 % 4096

unfoldable pub second_of : ℕ → ℕ → ℕ → ℕ
second_of t f b = spread b (t % 32 * 16 + f % 16) / 4 % 4096

abbrev pub first : Pin → ℕ
first x = first_of x.thread x.family x.buffer

abbrev pub second : Pin → ℕ
second x = second_of x.thread x.family x.buffer

-- threads 0 to 16, and one cell for all others
unfoldable pub cell_of : ℕ → ℕ
cell_of t = if_true leb t 16 then t else 17

abbrev pub cell : Pin → ℕ
cell x = cell_of x.thread

unfoldable pub found_in : Table → List ℕ → ℕ → ℕ → ℕ → ℕ
found_in T G t f b = found_by pins G (first_of t f b) (second_of t f b) (is_buffer t f b) T

-- with row r, which holds this
abbrev pub with_slot : Table → List ℕ → ℕ → Option Pin → List ℕ
with_slot T G r None = G
with_slot T G r (Some x) = more_at (with_listed pins first second T G (first x) (second x) r) (places + cell x)

unfoldable pub noted : Table → List ℕ → ℕ → List ℕ
noted T G r = with_slot T G r (get_or (view pins T) r None)

-- without it: its place stays until another row wants it
abbrev pub without_slot : List ℕ → Option Pin → List ℕ
without_slot G None = G
without_slot G (Some x) = less_at G (places + cell x)

unfoldable pub forgotten : Table → List ℕ → ℕ → List ℕ
forgotten T G r = without_slot G (get_or (view pins T) r None)

-- the first n rows noted, one after another
unfoldable pub filled : Table → List ℕ → ℕ → List ℕ
filled T G zero = G
filled T G (suc n) = noted T (filled T G n) n

-- a guide of all rows
pub record Guides (T : Table) (G : List ℕ) : Type 0 where
  pub whole : length G ≡ size
  pub listed : Listed pins first second (slot pins T) (room pins T) G
  pub tallied : Tallied cell places size (slot pins T) (room pins T) G

-- what rows are looked up by: all of them, or a guide
pub data Leads (T : Table) (G : List ℕ) : Type 0 where
  -- no words
  scans : length G ≡ 0 → Leads T G
  by_guide : Guides T G → Leads T G
