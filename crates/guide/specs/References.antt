-- The guide of reference rows: where the handle of a thread is listed, how many locals each frame has and where they stand, and where the lowest free row may stand. Assumes nothing.
use Rattle.std.specs.Prelude.{◌≡◌, ◌&&◌, List, ℕ, zero, suc, ◌+◌, ◌-◌, ◌*◌, ◌/◌, ◌%◌, leb, length, get_or, Option, None, Some}
use Rattle.std.specs.Int.Bits.{bit_or}
use Rattle.words.specs.Choice.{if_true◌then◌else◌}
use Rattle.rows.specs.declared.references.Reference.{Reference}
use Rattle.rows.specs.Table.{Table, room}
use Rattle.rows.specs.View.{slot, view}
use Rattle.rows.specs.References.{references, is_handle}
use Rattle.guide.specs.Spread.{spread}
use Rattle.guide.specs.Listing.{found_by, with_listed, Listed}
use Rattle.guide.specs.Tallies.{more_at, less_at, Tallied}
use Rattle.guide.specs.Masks.{word_bit, mark_bit, with_bit, all_bits, no_bits, Shown}
use Rattle.guide.specs.Frees.{lowered_at, any, NoneBelow}

-- the places of handles come first, then a number for each frame
abbrev pub places : ℕ
places = 32768

-- frames 0 to 64 of threads 0 to 16, and one cell for all others
abbrev pub others : ℕ
others = 1105

abbrev pub cells : ℕ
cells = 1106

-- then two words for each frame: the words of marks where its locals stand, and their marks in these
abbrev pub words : ℕ
words = 33874

abbrev pub marks : ℕ
marks = 34980

-- then how many rows are used, and the word of marks below which all are
abbrev pub used_at : ℕ
used_at = 36086

abbrev pub low_at : ℕ
low_at = 36087

abbrev pub size : ℕ
size = 36088

-- the two places of a handle have no digit of its spread in common
unfoldable pub first_of : ℕ → ℕ → ℕ
first_of t h = spread h (t % 32) / 131072 % 32768

unfoldable pub second_of : ℕ → ℕ → ℕ
second_of t h = spread h (t % 32) / 4 % 32768

abbrev pub first : Reference → ℕ
first x = first_of x.thread x.handle

abbrev pub second : Reference → ℕ
second x = second_of x.thread x.handle

unfoldable pub cell_of : ℕ → ℕ → ℕ
cell_of t f = if_true leb t 16 && leb f 64 then t * 65 + f else others

abbrev pub cell : Reference → ℕ
cell x = cell_of x.thread x.frame

unfoldable pub found_in : Table → List ℕ → ℕ → ℕ → ℕ
found_in T G t h = found_by references G (first_of t h) (second_of t h) (is_handle t h) T

-- with row r, which holds this
abbrev pub with_slot : Table → List ℕ → ℕ → Option Reference → List ℕ
with_slot T G r None = G
with_slot T G r (Some x) =
    more_at
    (with_bit
    (with_bit (more_at (with_listed references first second T G (first x) (second x) r) (places + cell x)) (words + cell x) (word_bit r))
    (marks + cell x)
    (mark_bit r))
    used_at

unfoldable pub noted : Table → List ℕ → ℕ → List ℕ
noted T G r = with_slot T G r (get_or (view references T) r None)

-- without it: its place stays until another row wants it
abbrev pub without_slot : List ℕ → ℕ → Option Reference → List ℕ
without_slot G r None = G
without_slot G r (Some x) = lowered_at (less_at (less_at G (places + cell x)) used_at) low_at r

unfoldable pub forgotten : Table → List ℕ → ℕ → List ℕ
forgotten T G r = without_slot G r (get_or (view references T) r None)

-- the bits of the frames of thread t from f on, and of what is in no such frame, together
unfoldable pub bits_from : List ℕ → ℕ → ℕ → ℕ → ℕ
bits_from G from t f = bit_or (get_or G (from + others) 0) (all_bits G (from + cell_of t f) (65 - f))

-- none in those frames
unfoldable pub none_from : List ℕ → ℕ → ℕ → ℕ → List ℕ
none_from G from t f = no_bits G (from + cell_of t f) (65 - f)

-- the first n rows noted, one after another
unfoldable pub filled : Table → List ℕ → ℕ → List ℕ
filled T G zero = G
filled T G (suc n) = noted T (filled T G n) n

-- a guide of all rows
pub record Guides (T : Table) (G : List ℕ) : Type 0 where
  pub whole : length G ≡ size
  pub listed : Listed references first second (slot references T) (room references T) G
  pub tallied : Tallied cell places words (slot references T) (room references T) G
  pub words_shown : Shown cell word_bit words (slot references T) (room references T) G
  pub marks_shown : Shown cell mark_bit marks (slot references T) (room references T) G
  pub counted : Tallied any used_at low_at (slot references T) (room references T) G
  pub low : NoneBelow low_at (slot references T) (room references T) G

-- what rows are looked up by: all of them, or a guide
pub data Leads (T : Table) (G : List ℕ) : Type 0 where
  -- no words
  scans : length G ≡ 0 → Leads T G
  by_guide : Guides T G → Leads T G
