-- Where each number of the lent thread book stands: a row for each thread, and row 0 for the trace itself. Assumes nothing.
use Rattle.std.specs.Prelude.{ℕ, ◌+◌, ◌*◌, ◌≤◌, List, [], ◌∷◌, length, slice_index, slice_set}

-- numbers to a row, and to a book: row 0 and sixteen threads
abbrev pub width : ℕ
width = 264

abbrev pub whole : ℕ
whole = 4488

-- ---- the columns of a row

-- of row 0 alone
abbrev pub lines_at : ℕ
lines_at = 0

abbrev pub closed_at : ℕ
closed_at = 1

-- of each thread: from here on all but its open items
abbrev pub env_at : ℕ
env_at = 2

abbrev pub pending_at : ℕ
pending_at = 3

abbrev pub monitors_at : ℕ
monitors_at = 4

-- how many frames; of each frame, lowest first, its capacity, and whether it was pushed
abbrev pub frames_at : ℕ
frames_at = 5

abbrev pub capacity_at : ℕ → ℕ
capacity_at i = 6 + i

abbrev pub pushed_at : ℕ → ℕ
pushed_at i = 70 + i

-- of each thread: from here on its open items, and nothing else
abbrev pub items_at : ℕ
items_at = 134

-- a mark for each that is a native or attached, the lowest item's the lowest bit; of each item, lowest first, its function, and what was asked of it
abbrev pub natives_at : ℕ
natives_at = 135

abbrev pub function_at : ℕ → ℕ
function_at i = 136 + i

abbrev pub asked_at : ℕ → ℕ
asked_at i = 200 + i

-- ---- a number of the book, and writing

-- the number in row t and column j, 0 past the end
unfoldable pub cell : List ℕ → ℕ → ℕ → ℕ
cell b t j = slice_index b (t * width + j)

-- past the end nothing is written
unfoldable pub put : List ℕ → ℕ → ℕ → ℕ → List ℕ
put b t j v = slice_set b (t * width + j) v

-- a column, and what is written there
pub data Write : Type 0 where
  into : ℕ → ℕ → Write

-- row t, written one after another
unfoldable pub wrote : List ℕ → ℕ → List Write → List ℕ
wrote b t [] = b
wrote b t (into j v ∷ ws) = wrote (put b t j v) t ws

-- row t stands in the book
abbrev pub Stands : List ℕ → ℕ → Type 0
Stands b t = t * width + width ≤ length b
