-- A leak: what is outstanding or alive where a trace ends, with the line that made it. Assumes nothing.
use Rattle.std.specs.Prelude.{ℕ, Bool, List, [], ◌∷◌, ◌++◌, map, leb}
use Rattle.words.specs.Choice.{if_true◌then◌else◌}
use Rattle.words.specs.Lists.{keep}
use Rattle.words.specs.Text.{bytes, tab}
use Rattle.history.specs.Handles.{Alive, global_or_weak}
use Rattle.history.specs.Buffers.{Pin, ordinary, critical}
use Rattle.history.specs.Kinds.{handle_of}
use Rattle.history.specs.Report.{field_then, last_field}

-- something, and the number of the line that made it
pub record Made (A : Type 0) : Type 0 where
  pub what : A
  pub line : ℕ

module _ {A : Type 0} where
  abbrev pub made_at : ℕ → A → Made A
  made_at n x = record { what = x; line = n }

  -- a test of what was made, whenever
  abbrev pub by_what : (A → Bool) → Made A → Bool
  by_what test x = test x.what

pub record Leak : Type 0 where
  pub rule : ℕ
  pub thread : ℕ
  pub value : ℕ
  pub line : ℕ

-- critical ones belong to the getting thread, the others to no thread
abbrev pub owner_of : Pin → ℕ
owner_of (ordinary k b) = 0
owner_of (critical t k b) = t

abbrev pub buffer_of : Pin → ℕ
buffer_of (ordinary k b) = b
buffer_of (critical t k b) = b

-- rule 8 for each outstanding buffer
abbrev pub buffer_leak : Made Pin → Leak
buffer_leak x = record { rule = 8; thread = owner_of x.what; value = buffer_of x.what; line = x.line }

-- rule 10 for each global or weak alive
abbrev pub handle_leak : Made Alive → Leak
handle_leak x = record { rule = 10; thread = 0; value = handle_of x.what; line = x.line }

-- ---- ordered by making line; of one line they stay as they stood

abbrev pub placed : Leak → List Leak → List Leak
placed x [] = x ∷ []
placed x (y ∷ ys) = if_true leb x.line y.line then x ∷ y ∷ ys else y ∷ placed x ys

unfoldable pub by_line : List Leak → List Leak
by_line [] = []
by_line (x ∷ xs) = placed x (by_line xs)

-- of what is outstanding and what is alive, in the order of their rows: by making line, then rule and row
unfoldable pub leaks_of : List (Made Pin) → List (Made Alive) → List Leak
leaks_of ps hs = by_line (map buffer_leak ps ++ map handle_leak (keep (by_what global_or_weak) hs))

-- as it is printed: `leak`, rule, thread, value and line, tabs between
abbrev pub shown_leak : Leak → List ℕ
shown_leak x = bytes "leak" ++ (tab ∷ field_then x.rule (field_then x.thread (field_then x.value (last_field x.line))))
