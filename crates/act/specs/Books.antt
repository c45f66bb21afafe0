-- The book after an accepted line, its open items as they were. Assumes nothing.
use Rattle.std.specs.Prelude.{ℕ, List, eqb}
use Rattle.words.specs.Choice.{if_true◌then◌else◌}
use Rattle.facts.specs.Named.{PopLocalFrame}
use Rattle.book.specs.Moves.{native_left, frame_popped, line_counted}
use Rattle.tables.specs.Acting.{native_entered, detached}

unfoldable pub entered_book : List ℕ → ℕ → ℕ → List ℕ → List ℕ
entered_book b t env hs = line_counted (native_entered b t env hs)

unfoldable pub left_book : List ℕ → ℕ → List ℕ
left_book b t = line_counted (native_left b t)

unfoldable pub detached_book : List ℕ → ℕ → List ℕ
detached_book b t = line_counted (detached b t)

-- C of 20 ends the top frame, if it was pushed
unfoldable pub popped : List ℕ → ℕ → ℕ → List ℕ
popped b t f = if_true eqb f PopLocalFrame then frame_popped b t else b

unfoldable pub called_book : List ℕ → ℕ → ℕ → List ℕ
called_book b t f = line_counted (popped b t f)
