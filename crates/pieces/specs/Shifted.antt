-- The unread bytes moved to the front. Assumes nothing.
use Rattle.std.specs.Prelude.{ℕ, ◌-◌, ◌||◌, List, ◌++◌, ltb, length, take, drop}
use Rattle.words.specs.Choice.{if_true◌then◌else◌}

-- d with its bytes from a up to e at its front; d itself where it has no such places
unfoldable pub shifted : List ℕ → ℕ → ℕ → List ℕ
shifted d a e = if_true ltb (length d) e || ltb e a then d else take (e - a) (drop a d) ++ drop (e - a) d
