-- Natives and calls by turns, as lines open them: then no native stands in a call's place. Assumes nothing.
use Rattle.std.specs.Prelude.{◌≡◌, ℕ, ◌%◌, ◌<◌, false}
use Rattle.history.specs.Acceptance.{deepest}
use Rattle.rows.specs.Marks.{bit}

-- the marks of natives have none in a call's place, every second one
unfoldable pub ByTurns : ℕ → Type 0
ByTurns w = (i : ℕ) → i < deepest → i % 2 ≡ 1 → bit w i ≡ false
