-- Lines cut from an input after each LF. Assumes nothing.
use Rattle.std.specs.Prelude.{ℕ, ◌≢◌}
use mathlib.Core.List.{List, [], ◌∷◌, ◌++◌, Memᴰ}
use Rattle.words.specs.Text.{line_feed}

pub data Cut : List (List ℕ) → Type 0 where
  no_more : Cut []
  -- a line ends with its LF, and has no other
  ended : (bs : List ℕ) (lines : List (List ℕ)) → ¬ Memᴰ line_feed bs → Cut lines → Cut ((bs ++ (line_feed ∷ [])) ∷ lines)
  -- what is left at the end, if anything, is a line too, without its LF
  rest : (bs : List ℕ) → ¬ Memᴰ line_feed bs → bs ≢ [] → Cut (bs ∷ [])
