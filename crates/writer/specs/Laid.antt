-- What putting bytes answers and leaves, and what the writer does. Assumes nothing.
use Rattle.std.specs.Prelude.{ℕ, ◌≡◌, List, ◌++◌, ltb, length, drop, Result, Ok, Err}
use Rattle.words.specs.Choice.{if_true◌then◌else◌}
use Rattle.lines.specs.Reading.{Read}
use Rattle.lines.specs.Events.{wrote, left}
use Rattle.lines.specs.declared.refusal.Refusal.{Refusal}

-- the reply `r` and what is left, `d'`, of d: the bytes at its start, or 7 and nothing written where it is short
pub record Writes (bs d : List ℕ) (r : Result ℕ Refusal) (d' : List ℕ) : Type 0 where
  pub reply : r ≡ (if_true ltb (length d) (length bs) then Err Refusal.NoRoom else Ok (length bs))
  pub left : d' ≡ (if_true ltb (length d) (length bs) then d else bs ++ drop (length bs) d)

-- the writer's answer to what an event means, and what it leaves
abbrev pub Answers : Read → List ℕ → Result ℕ Refusal → List ℕ → Type 0
Answers x d r d' = (r ≡ wrote x d) × (d' ≡ left x d)
