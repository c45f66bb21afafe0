-- What is told of a step. Assumes nothing.
use Prim.Native.Nat.{ℕ, ◌≤◌, ◌<◌}
use mathlib.Core.Path.{◌≡◌, refl, ap, ◌∙◌}
use mathlib.Core.List.{List}
use lib.IntN.{ℤ, pos}
use lib.ListN.{length}
use mir.Syntax.{w32}
use mir.Val.{SFits, to_z}
use mir.ValLaws.{to_z_pos}
use borrow.Author.Tests.{lt-ltb, le-ltb}
use Rattle.answers.specs.Answer.{Answer}
use Rattle.tables.specs.Tables.{Tables}
use Rattle.events.specs.Outcome.{Outcome, leaves}
use Rattle.judge.specs.Outcome.{step_outcome}
use Rattle.exported.specs.Told.{tells, number_told, findings_in, most_numbers, short_found, in_front, told, step_told}

-- ---- a number told

pub count_told : (n : ℕ) → SFits w32 (pos n) → to_z w32 n ≡ pos n
count_told n f = to_z_pos w32 n f.sfits

-- ---- what a step answers

module _ {a : Answer} {T' : Tables} (T : Tables) (bs : List ℕ) (step : leaves a T' ≡ step_outcome T bs) where
  pub whole_told : {n : ℤ} {ns' : List ℕ} (ns : List ℕ) → most_numbers ≤ length ns → ns' ≡ in_front (findings_in a) ns
      → n ≡ number_told a → tells n T' ns' ≡ step_told T bs ns
  unfolding step_told told
  whole_told ns room l n = rw (le-ltb (length ns) most_numbers room) ((λ i. tells (n i) T' (l i)) ∙ ap (λ (o : Outcome). told o ns) step)

-- ---- no room for the most findings

pub short_told : (T : Tables) (bs ns : List ℕ) → length ns < most_numbers → tells short_found T ns ≡ step_told T bs ns
unfolding step_told
short_told T bs ns h = rw (lt-ltb (length ns) most_numbers h) refl
