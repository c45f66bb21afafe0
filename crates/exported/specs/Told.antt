-- What C and Rust are told of a step: a number, the tables left, and the findings left as numbers. Assumes nothing.
use Rattle.std.specs.Prelude.{ℕ, ◌*◌, List, [], ◌∷◌, ◌++◌, ltb, ℤ, pos, neg_ℤ, length, take, drop, Ok, Err}
use Rattle.std.proofs.lemmas.List.Edits.{sets}
use Rattle.words.specs.Choice.{if_true◌then◌else◌}
use Rattle.words.specs.Lists.{joined}
use Rattle.lines.specs.Numbered.{number_of}
use Rattle.history.specs.declared.Finding.{Finding}
use Rattle.answers.specs.Answer.{Answer, most_found}
use Rattle.tables.specs.Tables.{Tables}
use Rattle.events.specs.Outcome.{Outcome}
use Rattle.judge.specs.Outcome.{step_outcome}

pub record Told : Type 0 where
  pub number : ℤ
  pub left : Tables
  pub found : List ℕ

abbrev pub tells : ℤ → Tables → List ℕ → Told
tells n T ns = record { number = n; left = T; found = ns }

-- below zero the number given instead of the line, or how many findings it has
abbrev pub number_told : Answer → ℤ
number_told (Ok f) = pos f.count
number_told (Err k) = neg_ℤ (pos (number_of k))

-- a refusal has none
abbrev pub findings_in : Answer → List Finding
findings_in (Ok f) = take f.count f.found
findings_in (Err k) = []

-- a finding is four numbers
abbrev pub numbers : ℕ
numbers = 4

-- those of the most findings of a line
abbrev pub most_numbers : ℕ
most_numbers = most_found * numbers

-- told where there is no room for them; the numbers of the paper are told as -1 to -10
abbrev pub short_found : ℤ
short_found = neg_ℤ (pos 100)

abbrev pub numbers_of : Finding → List ℕ
numbers_of f = f.line ∷ f.rule ∷ f.place ∷ f.thing ∷ []

-- these numbers at the front of others; what is behind them stays
abbrev pub over : List ℕ → List ℕ → List ℕ
over ms ns = ms ++ drop (length ms) ns

unfoldable pub in_front : List Finding → List ℕ → List ℕ
in_front fs ns = over (joined fs numbers_of) ns

-- of what a step answers and leaves; nothing is written for a refusal
unfoldable pub told : Outcome → List ℕ → Told
told o ns =
    tells
    (number_told o.answer)
    o.left
    (in_front (findings_in o.answer) ns)

-- of a line over these tables; where there is no room for the most findings, nothing is touched
unfoldable pub step_told : Tables → List ℕ → List ℕ → Told
step_told T line ns = if_true ltb (length ns) most_numbers then tells short_found T ns else told (step_outcome T line) ns

-- one finding more behind `at` others
unfoldable pub put_at : List ℕ → ℕ → Finding → List ℕ
put_at ns at f = sets ns (at * numbers) (numbers_of f)
