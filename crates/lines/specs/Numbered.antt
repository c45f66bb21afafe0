-- Why a line is refused, and the number that document 01 gives instead of it. Assumes nothing.
use Rattle.std.specs.Prelude.{ℕ, zero, suc, eqb, Result, Ok, Err, ⊤}
use Rattle.words.specs.Choice.{if_true◌then◌else◌}
use Rattle.lines.specs.declared.refusal.Refusal.{Refusal}

abbrev pub number_of : Refusal → ℕ
number_of Refusal.Length = 1
number_of Refusal.Form = 2
number_of Refusal.Range = 3
number_of Refusal.OutOfStep = 4
number_of Refusal.WrongEnv = 5
number_of Refusal.AlreadyAlive = 6
number_of Refusal.NoRoom = 7
number_of Refusal.Unfit = 8
number_of Refusal.WrongClass = 9
number_of Refusal.NotAlive = 10

-- the refusal of a number from 1 to 10
abbrev pub refusal_of : ℕ → Refusal
refusal_of k =
    if_true eqb k 1 then Refusal.Length
    else if_true eqb k 2 then Refusal.Form
    else if_true eqb k 3 then Refusal.Range
    else if_true eqb k 4 then Refusal.OutOfStep
    else if_true eqb k 5 then Refusal.WrongEnv
    else if_true eqb k 6 then Refusal.AlreadyAlive
    else if_true eqb k 7 then Refusal.NoRoom
    else if_true eqb k 8 then Refusal.Unfit
    else if_true eqb k 9 then Refusal.WrongClass
    else Refusal.NotAlive

-- all is well where the number is 0
abbrev pub passes : ℕ → Result ⊤ Refusal
passes zero = Ok tt
passes (suc k) = Err (refusal_of (suc k))
