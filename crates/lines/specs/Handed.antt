-- What C hands to the writers of what it was told of a line: for theorems alone. Assumes nothing.
use Rattle.std.specs.Prelude.{ℕ, ◌-◌, List, [], eqb, leb, ℤ, pos, negsuc, get_or, drop}
use Prim.Native.Char.{code}
use Rattle.words.specs.Choice.{if_true◌then◌else◌}
use Rattle.numbers.specs.Signed.{largest_i32}
use Rattle.lines.specs.Line.{largest}
use Rattle.lines.specs.Events.{gives_status, padded}
use Rattle.lines.specs.declared.Event.{Event}

-- the capacity or the status that is told as w: `weir_signed` of include/weir.h
abbrev pub signed_of : ℕ → ℤ
signed_of w = if_true leb w largest_i32 then pos w else negsuc (largest - w)

-- the event of a letter, how many numbers it has, and ten slots
abbrev pub handed : ℕ → ℕ → List ℕ → Event
handed letter n ws =
    let at : ℕ → ℕ = λ i. get_or ws i 0 in
    if_true eqb letter (code "N") then Event.Enter (at 0) (at 1) (n - 2)
    else if_true eqb letter (code "X") then Event.Leave (at 0) (at 1)
    else if_true eqb letter (code "C") then Event.Call (at 0) (at 1) (at 2) (at 3) (at 4) (at 5) (signed_of (at 6))
    else if_true eqb letter (code "R") then (if_true gives_status (at 1) then Event.Return (at 0) (at 1) 0 (signed_of (at 2)) (at 3) else Event.Return (at 0) (at 1) (at 2) (pos 0) (at 3))
    else if_true eqb letter (code "A") then Event.Attach (at 0) (at 1)
    else if_true eqb letter (code "D") then Event.Detach (at 0)
    else if_true eqb letter (code "K") then Event.Declare (at 0) (at 1)
    else if_true eqb letter (code "O") then Event.State (at 0) (at 1) (at 2)
    else if_true eqb letter (code "M") then Event.Identify (at 0) (at 1) (at 2) (at 3) (at 4)
    else Event.End

-- and the eight slots beside it
abbrev pub handed_slots : ℕ → List ℕ → List ℕ
handed_slots letter ws = if_true eqb letter (code "N") then drop 2 ws else padded []
