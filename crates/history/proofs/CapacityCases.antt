-- Worked cases of a native's capacity: 16 plus the number of handles on its N line. Assumes nothing.
use mathlib.Core.Path.{◌≡◌, refl}
use mathlib.Core.List.{List, [], ◌∷◌, ◌++◌, map}
use Rattle.history.proofs.Worked.{Case, case◌reads◌prints◌, judged, printed, sixteen_new_locals, the_17th, the_18th}

abbrev capacity : List Case
capacity =
    (case "no argument: the 17th local is one too many" reads
    ("N 1 100"
    ∷ [])
    ++ sixteen_new_locals
    ++ the_17th
    prints
    "35 11 0 165"
    ∷ "end open 35 0 1"
    ∷ [])
    ∷ (case "eight arguments: sixteen new locals, and none is told" reads
    ("N 1 100 1 5 9 13 17 21 25 29"
    ∷ [])
    ++ sixteen_new_locals
    prints
    "end open 33 0 0" ∷ [])
    ∷ (case "eight arguments: the 17th new local is one too many" reads
    ("N 1 100 1 5 9 13 17 21 25 29"
    ∷ [])
    ++ sixteen_new_locals
    ++ the_17th
    prints
    "35 11 0 165"
    ∷ "end open 35 0 1"
    ∷ [])
    ∷ (case "an argument counts as alive, and the capacity stays when it ends" reads
    ("N 1 100 1"
    ∷ "C 1 100 23 1 0 0 0" ∷ "R 1 23 0 0"
    ∷ [])
    ++ sixteen_new_locals
    ++ the_17th
    ++ the_18th
    prints
    "39 11 0 169"
    ∷ "end open 39 0 1"
    ∷ [])
    ∷ (case "26 raises from it" reads
    ("N 1 100 1 5"
    ∷ "C 1 100 26 0 0 0 17" ∷ "R 1 26 0 0"
    ∷ [])
    ++ sixteen_new_locals
    ++ the_17th
    ++ the_18th
    prints
    "39 11 0 169"
    ∷ "end open 39 0 1"
    ∷ [])
    ∷ (case "26 of less than it holds raises nothing" reads
    ("N 1 100 1 5 9 13 17 21 25 29"
    ∷ "C 1 100 26 0 0 0 9" ∷ "R 1 26 0 0"
    ∷ [])
    ++ sixteen_new_locals
    ++ the_17th
    prints
    "37 11 0 165"
    ∷ "end open 37 0 1"
    ∷ [])
    ∷ (case "a nested native has its own, and the outer one its own again" reads
    ("N 1 100 1 5"
    ∷ "C 1 100 15 0 0 0 0"
    ∷ "N 1 100"
    ∷ [])
    ++ sixteen_new_locals
    ++ the_17th
    ++ ("X 1 0"
    ∷ "R 1 15 0 0"
    ∷ [])
    ++ sixteen_new_locals
    ++ the_17th
    prints
    "37 11 0 165"
    ∷ "73 11 0 165"
    ∷ "end open 73 0 2"
    ∷ [])
    ∷ (case "a frame pushed has the capacity asked for" reads
    "N 1 100 1 5"
    ∷ "C 1 100 19 0 0 0 1" ∷ "R 1 19 0 0"
    ∷ "C 1 100 6 0 0 0 0" ∷ "R 1 6 9 0"
    ∷ "C 1 100 6 0 0 0 0" ∷ "R 1 6 13 0"
    ∷ []
    prints
    "7 11 0 13"
    ∷ "end open 7 0 1"
    ∷ [])
    ∷ []

pub capacity_holds : map judged capacity ≡ map printed capacity
unfolding judged
capacity_holds = refl
