-- Worked cases of the step order, of a thread's env and of the lines N, X and Z. Assumes nothing.
use mathlib.Core.Path.{◌≡◌, refl}
use mathlib.Core.List.{List, [], ◌∷◌, map}
use Rattle.history.proofs.Worked.{Case, case◌reads◌prints◌, judged, printed}

abbrev steps : List Case
steps =
    -- ---- step order
    (case "N over an open native: 4" reads
    "N 1 100"
    ∷ "N 1 100"
    ∷ []
    prints
    "end refused 1 4 0" ∷ [])
    ∷ (case "N over an open call" reads
    "N 1 100"
    ∷ "C 1 100 6 0 0 0 0"
    ∷ "N 1 100"
    ∷ "X 1 0"
    ∷ "R 1 6 0 0"
    ∷ "X 1 0"
    ∷ []
    prints
    "end open 6 0 0" ∷ [])
    ∷ (case "C over an open call: 4" reads
    "N 1 100"
    ∷ "C 1 100 6 0 0 0 0"
    ∷ "C 1 100 6 0 0 0 0"
    ∷ []
    prints
    "end refused 2 4 0" ∷ [])
    ∷ (case "X over an open call: 4" reads
    "N 1 100"
    ∷ "C 1 100 6 0 0 0 0"
    ∷ "X 1 0"
    ∷ []
    prints
    "end refused 2 4 0" ∷ [])
    ∷ (case "R over a native: 4" reads
    "N 1 100"
    ∷ "R 1 6 0 0"
    ∷ []
    prints
    "end refused 1 4 0" ∷ [])
    ∷ (case "R of another function: 4" reads
    "N 1 100"
    ∷ "C 1 100 6 0 0 0 0"
    ∷ "R 1 15 0 0"
    ∷ []
    prints
    "end refused 2 4 0" ∷ [])
    ∷ (case "R of the inner call for the outer: 4" reads
    "N 1 100"
    ∷ "C 1 100 6 0 0 0 0"
    ∷ "N 1 100"
    ∷ "C 1 100 15 0 0 0 0" ∷ "R 1 15 0 0"
    ∷ "X 1 0"
    ∷ "R 1 15 0 0"
    ∷ []
    prints
    "end refused 6 4 0" ∷ [])
    ∷ (case "C on an empty stack: 4" reads "C 1 100 6 0 0 0 0" ∷ [] prints "end refused 0 4 0" ∷ [])
    ∷ (case "X on an empty stack: 4" reads "X 1 0" ∷ [] prints "end refused 0 4 0" ∷ [])
    ∷ (case "R on an empty stack: 4" reads "R 1 6 0 0" ∷ [] prints "end refused 0 4 0" ∷ [])
    ∷ (case "C after X: 4" reads
    "N 1 100"
    ∷ "X 1 0"
    ∷ "C 1 100 6 0 0 0 0"
    ∷ []
    prints
    "end refused 2 4 0" ∷ [])
    ∷ (case "each thread has a stack" reads
    "N 1 100"
    ∷ "C 1 100 6 0 0 0 0"
    ∷ "N 16 200"
    ∷ "C 16 200 15 0 0 0 0"
    ∷ "R 1 6 0 0"
    ∷ "X 1 0"
    ∷ "R 16 15 0 0"
    ∷ "X 16 0"
    ∷ "Z"
    ∷ []
    prints
    "end closed 9 0 0" ∷ [])
    ∷ (case "C of a thread on another's native: 4" reads
    "N 1 100"
    ∷ "C 2 100 6 0 0 0 0"
    ∷ []
    prints
    "end refused 1 4 0" ∷ [])
    ∷ (case "nothing is allowed after Z" reads
    "Z"
    ∷ "N 1 100"
    ∷ []
    prints
    "end refused 1 4 0" ∷ [])
    ∷ (case "nor another Z" reads
    "Z"
    ∷ "Z"
    ∷ []
    prints
    "end refused 1 4 0" ∷ [])
    ∷ (case "Z may come with items open" reads
    "N 1 100 5"
    ∷ "C 1 100 6 0 0 0 0"
    ∷ "Z"
    ∷ []
    prints
    "end closed 3 0 0" ∷ [])
    -- ---- a thread's env
    ∷ (case "that of its first N" reads
    "N 1 100"
    ∷ "X 1 0"
    ∷ "N 1 100"
    ∷ []
    prints
    "end open 3 0 0" ∷ [])
    ∷ (case "another: 5" reads
    "N 1 100"
    ∷ "X 1 0"
    ∷ "N 1 101"
    ∷ []
    prints
    "end refused 2 5 0" ∷ [])
    ∷ (case "another in an open call: 5" reads
    "N 1 100"
    ∷ "C 1 100 6 0 0 0 0"
    ∷ "N 1 101"
    ∷ []
    prints
    "end refused 2 5 0" ∷ [])
    ∷ (case "no two threads share one: 5" reads
    "N 1 100"
    ∷ "N 2 100"
    ∷ []
    prints
    "end refused 1 5 0" ∷ [])
    ∷ (case "nor after the first has left: 5" reads
    "N 16 100"
    ∷ "X 16 0"
    ∷ "N 1 100"
    ∷ []
    prints
    "end refused 2 5 0" ∷ [])
    ∷ (case "C with another env sets none" reads
    "N 1 100"
    ∷ "C 1 101 6 0 0 0 0" ∷ "R 1 6 0 0"
    ∷ "N 2 101"
    ∷ "C 1 100 6 0 0 0 0"
    ∷ []
    prints
    "2 1 0 101"
    ∷ "end open 5 0 1"
    ∷ [])
    -- ---- N
    ∷ (case "N makes its handles as locals" reads
    "N 1 100 5 9"
    ∷ "C 1 100 24 5 9 0 0"
    ∷ []
    prints
    "end open 2 0 0" ∷ [])
    ∷ (case "N's handles stand in its own frame" reads
    "N 1 100 5"
    ∷ "C 1 100 19 0 0 0 1" ∷ "R 1 19 0 0"
    ∷ "C 1 100 15 0 0 0 0"
    ∷ "N 1 100 9"
    ∷ "X 1 9"
    ∷ "R 1 15 13 0"
    ∷ "C 1 100 24 5 13 0 0"
    ∷ []
    prints
    "end open 8 0 0" ∷ [])
    ∷ (case "pending becomes 0" reads
    "N 1 100"
    ∷ "C 1 100 6 0 0 0 0" ∷ "R 1 6 0 1"
    ∷ "C 1 100 15 0 0 0 0"
    ∷ "N 1 100"
    ∷ "C 1 100 6 0 0 0 0"
    ∷ []
    prints
    "end open 6 0 0" ∷ [])
    -- ---- X
    ∷ (case "X ends all locals of that native" reads
    "N 1 100 5"
    ∷ "C 1 100 6 0 0 0 0" ∷ "R 1 6 9 0"
    ∷ "X 1 0"
    ∷ "N 1 100"
    ∷ "C 1 100 24 5 9 0 0"
    ∷ []
    prints
    "6 11 1 5"
    ∷ "6 11 2 9"
    ∷ "end open 6 0 2"
    ∷ [])
    ∷ (case "its frames, pushed frames included" reads
    "N 1 100"
    ∷ "C 1 100 6 0 0 0 0"
    ∷ "N 1 100 5"
    ∷ "C 1 100 19 0 0 0 1" ∷ "R 1 19 0 0"
    ∷ "C 1 100 19 0 0 0 1" ∷ "R 1 19 0 0"
    ∷ "C 1 100 6 0 0 0 0" ∷ "R 1 6 9 0"
    ∷ "X 1 9"
    ∷ "R 1 6 0 0"
    ∷ "C 1 100 24 5 9 0 0" ∷ "R 1 24 0 0"
    ∷ "C 1 100 20 0 0 0 0"
    ∷ []
    prints
    "12 11 1 5"
    ∷ "12 11 2 9"
    ∷ "14 11 0 0"
    ∷ "end open 14 0 3"
    ∷ [])
    ∷ (case "and no other" reads
    "N 1 100 5"
    ∷ "C 1 100 19 0 0 0 1" ∷ "R 1 19 0 0"
    ∷ "C 1 100 6 0 0 0 0"
    ∷ "N 1 100"
    ∷ "X 1 0"
    ∷ "R 1 6 9 0"
    ∷ "C 1 100 20 9 0 0 0" ∷ "R 1 20 0 0"
    ∷ "C 1 100 31 5 0 0 0"
    ∷ []
    prints
    "end open 10 0 0" ∷ [])
    ∷ (case "no buffers, no monitors and no globals" reads
    "N 1 100 5"
    ∷ "C 1 100 169 5 0 0 0" ∷ "R 1 169 8000 0"
    ∷ "C 1 100 217 5 0 0 0" ∷ "R 1 217 0 0"
    ∷ "C 1 100 21 5 0 0 0" ∷ "R 1 21 6 0"
    ∷ "X 1 0"
    ∷ "Z"
    ∷ []
    prints
    "9 8 0 1"
    ∷ "9 9 0 1"
    ∷ "9 10 0 1"
    ∷ "end closed 9 0 3"
    ∷ [])
    -- ---- Z
    ∷ (case "Z counts the buffers, the monitors, the globals and weaks of all threads, critical buffers too, and no locals" reads
    "N 1 100 5"
    ∷ "N 2 200 9"
    ∷ "C 1 100 217 5 0 0 0" ∷ "R 1 217 0 0"
    ∷ "C 2 200 217 9 0 0 0" ∷ "R 2 217 0 0"
    ∷ "C 2 200 217 9 0 0 0" ∷ "R 2 217 0 0"
    ∷ "C 1 100 21 5 0 0 0" ∷ "R 1 21 6 0"
    ∷ "C 2 200 226 9 0 0 0" ∷ "R 2 226 7 0"
    ∷ "C 2 200 169 9 0 0 0" ∷ "R 2 169 8000 0"
    ∷ "C 2 200 222 9 0 0 0" ∷ "R 2 222 8000 0"
    ∷ "Z"
    ∷ []
    prints
    "17 8 0 2"
    ∷ "17 9 0 3"
    ∷ "17 10 0 2"
    ∷ "end closed 17 0 3"
    ∷ [])
    ∷ (case "each only if_true above zero" reads
    "N 1 100 5"
    ∷ "C 1 100 226 5 0 0 0" ∷ "R 1 226 7 0"
    ∷ "Z"
    ∷ []
    prints
    "4 10 0 1"
    ∷ "end closed 4 0 1"
    ∷ [])
    ∷ []

pub steps_hold : map judged steps ≡ map printed steps
unfolding judged
steps_hold = refl
