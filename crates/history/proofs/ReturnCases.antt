-- Worked cases of what an R makes, and of its status and pending. Assumes nothing.
use mathlib.Core.Path.{◌≡◌, refl}
use mathlib.Core.List.{List, [], ◌∷◌, map}
use Rattle.history.proofs.Worked.{Case, case◌reads◌prints◌, judged, printed}

abbrev returns : List Case
returns =
    -- ---- 19 pushes a frame of capacity max(n,0); 26 raises the top frame's capacity to max(old, locals alive in it + max(n,0))
    (case "n is that of the matching C" reads
    "N 1 100"
    ∷ "C 1 100 19 0 0 0 1"
    ∷ "N 1 100"
    ∷ "C 1 100 26 0 0 0 7" ∷ "R 1 26 0 0"
    ∷ "X 1 0"
    ∷ "R 1 19 0 0"
    ∷ "C 1 100 6 0 0 0 0" ∷ "R 1 6 5 0"
    ∷ "C 1 100 6 0 0 0 0" ∷ "R 1 6 9 0"
    ∷ []
    prints
    "11 11 0 9"
    ∷ "end open 11 0 1"
    ∷ [])
    ∷ (case "26 raises" reads
    "N 1 100"
    ∷ "C 1 100 19 0 0 0 0" ∷ "R 1 19 0 0"
    ∷ "C 1 100 26 0 0 0 1" ∷ "R 1 26 0 0"
    ∷ "C 1 100 6 0 0 0 0" ∷ "R 1 6 5 0"
    ∷ "C 1 100 6 0 0 0 0" ∷ "R 1 6 9 0"
    ∷ []
    prints
    "9 11 0 9"
    ∷ "end open 9 0 1"
    ∷ [])
    ∷ (case "over the locals alive" reads
    "N 1 100"
    ∷ "C 1 100 19 0 0 0 1" ∷ "R 1 19 0 0"
    ∷ "C 1 100 6 0 0 0 0" ∷ "R 1 6 5 0"
    ∷ "C 1 100 26 0 0 0 1" ∷ "R 1 26 0 0"
    ∷ "C 1 100 6 0 0 0 0" ∷ "R 1 6 9 0"
    ∷ "C 1 100 6 0 0 0 0" ∷ "R 1 6 13 0"
    ∷ []
    prints
    "11 11 0 13"
    ∷ "end open 11 0 1"
    ∷ [])
    ∷ (case "a negative n raises to the locals alive" reads
    "N 1 100"
    ∷ "C 1 100 19 0 0 0 0" ∷ "R 1 19 0 0"
    ∷ "C 1 100 6 0 0 0 0" ∷ "R 1 6 5 0"
    ∷ "C 1 100 26 0 0 0 -1" ∷ "R 1 26 0 0"
    ∷ "C 1 100 23 5 0 0 0" ∷ "R 1 23 0 0"
    ∷ "C 1 100 6 0 0 0 0" ∷ "R 1 6 9 0"
    ∷ "C 1 100 6 0 0 0 0" ∷ "R 1 6 13 0"
    ∷ []
    prints
    "5 11 0 5"
    ∷ "13 11 0 13"
    ∷ "end open 13 0 2"
    ∷ [])
    ∷ (case "alive when R acts" reads
    "N 1 100"
    ∷ "C 1 100 19 0 0 0 0" ∷ "R 1 19 0 0"
    ∷ "C 1 100 6 0 0 0 0" ∷ "R 1 6 5 0"
    ∷ "C 1 100 26 0 0 0 0"
    ∷ "N 1 100"
    ∷ "C 1 100 23 5 0 0 0" ∷ "R 1 23 0 0"
    ∷ "X 1 0"
    ∷ "R 1 26 0 0"
    ∷ "C 1 100 6 0 0 0 0" ∷ "R 1 6 9 0"
    ∷ []
    prints
    "5 11 0 5"
    ∷ "13 11 0 9"
    ∷ "end open 13 0 2"
    ∷ [])
    ∷ (case "26 never lowers" reads
    "N 1 100"
    ∷ "C 1 100 19 0 0 0 1" ∷ "R 1 19 0 0"
    ∷ "C 1 100 26 0 0 0 0" ∷ "R 1 26 0 0"
    ∷ "C 1 100 6 0 0 0 0" ∷ "R 1 6 5 0"
    ∷ []
    prints
    "end open 7 0 0" ∷ [])
    ∷ (case "26 with another status does nothing" reads
    "N 1 100"
    ∷ "C 1 100 19 0 0 0 0" ∷ "R 1 19 0 0"
    ∷ "C 1 100 26 0 0 0 1" ∷ "R 1 26 -1 0"
    ∷ "C 1 100 6 0 0 0 0" ∷ "R 1 6 5 0"
    ∷ []
    prints
    "7 11 0 5"
    ∷ "end open 7 0 1"
    ∷ [])
    ∷ (case "the top frame's alone" reads
    "N 1 100"
    ∷ "C 1 100 19 0 0 0 0" ∷ "R 1 19 0 0"
    ∷ "C 1 100 19 0 0 0 0" ∷ "R 1 19 0 0"
    ∷ "C 1 100 26 0 0 0 1" ∷ "R 1 26 0 0"
    ∷ "C 1 100 20 0 0 0 0" ∷ "R 1 20 0 0"
    ∷ "C 1 100 6 0 0 0 0" ∷ "R 1 6 5 0"
    ∷ []
    prints
    "11 11 0 5"
    ∷ "end open 11 0 1"
    ∷ [])
    ∷ (case "the locals of another thread are not counted" reads
    "N 1 100"
    ∷ "C 1 100 19 0 0 0 1" ∷ "R 1 19 0 0"
    ∷ "C 1 100 6 0 0 0 0" ∷ "R 1 6 5 0"
    ∷ "N 2 200"
    ∷ "C 2 200 19 0 0 0 1" ∷ "R 2 19 0 0"
    ∷ "C 2 200 6 0 0 0 0" ∷ "R 2 6 9 0"
    ∷ "C 2 200 6 0 0 0 0" ∷ "R 2 6 13 0"
    ∷ []
    prints
    "12 11 0 13"
    ∷ "end open 12 0 1"
    ∷ [])
    ∷ (case "the capacities of another thread stay" reads
    "N 1 100"
    ∷ "C 1 100 19 0 0 0 1" ∷ "R 1 19 0 0"
    ∷ "C 1 100 6 0 0 0 0"
    ∷ "N 2 200"
    ∷ "C 2 200 19 0 0 0 0" ∷ "R 2 19 0 0"
    ∷ "N 1 100"
    ∷ "X 1 0"
    ∷ "R 1 6 5 0"
    ∷ "C 2 200 6 0 0 0 0" ∷ "R 2 6 5 0"
    ∷ []
    prints
    "12 11 0 5"
    ∷ "end open 12 0 1"
    ∷ [])
    -- ---- monitors and pending
    ∷ (case "217 adds one, 218 takes one" reads
    "N 1 100 5"
    ∷ "C 1 100 217 5 0 0 0" ∷ "R 1 217 0 0"
    ∷ "C 1 100 217 5 0 0 0" ∷ "R 1 217 0 0"
    ∷ "C 1 100 218 5 0 0 0" ∷ "R 1 218 0 0"
    ∷ "Z"
    ∷ []
    prints
    "8 9 0 1"
    ∷ "end closed 8 0 1"
    ∷ [])
    ∷ (case "217 with another status does nothing" reads
    "N 1 100 5"
    ∷ "C 1 100 217 5 0 0 0" ∷ "R 1 217 -1 0"
    ∷ "C 1 100 218 5 0 0 0"
    ∷ []
    prints
    "4 9 0 0"
    ∷ "end open 4 0 1"
    ∷ [])
    ∷ (case "218 with another status does nothing" reads
    "N 1 100 5"
    ∷ "C 1 100 217 5 0 0 0" ∷ "R 1 217 0 0"
    ∷ "C 1 100 218 5 0 0 0" ∷ "R 1 218 1 0"
    ∷ "C 1 100 218 5 0 0 0" ∷ "R 1 218 0 0"
    ∷ "C 1 100 218 5 0 0 0"
    ∷ []
    prints
    "8 9 0 0"
    ∷ "end open 8 0 1"
    ∷ [])
    ∷ (case "218 takes one if_true there is any" reads
    "N 1 100 5"
    ∷ "C 1 100 218 5 0 0 0" ∷ "R 1 218 0 0"
    ∷ "C 1 100 217 5 0 0 0" ∷ "R 1 217 0 0"
    ∷ "Z"
    ∷ []
    prints
    "2 9 0 0"
    ∷ "6 9 0 1"
    ∷ "end closed 6 0 2"
    ∷ [])
    ∷ (case "the thread's monitors" reads
    "N 1 100 5"
    ∷ "N 2 200 5"
    ∷ "C 1 100 217 5 0 0 0" ∷ "R 1 217 0 0"
    ∷ "C 2 200 218 5 0 0 0" ∷ "R 2 218 0 0"
    ∷ "C 1 100 218 5 0 0 0"
    ∷ []
    prints
    "5 9 0 0"
    ∷ "end open 7 0 1"
    ∷ [])
    ∷ (case "pending is the thread's, as its last R says" reads
    "N 1 100"
    ∷ "N 2 200"
    ∷ "C 1 100 6 0 0 0 0" ∷ "R 1 6 0 1"
    ∷ "C 2 200 6 0 0 0 0" ∷ "R 2 6 0 0"
    ∷ "C 1 100 228 0 0 0 0" ∷ "R 1 228 0 1"
    ∷ "C 1 100 6 0 0 0 0" ∷ "R 1 6 0 0"
    ∷ "C 1 100 6 0 0 0 0"
    ∷ []
    prints
    "9 2 0 0"
    ∷ "end open 11 0 1"
    ∷ [])
    -- ---- results
    ∷ (case "a global or weak is of no thread, and outlives its native" reads
    "N 1 100 5"
    ∷ "C 1 100 21 5 0 0 0" ∷ "R 1 21 6 0"
    ∷ "C 1 100 226 5 0 0 0" ∷ "R 1 226 7 0"
    ∷ "X 1 0"
    ∷ "N 2 200"
    ∷ "C 2 200 24 6 7 0 0"
    ∷ []
    prints
    "end open 8 0 0" ∷ [])
    ∷ (case "an identity is made by no line" reads
    "N 1 100 5"
    ∷ "C 1 100 33 5 0 0 0" ∷ "R 1 33 8 0"
    ∷ "C 1 100 34 5 8 0 0" ∷ "R 1 34 0 0"
    ∷ "C 1 100 34 5 12 0 0"
    ∷ []
    prints
    "4 5 2 8"
    ∷ "6 5 2 12"
    ∷ "end open 6 0 2"
    ∷ [])
    ∷ (case "a local is made in the thread's top frame" reads
    "N 1 100"
    ∷ "N 2 200"
    ∷ "C 2 200 19 0 0 0 1" ∷ "R 2 19 0 0"
    ∷ "C 2 200 6 0 0 0 0" ∷ "R 2 6 5 0"
    ∷ "C 2 200 20 5 0 0 0" ∷ "R 2 20 0 0"
    ∷ "C 2 200 31 5 0 0 0"
    ∷ []
    prints
    "9 11 1 5"
    ∷ "end open 9 0 1"
    ∷ [])
    ∷ []

pub returns_hold : map judged returns ≡ map printed returns
unfolding judged
returns_hold = refl
