-- Worked cases of the numbers 1 to 7, in their order. Assumes nothing.
use mathlib.Core.Path.{◌≡◌, refl}
use mathlib.Core.List.{List, [], ◌∷◌, map}
use Rattle.history.proofs.Worked.{Case, case◌reads◌prints◌, judged, printed, lent, unended}

abbrev refusals : List Case
refusals =
    -- ---- each number, in this order
    (case "1 before 3: 225 bytes" reads
    "N 1 100 4444444444444444444444444444444444444444444444444444444444444444444444444444444444444444444444444444444444444444444444444444444444444444444444444444444444444444444444444444444444444444444444444444444444444444444444444"
    ∷ []
    prints
    "end refused 0 1 0" ∷ [])
    ∷ (case "224 bytes pass 1" reads
    "N 1 100 444444444444444444444444444444444444444444444444444444444444444444444444444444444444444444444444444444444444444444444444444444444444444444444444444444444444444444444444444444444444444444444444444444444444444444444444"
    ∷ []
    prints
    "end refused 0 3 0" ∷ [])
    ∷ (unended (case "1 before 2: no LF" reads "N 1 01" ∷ [] prints "end refused 0 1 0" ∷ []))
    ∷ (unended (case "1 before all: a good line with no LF" reads "Z" ∷ [] prints "end refused 0 1 0" ∷ []))
    ∷ (case "2 before 3" reads "N 17 01" ∷ [] prints "end refused 0 2 0" ∷ [])
    ∷ (case "3 before 4" reads "C 1 100 233 0 0 0 0" ∷ [] prints "end refused 0 3 0" ∷ [])
    ∷ (case "3 before 4: R's own function decides" reads
    "N 1 100"
    ∷ "R 1 6 6 0"
    ∷ []
    prints
    "end refused 1 3 0" ∷ [])
    ∷ (case "4 before 5" reads
    "N 1 100"
    ∷ "N 1 101"
    ∷ []
    prints
    "end refused 1 4 0" ∷ [])
    ∷ (case "5 before 6" reads
    "N 1 100"
    ∷ "N 2 100 5 5"
    ∷ []
    prints
    "end refused 1 5 0" ∷ [])
    ∷ (lent 0 0 (case "6 before 7" reads "N 1 100 5 5" ∷ [] prints "end refused 0 6 0" ∷ []))
    ∷ (unended (case "after Z, 1 before 4" reads
    "Z"
    ∷ "Z"
    ∷ []
    prints
    "end refused 1 1 0" ∷ []))
    ∷ (case "after Z, 2 before 4" reads
    "Z"
    ∷ "N 1"
    ∷ []
    prints
    "end refused 1 2 0" ∷ [])
    ∷ (case "after Z, 3 before 4" reads
    "Z"
    ∷ "N 17 100"
    ∷ []
    prints
    "end refused 1 3 0" ∷ [])
    ∷ (case "the program stops at it" reads
    "N 1 100"
    ∷ "N 17 200"
    ∷ "C 1 100 31 0 0 0 0"
    ∷ "Z"
    ∷ []
    prints
    "end refused 1 3 0" ∷ [])
    ∷ (case "findings of earlier lines are printed" reads
    "N 1 100"
    ∷ "C 1 100 31 0 0 0 0"
    ∷ "C 1 100 31 0 0 0 0"
    ∷ []
    prints
    "2 7 1 0"
    ∷ "end refused 2 4 1"
    ∷ [])
    ∷ (case "an empty line: 2" reads "" ∷ [] prints "end refused 0 2 0" ∷ [])
    -- ---- 6: it makes a handle already alive (a local: in that thread), or N names one twice
    ∷ (case "R in the same frame" reads
    "N 1 100 5"
    ∷ "C 1 100 6 0 0 0 0" ∷ "R 1 6 5 0"
    ∷ []
    prints
    "end refused 2 6 0" ∷ [])
    ∷ (case "R in a pushed frame" reads
    "N 1 100 5"
    ∷ "C 1 100 19 0 0 0 1" ∷ "R 1 19 0 0"
    ∷ "C 1 100 6 0 0 0 0" ∷ "R 1 6 5 0"
    ∷ []
    prints
    "end refused 4 6 0" ∷ [])
    ∷ (case "N in an open call" reads
    "N 1 100 5"
    ∷ "C 1 100 6 0 0 0 0"
    ∷ "N 1 100 9 5"
    ∷ []
    prints
    "end refused 2 6 0" ∷ [])
    ∷ (case "R of 20, of a local in the frame below" reads
    "N 1 100 5"
    ∷ "C 1 100 19 0 0 0 1" ∷ "R 1 19 0 0"
    ∷ "C 1 100 20 5 0 0 0" ∷ "R 1 20 5 0"
    ∷ []
    prints
    "end refused 4 6 0" ∷ [])
    ∷ (case "a global, from another thread" reads
    "N 1 100 5"
    ∷ "C 1 100 21 5 0 0 0" ∷ "R 1 21 6 0"
    ∷ "N 2 200"
    ∷ "C 2 200 21 0 0 0 0" ∷ "R 2 21 6 0"
    ∷ []
    prints
    "end refused 5 6 0" ∷ [])
    ∷ (case "a weak" reads
    "N 1 100 5"
    ∷ "C 1 100 226 5 0 0 0" ∷ "R 1 226 7 0"
    ∷ "C 1 100 226 5 0 0 0" ∷ "R 1 226 7 0"
    ∷ []
    prints
    "end refused 4 6 0" ∷ [])
    -- ---- 7: after it the alive handles, the outstanding buffers, or a thread's items or frames would exceed room
    ∷ (lent 2 0 (case "N's handles are all or nothing" reads "N 1 100 5 9 13" ∷ [] prints "end refused 0 7 0" ∷ []))
    ∷ (lent 2 0 (case "they fit" reads "N 1 100 5 9" ∷ [] prints "end open 1 0 0" ∷ []))
    ∷ (lent 1 0 (case "a local too many" reads
    "N 1 100 5"
    ∷ "C 1 100 6 0 0 0 0" ∷ "R 1 6 9 0"
    ∷ []
    prints
    "end refused 2 7 0" ∷ []))
    ∷ (lent 1 0 (case "a global too many" reads
    "N 1 100 5"
    ∷ "C 1 100 21 5 0 0 0" ∷ "R 1 21 6 0"
    ∷ []
    prints
    "end refused 2 7 0" ∷ []))
    ∷ (lent 1 0 (case "the threads share the rows" reads
    "N 1 100 5"
    ∷ "N 2 200 5"
    ∷ []
    prints
    "end refused 1 7 0" ∷ []))
    ∷ (lent 1 1 (case "a buffer too many" reads
    "N 1 100 5"
    ∷ "C 1 100 169 5 0 0 0" ∷ "R 1 169 8000 0"
    ∷ "C 1 100 169 5 0 0 0" ∷ "R 1 169 8000 0"
    ∷ []
    prints
    "end refused 4 7 0" ∷ []))
    ∷ (lent 2 1 (case "buffers take no reference row, handles no pin row" reads
    "N 1 100 5 9"
    ∷ "C 1 100 169 5 0 0 0" ∷ "R 1 169 8000 0"
    ∷ []
    prints
    "end open 3 0 0" ∷ []))
    ∷ (lent 0 0 (case "a null result, a null buffer, a failed push and a bare N pass when all is full" reads
    "N 1 100"
    ∷ "C 1 100 6 0 0 0 0" ∷ "R 1 6 0 0"
    ∷ "C 1 100 169 0 0 0 0" ∷ "R 1 169 0 0"
    ∷ "C 1 100 19 0 0 0 1" ∷ "R 1 19 -1 0"
    ∷ "C 1 100 33 0 0 0 0" ∷ "R 1 33 8 0"
    ∷ "C 1 100 6 0 0 0 0"
    ∷ "N 1 100"
    ∷ "Z"
    ∷ []
    prints
    "4 7 1 0"
    ∷ "8 7 1 0"
    ∷ "end closed 12 0 2"
    ∷ []))
    ∷ (lent 1 0 (case "what the line's C ended leaves its row" reads
    "N 1 100"
    ∷ "C 1 100 19 0 0 0 1" ∷ "R 1 19 0 0"
    ∷ "C 1 100 6 0 0 0 0" ∷ "R 1 6 5 0"
    ∷ "C 1 100 20 5 0 0 0" ∷ "R 1 20 9 0"
    ∷ []
    prints
    "end open 7 0 0" ∷ []))
    ∷ []

pub refusals_hold : map judged refusals ≡ map printed refusals
unfolding judged
refusals_hold = refl
