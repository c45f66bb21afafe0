-- Worked cases of D: what it ends, what it finds, and what Z counts after it; the card's poll loop. Assumes nothing.
use mathlib.Core.Path.{◌≡◌, refl}
use mathlib.Core.List.{List, [], ◌∷◌, map}
use Rattle.history.proofs.Worked.{Case, case◌reads◌prints◌, judged, printed, lent}

abbrev detached : List Case
detached =
    -- ---- D ends the thread's locals and frames
    (case "a local used in a later native, and returned by it: 11" reads
    "A 1 100"
    ∷ "C 1 100 6 0 0 0 0" ∷ "R 1 6 5 0"
    ∷ "D 1"
    ∷ "N 1 100"
    ∷ "C 1 100 31 5 0 0 0" ∷ "R 1 31 0 0"
    ∷ "X 1 5"
    ∷ []
    prints
    "6 11 1 5"
    ∷ "8 11 1 5"
    ∷ "end open 8 0 2"
    ∷ [])
    ∷ (case "pushed frames and the locals of all of them" reads
    "A 1 100"
    ∷ "C 1 100 6 0 0 0 0" ∷ "R 1 6 9 0"
    ∷ "C 1 100 19 0 0 0 1" ∷ "R 1 19 0 0"
    ∷ "C 1 100 19 0 0 0 1" ∷ "R 1 19 0 0"
    ∷ "C 1 100 6 0 0 0 0" ∷ "R 1 6 5 0"
    ∷ "D 1"
    ∷ "A 1 100"
    ∷ "C 1 100 24 5 9 0 0" ∷ "R 1 24 0 0"
    ∷ "C 1 100 20 0 0 0 0"
    ∷ []
    prints
    "12 11 1 5"
    ∷ "12 11 2 9"
    ∷ "14 11 0 0"
    ∷ "end open 14 0 3"
    ∷ [])
    ∷ (case "a local may be made again" reads
    "A 1 100"
    ∷ "C 1 100 6 0 0 0 0" ∷ "R 1 6 5 0"
    ∷ "D 1"
    ∷ "A 1 100"
    ∷ "C 1 100 6 0 0 0 0" ∷ "R 1 6 5 0"
    ∷ "D 1"
    ∷ "N 1 100 5"
    ∷ []
    prints
    "end open 9 0 0" ∷ [])
    ∷ (lent 1 0 (case "its row is free again" reads
    "A 1 100"
    ∷ "C 1 100 6 0 0 0 0" ∷ "R 1 6 5 0"
    ∷ "D 1"
    ∷ "N 2 200 9"
    ∷ []
    prints
    "end open 5 0 0" ∷ []))
    ∷ (case "what was stated of it has ended" reads
    "A 1 100"
    ∷ "C 1 100 6 0 0 0 0" ∷ "R 1 6 5 0"
    ∷ "O 1 5 3"
    ∷ "D 1"
    ∷ "A 1 100"
    ∷ "C 1 100 6 0 0 0 0" ∷ "R 1 6 5 0"
    ∷ "C 1 100 33 5 0 0 0"
    ∷ []
    prints
    "end open 9 0 0" ∷ [])
    ∷ (case "10: O on a local after D" reads
    "A 1 100"
    ∷ "C 1 100 6 0 0 0 0" ∷ "R 1 6 5 0"
    ∷ "D 1"
    ∷ "O 1 5 3"
    ∷ []
    prints
    "end refused 4 10 0" ∷ [])
    ∷ (case "no global, no weak, no buffer" reads
    "A 1 100"
    ∷ "C 1 100 6 0 0 0 0" ∷ "R 1 6 5 0"
    ∷ "C 1 100 21 5 0 0 0" ∷ "R 1 21 6 0"
    ∷ "C 1 100 226 5 0 0 0" ∷ "R 1 226 7 0"
    ∷ "C 1 100 169 5 0 0 0" ∷ "R 1 169 8000 0"
    ∷ "D 1"
    ∷ "A 1 100"
    ∷ "C 1 100 24 6 7 0 0" ∷ "R 1 24 0 0"
    ∷ "C 1 100 6 0 0 0 0" ∷ "R 1 6 9 0"
    ∷ "C 1 100 170 9 8000 0 0" ∷ "R 1 170 0 0"
    ∷ "Z"
    ∷ []
    prints
    "18 10 0 2"
    ∷ "end closed 18 0 1"
    ∷ [])
    ∷ (case "nothing of another thread" reads
    "A 2 200"
    ∷ "C 2 200 6 0 0 0 0" ∷ "R 2 6 5 0"
    ∷ "C 2 200 217 5 0 0 0" ∷ "R 2 217 0 0"
    ∷ "C 2 200 19 0 0 0 1" ∷ "R 2 19 0 0"
    ∷ "C 2 200 6 0 0 0 0" ∷ "R 2 6 9 1"
    ∷ "A 1 100"
    ∷ "C 1 100 6 0 0 0 0" ∷ "R 1 6 5 0"
    ∷ "D 1"
    ∷ "C 2 200 24 5 9 0 0" ∷ "R 2 24 0 0"
    ∷ "C 2 200 20 9 0 0 0" ∷ "R 2 20 13 0"
    ∷ "C 2 200 31 5 0 0 0" ∷ "R 2 31 0 0"
    ∷ "D 2"
    ∷ "Z"
    ∷ []
    prints
    "14 2 0 0"
    ∷ "20 9 0 1"
    ∷ "end closed 21 0 2"
    ∷ [])
    -- ---- with rule 3 as on X
    ∷ (case "D in a critical region: 3, and the buffer stays" reads
    "A 1 100"
    ∷ "C 1 100 6 0 0 0 0" ∷ "R 1 6 5 0"
    ∷ "C 1 100 222 5 0 0 0" ∷ "R 1 222 8000 0"
    ∷ "D 1"
    ∷ "Z"
    ∷ []
    prints
    "6 3 0 0"
    ∷ "7 8 0 1"
    ∷ "end closed 7 0 2"
    ∷ [])
    ∷ (case "attached again the thread is in it still, and may release it" reads
    "A 1 100"
    ∷ "C 1 100 6 0 0 0 0" ∷ "R 1 6 5 0"
    ∷ "C 1 100 222 5 0 0 0" ∷ "R 1 222 8000 0"
    ∷ "D 1"
    ∷ "A 1 100"
    ∷ "C 1 100 6 0 0 0 0" ∷ "R 1 6 9 0"
    ∷ "C 1 100 223 9 8000 0 0" ∷ "R 1 223 0 0"
    ∷ "D 1"
    ∷ "Z"
    ∷ []
    prints
    "6 3 0 0"
    ∷ "8 3 0 0"
    ∷ "end closed 13 0 2"
    ∷ [])
    ∷ (case "a critical buffer got in an earlier native" reads
    "N 1 100 5"
    ∷ "C 1 100 224 5 0 0 0" ∷ "R 1 224 8000 0"
    ∷ "X 1 0"
    ∷ "A 1 100"
    ∷ "D 1"
    ∷ []
    prints
    "4 3 0 0"
    ∷ "6 3 0 0"
    ∷ "end open 6 0 2"
    ∷ [])
    ∷ (case "another thread's is not this thread's, an ordinary one is not critical" reads
    "N 2 200 5"
    ∷ "C 2 200 222 5 0 0 0" ∷ "R 2 222 8000 0"
    ∷ "A 1 100"
    ∷ "C 1 100 6 0 0 0 0" ∷ "R 1 6 5 0"
    ∷ "C 1 100 169 5 0 0 0" ∷ "R 1 169 8000 0"
    ∷ "D 1"
    ∷ []
    prints
    "end open 9 0 0" ∷ [])
    -- ---- and rule 9, thing the count, if the thread has monitors, which then become 0
    ∷ (case "two monitors: 9, thing 2, and Z has none" reads
    "A 1 100"
    ∷ "C 1 100 6 0 0 0 0" ∷ "R 1 6 5 0"
    ∷ "C 1 100 217 5 0 0 0" ∷ "R 1 217 0 0"
    ∷ "C 1 100 217 5 0 0 0" ∷ "R 1 217 0 0"
    ∷ "D 1"
    ∷ "Z"
    ∷ []
    prints
    "8 9 0 2"
    ∷ "end closed 9 0 1"
    ∷ [])
    ∷ (case "none where each is given back" reads
    "A 1 100"
    ∷ "C 1 100 6 0 0 0 0" ∷ "R 1 6 5 0"
    ∷ "C 1 100 217 5 0 0 0" ∷ "R 1 217 0 0"
    ∷ "C 1 100 218 5 0 0 0" ∷ "R 1 218 0 0"
    ∷ "D 1"
    ∷ "Z"
    ∷ []
    prints
    "end closed 9 0 0" ∷ [])
    ∷ (case "those got in an earlier native count" reads
    "N 1 100 5"
    ∷ "C 1 100 217 5 0 0 0" ∷ "R 1 217 0 0"
    ∷ "X 1 0"
    ∷ "A 1 100"
    ∷ "C 1 100 6 0 0 0 0" ∷ "R 1 6 5 0"
    ∷ "C 1 100 217 5 0 0 0" ∷ "R 1 217 0 0"
    ∷ "D 1"
    ∷ "Z"
    ∷ []
    prints
    "10 9 0 2"
    ∷ "end closed 11 0 1"
    ∷ [])
    ∷ (case "another thread's do not, and stay" reads
    "N 2 200 5"
    ∷ "C 2 200 217 5 0 0 0" ∷ "R 2 217 0 0"
    ∷ "A 1 100"
    ∷ "D 1"
    ∷ "A 1 100"
    ∷ "C 1 100 6 0 0 0 0" ∷ "R 1 6 5 0"
    ∷ "C 1 100 217 5 0 0 0" ∷ "R 1 217 0 0"
    ∷ "C 1 100 217 5 0 0 0" ∷ "R 1 217 0 0"
    ∷ "D 1"
    ∷ "Z"
    ∷ []
    prints
    "13 9 0 2"
    ∷ "14 9 0 1"
    ∷ "end closed 14 0 2"
    ∷ [])
    ∷ (case "218 after D finds none" reads
    "A 1 100"
    ∷ "C 1 100 6 0 0 0 0" ∷ "R 1 6 5 0"
    ∷ "C 1 100 217 5 0 0 0" ∷ "R 1 217 0 0"
    ∷ "D 1"
    ∷ "A 1 100"
    ∷ "C 1 100 6 0 0 0 0" ∷ "R 1 6 5 0"
    ∷ "C 1 100 218 5 0 0 0" ∷ "R 1 218 0 0"
    ∷ "D 1"
    ∷ []
    prints
    "6 9 0 1"
    ∷ "10 9 0 0"
    ∷ "end open 12 0 2"
    ∷ [])
    ∷ (case "3 and 9 in this order" reads
    "A 1 100"
    ∷ "C 1 100 6 0 0 0 0" ∷ "R 1 6 5 0"
    ∷ "C 1 100 217 5 0 0 0" ∷ "R 1 217 0 0"
    ∷ "C 1 100 222 5 0 0 0" ∷ "R 1 222 8000 0"
    ∷ "D 1"
    ∷ "Z"
    ∷ []
    prints
    "8 3 0 0"
    ∷ "8 9 0 1"
    ∷ "9 8 0 1"
    ∷ "end closed 9 0 3"
    ∷ [])
    -- ---- Z
    ∷ (case "Z while attached, in a call; locals are no leak" reads
    "A 1 100"
    ∷ "C 1 100 6 0 0 0 0" ∷ "R 1 6 5 0"
    ∷ "A 2 200"
    ∷ "C 2 200 6 0 0 0 0"
    ∷ "Z"
    ∷ []
    prints
    "end closed 6 0 0" ∷ [])
    ∷ (case "Z counts the monitors of a thread that is attached still, and gives no 3" reads
    "A 1 100"
    ∷ "C 1 100 6 0 0 0 0" ∷ "R 1 6 5 0"
    ∷ "C 1 100 217 5 0 0 0" ∷ "R 1 217 0 0"
    ∷ "C 1 100 222 5 0 0 0" ∷ "R 1 222 8000 0"
    ∷ "Z"
    ∷ []
    prints
    "8 8 0 1"
    ∷ "8 9 0 1"
    ∷ "end closed 8 0 2"
    ∷ [])
    -- ---- the card's poll loop
    ∷ (case "the poll loop keeps a class, a local, over a detach: 11" reads
    "M 400 1 1 0 0"
    ∷ "M 404 1 1 0 0"
    ∷ "N 1 4096 5"
    ∷ "C 1 4096 21 5 0 0 0" ∷ "R 1 21 6 0"
    ∷ "X 1 0"
    ∷ "A 2 8192"
    ∷ "C 2 8192 31 6 0 0 0" ∷ "R 2 31 9 0"
    ∷ "C 2 8192 33 9 0 0 0" ∷ "R 2 33 400 0"
    ∷ "C 2 8192 61 6 400 0 0" ∷ "R 2 61 0 0"
    ∷ "D 2"
    ∷ "A 2 8192"
    ∷ "C 2 8192 33 9 0 0 0" ∷ "R 2 33 404 0"
    ∷ "C 2 8192 61 6 404 0 0" ∷ "R 2 61 0 0"
    ∷ "D 2"
    ∷ "N 1 4096 5"
    ∷ "C 1 4096 22 6 0 0 0" ∷ "R 1 22 0 0"
    ∷ "X 1 0"
    ∷ "Z"
    ∷ []
    prints
    "16 11 1 9"
    ∷ "end closed 25 0 1"
    ∷ [])
    ∷ []

pub detached_hold : map judged detached ≡ map printed detached
unfolding judged
detached_hold = refl
