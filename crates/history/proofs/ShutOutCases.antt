-- Worked cases against each reading to shut out. Assumes nothing.
use mathlib.Core.Path.{◌≡◌, refl}
use mathlib.Core.List.{List, [], ◌∷◌, map}
use Rattle.history.proofs.Worked.{Case, case◌reads◌prints◌, judged, printed, lent}

abbrev readings : List Case
readings =
    -- A local looked up without its thread.
    (case "thread 2 has a 5 of its own" reads
    "N 1 100 5"
    ∷ "N 2 200 5"
    ∷ "C 2 200 31 5 0 0 0"
    ∷ []
    prints
    "end open 3 0 0" ∷ [])
    ∷ (case "thread 1's 5 is alive after thread 2 ended its own" reads
    "N 1 100 5"
    ∷ "N 2 200 5"
    ∷ "C 2 200 23 5 0 0 0" ∷ "R 2 23 0 0"
    ∷ "C 2 200 31 5 0 0 0"
    ∷ "C 1 100 31 5 0 0 0"
    ∷ []
    prints
    "5 11 1 5"
    ∷ "end open 6 0 1"
    ∷ [])
    ∷ (case "23 on thread 1's local by thread 2 ends nothing" reads
    "N 1 100 5"
    ∷ "N 2 200"
    ∷ "C 2 200 23 5 0 0 0" ∷ "R 2 23 0 0"
    ∷ "C 1 100 31 5 0 0 0"
    ∷ []
    prints
    "3 11 1 5"
    ∷ "end open 5 0 1"
    ∷ [])
    -- Room counted from handles ever made.
    ∷ (lent 1 0 (case "one reference row: each ended handle leaves its row" reads
    "N 1 100 5"
    ∷ "C 1 100 23 5 0 0 0" ∷ "R 1 23 0 0"
    ∷ "C 1 100 6 0 0 0 0" ∷ "R 1 6 9 0"
    ∷ "C 1 100 23 9 0 0 0" ∷ "R 1 23 0 0"
    ∷ "C 1 100 6 0 0 0 0" ∷ "R 1 6 5 0"
    ∷ "X 1 5"
    ∷ "N 1 100 13"
    ∷ []
    prints
    "end open 11 0 0" ∷ []))
    ∷ (lent 1 1 (case "one pin row: each released buffer leaves its row" reads
    "N 1 100 5"
    ∷ "C 1 100 169 5 0 0 0" ∷ "R 1 169 8000 0"
    ∷ "C 1 100 170 5 8000 0 0" ∷ "R 1 170 0 0"
    ∷ "C 1 100 169 5 0 0 0" ∷ "R 1 169 8000 0"
    ∷ []
    prints
    "end open 7 0 0" ∷ []))
    -- ExceptionClear treated as clearing by itself, though the R line says what is pending.
    ∷ (case "R of 17 says that one is pending" reads
    "N 1 100"
    ∷ "C 1 100 6 0 0 0 0" ∷ "R 1 6 0 1"
    ∷ "C 1 100 17 0 0 0 0" ∷ "R 1 17 0 1"
    ∷ "C 1 100 6 0 0 0 0"
    ∷ []
    prints
    "6 2 0 0"
    ∷ "end open 6 0 1"
    ∷ [])
    ∷ (case "R of 17 says that none is pending" reads
    "N 1 100"
    ∷ "C 1 100 6 0 0 0 0" ∷ "R 1 6 0 1"
    ∷ "C 1 100 17 0 0 0 0" ∷ "R 1 17 0 0"
    ∷ "C 1 100 6 0 0 0 0"
    ∷ []
    prints
    "end open 6 0 0" ∷ [])
    -- Push acting on a status of -1.
    ∷ (case "no frame of capacity 0, and none to end" reads
    "N 1 100"
    ∷ "C 1 100 19 0 0 0 0" ∷ "R 1 19 -1 0"
    ∷ "C 1 100 6 0 0 0 0" ∷ "R 1 6 5 0"
    ∷ "C 1 100 20 0 0 0 0"
    ∷ []
    prints
    "6 11 0 0"
    ∷ "end open 6 0 1"
    ∷ [])
    ∷ (case "nor on a status of 1" reads
    "N 1 100"
    ∷ "C 1 100 19 0 0 0 0" ∷ "R 1 19 1 0"
    ∷ "C 1 100 6 0 0 0 0" ∷ "R 1 6 5 0"
    ∷ "C 1 100 20 0 0 0 0"
    ∷ []
    prints
    "6 11 0 0"
    ∷ "end open 6 0 1"
    ∷ [])
    -- One release ending all equal buffers.
    ∷ (case "two equal buffers and one release: one is left" reads
    "N 1 100 5"
    ∷ "C 1 100 169 5 0 0 0" ∷ "R 1 169 8000 0"
    ∷ "C 1 100 169 5 0 0 0" ∷ "R 1 169 8000 0"
    ∷ "C 1 100 170 5 8000 0 0" ∷ "R 1 170 0 0"
    ∷ "Z"
    ∷ []
    prints
    "8 8 0 1"
    ∷ "end closed 8 0 1"
    ∷ [])
    ∷ (case "two equal buffers and three releases: the third finds none" reads
    "N 1 100 5"
    ∷ "C 1 100 169 5 0 0 0" ∷ "R 1 169 8000 0"
    ∷ "C 1 100 169 5 0 0 0" ∷ "R 1 169 8000 0"
    ∷ "C 1 100 170 5 8000 0 0" ∷ "R 1 170 0 0"
    ∷ "C 1 100 170 5 8000 0 0" ∷ "R 1 170 0 0"
    ∷ "C 1 100 170 5 8000 0 0"
    ∷ []
    prints
    "10 8 2 8000"
    ∷ "end open 10 0 1"
    ∷ [])
    ∷ []

pub readings_shut_out : map judged readings ≡ map printed readings
unfolding judged
readings_shut_out = refl
