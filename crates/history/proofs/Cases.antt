-- P1 to P12 of document 01, P1 as document 02 changes it, one table and one statement. Assumes nothing.
use mathlib.Core.Path.{◌≡◌, refl}
use mathlib.Core.List.{List, [], ◌∷◌, map}
use Rattle.history.proofs.Worked.{Case, case◌reads◌prints◌, judged, printed}

abbrev cases : List Case
cases =
    (case "P1: a whole run" reads
    "N 1 100 5"
    ∷ "C 1 100 169 5 0 0 0"
    ∷ "R 1 169 8000 0"
    ∷ "C 1 100 23 5 0 0 0"
    ∷ "R 1 23 0 0"
    ∷ "C 1 100 31 5 0 0 0"
    ∷ "R 1 31 9 1"
    ∷ "C 1 101 170 9 8000 0 0"
    ∷ "R 1 170 0 1"
    ∷ "C 1 100 6 0 0 0 0"
    ∷ "R 1 6 0 1"
    ∷ "X 1 5"
    ∷ "Z"
    ∷ []
    prints
    "6 11 1 5"
    ∷ "8 1 0 101"
    ∷ "8 4 1 9"
    ∷ "10 2 0 0"
    ∷ "12 11 1 5"
    ∷ "end closed 13 0 5"
    ∷ [])
    ∷ (case "P2: empty input" reads [] prints "end open 0 0 0" ∷ [])
    ∷ (case "P3: Z alone: closed, 1 line" reads "Z" ∷ [] prints "end closed 1 0 0" ∷ [])
    ∷ (case "P4: N naming 5 twice: 6" reads "N 1 100 5 5" ∷ [] prints "end refused 0 6 0" ∷ [])
    ∷ (case "P5: push n -5, status 0, then a local: 11" reads
    "N 1 100"
    ∷ "C 1 100 19 0 0 0 -5"
    ∷ "R 1 19 0 0"
    ∷ "C 1 100 6 0 0 0 0"
    ∷ "R 1 6 5 0"
    ∷ []
    prints
    "5 11 0 5"
    ∷ "end open 5 0 1"
    ∷ [])
    ∷ (case "P6: push n 1: none" reads
    "N 1 100"
    ∷ "C 1 100 19 0 0 0 1"
    ∷ "R 1 19 0 0"
    ∷ "C 1 100 6 0 0 0 0"
    ∷ "R 1 6 5 0"
    ∷ []
    prints
    "end open 5 0 0" ∷ [])
    ∷ (case "P6: a second local: 11" reads
    "N 1 100"
    ∷ "C 1 100 19 0 0 0 1"
    ∷ "R 1 19 0 0"
    ∷ "C 1 100 6 0 0 0 0"
    ∷ "R 1 6 5 0"
    ∷ "C 1 100 6 0 0 0 0"
    ∷ "R 1 6 9 0"
    ∷ []
    prints
    "7 11 0 9"
    ∷ "end open 7 0 1"
    ∷ [])
    ∷ (case "P7: 31 on 8: rule 4" reads
    "N 1 100"
    ∷ "C 1 100 31 8 0 0 0"
    ∷ []
    prints
    "2 4 1 8"
    ∷ "end open 2 0 1"
    ∷ [])
    ∷ (case "P7: on 0: 7" reads
    "N 1 100"
    ∷ "C 1 100 31 0 0 0 0"
    ∷ []
    prints
    "2 7 1 0"
    ∷ "end open 2 0 1"
    ∷ [])
    ∷ (case "P8: thread 1's local used by thread 2: 11" reads
    "N 1 100 5"
    ∷ "N 2 200"
    ∷ "C 2 200 31 5 0 0 0"
    ∷ []
    prints
    "3 11 1 5"
    ∷ "end open 3 0 1"
    ∷ [])
    ∷ (case "P9: 6 after 222: 3" reads
    "N 1 100 5"
    ∷ "C 1 100 222 5 0 0 0"
    ∷ "R 1 222 8000 0"
    ∷ "C 1 100 6 0 0 0 0"
    ∷ []
    prints
    "4 3 0 0"
    ∷ "end open 4 0 1"
    ∷ [])
    ∷ (case "P10: 20 without push: 11" reads
    "N 1 100"
    ∷ "C 1 100 20 0 0 0 0"
    ∷ []
    prints
    "2 11 0 0"
    ∷ "end open 2 0 1"
    ∷ [])
    ∷ (case "P11: 218 first: 9" reads
    "N 1 100 5"
    ∷ "C 1 100 218 5 0 0 0"
    ∷ []
    prints
    "2 9 0 0"
    ∷ "end open 2 0 1"
    ∷ [])
    ∷ (case "P12: thread 17: 3" reads "N 17 100" ∷ [] prints "end refused 0 3 0" ∷ [])
    ∷ (case "P12: `01`: 2" reads "N 01 100" ∷ [] prints "end refused 0 2 0" ∷ [])
    ∷ []

pub cases_hold : map judged cases ≡ map printed cases
unfolding judged
cases_hold = refl
