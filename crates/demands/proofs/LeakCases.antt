-- Worked cases of the leaks: what is printed after the report, computed. Assumes nothing.
use Prim.Native.Nat.{ℕ}
use mathlib.Core.Path.{◌≡◌, refl}
use mathlib.Core.List.{List, [], ◌∷◌, map}
use Rattle.history.specs.Leaks.{by_line, leaks_of}
use Rattle.history.proofs.Worked.{Case, case◌reads◌prints◌, judged, printed}
use Rattle.demands.specs.PastRows.{reference_rows, pin_rows}
use Rattle.demands.specs.Leaks.{leaks, shown_leaks, report_and_leaks}

unfoldable listed : Case → List ℕ
unfolding judged by_line leaks_of reference_rows pin_rows leaks shown_leaks report_and_leaks
listed c = report_and_leaks c.room c.input

abbrev cases : List Case
cases =
    (case "no leak; a local is none" reads "N 1 100 5" ∷ "Z" ∷ [] prints "end closed 2 0 0" ∷ [])
    ∷ (case "one of each kind" reads
    "N 1 100 5"
    ∷ "C 1 100 21 5 0 0 0" ∷ "R 1 21 6 0"
    ∷ "C 1 100 226 5 0 0 0" ∷ "R 1 226 7 0"
    ∷ "C 1 100 169 5 0 0 0" ∷ "R 1 169 8000 0"
    ∷ "C 1 100 222 5 0 0 0" ∷ "R 1 222 9000 0"
    ∷ "Z"
    ∷ []
    prints
    "10 8 0 2" ∷ "10 10 0 2"
    ∷ "end closed 10 0 2"
    ∷ "leak 10 0 6 3"
    ∷ "leak 10 0 7 5"
    ∷ "leak 8 0 8000 7"
    ∷ "leak 8 1 9000 9"
    ∷ [])
    ∷ (case "two equal buffers are two records" reads
    "N 1 100 5"
    ∷ "C 1 100 169 5 0 0 0" ∷ "R 1 169 8000 0"
    ∷ "C 1 100 169 5 0 0 0" ∷ "R 1 169 8000 0"
    ∷ "Z"
    ∷ []
    prints
    "6 8 0 2"
    ∷ "end closed 6 0 1"
    ∷ "leak 8 0 8000 3"
    ∷ "leak 8 0 8000 5"
    ∷ [])
    ∷ (case "one of two equal buffers released: the older had the lower row, and the younger stays" reads
    "N 1 100 5"
    ∷ "C 1 100 169 5 0 0 0" ∷ "R 1 169 8000 0"
    ∷ "C 1 100 169 5 0 0 0" ∷ "R 1 169 8000 0"
    ∷ "C 1 100 170 5 8000 0 0" ∷ "R 1 170 0 0"
    ∷ "Z"
    ∷ []
    prints
    "8 8 0 1"
    ∷ "end closed 8 0 1"
    ∷ "leak 8 0 8000 5"
    ∷ [])
    ∷ (case "the younger took a lower row that was freed, and the older stays" reads
    "N 1 100 5"
    ∷ "C 1 100 169 5 0 0 0" ∷ "R 1 169 7000 0"
    ∷ "C 1 100 169 5 0 0 0" ∷ "R 1 169 8000 0"
    ∷ "C 1 100 170 5 7000 0 0" ∷ "R 1 170 0 0"
    ∷ "C 1 100 169 5 0 0 0" ∷ "R 1 169 8000 0"
    ∷ "C 1 100 170 5 8000 0 0" ∷ "R 1 170 0 0"
    ∷ "Z"
    ∷ []
    prints
    "12 8 0 1"
    ∷ "end closed 12 0 1"
    ∷ "leak 8 0 8000 5"
    ∷ [])
    ∷ (case "a handle ended and made again has its new line" reads
    "N 1 100 5"
    ∷ "C 1 100 21 5 0 0 0" ∷ "R 1 21 6 0"
    ∷ "C 1 100 22 6 0 0 0" ∷ "R 1 22 0 0"
    ∷ "C 1 100 21 5 0 0 0" ∷ "R 1 21 6 0"
    ∷ "Z"
    ∷ []
    prints
    "8 10 0 1"
    ∷ "end closed 8 0 1"
    ∷ "leak 10 0 6 7"
    ∷ [])
    ∷ (case "by line, not by row: a weak in the row of a deleted global comes last" reads
    "N 1 100 5"
    ∷ "C 1 100 21 5 0 0 0" ∷ "R 1 21 6 0"
    ∷ "C 1 100 21 5 0 0 0" ∷ "R 1 21 10 0"
    ∷ "C 1 100 22 6 0 0 0" ∷ "R 1 22 0 0"
    ∷ "C 1 100 226 5 0 0 0" ∷ "R 1 226 7 0"
    ∷ "Z"
    ∷ []
    prints
    "10 10 0 2"
    ∷ "end closed 10 0 1"
    ∷ "leak 10 0 10 5"
    ∷ "leak 10 0 7 9"
    ∷ [])
    ∷ (case "a leak of each of two threads" reads
    "N 1 100 5"
    ∷ "N 2 200 9"
    ∷ "C 2 200 222 9 0 0 0" ∷ "R 2 222 9000 0"
    ∷ "C 1 100 224 5 0 0 0" ∷ "R 1 224 9000 0"
    ∷ "Z"
    ∷ []
    prints
    "7 8 0 2"
    ∷ "end closed 7 0 1"
    ∷ "leak 8 2 9000 4"
    ∷ "leak 8 1 9000 6"
    ∷ [])
    ∷ (case "a line refused after Z: the leaks are listed all the same" reads
    "N 1 100 5"
    ∷ "C 1 100 21 5 0 0 0" ∷ "R 1 21 6 0"
    ∷ "Z"
    ∷ "Z"
    ∷ []
    prints
    "4 10 0 1"
    ∷ "end refused 4 4 1"
    ∷ "leak 10 0 6 3"
    ∷ [])
    ∷ (case "without Z nothing is listed" reads
    "N 1 100 5"
    ∷ "C 1 100 21 5 0 0 0" ∷ "R 1 21 6 0"
    ∷ []
    prints
    "end open 3 0 0" ∷ [])
    ∷ []

cases_hold : map listed cases ≡ map printed cases
unfolding listed
cases_hold = refl
