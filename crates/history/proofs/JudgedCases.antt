-- Worked cases of the breaches, by place and rule. Assumes nothing.
use mathlib.Core.Path.{◌≡◌, refl}
use mathlib.Core.List.{List, [], ◌∷◌, map}
use Rattle.history.proofs.Worked.{Case, case◌reads◌prints◌, judged, printed}

abbrev judgements : List Case
judgements =
    -- ---- the places a b c
    (case "null under r, i, b: 7" reads
    "N 1 100 5"
    ∷ "C 1 100 34 0 8 0 0" ∷ "R 1 34 0 0"
    ∷ "C 1 100 34 5 0 0 0" ∷ "R 1 34 0 0"
    ∷ "C 1 100 170 5 0 0 0"
    ∷ []
    prints
    "2 5 2 8"
    ∷ "2 7 1 0"
    ∷ "4 7 2 0"
    ∷ "6 7 2 0"
    ∷ "end open 6 0 4"
    ∷ [])
    ∷ (case "null under o, l, g, w: none" reads
    "M 8 2 1 0 0"
    ∷ "N 1 100 5"
    ∷ "C 1 100 24 0 0 0 0" ∷ "R 1 24 0 0"
    ∷ "C 1 100 32 0 5 0 0" ∷ "R 1 32 0 0"
    ∷ "C 1 100 23 0 0 0 0" ∷ "R 1 23 0 0"
    ∷ "C 1 100 22 0 0 0 0" ∷ "R 1 22 0 0"
    ∷ "C 1 100 227 0 0 0 0" ∷ "R 1 227 0 0"
    ∷ "C 1 100 104 5 8 0 0" ∷ "R 1 104 0 0"
    ∷ "X 1 0"
    ∷ []
    prints
    "end open 15 0 0" ∷ [])
    ∷ (case "a nonzero identity in a handle place: 4" reads
    "N 1 100 5"
    ∷ "C 1 100 24 8 12 0 0" ∷ "R 1 24 0 0"
    ∷ "C 1 100 11 5 8 0 0" ∷ "R 1 11 0 0"
    ∷ "C 1 100 23 8 0 0 0" ∷ "R 1 23 0 0"
    ∷ "C 1 100 22 8 0 0 0" ∷ "R 1 22 0 0"
    ∷ "C 1 100 227 8 0 0 0" ∷ "R 1 227 0 0"
    ∷ "X 1 8"
    ∷ []
    prints
    "2 4 1 8"
    ∷ "2 4 2 12"
    ∷ "4 4 2 8"
    ∷ "6 4 1 8"
    ∷ "8 4 1 8"
    ∷ "10 4 1 8"
    ∷ "12 4 1 8"
    ∷ "end open 12 0 7"
    ∷ [])
    ∷ (case "a handle in an identity place: 4, alive or not" reads
    "N 1 100 5"
    ∷ "C 1 100 34 5 5 0 0" ∷ "R 1 34 0 0"
    ∷ "C 1 100 34 5 6 0 0" ∷ "R 1 34 0 0"
    ∷ "C 1 100 64 5 5 7 0"
    ∷ []
    prints
    "2 4 2 5"
    ∷ "4 4 2 6"
    ∷ "6 4 3 7"
    ∷ "end open 6 0 3"
    ∷ [])
    ∷ (case "another kind under l, g, w: 4, alive or not" reads
    "N 1 100 5"
    ∷ "C 1 100 23 6 0 0 0" ∷ "R 1 23 0 0"
    ∷ "C 1 100 23 7 0 0 0" ∷ "R 1 23 0 0"
    ∷ "C 1 100 22 5 0 0 0" ∷ "R 1 22 0 0"
    ∷ "C 1 100 22 7 0 0 0" ∷ "R 1 22 0 0"
    ∷ "C 1 100 227 5 0 0 0" ∷ "R 1 227 0 0"
    ∷ "C 1 100 227 6 0 0 0"
    ∷ []
    prints
    "2 4 1 6"
    ∷ "4 4 1 7"
    ∷ "6 4 1 5"
    ∷ "8 4 1 7"
    ∷ "10 4 1 5"
    ∷ "12 4 1 6"
    ∷ "end open 12 0 6"
    ∷ [])
    ∷ (case "local not alive in this thread: 11; global or weak not alive: 10" reads
    "N 1 100"
    ∷ "C 1 100 31 5 0 0 0" ∷ "R 1 31 0 0"
    ∷ "C 1 100 31 6 0 0 0" ∷ "R 1 31 0 0"
    ∷ "C 1 100 31 7 0 0 0" ∷ "R 1 31 0 0"
    ∷ "C 1 100 24 6 7 0 0" ∷ "R 1 24 0 0"
    ∷ "C 1 100 23 5 0 0 0" ∷ "R 1 23 0 0"
    ∷ "C 1 100 22 6 0 0 0" ∷ "R 1 22 0 0"
    ∷ "C 1 100 227 7 0 0 0"
    ∷ []
    prints
    "2 11 1 5"
    ∷ "4 10 1 6"
    ∷ "6 10 1 7"
    ∷ "8 10 1 6"
    ∷ "8 10 2 7"
    ∷ "10 11 1 5"
    ∷ "12 10 1 6"
    ∷ "14 10 1 7"
    ∷ "end open 14 0 8"
    ∷ [])
    ∷ (case "places 2 and 3" reads
    "N 1 100 5"
    ∷ "C 1 100 64 5 6 9 0" ∷ "R 1 64 0 0"
    ∷ "C 1 100 104 5 8 9 0" ∷ "R 1 104 0 0"
    ∷ "C 1 100 104 5 8 5 0"
    ∷ []
    prints
    "2 4 3 9"
    ∷ "2 10 2 6"
    ∷ "4 5 2 8"
    ∷ "4 11 3 9"
    ∷ "6 5 2 8"
    ∷ "end open 6 0 5"
    ∷ [])
    ∷ (case "buffers have each remainder" reads
    "N 1 100 5"
    ∷ "C 1 100 169 5 0 0 0" ∷ "R 1 169 18446744073709551613 0"
    ∷ "C 1 100 169 5 0 0 0" ∷ "R 1 169 18446744073709551615 0"
    ∷ "C 1 100 170 5 18446744073709551613 0 0" ∷ "R 1 170 0 0"
    ∷ "C 1 100 170 5 18446744073709551614 0 0" ∷ "R 1 170 0 0"
    ∷ "C 1 100 170 5 18446744073709551615 0 0"
    ∷ []
    prints
    "8 8 2 18446744073709551614"
    ∷ "end open 10 0 1"
    ∷ [])
    -- ---- place 0
    ∷ (case "several findings on one line: by rule, then by place" reads
    "N 1 100 5"
    ∷ "C 1 100 222 5 0 0 0" ∷ "R 1 222 8000 1"
    ∷ "C 1 101 64 0 8 5 0"
    ∷ []
    prints
    "4 1 0 101"
    ∷ "4 2 0 0"
    ∷ "4 3 0 0"
    ∷ "4 4 2 8"
    ∷ "4 4 3 5"
    ∷ "4 7 1 0"
    ∷ "end open 4 0 6"
    ∷ [])
    ∷ (case "two of rule 11" reads
    "N 1 100"
    ∷ "C 1 100 20 5 0 0 0"
    ∷ []
    prints
    "2 11 0 0"
    ∷ "2 11 1 5"
    ∷ "end open 2 0 2"
    ∷ [])
    ∷ (case "7 before 9" reads
    "N 1 100"
    ∷ "C 1 100 218 0 0 0 0"
    ∷ []
    prints
    "2 7 1 0"
    ∷ "2 9 0 0"
    ∷ "end open 2 0 2"
    ∷ [])
    ∷ (case "2: pending and not allowed, 217; allowed, 218" reads
    "N 1 100 5"
    ∷ "C 1 100 217 5 0 0 0" ∷ "R 1 217 0 1"
    ∷ "C 1 100 217 5 0 0 0" ∷ "R 1 217 0 1"
    ∷ "C 1 100 218 5 0 0 0" ∷ "R 1 218 0 1"
    ∷ "C 1 100 22 0 0 0 0" ∷ "R 1 22 0 1"
    ∷ "C 1 100 21 0 0 0 0"
    ∷ []
    prints
    "4 2 0 0"
    ∷ "10 2 0 0"
    ∷ "end open 10 0 2"
    ∷ [])
    ∷ (case "3: the functions 222-225 are allowed inside a critical region" reads
    "N 1 100 5"
    ∷ "C 1 100 222 5 0 0 0" ∷ "R 1 222 8000 0"
    ∷ "C 1 100 224 5 0 0 0" ∷ "R 1 224 8100 0"
    ∷ "C 1 100 221 5 0 0 0" ∷ "R 1 221 0 0"
    ∷ "C 1 100 223 5 8000 0 0" ∷ "R 1 223 0 0"
    ∷ "C 1 100 226 5 0 0 0" ∷ "R 1 226 0 0"
    ∷ "C 1 100 225 5 8100 0 0" ∷ "R 1 225 0 0"
    ∷ "C 1 100 221 5 0 0 0"
    ∷ []
    prints
    "6 3 0 0"
    ∷ "10 3 0 0"
    ∷ "end open 14 0 2"
    ∷ [])
    ∷ (case "3: a critical buffer of that thread" reads
    "N 1 100 5"
    ∷ "N 2 200 9"
    ∷ "C 1 100 222 5 0 0 0" ∷ "R 1 222 8000 0"
    ∷ "C 2 200 6 0 0 0 0" ∷ "R 2 6 0 0"
    ∷ "X 2 9"
    ∷ "X 1 9"
    ∷ []
    prints
    "8 3 0 0"
    ∷ "8 11 1 9"
    ∷ "end open 8 0 2"
    ∷ [])
    ∷ (case "3: an ordinary buffer is none" reads
    "N 1 100 5"
    ∷ "C 1 100 169 5 0 0 0" ∷ "R 1 169 8000 0"
    ∷ "C 1 100 6 0 0 0 0" ∷ "R 1 6 0 0"
    ∷ "X 1 0"
    ∷ []
    prints
    "end open 6 0 0" ∷ [])
    ∷ (case "X's result is judged before the X acts" reads
    "N 1 100 5"
    ∷ "X 1 5"
    ∷ "N 1 100"
    ∷ "X 1 5"
    ∷ "N 1 100"
    ∷ "X 1 6"
    ∷ []
    prints
    "4 11 1 5"
    ∷ "6 10 1 6"
    ∷ "end open 6 0 2"
    ∷ [])
    ∷ (case "on R, 11: the local made leaves more alive in its frame than the capacity" reads
    "N 1 100 5"
    ∷ "C 1 100 19 0 0 0 0" ∷ "R 1 19 0 0"
    ∷ "C 1 100 6 0 0 0 0" ∷ "R 1 6 0 0"
    ∷ "C 1 100 6 0 0 0 0" ∷ "R 1 6 9 0"
    ∷ "C 1 100 31 9 0 0 0" ∷ "R 1 31 13 0"
    ∷ []
    prints
    "7 11 0 9"
    ∷ "9 11 0 13"
    ∷ "end open 9 0 2"
    ∷ [])
    ∷ (case "no global or weak overflows" reads
    "N 1 100 5"
    ∷ "C 1 100 19 0 0 0 0" ∷ "R 1 19 0 0"
    ∷ "C 1 100 21 5 0 0 0" ∷ "R 1 21 6 0"
    ∷ "C 1 100 226 5 0 0 0" ∷ "R 1 226 7 0"
    ∷ "C 1 100 33 5 0 0 0" ∷ "R 1 33 8 0"
    ∷ "C 1 100 169 5 0 0 0" ∷ "R 1 169 8000 0"
    ∷ []
    prints
    "end open 11 0 0" ∷ [])
    ∷ (case "a full frame and a call with no finding of its own" reads
    "N 1 100"
    ∷ "C 1 100 19 0 0 0 0" ∷ "R 1 19 0 0"
    ∷ "C 1 100 6 0 0 0 0" ∷ "R 1 6 5 0"
    ∷ "C 1 100 23 5 0 0 0" ∷ "R 1 23 0 0"
    ∷ "C 1 100 6 0 0 0 0" ∷ "R 1 6 0 0"
    ∷ []
    prints
    "5 11 0 5"
    ∷ "end open 9 0 1"
    ∷ [])
    ∷ []

pub judgements_hold : map judged judgements ≡ map printed judgements
unfolding judged
judgements_hold = refl
