-- Worked cases of what a C ends. Assumes nothing.
use mathlib.Core.Path.{◌≡◌, refl}
use mathlib.Core.List.{List, [], ◌∷◌, map}
use Rattle.history.proofs.Worked.{Case, case◌reads◌prints◌, judged, printed}

abbrev calls : List Case
calls =
    -- ---- C of 22, 23, 227 ends the handle in a if it is of that place's kind and alive
    (case "22 ends a global" reads
    "N 1 100 5"
    ∷ "C 1 100 21 5 0 0 0" ∷ "R 1 21 6 0"
    ∷ "C 1 100 22 6 0 0 0" ∷ "R 1 22 0 0"
    ∷ "C 1 100 31 6 0 0 0"
    ∷ []
    prints
    "6 10 1 6"
    ∷ "end open 6 0 1"
    ∷ [])
    ∷ (case "227 ends a weak" reads
    "N 1 100 5"
    ∷ "C 1 100 226 5 0 0 0" ∷ "R 1 226 7 0"
    ∷ "C 1 100 227 7 0 0 0" ∷ "R 1 227 0 0"
    ∷ "C 1 100 31 7 0 0 0"
    ∷ []
    prints
    "6 10 1 7"
    ∷ "end open 6 0 1"
    ∷ [])
    ∷ (case "23 ends a local, also one of a frame below" reads
    "N 1 100 5"
    ∷ "C 1 100 19 0 0 0 1" ∷ "R 1 19 0 0"
    ∷ "C 1 100 23 5 0 0 0" ∷ "R 1 23 0 0"
    ∷ "C 1 100 20 0 0 0 0" ∷ "R 1 20 0 0"
    ∷ "C 1 100 31 5 0 0 0"
    ∷ []
    prints
    "8 11 1 5"
    ∷ "end open 8 0 1"
    ∷ [])
    ∷ (case "22 on a weak ends nothing" reads
    "N 1 100 5"
    ∷ "C 1 100 226 5 0 0 0" ∷ "R 1 226 7 0"
    ∷ "C 1 100 22 7 0 0 0" ∷ "R 1 22 0 0"
    ∷ "C 1 100 31 7 0 0 0"
    ∷ []
    prints
    "4 4 1 7"
    ∷ "end open 6 0 1"
    ∷ [])
    ∷ (case "227 on a global ends nothing" reads
    "N 1 100 5"
    ∷ "C 1 100 21 5 0 0 0" ∷ "R 1 21 6 0"
    ∷ "C 1 100 227 6 0 0 0" ∷ "R 1 227 0 0"
    ∷ "C 1 100 31 6 0 0 0"
    ∷ []
    prints
    "4 4 1 6"
    ∷ "end open 6 0 1"
    ∷ [])
    ∷ (case "23 on a global ends nothing, 22 and 227 on a local" reads
    "N 1 100 5"
    ∷ "C 1 100 21 5 0 0 0" ∷ "R 1 21 6 0"
    ∷ "C 1 100 23 6 0 0 0" ∷ "R 1 23 0 0"
    ∷ "C 1 100 22 5 0 0 0" ∷ "R 1 22 0 0"
    ∷ "C 1 100 227 5 0 0 0" ∷ "R 1 227 0 0"
    ∷ "C 1 100 24 5 6 0 0"
    ∷ []
    prints
    "4 4 1 6"
    ∷ "6 4 1 5"
    ∷ "8 4 1 5"
    ∷ "end open 10 0 3"
    ∷ [])
    ∷ (case "it ends at the C" reads
    "N 1 100 5"
    ∷ "C 1 100 23 5 0 0 0"
    ∷ "N 1 100 5"
    ∷ []
    prints
    "end open 3 0 0" ∷ [])
    ∷ (case "a handle made again: a stale handle then looks alive" reads
    "N 1 100 5"
    ∷ "C 1 100 23 5 0 0 0" ∷ "R 1 23 0 0"
    ∷ "C 1 100 31 5 0 0 0" ∷ "R 1 31 0 0"
    ∷ "C 1 100 6 0 0 0 0" ∷ "R 1 6 5 0"
    ∷ "C 1 100 31 5 0 0 0"
    ∷ []
    prints
    "4 11 1 5"
    ∷ "end open 8 0 1"
    ∷ [])
    ∷ (case "a condemned line still acts" reads
    "N 1 100 5"
    ∷ "C 1 101 23 5 0 0 0" ∷ "R 1 23 0 0"
    ∷ "C 1 100 31 5 0 0 0"
    ∷ []
    prints
    "2 1 0 101"
    ∷ "4 11 1 5"
    ∷ "end open 4 0 2"
    ∷ [])
    -- ---- a release ends one outstanding buffer of its family equal to b (for critical ones, of this thread)
    ∷ (case "it ends at the C" reads
    "N 1 100 5"
    ∷ "C 1 100 169 5 0 0 0" ∷ "R 1 169 8000 0"
    ∷ "C 1 100 170 5 8000 0 0"
    ∷ "Z"
    ∷ []
    prints
    "end closed 5 0 0" ∷ [])
    ∷ (case "of another family: 8, and none ends" reads
    "N 1 100 5"
    ∷ "C 1 100 165 5 0 0 0" ∷ "R 1 165 8000 0"
    ∷ "C 1 100 170 5 8000 0 0" ∷ "R 1 170 0 0"
    ∷ "C 1 100 166 5 8000 0 0"
    ∷ []
    prints
    "4 8 2 8000"
    ∷ "end open 6 0 1"
    ∷ [])
    ∷ (case "183+k is released by 191+k" reads
    "N 1 100 5"
    ∷ "C 1 100 190 5 0 0 0" ∷ "R 1 190 8001 0"
    ∷ "C 1 100 197 5 8001 0 0" ∷ "R 1 197 0 0"
    ∷ "C 1 100 198 5 8001 0 0" ∷ "R 1 198 0 0"
    ∷ "C 1 100 183 5 0 0 0" ∷ "R 1 183 8002 0"
    ∷ "C 1 100 192 5 8002 0 0" ∷ "R 1 192 0 0"
    ∷ "C 1 100 191 5 8002 0 0"
    ∷ []
    prints
    "4 8 2 8001"
    ∷ "10 8 2 8002"
    ∷ "end open 12 0 2"
    ∷ [])
    ∷ (case "of another string, of no thread" reads
    "N 1 100 5"
    ∷ "N 2 200 9"
    ∷ "C 1 100 169 5 0 0 0" ∷ "R 1 169 8000 0"
    ∷ "C 2 200 170 9 8000 0 0" ∷ "R 2 170 0 0"
    ∷ "Z"
    ∷ []
    prints
    "end closed 7 0 0" ∷ [])
    ∷ (case "a critical one is of the getting thread: 8, and none ends" reads
    "N 1 100 5"
    ∷ "N 2 200 5"
    ∷ "C 1 100 222 5 0 0 0" ∷ "R 1 222 8000 0"
    ∷ "C 2 200 223 5 8000 0 0" ∷ "R 2 223 0 0"
    ∷ "C 1 100 223 5 8000 0 0" ∷ "R 1 223 0 0"
    ∷ "Z"
    ∷ []
    prints
    "5 8 2 8000"
    ∷ "end closed 9 0 1"
    ∷ [])
    ∷ (case "225 ends what 224 got, 223 does not" reads
    "N 1 100 5"
    ∷ "C 1 100 224 5 0 0 0" ∷ "R 1 224 8000 0"
    ∷ "C 1 100 223 5 8000 0 0" ∷ "R 1 223 0 0"
    ∷ "C 1 100 225 5 8000 0 0" ∷ "R 1 225 0 0"
    ∷ "C 1 100 6 0 0 0 0"
    ∷ []
    prints
    "4 8 2 8000"
    ∷ "end open 8 0 1"
    ∷ [])
    ∷ (case "a null buffer is none" reads
    "N 1 100 5"
    ∷ "C 1 100 169 5 0 0 0" ∷ "R 1 169 0 0"
    ∷ "Z"
    ∷ []
    prints
    "end closed 4 0 0" ∷ [])
    -- ---- C of 20 ends the top frame and its locals, if that frame was pushed
    ∷ (case "the top frame and its locals, and no other" reads
    "N 1 100 5"
    ∷ "C 1 100 19 0 0 0 1" ∷ "R 1 19 0 0"
    ∷ "C 1 100 19 0 0 0 1" ∷ "R 1 19 0 0"
    ∷ "C 1 100 6 0 0 0 0" ∷ "R 1 6 9 0"
    ∷ "C 1 100 20 9 0 0 0" ∷ "R 1 20 0 0"
    ∷ "C 1 100 24 5 9 0 0" ∷ "R 1 24 0 0"
    ∷ "C 1 100 20 0 0 0 0" ∷ "R 1 20 0 0"
    ∷ "C 1 100 20 0 0 0 0"
    ∷ []
    prints
    "10 11 2 9"
    ∷ "14 11 0 0"
    ∷ "end open 14 0 2"
    ∷ [])
    ∷ (case "not pushed: none ends" reads
    "N 1 100 5"
    ∷ "C 1 100 20 0 0 0 0" ∷ "R 1 20 0 0"
    ∷ "C 1 100 31 5 0 0 0" ∷ "R 1 31 0 0"
    ∷ "C 1 100 20 0 0 0 0"
    ∷ []
    prints
    "2 11 0 0"
    ∷ "6 11 0 0"
    ∷ "end open 6 0 2"
    ∷ [])
    ∷ (case "a nested native's frame is not pushed" reads
    "N 1 100"
    ∷ "C 1 100 19 0 0 0 1" ∷ "R 1 19 0 0"
    ∷ "C 1 100 6 0 0 0 0"
    ∷ "N 1 100"
    ∷ "C 1 100 20 0 0 0 0" ∷ "R 1 20 0 0"
    ∷ "X 1 0"
    ∷ "R 1 6 0 0"
    ∷ "C 1 100 20 0 0 0 0"
    ∷ []
    prints
    "6 11 0 0"
    ∷ "end open 10 0 1"
    ∷ [])
    ∷ (case "20's result is made in the frame below, and judged there" reads
    "N 1 100"
    ∷ "C 1 100 19 0 0 0 1" ∷ "R 1 19 0 0"
    ∷ "C 1 100 19 0 0 0 0" ∷ "R 1 19 0 0"
    ∷ "C 1 100 20 0 0 0 0" ∷ "R 1 20 5 0"
    ∷ "C 1 100 6 0 0 0 0" ∷ "R 1 6 9 0"
    ∷ []
    prints
    "9 11 0 9"
    ∷ "end open 9 0 1"
    ∷ [])
    ∷ (case "also where that frame is too small" reads
    "N 1 100"
    ∷ "C 1 100 19 0 0 0 0" ∷ "R 1 19 0 0"
    ∷ "C 1 100 19 0 0 0 1" ∷ "R 1 19 0 0"
    ∷ "C 1 100 20 0 0 0 0" ∷ "R 1 20 5 0"
    ∷ []
    prints
    "7 11 0 5"
    ∷ "end open 7 0 1"
    ∷ [])
    ∷ (case "R of 20 makes again what its C ended" reads
    "N 1 100"
    ∷ "C 1 100 19 0 0 0 1" ∷ "R 1 19 0 0"
    ∷ "C 1 100 6 0 0 0 0" ∷ "R 1 6 5 0"
    ∷ "C 1 100 20 5 0 0 0" ∷ "R 1 20 5 0"
    ∷ "C 1 100 31 5 0 0 0"
    ∷ []
    prints
    "end open 8 0 0" ∷ [])
    ∷ []

pub calls_hold : map judged calls ≡ map printed calls
unfolding judged
calls_hold = refl
