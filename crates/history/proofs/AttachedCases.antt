-- Worked cases of threads that start in C: the step of A and D, their envs, and what A opens. Assumes nothing.
use mathlib.Core.Path.{◌≡◌, refl}
use mathlib.Core.List.{List, [], ◌∷◌, ◌++◌, map}
use Rattle.history.proofs.Worked.{Case, case◌reads◌prints◌, judged, printed, lent, sixteen_new_locals, the_17th, the_18th}

abbrev attached : List Case
attached =
    -- ---- step order
    (case "attach, call, detach" reads
    "A 1 100"
    ∷ "C 1 100 6 0 0 0 0" ∷ "R 1 6 5 0"
    ∷ "D 1"
    ∷ "Z"
    ∷ []
    prints
    "end closed 5 0 0" ∷ [])
    ∷ (case "a native inside a call of an attached thread" reads
    "A 1 100"
    ∷ "C 1 100 6 0 0 0 0"
    ∷ "N 1 100 5"
    ∷ "C 1 100 31 5 0 0 0" ∷ "R 1 31 9 0"
    ∷ "X 1 9"
    ∷ "R 1 6 13 0"
    ∷ "C 1 100 24 13 9 0 0" ∷ "R 1 24 0 0"
    ∷ "D 1"
    ∷ "Z"
    ∷ []
    prints
    "8 11 2 9"
    ∷ "end closed 11 0 1"
    ∷ [])
    ∷ (case "its X leaves the frames below" reads
    "A 1 100"
    ∷ "C 1 100 19 0 0 0 1" ∷ "R 1 19 0 0"
    ∷ "C 1 100 6 0 0 0 0" ∷ "R 1 6 5 0"
    ∷ "C 1 100 15 0 0 0 0"
    ∷ "N 1 100 9"
    ∷ "X 1 9"
    ∷ "R 1 15 0 0"
    ∷ "C 1 100 20 5 0 0 0" ∷ "R 1 20 0 0"
    ∷ []
    prints
    "end open 11 0 0" ∷ [])
    ∷ (case "X over an attached item: 4" reads
    "A 1 100"
    ∷ "X 1 0"
    ∷ []
    prints
    "end refused 1 4 0" ∷ [])
    ∷ (case "X over it after a native inside: 4" reads
    "A 1 100"
    ∷ "C 1 100 6 0 0 0 0"
    ∷ "N 1 100"
    ∷ "X 1 0"
    ∷ "R 1 6 0 0"
    ∷ "X 1 0"
    ∷ []
    prints
    "end refused 5 4 0" ∷ [])
    ∷ (case "R over an attached item: 4" reads
    "A 1 100"
    ∷ "R 1 6 0 0"
    ∷ []
    prints
    "end refused 1 4 0" ∷ [])
    ∷ (case "N over an attached item: 4" reads
    "A 1 100"
    ∷ "N 1 100"
    ∷ []
    prints
    "end refused 1 4 0" ∷ [])
    ∷ (case "A over an attached item: 4, before 5" reads
    "A 1 100"
    ∷ "A 1 101"
    ∷ []
    prints
    "end refused 1 4 0" ∷ [])
    ∷ (case "A over a native: 4" reads
    "N 1 100"
    ∷ "A 1 100"
    ∷ []
    prints
    "end refused 1 4 0" ∷ [])
    ∷ (case "A over an open call: 4" reads
    "N 1 100"
    ∷ "C 1 100 6 0 0 0 0"
    ∷ "A 1 100"
    ∷ []
    prints
    "end refused 2 4 0" ∷ [])
    ∷ (case "A over an open call of an attached thread: 4" reads
    "A 1 100"
    ∷ "C 1 100 6 0 0 0 0"
    ∷ "A 1 100"
    ∷ []
    prints
    "end refused 2 4 0" ∷ [])
    ∷ (case "D over a native: 4" reads
    "N 1 100"
    ∷ "D 1"
    ∷ []
    prints
    "end refused 1 4 0" ∷ [])
    ∷ (case "D over a native of an attached thread: 4" reads
    "A 1 100"
    ∷ "C 1 100 6 0 0 0 0"
    ∷ "N 1 100"
    ∷ "D 1"
    ∷ []
    prints
    "end refused 3 4 0" ∷ [])
    ∷ (case "D over an open call: 4" reads
    "A 1 100"
    ∷ "C 1 100 6 0 0 0 0"
    ∷ "D 1"
    ∷ []
    prints
    "end refused 2 4 0" ∷ [])
    ∷ (case "D on an empty stack: 4" reads "D 1" ∷ [] prints "end refused 0 4 0" ∷ [])
    ∷ (case "D after X: 4" reads
    "N 1 100"
    ∷ "X 1 0"
    ∷ "D 1"
    ∷ []
    prints
    "end refused 2 4 0" ∷ [])
    ∷ (case "D twice: 4" reads
    "A 1 100"
    ∷ "D 1"
    ∷ "D 1"
    ∷ []
    prints
    "end refused 2 4 0" ∷ [])
    ∷ (case "D of another thread: 4" reads
    "A 1 100"
    ∷ "D 2"
    ∷ []
    prints
    "end refused 1 4 0" ∷ [])
    ∷ (case "C after D: 4" reads
    "A 1 100"
    ∷ "D 1"
    ∷ "C 1 100 6 0 0 0 0"
    ∷ []
    prints
    "end refused 2 4 0" ∷ [])
    ∷ (case "A after Z: 4" reads
    "Z"
    ∷ "A 1 100"
    ∷ []
    prints
    "end refused 1 4 0" ∷ [])
    ∷ (case "D after Z: 4" reads
    "A 1 100"
    ∷ "Z"
    ∷ "D 1"
    ∷ []
    prints
    "end refused 2 4 0" ∷ [])
    ∷ (case "after Z, 2 before 4" reads
    "Z"
    ∷ "A 1"
    ∷ []
    prints
    "end refused 1 2 0" ∷ [])
    ∷ (case "after Z, 3 before 4" reads
    "Z"
    ∷ "D 17"
    ∷ []
    prints
    "end refused 1 3 0" ∷ [])
    -- ---- a thread's env is that of its first N or A
    ∷ (case "attached again with the same env" reads
    "A 1 100"
    ∷ "D 1"
    ∷ "A 1 100"
    ∷ "D 1"
    ∷ "Z"
    ∷ []
    prints
    "end closed 5 0 0" ∷ [])
    ∷ (case "attached again with another: 5" reads
    "A 1 100"
    ∷ "D 1"
    ∷ "A 1 101"
    ∷ []
    prints
    "end refused 2 5 0" ∷ [])
    ∷ (case "N after D with the same env" reads
    "A 1 100"
    ∷ "D 1"
    ∷ "N 1 100 5"
    ∷ "X 1 5"
    ∷ "Z"
    ∷ []
    prints
    "end closed 5 0 0" ∷ [])
    ∷ (case "N after D with another: 5" reads
    "A 1 100"
    ∷ "D 1"
    ∷ "N 1 101"
    ∷ []
    prints
    "end refused 2 5 0" ∷ [])
    ∷ (case "N in a call of an attached thread with another: 5" reads
    "A 1 100"
    ∷ "C 1 100 6 0 0 0 0"
    ∷ "N 1 101"
    ∷ []
    prints
    "end refused 2 5 0" ∷ [])
    ∷ (case "A after X with the same env" reads
    "N 1 100"
    ∷ "X 1 0"
    ∷ "A 1 100"
    ∷ "D 1"
    ∷ []
    prints
    "end open 4 0 0" ∷ [])
    ∷ (case "A after X with another: 5" reads
    "N 1 100"
    ∷ "X 1 0"
    ∷ "A 1 101"
    ∷ []
    prints
    "end refused 2 5 0" ∷ [])
    ∷ (case "A with the env of another thread's N: 5" reads
    "N 2 100"
    ∷ "A 1 100"
    ∷ []
    prints
    "end refused 1 5 0" ∷ [])
    ∷ (case "A with the env of another thread's A, after its D too: 5" reads
    "A 16 100"
    ∷ "D 16"
    ∷ "A 1 100"
    ∷ []
    prints
    "end refused 2 5 0" ∷ [])
    ∷ (case "N with the env of another thread's A: 5" reads
    "A 2 100"
    ∷ "N 1 100"
    ∷ []
    prints
    "end refused 1 5 0" ∷ [])
    ∷ (case "C of an attached thread with another env: rule 1" reads
    "A 1 100"
    ∷ "C 1 101 6 0 0 0 0" ∷ "R 1 6 0 0"
    ∷ "C 1 100 6 0 0 0 0"
    ∷ []
    prints
    "2 1 0 101"
    ∷ "end open 4 0 1"
    ∷ [])
    -- ---- A opens a frame of capacity 16, and pending becomes 0
    ∷ (case "sixteen locals fit, the 17th is one too many" reads
    ("A 1 100"
    ∷ [])
    ++ sixteen_new_locals
    ++ the_17th
    prints
    "35 11 0 165"
    ∷ "end open 35 0 1"
    ∷ [])
    ∷ (case "26 raises it, and attached again it is 16 again" reads
    ("A 1 100"
    ∷ "C 1 100 26 0 0 0 17" ∷ "R 1 26 0 0"
    ∷ [])
    ++ sixteen_new_locals
    ++ the_17th
    ++ the_18th
    ++ ("D 1"
    ∷ "A 1 100"
    ∷ [])
    ++ sixteen_new_locals
    ++ the_17th
    prints
    "39 11 0 169"
    ∷ "75 11 0 165"
    ∷ "end open 75 0 2"
    ∷ [])
    ∷ (case "20 on it: 11, and it stays" reads
    "A 1 100"
    ∷ "C 1 100 6 0 0 0 0" ∷ "R 1 6 5 0"
    ∷ "C 1 100 20 5 0 0 0" ∷ "R 1 20 0 0"
    ∷ "C 1 100 31 5 0 0 0"
    ∷ []
    prints
    "4 11 0 0"
    ∷ "end open 6 0 1"
    ∷ [])
    ∷ (case "20 on a frame pushed in it, and then on it" reads
    "A 1 100"
    ∷ "C 1 100 19 0 0 0 1" ∷ "R 1 19 0 0"
    ∷ "C 1 100 6 0 0 0 0" ∷ "R 1 6 5 0"
    ∷ "C 1 100 20 5 0 0 0" ∷ "R 1 20 9 0"
    ∷ "C 1 100 31 9 0 0 0" ∷ "R 1 31 0 0"
    ∷ "C 1 100 20 0 0 0 0"
    ∷ []
    prints
    "10 11 0 0"
    ∷ "end open 10 0 1"
    ∷ [])
    ∷ (case "a local of it is alive in a native inside: 6" reads
    "A 1 100"
    ∷ "C 1 100 6 0 0 0 0" ∷ "R 1 6 5 0"
    ∷ "C 1 100 15 0 0 0 0"
    ∷ "N 1 100 5"
    ∷ []
    prints
    "end refused 4 6 0" ∷ [])
    ∷ (lent 0 0 (case "A and D pass when all is full" reads
    "A 1 100"
    ∷ "D 1"
    ∷ "A 1 100"
    ∷ []
    prints
    "end open 3 0 0" ∷ []))
    ∷ (case "with an exception pending a call is 2, D is not; the next A clears it" reads
    "A 1 100"
    ∷ "C 1 100 6 0 0 0 0" ∷ "R 1 6 0 1"
    ∷ "C 1 100 6 0 0 0 0" ∷ "R 1 6 0 1"
    ∷ "D 1"
    ∷ "A 1 100"
    ∷ "C 1 100 6 0 0 0 0"
    ∷ []
    prints
    "4 2 0 0"
    ∷ "end open 8 0 1"
    ∷ [])
    ∷ (case "or the next N" reads
    "A 1 100"
    ∷ "C 1 100 6 0 0 0 0" ∷ "R 1 6 0 1"
    ∷ "D 1"
    ∷ "N 1 100"
    ∷ "C 1 100 6 0 0 0 0"
    ∷ []
    prints
    "end open 6 0 0" ∷ [])
    ∷ (case "A clears what a native left pending" reads
    "N 1 100"
    ∷ "C 1 100 6 0 0 0 0" ∷ "R 1 6 0 1"
    ∷ "X 1 0"
    ∷ "A 1 100"
    ∷ "C 1 100 6 0 0 0 0"
    ∷ []
    prints
    "end open 6 0 0" ∷ [])
    ∷ []

pub attached_hold : map judged attached ≡ map printed attached
unfolding judged
attached_hold = refl
