-- Worked cases of classes: declared, stated, judged and refused, computed. Assumes nothing.
use mathlib.Core.Path.{◌≡◌, refl}
use mathlib.Core.List.{List, [], ◌∷◌, map}
use Rattle.history.proofs.Worked.{Case, case◌reads◌prints◌, judged, printed}

abbrev classes : List Case
classes =
    (case "a slot object passed as a class" reads
    "K 5 1" ∷ "N 1 100 5" ∷ "O 1 5 5" ∷ "C 1 100 33 5 0 0 0" ∷ []
    prints
    "4 4 1 5" ∷ "end open 4 0 1" ∷ [])
    ∷ (case "a handle with no O is not judged" reads
    "K 5 1" ∷ "N 1 100 5" ∷ "C 1 100 33 5 0 0 0" ∷ []
    prints
    "end open 3 0 0" ∷ [])
    ∷ (case "class 1 where a class is fixed is condemned; 2 is not" reads
    "N 1 100 5 9" ∷ "O 1 5 1" ∷ "O 1 9 2" ∷ "C 1 100 11 5 9 0 0" ∷ []
    prints
    "4 4 1 5" ∷ "end open 4 0 1" ∷ [])
    ∷ (case "11 has a class at both places" reads
    "N 1 100 5 9" ∷ "O 1 5 3" ∷ "O 1 9 4" ∷ "C 1 100 11 5 9 0 0" ∷ []
    prints
    "4 4 1 5" ∷ "4 4 2 9" ∷ "end open 4 0 2" ∷ [])
    ∷ (case "below by a chain of three" reads
    "K 5 4" ∷ "K 6 5" ∷ "K 7 6" ∷ "N 1 100 5" ∷ "O 1 5 7" ∷ "C 1 100 13 5 0 0 0" ∷ []
    prints
    "end open 6 0 0" ∷ [])
    ∷ (case "a chain that leads to the root past the fixed class" reads
    "K 5 1" ∷ "K 6 5" ∷ "K 7 6" ∷ "N 1 100 5" ∷ "O 1 5 7" ∷ "C 1 100 13 5 0 0 0" ∷ []
    prints
    "6 4 1 5" ∷ "end open 6 0 1" ∷ [])
    ∷ (case "the fixed class below the stated one is not enough" reads
    "N 1 100 5" ∷ "O 1 5 1" ∷ "C 1 100 164 5 0 0 0" ∷ []
    prints
    "3 4 1 5" ∷ "end open 3 0 1" ∷ [])
    ∷ (case "a string where a throwable stands" reads
    "N 1 100 5" ∷ "O 1 5 3" ∷ "C 1 100 13 5 0 0 0" ∷ []
    prints
    "3 4 1 5" ∷ "end open 3 0 1" ∷ [])
    ∷ (case "31 gives a class, and needs no O" reads
    "N 1 100 5" ∷ "C 1 100 31 5 0 0 0" ∷ "R 1 31 9 0" ∷ "C 1 100 33 9 0 0 0" ∷ "R 1 33 0 0" ∷ "C 1 100 164 9 0 0 0" ∷ []
    prints
    "6 4 1 9" ∷ "end open 6 0 1" ∷ [])
    ∷ (case "a later O replaces what 31 said, and an earlier O" reads
    "N 1 100 5" ∷ "C 1 100 31 5 0 0 0" ∷ "R 1 31 9 0" ∷ "O 1 9 4" ∷ "O 1 9 3" ∷ "C 1 100 164 9 0 0 0" ∷ "R 1 164 0 0" ∷ "C 1 100 33 9 0 0 0" ∷ []
    prints
    "8 4 1 9" ∷ "end open 8 0 1" ∷ [])
    ∷ (case "the statement ends with the handle: made again it has none" reads
    "N 1 100 5" ∷ "O 1 5 3" ∷ "C 1 100 23 5 0 0 0" ∷ "R 1 23 0 0" ∷ "C 1 100 6 0 0 0 0" ∷ "R 1 6 5 0" ∷ "C 1 100 33 5 0 0 0" ∷ []
    prints
    "end open 7 0 0" ∷ [])
    ∷ (case "copies made by 25, 21 and 226 inherit none" reads
    "N 1 100 5" ∷ "O 1 5 3"
    ∷ "C 1 100 25 5 0 0 0" ∷ "R 1 25 9 0"
    ∷ "C 1 100 21 5 0 0 0" ∷ "R 1 21 6 0"
    ∷ "C 1 100 226 5 0 0 0" ∷ "R 1 226 7 0"
    ∷ "C 1 100 33 9 0 0 0" ∷ "R 1 33 0 0"
    ∷ "C 1 100 33 6 0 0 0" ∷ "R 1 33 0 0"
    ∷ "C 1 100 33 7 0 0 0" ∷ []
    prints
    "end open 13 0 0" ∷ [])
    ∷ (case "what 20 hands on inherits none" reads
    "N 1 100 5" ∷ "C 1 100 19 0 0 0 1" ∷ "R 1 19 0 0" ∷ "O 1 5 3" ∷ "C 1 100 20 5 0 0 0" ∷ "R 1 20 9 0" ∷ "C 1 100 33 9 0 0 0" ∷ []
    prints
    "end open 7 0 0" ∷ [])
    ∷ (case "a global stated by one thread, used on another" reads
    "N 1 100 5" ∷ "C 1 100 21 5 0 0 0" ∷ "R 1 21 6 0" ∷ "O 1 6 3" ∷ "N 2 200" ∷ "C 2 200 33 6 0 0 0" ∷ []
    prints
    "6 4 1 6" ∷ "end open 6 0 1" ∷ [])
    ∷ (case "a weak stated by a thread without lines" reads
    "N 1 100 5" ∷ "C 1 100 226 5 0 0 0" ∷ "R 1 226 7 0" ∷ "O 9 7 2" ∷ "C 1 100 164 7 0 0 0" ∷ []
    prints
    "5 4 1 7" ∷ "end open 5 0 1" ∷ [])
    ∷ (case "the same local number of another thread is another handle" reads
    "N 1 100 5" ∷ "N 2 200 5" ∷ "O 2 5 3" ∷ "C 1 100 33 5 0 0 0" ∷ "C 2 200 33 5 0 0 0" ∷ []
    prints
    "5 4 1 5" ∷ "end open 5 0 1" ∷ [])
    ∷ (case "a dead handle is 11 alone, a handle of a wrong kind 4 once, null 7 alone" reads
    "N 1 100 5" ∷ "O 1 5 3" ∷ "C 1 100 23 5 0 0 0" ∷ "R 1 23 0 0" ∷ "C 1 100 33 5 0 0 0" ∷ "R 1 33 0 0" ∷ "C 1 100 33 8 0 0 0" ∷ "R 1 33 0 0" ∷ "C 1 100 33 0 0 0 0" ∷ []
    prints
    "5 11 1 5" ∷ "7 4 1 8" ∷ "9 7 1 0" ∷ "end open 9 0 3" ∷ [])
    ∷ (case "a place with no fixed class takes any; so does X's result" reads
    "N 1 100 5" ∷ "O 1 5 3" ∷ "C 1 100 31 5 0 0 0" ∷ "R 1 31 0 0" ∷ "X 1 5" ∷ []
    prints
    "end open 5 0 0" ∷ [])
    ∷ (case "K and O between C and R, before the first N, and after the last X" reads
    "K 5 1" ∷ "N 1 100 5" ∷ "C 1 100 6 0 0 0 0" ∷ "K 6 5" ∷ "O 1 5 6" ∷ "R 1 6 9 0" ∷ "X 1 0" ∷ "K 7 6" ∷ "Z" ∷ []
    prints
    "end closed 9 0 0" ∷ [])
    ∷ (case "9: a class declared twice" reads "K 5 1" ∷ "K 5 1" ∷ [] prints "end refused 1 9 0" ∷ [])
    ∷ (case "9: a reserved class declared" reads "K 4 1" ∷ [] prints "end refused 0 9 0" ∷ [])
    ∷ (case "9: a super that is neither" reads "K 5 6" ∷ [] prints "end refused 0 9 0" ∷ [])
    ∷ (case "9: a class its own super" reads "K 5 5" ∷ [] prints "end refused 0 9 0" ∷ [])
    ∷ (case "9: two classes under each other" reads "K 5 1" ∷ "K 6 5" ∷ "K 5 6" ∷ [] prints "end refused 2 9 0" ∷ [])
    ∷ (case "9: a stated class that is neither, before 10" reads "O 1 0 5" ∷ [] prints "end refused 0 9 0" ∷ [])
    ∷ (case "10: null" reads "O 1 0 1" ∷ [] prints "end refused 0 10 0" ∷ [])
    ∷ (case "10: an identity" reads "O 1 8 1" ∷ [] prints "end refused 0 10 0" ∷ [])
    ∷ (case "10: another thread's local" reads "N 1 100 5" ∷ "N 2 200" ∷ "O 2 5 1" ∷ [] prints "end refused 2 10 0" ∷ [])
    ∷ (case "10: an ended handle" reads "N 1 100 5" ∷ "X 1 0" ∷ "O 1 5 1" ∷ [] prints "end refused 2 10 0" ∷ [])
    ∷ (case "4: after Z, before 9 and 10" reads "Z" ∷ "K 4 9" ∷ [] prints "end refused 1 4 0" ∷ [])
    ∷ (case "4: O after Z" reads "Z" ∷ "O 1 0 9" ∷ [] prints "end refused 1 4 0" ∷ [])
    ∷ []

pub classes_hold : map judged classes ≡ map printed classes
unfolding judged
classes_hold = refl
