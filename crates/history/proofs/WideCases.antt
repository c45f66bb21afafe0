-- Worked cases of values over 32 bits: those that are the same modulo 4294967296 are two, and both ends. Assumes nothing.
use mathlib.Core.Path.{◌≡◌, refl}
use mathlib.Core.List.{List, [], ◌∷◌, map}
use Rattle.history.proofs.Worked.{Case, case◌reads◌prints◌, judged, printed}

abbrev wide : List Case
wide =
    (case "two locals: the one is deleted, the other used on" reads
    "N 1 100 5 4294967301"
    ∷ "C 1 100 23 5 0 0 0" ∷ "R 1 23 0 0"
    ∷ "C 1 100 31 4294967301 0 0 0" ∷ "R 1 31 0 0"
    ∷ "C 1 100 31 5 0 0 0"
    ∷ []
    prints
    "6 11 1 5"
    ∷ "end open 6 0 1"
    ∷ [])
    ∷ (case "two locals, the other way round" reads
    "N 1 100 5 4294967301"
    ∷ "C 1 100 23 4294967301 0 0 0" ∷ "R 1 23 0 0"
    ∷ "C 1 100 31 5 0 0 0" ∷ "R 1 31 0 0"
    ∷ "C 1 100 31 4294967301 0 0 0"
    ∷ []
    prints
    "6 11 1 4294967301"
    ∷ "end open 6 0 1"
    ∷ [])
    ∷ (case "two locals, made by R" reads
    "N 1 100 5"
    ∷ "C 1 100 6 0 0 0 0" ∷ "R 1 6 18446744069414584325 0"
    ∷ "C 1 100 31 18446744069414584325 0 0 0" ∷ "R 1 31 0 0"
    ∷ "C 1 100 31 4294967301 0 0 0"
    ∷ []
    prints
    "6 11 1 4294967301"
    ∷ "end open 6 0 1"
    ∷ [])
    ∷ (case "two globals" reads
    "N 1 100 5"
    ∷ "C 1 100 21 5 0 0 0" ∷ "R 1 21 6 0"
    ∷ "C 1 100 21 5 0 0 0" ∷ "R 1 21 4294967302 0"
    ∷ "C 1 100 22 6 0 0 0" ∷ "R 1 22 0 0"
    ∷ "C 1 100 31 4294967302 0 0 0" ∷ "R 1 31 0 0"
    ∷ "C 1 100 22 6 0 0 0"
    ∷ []
    prints
    "10 10 1 6"
    ∷ "end open 10 0 1"
    ∷ [])
    ∷ (case "two buffers: the one is not outstanding" reads
    "N 1 100 5"
    ∷ "C 1 100 169 5 0 0 0" ∷ "R 1 169 8000 0"
    ∷ "C 1 100 170 5 4294975296 0 0" ∷ "R 1 170 0 0"
    ∷ "C 1 100 170 5 8000 0 0" ∷ "R 1 170 0 0"
    ∷ []
    prints
    "4 8 2 4294975296"
    ∷ "end open 7 0 1"
    ∷ [])
    ∷ (case "two critical buffers: the one is not outstanding" reads
    "N 1 100 5"
    ∷ "C 1 100 222 5 0 0 0" ∷ "R 1 222 8000 0"
    ∷ "C 1 100 223 5 4294975296 0 0"
    ∷ []
    prints
    "4 8 2 4294975296"
    ∷ "end open 4 0 1"
    ∷ [])
    ∷ (case "a buffer that is null modulo 4294967296" reads
    "N 1 100 5"
    ∷ "C 1 100 169 5 0 0 0" ∷ "R 1 169 4294967296 0"
    ∷ "C 1 100 170 5 4294967296 0 0" ∷ "R 1 170 0 0"
    ∷ []
    prints
    "end open 5 0 0" ∷ [])
    ∷ (case "an identity that is null modulo 4294967296" reads
    "N 1 100 5"
    ∷ "C 1 100 34 5 4294967296 0 0" ∷ "R 1 34 0 0"
    ∷ "C 1 100 31 4294967296 0 0 0"
    ∷ []
    prints
    "2 5 2 4294967296"
    ∷ "4 4 1 4294967296"
    ∷ "end open 4 0 2"
    ∷ [])
    ∷ (case "an env of another thread" reads
    "N 1 100"
    ∷ "N 2 4294967396"
    ∷ "C 1 4294967396 4 0 0 0 0" ∷ "R 1 4 0 0"
    ∷ "C 2 4294967396 4 0 0 0 0"
    ∷ []
    prints
    "3 1 0 4294967396"
    ∷ "end open 5 0 1"
    ∷ [])
    ∷ (case "another env of the thread: 5" reads
    "N 1 100"
    ∷ "X 1 0"
    ∷ "N 1 4294967396"
    ∷ []
    prints
    "end refused 2 5 0" ∷ [])
    ∷ (case "the class stated of the other handle" reads
    "N 1 100 5 4294967301"
    ∷ "O 1 4294967301 3"
    ∷ "C 1 100 27 5 0 0 0" ∷ "R 1 27 0 0"
    ∷ "C 1 100 27 4294967301 0 0 0"
    ∷ []
    prints
    "5 4 1 4294967301"
    ∷ "end open 5 0 1"
    ∷ [])
    ∷ (case "a class stated of a handle that is alive only modulo 4294967296: 10" reads
    "N 1 100 5"
    ∷ "O 1 4294967301 3"
    ∷ []
    prints
    "end refused 1 10 0" ∷ [])
    ∷ (case "the largest of each kind" reads
    "M 18446744073709551612 1 4 0 1"
    ∷ "N 16 18446744073709551615 18446744073709551613"
    ∷ "C 16 18446744073709551615 21 18446744073709551613 0 0 0" ∷ "R 16 21 18446744073709551614 0"
    ∷ "C 16 18446744073709551615 226 18446744073709551614 0 0 0" ∷ "R 16 226 18446744073709551615 0"
    ∷ "C 16 18446744073709551615 33 18446744073709551615 0 0 0" ∷ "R 16 33 18446744073709551612 0"
    ∷ "C 16 18446744073709551615 34 18446744073709551613 18446744073709551612 0 0" ∷ "R 16 34 18446744073709551609 0"
    ∷ "C 16 18446744073709551615 169 18446744073709551609 0 0 0" ∷ "R 16 169 18446744073709551615 0"
    ∷ "C 16 18446744073709551615 170 18446744073709551609 18446744073709551615 0 0" ∷ "R 16 170 0 0"
    ∷ "C 16 18446744073709551615 170 18446744073709551609 18446744073709551615 0 0" ∷ "R 16 170 0 0"
    ∷ "X 16 18446744073709551613"
    ∷ []
    prints
    "15 8 2 18446744073709551615"
    ∷ "end open 17 0 1"
    ∷ [])
    ∷ (case "the smallest of each kind" reads
    "M 4 1 1 0 0"
    ∷ "N 1 1 1"
    ∷ "C 1 1 21 1 0 0 0" ∷ "R 1 21 2 0"
    ∷ "C 1 1 226 2 0 0 0" ∷ "R 1 226 3 0"
    ∷ "C 1 1 33 3 0 0 0" ∷ "R 1 33 4 0"
    ∷ "C 1 1 34 1 4 0 0" ∷ "R 1 34 5 0"
    ∷ "C 1 1 169 5 0 0 0" ∷ "R 1 169 1 0"
    ∷ "C 1 1 170 5 1 0 0" ∷ "R 1 170 0 0"
    ∷ "X 1 1"
    ∷ []
    prints
    "end open 15 0 0" ∷ [])
    ∷ []

pub wide_hold : map judged wide ≡ map printed wide
unfolding judged
wide_hold = refl
