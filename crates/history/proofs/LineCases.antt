-- Worked cases of the reader: form, both ends of each range, and 1 before 2 before 3. Assumes nothing.
use Prim.Native.Nat.{ℕ}
use Prim.Native.String.{String}
use mathlib.Core.Path.{◌≡◌, refl}
use mathlib.Core.List.{List, [], ◌∷◌, map}
use Rattle.words.specs.Text.{bytes}
use Rattle.facts.specs.Table.{table, fact_of}
use Rattle.numbers.specs.Decimal.{read_on}
use Rattle.lines.specs.Forms.{of_letter}
use Rattle.lines.specs.Reading.{Read, says, refused, fields, numbers, line_of, of_fields, read}
use Rattle.history.proofs.Worked.{typed}

infix 80 ◌gives◌
-- bytes lent, and the number given instead of an event; 0 where an event is read
data Lent : Type 0 where
  ◌gives◌ : List ℕ → ℕ → Lent

abbrev number_of : Read → ℕ
number_of (says e) = 0
number_of (refused k) = k

abbrev given : Lent → ℕ
given (bs gives k) = number_of (read bs)

abbrev expected : Lent → ℕ
expected (bs gives k) = k

-- a line with its LF, tabs for spaces
abbrev l : String → List ℕ
l s = typed (s ∷ [])

abbrev lines : List Lent
lines =
    -- letter and field count
    l "N 1 1" gives 0 ∷ l "N 1" gives 2 ∷ l "N" gives 2 ∷ l "n 1 1" gives 2 ∷ l "NN 1 1" gives 2 ∷ l " 1 1" gives 2
    ∷ l "X 1 0" gives 0 ∷ l "X 1" gives 2 ∷ l "X 1 0 0" gives 2
    ∷ l "C 1 1 6 0 0 0 0" gives 0 ∷ l "C 1 1 6 0 0 0" gives 2 ∷ l "C 1 1 6 0 0 0 0 0" gives 2
    ∷ l "R 1 6 0 0" gives 0 ∷ l "R 1 6 0" gives 2 ∷ l "R 1 6 0 0 0" gives 2
    ∷ l "A 1 1" gives 0 ∷ l "A 1" gives 2 ∷ l "A" gives 2 ∷ l "A 1 1 5" gives 2 ∷ l "a 1 1" gives 2
    ∷ l "D 1" gives 0 ∷ l "D" gives 2 ∷ l "D 1 1" gives 2 ∷ l "d 1" gives 2
    ∷ l "Z" gives 0 ∷ l "Z 0" gives 2 ∷ l "Z " gives 2 ∷ l "" gives 2 ∷ l "M 8 1 1 0 0" gives 0
    ∷ l "K 5 1" gives 0 ∷ l "K 5" gives 2 ∷ l "K 5 1 1" gives 2 ∷ l "k 5 1" gives 2
    ∷ l "O 1 5 2" gives 0 ∷ l "O 1 5" gives 2 ∷ l "O 1 5 2 2" gives 2
    -- N has 0 to 8 handles
    ∷ l "N 1 1 1 5 9 13 17 21 25 29" gives 0 ∷ l "N 1 1 1 5 9 13 17 21 25 29 33" gives 2
    -- fields are parted by one tab
    ∷ l "N  1 1" gives 2 ∷ l "N 1 1 " gives 2 ∷ l " N 1 1" gives 2 ∷ bytes "N 1 1\n" gives 2 ∷ bytes "N\t1\t1\r\n" gives 2
    ∷ l "A 1 1 " gives 2 ∷ l "A  1 1" gives 2 ∷ l "D 1 " gives 2 ∷ l "D  1" gives 2 ∷ bytes "D 1\n" gives 2
    -- decimal without plus or leading zeros; `-0` is not a number; `-1` is one in every field
    ∷ l "N 01 1" gives 2 ∷ l "N 00 1" gives 2 ∷ l "N +1 1" gives 2 ∷ l "N -0 1" gives 2 ∷ l "N -01 1" gives 2 ∷ l "N - 1" gives 2
    ∷ l "N --1 1" gives 2 ∷ l "N 1- 1" gives 2 ∷ l "N 1a 1" gives 2 ∷ l "N a 1" gives 2 ∷ bytes "N\t1\t1\0\n" gives 2
    ∷ l "N / 1" gives 2 ∷ l "N : 1" gives 2 ∷ l "C 1 1 19 0 0 0 -0" gives 2 ∷ l "C 1 1 19 0 0 0 +1" gives 2 ∷ l "R 1 19 -0 0" gives 2
    ∷ l "A 1 01" gives 2 ∷ l "A 01 1" gives 2 ∷ l "A 1 -0" gives 2 ∷ l "D 01" gives 2 ∷ l "D -0" gives 2 ∷ l "D +1" gives 2
    ∷ l "N -1 1" gives 3 ∷ l "N 1 -1" gives 3 ∷ l "N 1 1 -1" gives 3 ∷ l "X -1 0" gives 3 ∷ l "X 1 -1" gives 3
    ∷ l "C -1 1 11 5 5 0 0" gives 3 ∷ l "C 1 -1 11 5 5 0 0" gives 3 ∷ l "C 1 1 -1 5 5 0 0" gives 3 ∷ l "C 1 1 11 -1 5 0 0" gives 3
    ∷ l "C 1 1 11 5 -1 0 0" gives 3 ∷ l "C 1 1 11 5 5 -1 0" gives 3 ∷ l "C 1 1 11 5 5 0 -1" gives 3
    ∷ l "R -1 6 0 0" gives 3 ∷ l "R 1 -1 0 0" gives 3 ∷ l "R 1 6 -1 0" gives 3 ∷ l "R 1 6 0 -1" gives 3
    ∷ l "A -1 1" gives 3 ∷ l "A 1 -1" gives 3 ∷ l "D -1" gives 3
    -- form before range
    ∷ l "N 17 01" gives 2 ∷ l "N 17 1 5 -0" gives 2 ∷ l "X 17 0 0" gives 2 ∷ l "N 1 999999999999999999999999999999" gives 3
    ∷ l "A 17 01" gives 2 ∷ l "A 0" gives 2 ∷ l "D 17 1" gives 2 ∷ l "A 1 999999999999999999999999999999" gives 3
    -- thread 1..16
    ∷ l "N 0 1" gives 3 ∷ l "N 16 1" gives 0 ∷ l "N 17 1" gives 3
    ∷ l "X 0 0" gives 3 ∷ l "X 16 0" gives 0 ∷ l "X 17 0" gives 3
    ∷ l "C 0 1 6 0 0 0 0" gives 3 ∷ l "C 16 1 6 0 0 0 0" gives 0 ∷ l "C 17 1 6 0 0 0 0" gives 3
    ∷ l "R 0 6 0 0" gives 3 ∷ l "R 16 6 0 0" gives 0 ∷ l "R 17 6 0 0" gives 3
    ∷ l "A 0 1" gives 3 ∷ l "A 16 1" gives 0 ∷ l "A 17 1" gives 3
    ∷ l "D 0" gives 3 ∷ l "D 16" gives 0 ∷ l "D 17" gives 3
    ∷ l "O 0 5 2" gives 3 ∷ l "O 16 5 2" gives 0 ∷ l "O 17 5 2" gives 3
    -- class and super 1..4095
    ∷ l "K 0 1" gives 3 ∷ l "K 1 1" gives 0 ∷ l "K 4095 1" gives 0 ∷ l "K 4096 1" gives 3 ∷ l "K -1 1" gives 3
    ∷ l "K 5 0" gives 3 ∷ l "K 5 4095" gives 0 ∷ l "K 5 4096" gives 3 ∷ l "K 5 -1" gives 3
    ∷ l "O 1 5 0" gives 3 ∷ l "O 1 5 1" gives 0 ∷ l "O 1 5 4095" gives 0 ∷ l "O 1 5 4096" gives 3 ∷ l "O 1 5 -1" gives 3
    -- O's handle is a handle, null or an identity
    ∷ l "O 1 0 2" gives 0 ∷ l "O 1 8 2" gives 0 ∷ l "O 1 18446744073709551615 2" gives 0 ∷ l "O 1 18446744073709551616 2" gives 3 ∷ l "O 1 -1 2" gives 3
    -- env 1..18446744073709551615
    ∷ l "N 1 0" gives 3 ∷ l "N 1 18446744073709551615" gives 0 ∷ l "N 1 18446744073709551616" gives 3
    ∷ l "A 1 0" gives 3 ∷ l "A 1 18446744073709551615" gives 0 ∷ l "A 1 18446744073709551616" gives 3
    ∷ l "C 1 0 6 0 0 0 0" gives 3 ∷ l "C 1 18446744073709551615 6 0 0 0 0" gives 0 ∷ l "C 1 18446744073709551616 6 0 0 0 0" gives 3
    -- function 4..232
    ∷ l "C 1 1 3 0 0 0 0" gives 3 ∷ l "C 1 1 4 0 0 0 0" gives 0 ∷ l "C 1 1 232 0 0 0 0" gives 0 ∷ l "C 1 1 233 0 0 0 0" gives 3
    ∷ l "R 1 3 0 0" gives 3 ∷ l "R 1 4 0 0" gives 0 ∷ l "R 1 232 0 0" gives 0 ∷ l "R 1 233 0 0" gives 3
    -- pending 0 or 1
    ∷ l "R 1 6 0 1" gives 0 ∷ l "R 1 6 0 2" gives 3
    -- N handles are local kind; null arguments are left out
    ∷ l "N 1 1 0" gives 3 ∷ l "N 1 1 6" gives 3 ∷ l "N 1 1 7" gives 3 ∷ l "N 1 1 8" gives 3 ∷ l "N 1 1 1 5 8" gives 3
    ∷ l "N 1 1 18446744073709551613" gives 0 ∷ l "N 1 1 18446744073709551617" gives 3
    -- the X result is free in 0..18446744073709551615
    ∷ l "X 1 18446744073709551615" gives 0 ∷ l "X 1 18446744073709551616" gives 3 ∷ l "X 1 8" gives 0
    -- handles, identities and buffers 0..18446744073709551615, of whatever kind
    ∷ l "C 1 1 64 18446744073709551615 18446744073709551614 18446744073709551613 0" gives 0 ∷ l "C 1 1 64 18446744073709551616 0 0 0" gives 3 ∷ l "C 1 1 64 0 18446744073709551616 0 0" gives 3
    ∷ l "C 1 1 64 0 0 18446744073709551616 0" gives 3 ∷ l "C 1 1 170 5 18446744073709551615 0 0" gives 0 ∷ l "C 1 1 170 5 18446744073709551616 0 0" gives 3
    ∷ l "C 1 1 23 18446744073709551614 0 0 0" gives 0 ∷ l "C 1 1 22 18446744073709551616 0 0 0" gives 3 ∷ l "C 1 1 227 18446744073709551616 0 0 0" gives 3
    ∷ l "C 1 1 23 18446744073709551617 0 0 0" gives 3 ∷ l "C 1 1 24 0 18446744073709551616 0 0" gives 3
    -- numbers that are the same modulo 4294967296 are two
    ∷ l "N 1 4294967296" gives 0 ∷ l "N 1 1 4294967297" gives 0 ∷ l "N 1 1 4294967298" gives 3 ∷ l "X 1 4294967296" gives 0
    ∷ l "A 1 4294967296" gives 0 ∷ l "A 4294967297 1" gives 3 ∷ l "D 4294967297" gives 3
    ∷ l "X 4294967297 0" gives 3 ∷ l "N 4294967297 1" gives 3 ∷ l "C 4294967297 1 6 0 0 0 0" gives 3 ∷ l "R 4294967297 6 0 0" gives 3
    ∷ l "C 1 1 4294967302 0 0 0 0" gives 3 ∷ l "R 1 4294967302 0 0" gives 3 ∷ l "R 1 6 0 4294967296" gives 3 ∷ l "O 4294967297 5 2" gives 3
    ∷ l "K 4294967301 1" gives 3 ∷ l "K 5 4294967297" gives 3 ∷ l "O 1 5 4294967298" gives 3 ∷ l "C 1 1 6 4294967296 0 0 0" gives 3
    ∷ l "C 1 1 19 0 0 0 4294967296" gives 3 ∷ l "C 1 1 19 0 0 0 18446744073709551615" gives 3 ∷ l "R 1 19 -4294967296 0" gives 3 ∷ l "R 1 4 4294967296 0" gives 3
    -- an unused place is written 0
    ∷ l "C 1 1 6 5 0 0 0" gives 3 ∷ l "C 1 1 31 5 5 0 0" gives 3 ∷ l "C 1 1 11 5 5 5 0" gives 3
    -- capacity n is used by 19 and 26 only, else 0
    ∷ l "C 1 1 6 0 0 0 1" gives 3 ∷ l "C 1 1 20 0 0 0 1" gives 3
    ∷ l "C 1 1 19 0 0 0 2147483647" gives 0 ∷ l "C 1 1 19 0 0 0 2147483648" gives 3
    ∷ l "C 1 1 19 0 0 0 -2147483648" gives 0 ∷ l "C 1 1 19 0 0 0 -2147483649" gives 3
    ∷ l "C 1 1 26 0 0 0 2147483647" gives 0 ∷ l "C 1 1 26 0 0 0 2147483648" gives 3
    ∷ l "C 1 1 26 0 0 0 -2147483648" gives 0 ∷ l "C 1 1 26 0 0 0 -2147483649" gives 3
    -- results: L G W (handle of that kind or 0), I (remainder 0), B, S status, `-` written 0
    ∷ l "R 1 6 5 0" gives 0 ∷ l "R 1 6 6 0" gives 3 ∷ l "R 1 6 7 0" gives 3 ∷ l "R 1 6 8 0" gives 3
    ∷ l "R 1 6 18446744073709551613 0" gives 0 ∷ l "R 1 6 18446744073709551617 0" gives 3
    ∷ l "R 1 21 0 0" gives 0 ∷ l "R 1 21 6 0" gives 0 ∷ l "R 1 21 5 0" gives 3 ∷ l "R 1 21 7 0" gives 3 ∷ l "R 1 21 8 0" gives 3
    ∷ l "R 1 21 18446744073709551614 0" gives 0 ∷ l "R 1 21 18446744073709551618 0" gives 3
    ∷ l "R 1 226 0 0" gives 0 ∷ l "R 1 226 7 0" gives 0 ∷ l "R 1 226 5 0" gives 3 ∷ l "R 1 226 6 0" gives 3 ∷ l "R 1 226 8 0" gives 3
    ∷ l "R 1 226 18446744073709551615 0" gives 0 ∷ l "R 1 226 18446744073709551619 0" gives 3
    ∷ l "R 1 33 0 0" gives 0 ∷ l "R 1 33 8 0" gives 0 ∷ l "R 1 33 5 0" gives 3 ∷ l "R 1 33 6 0" gives 3 ∷ l "R 1 33 7 0" gives 3
    ∷ l "R 1 33 18446744073709551612 0" gives 0 ∷ l "R 1 33 18446744073709551616 0" gives 3
    ∷ l "R 1 169 0 0" gives 0 ∷ l "R 1 169 8001 0" gives 0 ∷ l "R 1 169 8002 0" gives 0 ∷ l "R 1 169 8003 0" gives 0 ∷ l "R 1 169 8004 0" gives 0
    ∷ l "R 1 169 18446744073709551615 0" gives 0 ∷ l "R 1 169 18446744073709551616 0" gives 3 ∷ l "R 1 169 -1 0" gives 3
    ∷ l "R 1 19 2147483647 0" gives 0 ∷ l "R 1 19 2147483648 0" gives 3 ∷ l "R 1 19 -2147483648 0" gives 0 ∷ l "R 1 19 -2147483649 0" gives 3
    ∷ l "R 1 217 -1 0" gives 0 ∷ l "R 1 4 1 0" gives 3 ∷ l "R 1 4 -1 0" gives 3
    -- a lent line is all its bytes and its last is the LF; an LF earlier is 2
    ∷ [] gives 1 ∷ bytes "Z" gives 1 ∷ bytes "Z\n" gives 0 ∷ bytes "\n" gives 2 ∷ bytes "Z\nZ\n" gives 2 ∷ bytes "Z\n\n" gives 2 ∷ bytes "Z\nZ" gives 1
    -- at most 224 bytes before LF
    ∷ l "44444444444444444444444444444444444444444444444444444444444444444444444444444444444444444444444444444444444444444444444444444444444444444444444444444444444444444444444444444444444444444444444444444444444444444444444444444444" gives 2
    ∷ l "444444444444444444444444444444444444444444444444444444444444444444444444444444444444444444444444444444444444444444444444444444444444444444444444444444444444444444444444444444444444444444444444444444444444444444444444444444444" gives 1
    ∷ []

lines_read : map given lines ≡ map expected lines
unfolding table fact_of read_on fields numbers line_of of_letter of_fields read
lines_read = refl
