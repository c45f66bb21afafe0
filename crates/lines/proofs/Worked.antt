-- Lines worked out from the definitions alone. Assumes nothing.
use mathlib.Core.Path.{◌≡◌, refl}
use mathlib.Core.List.{List, [], ◌∷◌, ◌++◌, map}
use Prim.Native.Nat.{ℕ}
use Prim.Native.Char.{code}
use Prim.Native.String.{String}
use lib.IntN.{pos, negsuc}
use lib.ListN.{length, replicate}
use Rattle.std.specs.Prelude.{Result, Ok, Err}
use Rattle.words.specs.Text.{bytes, with_tabs}
use Rattle.numbers.specs.Decimal.{read_on, digits, digits_in}
use Rattle.facts.specs.Table.{table, fact_of}
use Rattle.lines.specs.Line.{K, O, M, N, X, C, R, A, D, Z, states}
use Rattle.lines.specs.Forms.{of_letter}
use Rattle.lines.specs.Reading.{Read, says, refused, fields, numbers, line_of, of_fields, read}
use Rattle.lines.specs.Writing.{tabbed, written}
use Rattle.lines.specs.Apart.{apart, apart_of, numbers_left}
use Rattle.lines.specs.declared.apart.Apart.{Apart}
use Rattle.lines.specs.declared.refusal.Refusal.{Refusal}

-- a line with its tabs shown as spaces, and what it says
pub record Worked : Type 0 where
  pub line : String
  pub reading : Read

infix 80 ◌reads◌
abbrev pub ◌reads◌ : String → Read → Worked
s reads r = record { line = s; reading = r }

abbrev pub worked : List Worked
worked =
    "N 1 100 5\n" reads says (N 1 100 (5 ∷ []))
    ∷ "C 1 100 169 5 0 0 0\n" reads says (C 1 100 169 5 0 0 (pos 0))
    ∷ "R 1 169 8000 0\n" reads says (R 1 169 (pos 8000) 0)
    ∷ "X 1 5\n" reads says (X 1 5)
    ∷ "Z\n" reads says Z
    -- ranges
    ∷ "X 16 0\n" reads says (X 16 0)
    ∷ "X 16 18446744073709551615\n" reads says (X 16 18446744073709551615)
    ∷ "X 16 18446744073709551616\n" reads refused 3
    ∷ "X 16 99999999999999999999\n" reads refused 3
    ∷ "X 16 100000000000000000000\n" reads refused 3
    -- numbers that are the same modulo 4294967296 are two
    ∷ "X 1 4294967296\n" reads says (X 1 4294967296)
    ∷ "X 1 4294967301\n" reads says (X 1 4294967301)
    ∷ "N 1 4294967296\n" reads says (N 1 4294967296 [])
    ∷ "X 4294967297 5\n" reads refused 3
    ∷ "C 1 100 4294967300 0 0 0 0\n" reads refused 3
    ∷ "R 1 4294967300 0 0\n" reads refused 3
    ∷ "R 1 31 9 4294967296\n" reads refused 3
    ∷ "C 1 100 19 0 0 0 4294967296\n" reads refused 3
    ∷ "R 1 19 -4294967296 0\n" reads refused 3
    ∷ "K 4294967301 1\n" reads refused 3
    ∷ "O 1 5 4294967299\n" reads refused 3
    ∷ "X 17 5\n" reads refused 3
    ∷ "X 0 5\n" reads refused 3
    ∷ "X 1 -1\n" reads refused 3
    ∷ "X 1 999999999999999999999999999999\n" reads refused 3
    ∷ "N 1 0\n" reads refused 3
    ∷ "N 1 1\n" reads says (N 1 1 [])
    ∷ "N 1 18446744073709551615\n" reads says (N 1 18446744073709551615 [])
    ∷ "N 1 18446744073709551616\n" reads refused 3
    ∷ "N 1 100 18446744073709551613\n" reads says (N 1 100 (18446744073709551613 ∷ []))
    ∷ "N 1 100 18446744073709551617\n" reads refused 3
    ∷ "N 1 100 0\n" reads refused 3
    ∷ "N 1 100 6\n" reads refused 3
    ∷ "N 1 100 1 5 9 13 17 21 25 29\n" reads says (N 1 100 (1 ∷ 5 ∷ 9 ∷ 13 ∷ 17 ∷ 21 ∷ 25 ∷ 29 ∷ []))
    ∷ "C 1 100 3 0 0 0 0\n" reads refused 3
    ∷ "C 1 100 233 0 0 0 0\n" reads refused 3
    ∷ "C 1 0 4 0 0 0 0\n" reads refused 3
    ∷ "C 1 18446744073709551615 4 0 0 0 0\n" reads says (C 1 18446744073709551615 4 0 0 0 (pos 0))
    ∷ "C 1 18446744073709551616 4 0 0 0 0\n" reads refused 3
    ∷ "C 1 100 104 18446744073709551615 18446744073709551615 18446744073709551615 0\n" reads says (C 1 100 104 18446744073709551615 18446744073709551615 18446744073709551615 (pos 0))
    ∷ "C 1 100 104 18446744073709551616 0 0 0\n" reads refused 3
    ∷ "C 1 100 104 0 18446744073709551616 0 0\n" reads refused 3
    ∷ "C 1 100 104 0 0 18446744073709551616 0\n" reads refused 3
    ∷ "C 1 100 31 5 1 0 0\n" reads refused 3
    ∷ "C 1 100 31 5 0 0 1\n" reads refused 3
    ∷ "C 1 100 19 0 0 0 -5\n" reads says (C 1 100 19 0 0 0 (negsuc 4))
    ∷ "R 1 19 -2147483648 0\n" reads says (R 1 19 (negsuc 2147483647) 0)
    ∷ "R 1 19 -2147483649 0\n" reads refused 3
    ∷ "R 1 19 2147483647 0\n" reads says (R 1 19 (pos 2147483647) 0)
    ∷ "R 1 19 2147483648 0\n" reads refused 3
    ∷ "R 1 31 9 1\n" reads says (R 1 31 (pos 9) 1)
    ∷ "R 1 31 10 1\n" reads refused 3
    ∷ "R 1 31 9 2\n" reads refused 3
    ∷ "R 1 31 -9 1\n" reads refused 3
    ∷ "R 1 4 1 0\n" reads refused 3
    ∷ "R 1 169 18446744073709551615 0\n" reads says (R 1 169 (pos 18446744073709551615) 0)
    ∷ "R 1 169 18446744073709551616 0\n" reads refused 3
    -- a thread and its env
    ∷ "A 1 100\n" reads says (A 1 100)
    ∷ "A 1 1\n" reads says (A 1 1)
    ∷ "A 16 18446744073709551615\n" reads says (A 16 18446744073709551615)
    ∷ "A 0 100\n" reads refused 3
    ∷ "A 17 100\n" reads refused 3
    ∷ "A 4294967297 100\n" reads refused 3
    ∷ "A -1 100\n" reads refused 3
    ∷ "A 1 0\n" reads refused 3
    ∷ "A 1 18446744073709551616\n" reads refused 3
    ∷ "A 1 -100\n" reads refused 3
    ∷ "D 1\n" reads says (D 1)
    ∷ "D 16\n" reads says (D 16)
    ∷ "D 0\n" reads refused 3
    ∷ "D 17\n" reads refused 3
    ∷ "D 4294967297\n" reads refused 3
    ∷ "D -1\n" reads refused 3
    -- classes
    ∷ "K 5 1\n" reads says (states (K 5 1))
    ∷ "K 1 4095\n" reads says (states (K 1 4095))
    ∷ "K 4095 1\n" reads says (states (K 4095 1))
    ∷ "K 5 5\n" reads says (states (K 5 5))
    ∷ "K 0 1\n" reads refused 3
    ∷ "K 1 0\n" reads refused 3
    ∷ "K 4096 1\n" reads refused 3
    ∷ "K 1 4096\n" reads refused 3
    ∷ "K -5 1\n" reads refused 3
    ∷ "K 5 -1\n" reads refused 3
    ∷ "K 5 4294967297\n" reads refused 3
    ∷ "O 1 5 3\n" reads says (states (O 1 5 3))
    ∷ "O 16 18446744073709551615 4095\n" reads says (states (O 16 18446744073709551615 4095))
    ∷ "O 1 5 1\n" reads says (states (O 1 5 1))
    ∷ "O 1 0 3\n" reads says (states (O 1 0 3))
    ∷ "O 1 8 3\n" reads says (states (O 1 8 3))
    ∷ "O 0 5 3\n" reads refused 3
    ∷ "O 17 5 3\n" reads refused 3
    ∷ "O -1 5 3\n" reads refused 3
    ∷ "O 1 18446744073709551616 3\n" reads refused 3
    ∷ "O 1 -5 3\n" reads refused 3
    ∷ "O 1 5 0\n" reads refused 3
    ∷ "O 1 5 4096\n" reads refused 3
    ∷ "O 1 5 -3\n" reads refused 3
    ∷ "M 8 1 5 0 0\n" reads says (states (M 8 1 5 0 0))
    ∷ "M 4 2 4095 1 1\n" reads says (states (M 4 2 4095 1 1))
    ∷ "M 18446744073709551612 2 1 0 1\n" reads says (states (M 18446744073709551612 2 1 0 1))
    ∷ "M 0 1 5 0 0\n" reads refused 3
    ∷ "M 5 1 5 0 0\n" reads refused 3
    ∷ "M 6 1 5 0 0\n" reads refused 3
    ∷ "M 7 1 5 0 0\n" reads refused 3
    ∷ "M -8 1 5 0 0\n" reads refused 3
    ∷ "M 18446744073709551616 1 5 0 0\n" reads refused 3
    ∷ "M 8 0 5 0 0\n" reads refused 3
    ∷ "M 8 3 5 0 0\n" reads refused 3
    ∷ "M 8 4294967297 5 0 0\n" reads refused 3
    ∷ "M 8 1 0 0 0\n" reads refused 3
    ∷ "M 8 1 4096 0 0\n" reads refused 3
    ∷ "M 8 1 5 2 0\n" reads refused 3
    ∷ "M 8 1 5 -1 0\n" reads refused 3
    ∷ "M 8 1 5 0 2\n" reads refused 3
    ∷ "M 8 1 5 0 4294967296\n" reads refused 3
    -- letter, field count and number form, before any range
    ∷ "X 01 5\n" reads refused 2
    ∷ "N 17 01\n" reads refused 2
    ∷ "X 1 -0\n" reads refused 2
    ∷ "X 1 -\n" reads refused 2
    ∷ "X 1 +1\n" reads refused 2
    ∷ "X 1\n" reads refused 2
    ∷ "X 1 5 5\n" reads refused 2
    ∷ "N 1 100 1 5 9 13 17 21 25 29 33\n" reads refused 2
    ∷ "A\n" reads refused 2
    ∷ "A 1\n" reads refused 2
    ∷ "A 1 100 5\n" reads refused 2
    ∷ "A 0 01\n" reads refused 2
    ∷ "D\n" reads refused 2
    ∷ "D 1 100\n" reads refused 2
    ∷ "D 01\n" reads refused 2
    ∷ "K 5\n" reads refused 2
    ∷ "K 5 1 1\n" reads refused 2
    ∷ "K 0 01\n" reads refused 2
    ∷ "O 1 5\n" reads refused 2
    ∷ "O 1 5 3 3\n" reads refused 2
    ∷ "O 17 5 -0\n" reads refused 2
    ∷ "M 8 1 5 0\n" reads refused 2
    ∷ "M 8 1 5 0 0 0\n" reads refused 2
    ∷ "M 0 1 5 0 00\n" reads refused 2
    ∷ "X 1 5 \n" reads refused 2
    ∷ "X  5\n" reads refused 2
    ∷ "X 1 5\r\n" reads refused 2
    ∷ "X 1 5\n\n" reads refused 2
    ∷ "Y 1 5\n" reads refused 2
    ∷ "XX 1 5\n" reads refused 2
    ∷ "\n" reads refused 2
    -- no LF
    ∷ "" reads refused 1
    ∷ "X 1 5" reads refused 1
    ∷ "X 1 5\nX" reads refused 1
    ∷ []

pub worked_lines : map (λ (w : Worked). read (with_tabs (bytes w.line))) worked ≡ map (λ (w : Worked). w.reading) worked
unfolding read of_fields fields numbers line_of of_letter read_on fact_of table
worked_lines = refl

-- 224 and 225 bytes before the LF
abbrev pub digits_then_line_feed : ℕ → List ℕ
digits_then_line_feed n = with_tabs (bytes "X 1 ") ++ replicate n 57 ++ bytes "\n"

pub longest_line : (length (digits_then_line_feed 220) ≡ 225) × (read (digits_then_line_feed 220) ≡ refused 3)
unfolding read of_fields fields numbers line_of of_letter read_on fact_of table
longest_line = (refl, refl)

pub too_long : (length (digits_then_line_feed 221) ≡ 226) × (read (digits_then_line_feed 221) ≡ refused 1)
unfolding read of_fields fields numbers line_of of_letter read_on fact_of table
too_long = (refl, refl)

pub written_lines : (written (N 1 100 (5 ∷ [])) ≡ with_tabs (bytes "N 1 100 5\n"))
    × (written (C 1 100 19 0 0 0 (negsuc 4)) ≡ with_tabs (bytes "C 1 100 19 0 0 0 -5\n"))
    × (written (R 1 19 (negsuc 2147483647) 0) ≡ with_tabs (bytes "R 1 19 -2147483648 0\n"))
    × (written (X 16 18446744073709551615) ≡ with_tabs (bytes "X 16 18446744073709551615\n"))
    × (written (A 16 18446744073709551615) ≡ with_tabs (bytes "A 16 18446744073709551615\n"))
    × (written (D 16) ≡ with_tabs (bytes "D 16\n"))
    × (written (states (K 4095 1)) ≡ with_tabs (bytes "K 4095 1\n"))
    × (written (states (O 16 18446744073709551615 4095)) ≡ with_tabs (bytes "O 16 18446744073709551615 4095\n"))
    × (written (states (M 18446744073709551612 2 4095 0 1)) ≡ with_tabs (bytes "M 18446744073709551612 2 4095 0 1\n"))
    × (written Z ≡ with_tabs (bytes "Z\n"))
unfolding written tabbed digits digits_in
written_lines = (refl, refl, refl, refl, refl, refl, refl, refl, refl, refl)

-- ---- lines as they are told to C

-- a line with its tabs shown as spaces, its letter and how many numbers it has, and ten slots that each held 7
pub record Told : Type 0 where
  pub line : String
  pub answer : Result Apart Refusal
  pub slots : List ℕ

infix 80 ◌tells◌and◌
abbrev pub ◌tells◌and◌ : String → Result Apart Refusal → List ℕ → Told
s tells a and ws = record { line = s; answer = a; slots = ws }

abbrev pub told : List Told
told =
    "N 1 100 5 9\n" tells Ok (apart (code "N") 4) and (1 ∷ 100 ∷ 5 ∷ 9 ∷ 0 ∷ 0 ∷ 0 ∷ 0 ∷ 0 ∷ 0 ∷ [])
    ∷ "N 1 100 1 5 9 13 17 21 25 29\n" tells Ok (apart (code "N") 10) and (1 ∷ 100 ∷ 1 ∷ 5 ∷ 9 ∷ 13 ∷ 17 ∷ 21 ∷ 25 ∷ 29 ∷ [])
    ∷ "X 16 18446744073709551615\n" tells Ok (apart (code "X") 2) and (16 ∷ 18446744073709551615 ∷ 0 ∷ 0 ∷ 0 ∷ 0 ∷ 0 ∷ 0 ∷ 0 ∷ 0 ∷ [])
    ∷ "C 1 100 19 0 0 0 -5\n" tells Ok (apart (code "C") 7) and (1 ∷ 100 ∷ 19 ∷ 0 ∷ 0 ∷ 0 ∷ 18446744073709551611 ∷ 0 ∷ 0 ∷ 0 ∷ [])
    ∷ "R 1 26 -1 1\n" tells Ok (apart (code "R") 4) and (1 ∷ 26 ∷ 18446744073709551615 ∷ 1 ∷ 0 ∷ 0 ∷ 0 ∷ 0 ∷ 0 ∷ 0 ∷ [])
    ∷ "R 1 19 -2147483648 0\n" tells Ok (apart (code "R") 4) and (1 ∷ 19 ∷ 18446744071562067968 ∷ 0 ∷ 0 ∷ 0 ∷ 0 ∷ 0 ∷ 0 ∷ 0 ∷ [])
    ∷ "R 1 169 18446744073709551615 0\n" tells Ok (apart (code "R") 4) and (1 ∷ 169 ∷ 18446744073709551615 ∷ 0 ∷ 0 ∷ 0 ∷ 0 ∷ 0 ∷ 0 ∷ 0 ∷ [])
    ∷ "A 16 18446744073709551615\n" tells Ok (apart (code "A") 2) and (16 ∷ 18446744073709551615 ∷ 0 ∷ 0 ∷ 0 ∷ 0 ∷ 0 ∷ 0 ∷ 0 ∷ 0 ∷ [])
    ∷ "D 16\n" tells Ok (apart (code "D") 1) and (16 ∷ 0 ∷ 0 ∷ 0 ∷ 0 ∷ 0 ∷ 0 ∷ 0 ∷ 0 ∷ 0 ∷ [])
    ∷ "K 5 1\n" tells Ok (apart (code "K") 2) and (5 ∷ 1 ∷ 0 ∷ 0 ∷ 0 ∷ 0 ∷ 0 ∷ 0 ∷ 0 ∷ 0 ∷ [])
    ∷ "O 16 18446744073709551615 4095\n" tells Ok (apart (code "O") 3) and (16 ∷ 18446744073709551615 ∷ 4095 ∷ 0 ∷ 0 ∷ 0 ∷ 0 ∷ 0 ∷ 0 ∷ 0 ∷ [])
    ∷ "M 18446744073709551612 2 4095 0 1\n" tells Ok (apart (code "M") 5) and (18446744073709551612 ∷ 2 ∷ 4095 ∷ 0 ∷ 1 ∷ 0 ∷ 0 ∷ 0 ∷ 0 ∷ 0 ∷ [])
    ∷ "Z\n" tells Ok (apart (code "Z") 0) and replicate 10 0
    ∷ "N 1 100 1 5 9 13 17 21 25 29 33\n" tells Err Refusal.Form and replicate 10 7
    ∷ "X 17 5\n" tells Err Refusal.Range and replicate 10 7
    ∷ "X 1 5" tells Err Refusal.Length and replicate 10 7
    ∷ []

abbrev tell : String → Told
tell s = let x = read (with_tabs (bytes s)) in s tells apart_of x and numbers_left x (replicate 10 7)

pub told_lines : map (λ (t : Told). tell t.line) told ≡ told
unfolding read of_fields fields numbers line_of of_letter read_on fact_of table
told_lines = refl
