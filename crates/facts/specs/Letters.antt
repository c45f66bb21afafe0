-- The facts of a function in document 01's letters, the classes of document 02 in letters of our own, and a letter for each row of places that both make; and the columns in which the code has them. Assumes nothing.
use Rattle.std.specs.Prelude.{ℕ, ◌-◌, ◌*◌, ◌/◌, ◌%◌, Bool, ◌||◌, List, [], eqb, ltb, length, get_or}
use Prim.Native.Char.{code}
use Rattle.words.specs.Choice.{if_true◌then◌else◌}
use Rattle.words.specs.Text.{bytes}
use Rattle.facts.specs.Table.{place, families}
use Rattle.facts.specs.Classes.{class, string, throwable, no_class}
use Rattle.facts.specs.declared.identities.Wanted.{Wanted}
use Rattle.facts.specs.declared.Place.{Place}
use Rattle.facts.specs.declared.places.Places.{Places}
use Rattle.facts.specs.declared.Result.{Result}

abbrev pub no_letter : ℕ
no_letter = code "-"

abbrev pub place_letter : Place → ℕ
place_letter Place.Handle = code "r"
place_letter Place.HandleOrNull = code "o"
place_letter Place.LocalOrNull = code "l"
place_letter Place.GlobalOrNull = code "g"
place_letter Place.WeakOrNull = code "w"
place_letter Place.Identity = code "i"
place_letter Place.Buffer = code "b"
place_letter Place.Unused = no_letter

abbrev pub result_letter : Result → ℕ
result_letter Result.Local = code "L"
result_letter Result.Global = code "G"
result_letter Result.Weak = code "W"
result_letter Result.Identity = code "I"
result_letter Result.Buffer = code "B"
result_letter Result.Status = code "S"
result_letter Result.Nothing = no_letter

-- 12: the number of no family
abbrev pub no_family : ℕ
no_family = length families

-- A to L are families 0 to 11
abbrev pub family_in : ℕ → ℕ
family_in x = if_true ltb x (code "A") then no_family else x - code "A"

-- the class that a letter stands for
abbrev pub class_in : ℕ → ℕ
class_in x =
    if_true eqb x (code "c") then class
    else if_true eqb x (code "s") then string
    else if_true eqb x (code "t") then throwable
    else no_class

-- places a b c, a space, the classes fixed for a and b
abbrev shape : List ℕ → Places
shape s =
    record {
      a = place (get_or s 0 0);
      b = place (get_or s 1 0);
      c = place (get_or s 2 0);
      first = class_in (get_or s 4 0);
      second = class_in (get_or s 5 0);
    }

-- the places that a letter stands for
abbrev pub places_in : ℕ → Places
places_in x =
    if_true eqb x (code "A") then shape (bytes "o-- --")
    else if_true eqb x (code "B") then shape (bytes "g-- --")
    else if_true eqb x (code "C") then shape (bytes "l-- --")
    else if_true eqb x (code "D") then shape (bytes "w-- --")
    else if_true eqb x (code "E") then shape (bytes "r-- --")
    else if_true eqb x (code "F") then shape (bytes "r-- c-")
    else if_true eqb x (code "G") then shape (bytes "r-- s-")
    else if_true eqb x (code "H") then shape (bytes "r-- t-")
    else if_true eqb x (code "I") then shape (bytes "rr- cc")
    else if_true eqb x (code "J") then shape (bytes "oo- --")
    else if_true eqb x (code "K") then shape (bytes "or- -c")
    else if_true eqb x (code "L") then shape (bytes "ri- --")
    else if_true eqb x (code "M") then shape (bytes "ri- c-")
    else if_true eqb x (code "N") then shape (bytes "rri -c")
    else if_true eqb x (code "O") then shape (bytes "rio --")
    else if_true eqb x (code "P") then shape (bytes "rio c-")
    else if_true eqb x (code "Q") then shape (bytes "ro- --")
    else if_true eqb x (code "R") then shape (bytes "ro- c-")
    else if_true eqb x (code "S") then shape (bytes "rb- --")
    else if_true eqb x (code "T") then shape (bytes "rb- s-")
    else shape (bytes "--- --")

-- what is wanted of an identity, and whether it is a field that is written
abbrev pub wanted_in : ℕ → Wanted
wanted_in x =
    if_true eqb x (code "m") then Wanted.ObjectMethod
    else if_true eqb x (code "M") then Wanted.StaticMethod
    else if_true eqb x (code "f") then Wanted.ObjectField
    else if_true eqb x (code "w") then Wanted.ObjectField
    else if_true eqb x (code "F") then Wanted.StaticField
    else if_true eqb x (code "W") then Wanted.StaticField
    else if_true eqb x (code "a") then Wanted.AnyMethod
    else if_true eqb x (code "b") then Wanted.AnyField
    else Wanted.Nothing

abbrev pub written_in : ℕ → Bool
written_in x = eqb x (code "w") || eqb x (code "W")

-- the letter of one that is not written
abbrev pub wanted_letter : Wanted → ℕ
wanted_letter Wanted.ObjectMethod = code "m"
wanted_letter Wanted.StaticMethod = code "M"
wanted_letter Wanted.ObjectField = code "f"
wanted_letter Wanted.StaticField = code "F"
wanted_letter Wanted.AnyMethod = code "a"
wanted_letter Wanted.AnyField = code "b"
wanted_letter Wanted.Nothing = no_letter

-- ---- a column: a letter for each number from 0 on, eight to a line

abbrev pub line_length : ℕ
line_length = 8

abbrev pub lines : ℕ
lines = 30

abbrev pub in_lines : List (List ℕ) → ℕ → ℕ
in_lines t f = get_or (get_or t (f / line_length) []) (f % line_length) 0

-- the letter of number f, none where the column has ended
unfoldable pub letter_at : List (List ℕ) → ℕ → ℕ
letter_at t f = if_true ltb f (lines * line_length) then in_lines t f else no_letter
