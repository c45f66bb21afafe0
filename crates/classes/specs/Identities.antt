-- The identities in the lent class table, behind its classes: four numbers to a place, identity (0 where the place is free), sort, static, final. Assumes nothing.
use Rattle.std.specs.Prelude.{ℕ, zero, suc, ◌+◌, ◌-◌, ◌*◌, ◌/◌, ◌%◌, Bool, not, ◌&&◌, ◌||◌, List, eqb, ltb, length, get_or, set, Option, None, Some}
use Rattle.words.specs.Choice.{if_true◌then◌else◌}
use Rattle.lines.specs.Line.{classes}
use Rattle.rows.specs.Scan.{how_many}
use Rattle.history.specs.Identities.{not_stated}
use Rattle.history.specs.declared.Identity.{Identity}

abbrev pub identity_numbers : ℕ
identity_numbers = 4

-- as many places as there are numbers for
unfoldable pub identity_room : List ℕ → ℕ
identity_room cs = (length cs - classes) / identity_numbers

-- where the numbers of place i begin
abbrev pub identity_from : ℕ → ℕ
identity_from i = classes + i * identity_numbers

-- number k of place i
abbrev pub identity_number : List ℕ → ℕ → ℕ → ℕ
identity_number cs i k = get_or cs (identity_from i + k) 0

-- ---- where an identity is looked for

-- the first of n places from i on that passes the test, or the one behind them
unfoldable pub first_from : (ℕ → Bool) → ℕ → ℕ → ℕ
first_from test i zero = i
first_from test i (suc n) = if_true test i then i else first_from test (suc i) n

-- a place, where it is before `to`
abbrev pub before : ℕ → ℕ → Option ℕ
before to i = if_true ltb i to then Some i else None

-- from its own place to the last, then from the first to its own; the room where none passes
unfoldable pub first_around : (ℕ → Bool) → ℕ → ℕ → ℕ
first_around test room own =
    if_true ltb (first_from test own (room - own)) room then first_from test own (room - own)
    else if_true ltb (first_from test 0 own) own then first_from test 0 own
    else room

-- an identity's own place; all identities have remainder 0 by 4
abbrev pub own_place : ℕ → ℕ → ℕ
own_place room x = if_true eqb room 0 then 0 else (x / 4) % room

-- the place is free, or the identity's
abbrev pub is_for : List ℕ → ℕ → ℕ → Bool
is_for cs x i = eqb (identity_number cs i 0) 0 || eqb (identity_number cs i 0) x

-- where identity x stands, or can be put; the room where it is nowhere and no place is free
unfoldable pub place_of : List ℕ → ℕ → ℕ
place_of cs x = first_around (is_for cs x) (identity_room cs) (own_place (identity_room cs) x)

-- ---- what is stated of it

abbrev pub is_used : List ℕ → ℕ → Bool
is_used cs i = not (eqb (identity_number cs i 0) 0)

abbrev pub identity_at : List ℕ → ℕ → Identity
identity_at cs i =
    if_true ltb i (identity_room cs) && is_used cs i then
    record { sort = identity_number cs i 1; isstatic = identity_number cs i 2; isfinal = identity_number cs i 3 }
    else not_stated

unfoldable pub identity_in : List ℕ → ℕ → Identity
identity_in cs x = identity_at cs (place_of cs x)

-- identity x stated so at place i, where the table has it
unfoldable pub with_identity : List ℕ → ℕ → ℕ → ℕ → ℕ → ℕ → List ℕ
with_identity cs i x sort static final =
    if_true ltb i (identity_room cs) then
    set (set (set (set cs (identity_from i) x) (identity_from i + 1) sort) (identity_from i + 2) static) (identity_from i + 3) final
    else cs

-- ---- how many are stated

unfoldable pub used_places : List ℕ → ℕ
used_places cs = how_many (is_used cs) (identity_room cs)
