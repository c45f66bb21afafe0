-- Document 02's places with a fixed class, as it prints them, and the reserved classes. Assumes nothing.
use Rattle.std.specs.Prelude.{ℕ, Bool, [], ◌∷◌, eqb}
use Rattle.words.specs.Choice.{if_true◌then◌else◌, within}
use Rattle.facts.specs.Table.{only, ◌to◌, lists}
use Rattle.facts.specs.Named.{GetObjectClass}

-- class numbers 1, 2, 3 and 4 are reserved for object, class, string and throwable
abbrev pub object : ℕ
object = 1

abbrev pub class : ℕ
class = 2

abbrev pub string : ℕ
string = 3

abbrev pub throwable : ℕ
throwable = 4

abbrev pub is_reserved : ℕ → Bool
is_reserved c = within object throwable c

-- no class is fixed, none is stated, or there is no super
abbrev pub no_class : ℕ
no_class = 0

-- the class fixed for the first place of function f
unfoldable pub class_a : ℕ → ℕ
class_a f =
    if_true lists (9 to 12 ∷ only 14 ∷ 27 to 30 ∷ only 33 ∷ only 94 ∷ 113 to 162 ∷ only 172 ∷ only 215 ∷ only 216 ∷ []) f then class
    else if_true lists (164 to 166 ∷ 168 to 170 ∷ only 220 ∷ only 221 ∷ only 224 ∷ only 225 ∷ []) f then string
    else if_true lists (only 13 ∷ []) f then throwable
    else no_class

-- for the second
unfoldable pub class_b : ℕ → ℕ
class_b f = if_true lists (only 11 ∷ only 32 ∷ 64 to 93 ∷ []) f then class else no_class

-- and for its result
abbrev pub class_made : ℕ → ℕ
class_made f = if_true eqb f GetObjectClass then class else no_class
