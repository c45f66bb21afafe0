-- Document 01's table of function facts, as it is printed there. Assumes nothing.
use Rattle.std.specs.Prelude.{ℕ, Bool, ◌||◌, List, [], ◌∷◌, eqb, get_or}
use Prim.Native.String.{String}
use Prim.Native.Char.{code}
use Rattle.words.specs.Choice.{if_true◌then◌else◌, within}
use Rattle.words.specs.Lists.{any, place_of}
use Rattle.words.specs.Text.{bytes}
use Rattle.facts.specs.declared.Place.{Place}
use Rattle.facts.specs.declared.Result.{Result}

-- ---- numbers

-- one function number, or all from the first to the last
infix 80 ◌to◌
pub data Span : Type 0 where
  only : ℕ → Span
  ◌to◌ : ℕ → ℕ → Span

abbrev pub in_span : ℕ → Span → Bool
in_span f (only n) = eqb f n
in_span f (lo to hi) = within lo hi f

abbrev pub lists : List Span → ℕ → Bool
lists ss f = any (in_span f) ss

abbrev pub first_function : ℕ
first_function = 4

abbrev pub last_function : ℕ
last_function = 232

abbrev pub is_function : ℕ → Bool
is_function f = within first_function last_function f

-- ---- places and results

-- `r` handle, `o` handle or null, `l` `g` `w` handle of that kind or null, `i` identity, `b` buffer, `-` unused
abbrev pub place : ℕ → Place
place x =
    if_true eqb x (code "r") then Place.Handle
    else if_true eqb x (code "o") then Place.HandleOrNull
    else if_true eqb x (code "l") then Place.LocalOrNull
    else if_true eqb x (code "g") then Place.GlobalOrNull
    else if_true eqb x (code "w") then Place.WeakOrNull
    else if_true eqb x (code "i") then Place.Identity
    else if_true eqb x (code "b") then Place.Buffer
    else Place.Unused

-- L G W (handle of that kind or 0), I (remainder 0), B, S status, `-` written 0
abbrev pub result_in : ℕ → Result
result_in x =
    if_true eqb x (code "L") then Result.Local
    else if_true eqb x (code "G") then Result.Global
    else if_true eqb x (code "W") then Result.Weak
    else if_true eqb x (code "I") then Result.Identity
    else if_true eqb x (code "B") then Result.Buffer
    else if_true eqb x (code "S") then Result.Status
    else Result.Nothing

pub record Fact : Type 0 where
  pub a : Place
  pub b : Place
  pub c : Place
  pub result : Result

-- places a b c, a space, the result
abbrev pub fact_in : List ℕ → Fact
fact_in s =
    record {
      a = place (get_or s 0 0);
      b = place (get_or s 1 0);
      c = place (get_or s 2 0);
      result = result_in (get_or s 4 0);
    }

pub record Row : Type 0 where
  pub numbers : List Span
  pub fact : Fact

abbrev pub row : List Span → String → Row
row ns s = record { numbers = ns; fact = fact_in (bytes s) }

-- | Numbers | Places, result |
unfoldable pub table : List Row
table =
    row (only 4 ∷ 16 to 18 ∷ only 219 ∷ only 228 ∷ only 232 ∷ []) "--- -"
    ∷ row (only 6 ∷ only 15 ∷ only 163 ∷ only 167 ∷ 175 to 182 ∷ only 229 ∷ []) "--- L"
    ∷ row (only 5 ∷ only 20 ∷ only 25 ∷ []) "o-- L"
    ∷ row (only 21 ∷ []) "o-- G"
    ∷ row (only 226 ∷ []) "o-- W"
    ∷ row (only 22 ∷ []) "g-- -"
    ∷ row (only 23 ∷ []) "l-- -"
    ∷ row (only 227 ∷ []) "w-- -"
    ∷ row (only 19 ∷ only 26 ∷ []) "--- S"
    ∷ row (only 7 ∷ only 8 ∷ only 33 ∷ only 94 ∷ only 113 ∷ only 144 ∷ []) "r-- I"
    ∷ row (only 10 ∷ only 27 ∷ only 31 ∷ only 173 ∷ []) "r-- L"
    ∷ row (only 13 ∷ only 14 ∷ only 164 ∷ only 168 ∷ only 171 ∷ 199 to 216 ∷ only 220 ∷ only 221 ∷ only 230 ∷ only 231 ∷ []) "r-- -"
    ∷ row (only 217 ∷ only 218 ∷ []) "r-- S"
    ∷ row (only 11 ∷ []) "rr- -"
    ∷ row (only 24 ∷ []) "oo- -"
    ∷ row (only 32 ∷ []) "or- -"
    ∷ row (only 9 ∷ only 12 ∷ 28 to 30 ∷ 34 to 36 ∷ only 95 ∷ 114 to 116 ∷ only 145 ∷ []) "ri- L"
    ∷ row (37 to 63 ∷ 96 to 103 ∷ 105 to 112 ∷ 117 to 143 ∷ 146 to 153 ∷ 155 to 162 ∷ []) "ri- -"
    ∷ row (64 to 66 ∷ []) "rri L"
    ∷ row (67 to 93 ∷ []) "rri -"
    ∷ row (only 104 ∷ only 154 ∷ []) "rio -"
    ∷ row (only 172 ∷ []) "ro- L"
    ∷ row (only 174 ∷ []) "ro- -"
    ∷ row (only 165 ∷ only 169 ∷ 183 to 190 ∷ only 222 ∷ only 224 ∷ []) "r-- B"
    ∷ row (only 166 ∷ only 170 ∷ 191 to 198 ∷ only 223 ∷ only 225 ∷ []) "rb- -"
    ∷ []

-- a number that no row has: no places, no result
abbrev pub no_fact : Fact
no_fact = fact_in (bytes "--- -")

abbrev pub find : ℕ → List Row → Fact
find f [] = no_fact
find f (x ∷ xs) = if_true lists x.numbers f then x.fact else find f xs

-- what the table says of function f
unfoldable pub fact_of : ℕ → Fact
fact_of f = find f table

-- ---- marks

-- allowed with an exception pending (22)
abbrev pub allowed_pending : List Span
allowed_pending =
    15 to 17 ∷ only 19 ∷ only 20 ∷ only 22 ∷ only 23 ∷ only 166 ∷ only 170 ∷ 191 to 198 ∷ only 218 ∷ only 223 ∷ only 225 ∷ only 227 ∷ only 228 ∷ []

unfoldable pub is_allowed_pending : ℕ → Bool
is_allowed_pending = lists allowed_pending

-- allowed inside a critical region
unfoldable pub is_allowed_critical : ℕ → Bool
is_allowed_critical = lists (222 to 225 ∷ [])

-- ---- buffer families, get/release

infix 80 ◌released_by◌
pub data Pair : Type 0 where
  ◌released_by◌ : ℕ → ℕ → Pair

abbrev pub in_pair : ℕ → Pair → Bool
in_pair f (get released_by release) = eqb f get || eqb f release

abbrev pub families : List Pair
families =
    165 released_by 166
    ∷ 169 released_by 170
    ∷ 183 released_by 191
    ∷ 184 released_by 192
    ∷ 185 released_by 193
    ∷ 186 released_by 194
    ∷ 187 released_by 195
    ∷ 188 released_by 196
    ∷ 189 released_by 197
    ∷ 190 released_by 198
    ∷ 222 released_by 223
    ∷ 224 released_by 225
    ∷ []

-- the family of a getting or a releasing function, 0..11; 12 where f is neither
unfoldable pub family : ℕ → ℕ
family f = place_of (in_pair f) families

-- the last two are critical
unfoldable pub is_critical : ℕ → Bool
is_critical k = within 10 11 k
