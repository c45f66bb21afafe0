-- What the bytes of a line say, or why they say nothing. Assumes nothing.
use Rattle.std.specs.Prelude.{ℕ, suc, ◌-◌, not, ◌||◌, List, [], ◌∷◌, ◌++◌, eqb, ltb, ℤ, length, get_or, take, drop, Option, None, Some}
use Rattle.words.specs.Choice.{if_true◌then◌else◌, within}
use Rattle.words.specs.Lists.{any}
use Rattle.words.specs.Text.{tab, line_feed}
use Rattle.numbers.specs.Decimal.{number}
use Rattle.numbers.specs.Signed.{is_negative}
use Rattle.lines.specs.Line.{Line, is_allowed, longest}
use Rattle.lines.specs.Forms.{Form, form_of}

-- an event, or a number given instead of one
pub data Read : Type 0 where
  says : Line → Read
  refused : ℕ → Read

-- ---- fields are parted by one tab

abbrev pub onto_first : ℕ → List (List ℕ) → List (List ℕ)
onto_first b [] = (b ∷ []) ∷ []
onto_first b (w ∷ ws) = (b ∷ w) ∷ ws

unfoldable pub fields : List ℕ → List (List ℕ)
fields [] = [] ∷ []
fields (b ∷ bs) = if_true eqb b tab then [] ∷ fields bs else onto_first b (fields bs)

-- all the fields as numbers, if each is one
abbrev pub and_number : Option ℤ → Option (List ℤ) → Option (List ℤ)
and_number None ns = None
and_number (Some n) None = None
and_number (Some n) (Some ns) = Some (n ∷ ns)

unfoldable pub numbers : List (List ℕ) → Option (List ℤ)
numbers [] = Some []
numbers (w ∷ ws) = and_number (number w) (numbers ws)

-- ---- the line that a letter and numbers are

-- the line, if all is in range
abbrev pub if_allowed : Line → Read
if_allowed e = if_true is_allowed e then says e else refused 3

-- all but that at place k
abbrev pub without : ℕ → List ℤ → List ℤ
without k ns = take k ns ++ drop (suc k) ns

-- 2 where the count of numbers is wrong, 3 where one is below zero that may not be, or out of range
abbrev pub in_form : Form → List ℤ → Read
in_form f ns =
    if_true not (within f.least f.most (length ns)) then refused 2
    else if_true any is_negative (without f.signed ns) then refused 3
    else if_allowed (f.line ns)

unfoldable pub line_of : ℕ → List ℤ → Read
line_of letter ns = in_form (form_of letter) ns

abbrev pub if_numbers : ℕ → Option (List ℤ) → Read
if_numbers letter None = refused 2
if_numbers letter (Some ns) = line_of letter ns

-- the first field is a letter, the others are numbers
unfoldable pub of_fields : List (List ℕ) → Read
of_fields [] = refused 2
of_fields ([] ∷ ws) = refused 2
of_fields ((letter ∷ []) ∷ ws) = if_numbers letter (numbers ws)
of_fields ((letter ∷ _ ∷ _) ∷ ws) = refused 2

-- ---- a lent line is all its bytes and its last is the LF

-- 1 for a line that is too long or has no LF, then 2, then 3
unfoldable pub read : List ℕ → Read
read bs =
    if_true eqb (length bs) 0 || ltb (suc longest) (length bs) || not (eqb (get_or bs (length bs - 1) 0) line_feed)
    then refused 1
    else of_fields (fields (take (length bs - 1) bs))
