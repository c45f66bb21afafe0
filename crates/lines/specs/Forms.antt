-- The forms of lines, one entry for each letter: how many numbers it has, which of them may be below zero, and the line that they are; and a line's own letter and numbers. Assumes nothing.
use Rattle.std.specs.Prelude.{ℕ, List, [], ◌∷◌, map, eqb, ℤ, pos, get_or, drop}
use Prim.Native.Char.{code}
use Rattle.words.specs.Choice.{if_true◌then◌else◌}
use Rattle.lines.specs.Line.{K, O, M, Line, N, X, C, R, A, D, Z, states, above_zero}

pub record Form : Type 0 where
  pub letter : ℕ
  -- how many numbers, at least and at most
  pub least : ℕ
  pub most : ℕ
  -- the place of the one that may be below zero
  pub signed : ℕ
  -- the line that they are
  pub line : List ℤ → Line

abbrev pub form : ℕ → ℕ → ℕ → ℕ → (List ℤ → Line) → Form
form letter least most signed line = record { letter = letter; least = least; most = most; signed = signed; line = line }

-- thread, env and eight handles
abbrev pub most_fields : ℕ
most_fields = 10

-- none of the numbers may be below zero
abbrev pub no_place : ℕ
no_place = most_fields

abbrev pub number_at : List ℤ → ℕ → ℤ
number_at ns i = get_or ns i (pos 0)

abbrev pub size_at : List ℤ → ℕ → ℕ
size_at ns i = above_zero (number_at ns i)

abbrev pub enter_form : Form
enter_form = form (code "N") 2 most_fields no_place (λ ns. N (size_at ns 0) (size_at ns 1) (map above_zero (drop 2 ns)))

abbrev pub leave_form : Form
leave_form = form (code "X") 2 2 no_place (λ ns. X (size_at ns 0) (size_at ns 1))

abbrev pub call_form : Form
call_form = form (code "C") 7 7 6 (λ ns. C (size_at ns 0) (size_at ns 1) (size_at ns 2) (size_at ns 3) (size_at ns 4) (size_at ns 5) (number_at ns 6))

abbrev pub return_form : Form
return_form = form (code "R") 4 4 2 (λ ns. R (size_at ns 0) (size_at ns 1) (number_at ns 2) (size_at ns 3))

abbrev pub attach_form : Form
attach_form = form (code "A") 2 2 no_place (λ ns. A (size_at ns 0) (size_at ns 1))

abbrev pub detach_form : Form
detach_form = form (code "D") 1 1 no_place (λ ns. D (size_at ns 0))

abbrev pub declare_form : Form
declare_form = form (code "K") 2 2 no_place (λ ns. states (K (size_at ns 0) (size_at ns 1)))

abbrev pub state_form : Form
state_form = form (code "O") 3 3 no_place (λ ns. states (O (size_at ns 0) (size_at ns 1) (size_at ns 2)))

abbrev pub identify_form : Form
identify_form = form (code "M") 5 5 no_place (λ ns. states (M (size_at ns 0) (size_at ns 1) (size_at ns 2) (size_at ns 3) (size_at ns 4)))

abbrev pub end_form : Form
end_form = form (code "Z") 0 0 no_place (λ ns. Z)

abbrev pub forms : List Form
forms = enter_form ∷ leave_form ∷ call_form ∷ return_form ∷ attach_form ∷ detach_form ∷ declare_form ∷ state_form ∷ identify_form ∷ end_form ∷ []

-- of a letter that no line has, no count is right
abbrev pub no_form : ℕ → Form
no_form letter = form letter 1 0 no_place (λ ns. Z)

-- the first of that letter
unfoldable pub of_letter : ℕ → List Form → Form
of_letter letter [] = no_form letter
of_letter letter (f ∷ fs) = if_true eqb letter f.letter then f else of_letter letter fs

abbrev pub form_of : ℕ → Form
form_of letter = of_letter letter forms

-- ---- a line taken apart

abbrev pub letter_of : Line → ℕ
letter_of (N t env hs) = code "N"
letter_of (X t r) = code "X"
letter_of (C t env f a b c n) = code "C"
letter_of (R t f r p) = code "R"
letter_of (A t env) = code "A"
letter_of (D t) = code "D"
letter_of Z = code "Z"
letter_of (states (K c s)) = code "K"
letter_of (states (O t h c)) = code "O"
letter_of (states (M x sort c static final)) = code "M"

abbrev pub numbers_of : Line → List ℤ
numbers_of (N t env hs) = pos t ∷ pos env ∷ map pos hs
numbers_of (X t r) = pos t ∷ pos r ∷ []
numbers_of (C t env f a b c n) = pos t ∷ pos env ∷ pos f ∷ pos a ∷ pos b ∷ pos c ∷ n ∷ []
numbers_of (R t f r p) = pos t ∷ pos f ∷ r ∷ pos p ∷ []
numbers_of (A t env) = pos t ∷ pos env ∷ []
numbers_of (D t) = pos t ∷ []
numbers_of Z = []
numbers_of (states (K c s)) = pos c ∷ pos s ∷ []
numbers_of (states (O t h c)) = pos t ∷ pos h ∷ pos c ∷ []
numbers_of (states (M x sort c static final)) = pos x ∷ pos sort ∷ pos c ∷ pos static ∷ pos final ∷ []
