-- Each thread has a stack of open items: natives, calls of functions, and that it is attached. Assumes nothing.
use Rattle.std.specs.Prelude.{ℕ, Bool, true, false, ◌||◌, eqb, Option, None, Some}
use mathlib.Core.List.{List, [], ◌∷◌, tail}
use Rattle.lines.specs.Line.{Line, if_N◌then◌else◌, if_X◌then◌else◌, if_C◌then◌else◌, if_R◌then◌else◌, if_A◌then◌else◌, if_D◌then◌else◌, above_zero}
use Rattle.history.specs.Past.{History, through}

pub data Item : Type 0 where
  in_native : Item
  -- the function, and max(n,0) of its C
  in_call : ℕ → ℕ → Item
  -- a thread that started in C
  attached : Item

-- N opens a native, C a call, A an attached item; X, R and D close the top
abbrev pub items_after : Line → List Item → List Item
items_after e is =
    if_N e then (λ t env hs. in_native ∷ is)
    else if_X e then (λ t r. tail is)
    else if_C e then (λ t env f a b c n. in_call f (above_zero n) ∷ is)
    else if_R e then (λ t f r p. tail is)
    else if_A e then (λ t env. attached ∷ is)
    else if_D e then (λ t. tail is)
    else is

-- top first
unfoldable pub items : ℕ → History → List Item
items = through items_after []

-- ---- the top item

abbrev pub top_of : List Item → Option Item
top_of [] = None
top_of (i ∷ is) = Some i

abbrev pub is_empty : Option Item → Bool
is_empty None = true
is_empty (Some i) = false

abbrev pub is_native : Option Item → Bool
is_native None = false
is_native (Some in_native) = true
is_native (Some (in_call f n)) = false
is_native (Some attached) = false

abbrev pub is_attached : Option Item → Bool
is_attached None = false
is_attached (Some in_native) = false
is_attached (Some (in_call f n)) = false
is_attached (Some attached) = true

-- C is allowed over an attached item as over a native
abbrev pub native_or_attached : Option Item → Bool
native_or_attached top = is_native top || is_attached top

abbrev pub is_call : Option Item → Bool
is_call None = false
is_call (Some in_native) = false
is_call (Some (in_call f n)) = true
is_call (Some attached) = false

abbrev pub is_call_of : ℕ → Option Item → Bool
is_call_of f None = false
is_call_of f (Some in_native) = false
is_call_of f (Some (in_call g n)) = eqb f g
is_call_of f (Some attached) = false

-- n is that of the matching C
abbrev pub asked : Option Item → ℕ
asked None = 0
asked (Some in_native) = 0
asked (Some (in_call f n)) = n
asked (Some attached) = 0
