-- Worked cases of a judge that is called again after refusals: a refused line leaves all as it was. Assumes nothing.
use Prim.Native.Nat.{ℕ}
use Prim.Native.String.{String}
use mathlib.Core.Path.{◌≡◌, refl}
use mathlib.Core.List.{List, [], ◌∷◌, map}
use Rattle.history.specs.declared.Finding.{Finding}
use Rattle.history.specs.Acceptance.{Room}
use Rattle.history.specs.Replies.{Reply, accepted, not_accepted}
use Rattle.history.proofs.Worked.{typed, replied}

-- a line, and the reply to it after the lines above
infix 80 ◌answered◌
data Call : Type 0 where
  ◌answered◌ : String → Reply → Call

abbrev line : Call → List ℕ
line (s answered r) = typed (s ∷ [])

abbrev expected : Call → Reply
expected (s answered r) = r

-- the replies to these calls after those before, which stand newest first
abbrev replies : Room → List (List ℕ) → List (List ℕ) → List Reply
replies room before [] = []
replies room before (bs ∷ bss) = replied room before bs ∷ replies room (bs ∷ before) bss

abbrev finding : ℕ → ℕ → ℕ → ℕ → Finding
finding n rule place thing = record { line = n; rule = rule; place = place; thing = thing }

abbrev calls : List Call
calls =
    "N 1 100 5" answered accepted []
    -- a refused N leaves no env and no handle
    ∷ "N 2 100" answered not_accepted 5
    ∷ "N 2 200 5 5" answered not_accepted 6
    ∷ "N 2 201 9" answered accepted []
    ∷ "N 3 200" answered accepted []
    ∷ "N 2 201 13" answered not_accepted 4
    -- line numbers count accepted lines
    ∷ "C 1 100 31 13 0 0 0" answered accepted (finding 4 11 1 13 ∷ [])
    -- a refused C, X, R or Z does not act
    ∷ "C 1 100 23 5 0 0 0" answered not_accepted 4
    ∷ "X 1 0" answered not_accepted 4
    ∷ "R 1 15 0 1" answered not_accepted 4
    ∷ "R 1 31 0 2" answered not_accepted 3
    ∷ "R 1 31 5 1" answered not_accepted 6
    ∷ "Z 0" answered not_accepted 2
    ∷ "R 1 31 0 0" answered accepted []
    ∷ "C 1 100 24 5 13 0 0" answered accepted (finding 6 11 2 13 ∷ [])
    -- N's handles are all or nothing for room
    ∷ "N 4 400 1 5" answered not_accepted 7
    ∷ "N 4 401 1" answered accepted []
    ∷ "N 5 500 1" answered not_accepted 7
    ∷ "N 5 400" answered accepted []
    ∷ "Z" answered accepted []
    ∷ "Z" answered not_accepted 4
    ∷ []

abbrev attached_calls : List Call
attached_calls =
    "A 1 100" answered accepted []
    -- a refused A opens nothing and leaves no env
    ∷ "A 2 100" answered not_accepted 5
    ∷ "C 2 100 6 0 0 0 0" answered not_accepted 4
    ∷ "N 2 100" answered not_accepted 5
    ∷ "A 2 200" answered accepted []
    ∷ "A 2 201" answered not_accepted 4
    ∷ "A 3 201" answered accepted []
    -- a refused D, X or N ends nothing
    ∷ "C 1 100 6 0 0 0 0" answered accepted []
    ∷ "D 1" answered not_accepted 4
    ∷ "A 1 100" answered not_accepted 4
    ∷ "R 1 6 5 0" answered accepted []
    ∷ "C 1 100 217 5 0 0 0" answered accepted []
    ∷ "R 1 217 0 0" answered accepted []
    ∷ "D 1 100" answered not_accepted 2
    ∷ "D 17" answered not_accepted 3
    ∷ "X 1 5" answered not_accepted 4
    ∷ "N 1 100 9" answered not_accepted 4
    ∷ "C 1 100 24 5 9 0 0" answered accepted (finding 8 11 2 9 ∷ [])
    ∷ "R 1 24 0 1" answered accepted []
    ∷ "D 1" answered accepted (finding 10 9 0 1 ∷ [])
    ∷ "D 1" answered not_accepted 4
    -- a refused A or N brings no other env
    ∷ "A 1 101" answered not_accepted 5
    ∷ "N 1 101" answered not_accepted 5
    ∷ "A 4 101" answered accepted []
    ∷ "A 1 100" answered accepted []
    ∷ "C 1 100 31 5 0 0 0" answered accepted (finding 13 11 1 5 ∷ [])
    ∷ "Z" answered accepted []
    ∷ "A 5 500" answered not_accepted 4
    ∷ "D 2" answered not_accepted 4
    ∷ []

-- three reference rows and no pin row
called_again : replies (record { references = 3; pins = 0; identities = 0 }) [] (map line calls) ≡ map expected calls
unfolding replied
called_again = refl

attached_again : replies (record { references = 3; pins = 0; identities = 0 }) [] (map line attached_calls) ≡ map expected attached_calls
unfolding replied
attached_again = refl
