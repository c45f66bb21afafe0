-- The limits that only long traces reach: 64 open items, 64 frames, 1,000,000 lines. Assumes nothing.
use Prim.Native.Nat.{ℕ, zero, suc}
use mathlib.Core.Path.{◌≡◌, refl, ap}
use mathlib.Core.List.{List, [], ◌∷◌, map}
use lib.Dec.{leb}
use lib.IntN.{pos, negsuc}
use lib.ListN.{length}
use Rattle.words.specs.Choice.{if_true◌then◌else◌}
use Rattle.lines.specs.Line.{Line, N, X, C, R, A, D, Z}
use Rattle.lines.specs.Reading.{refused, read}
use Rattle.history.specs.Past.{History}
use Rattle.history.specs.Acceptance.{Room}
use Rattle.history.specs.Replies.{most_lines, weighed, verdict}
use Rattle.history.proofs.Worked.{program, refused_by}

-- ---- each thread has at most 64 open items and 64 frames: 7

-- after these lines n natives of thread 1, each in an open call of the one before, and in the last an open call of 6
abbrev nested_after : History → ℕ → History
nested_after past zero = past
nested_after past (suc n) = C 1 100 6 0 0 0 (pos 0) ∷ N 1 100 [] ∷ nested_after past n

abbrev nested : ℕ → History
nested = nested_after []

-- in an open call of an attached thread
abbrev nested_attached : ℕ → History
nested_attached = nested_after (C 1 100 6 0 0 0 (pos 0) ∷ A 1 100 ∷ [])

-- after these lines n pushed frames of thread 1
abbrev pushed_after : History → ℕ → History
pushed_after past zero = past
pushed_after past (suc n) = R 1 19 (pos 0) 0 ∷ C 1 100 19 0 0 0 (pos 1) ∷ pushed_after past n

-- in a native
abbrev pushes : ℕ → History
pushes = pushed_after (N 1 100 [] ∷ [])

-- in an attached thread
abbrev pushes_attached : ℕ → History
pushes_attached = pushed_after (A 1 100 ∷ [])

infix 80 ◌after◌gives◌
data Tried : Type 0 where
  ◌after◌gives◌ : Line → History → ℕ → Tried

abbrev given : Tried → ℕ
given (e after past gives k) = refused_by program e past

abbrev expected : Tried → ℕ
expected (e after past gives k) = k

abbrev tried : List Tried
tried =
    -- items 63, 64 and 65; another thread has its own
    (N 1 100 [] after nested 31 gives 0)
    ∷ (C 1 100 6 0 0 0 (pos 0) after N 1 100 [] ∷ nested 31 gives 0)
    ∷ (N 1 100 [] after nested 32 gives 7)
    ∷ (R 1 6 (pos 0) 0 after nested 32 gives 0)
    ∷ (N 2 200 [] after nested 32 gives 0)
    ∷ (Z after nested 32 gives 0)
    -- frames 64 and 65, pushed or a native's
    ∷ (R 1 19 (pos 0) 0 after C 1 100 19 0 0 0 (pos 1) ∷ pushes 62 gives 0)
    ∷ (R 1 19 (pos 0) 0 after C 1 100 19 0 0 0 (pos 1) ∷ pushes 63 gives 7)
    ∷ (R 1 19 (negsuc 0) 0 after C 1 100 19 0 0 0 (pos 1) ∷ pushes 63 gives 0)
    ∷ (N 1 100 [] after C 1 100 6 0 0 0 (pos 0) ∷ pushes 62 gives 0)
    ∷ (N 1 100 [] after C 1 100 6 0 0 0 (pos 0) ∷ pushes 63 gives 7)
    ∷ (N 2 200 [] after pushes 63 gives 0)
    ∷ (X 1 0 after pushes 63 gives 0)
    -- an attached item is one, and has a frame
    ∷ (N 1 100 [] after nested_attached 30 gives 0)
    ∷ (C 1 100 6 0 0 0 (pos 0) after N 1 100 [] ∷ nested_attached 30 gives 0)
    ∷ (N 1 100 [] after nested_attached 31 gives 7)
    ∷ (R 1 6 (pos 0) 0 after nested_attached 31 gives 0)
    ∷ (D 1 after nested_attached 31 gives 4)
    ∷ (A 2 200 after nested_attached 31 gives 0)
    ∷ (R 1 19 (pos 0) 0 after C 1 100 19 0 0 0 (pos 1) ∷ pushes_attached 62 gives 0)
    ∷ (R 1 19 (pos 0) 0 after C 1 100 19 0 0 0 (pos 1) ∷ pushes_attached 63 gives 7)
    ∷ (N 1 100 [] after C 1 100 6 0 0 0 (pos 0) ∷ pushes_attached 62 gives 0)
    ∷ (N 1 100 [] after C 1 100 6 0 0 0 (pos 0) ∷ pushes_attached 63 gives 7)
    ∷ (A 2 200 after pushes_attached 63 gives 0)
    ∷ (D 1 after pushes_attached 63 gives 0)
    -- after D all of them are free again
    ∷ (A 1 100 after D 1 ∷ pushes_attached 63 gives 0)
    ∷ (R 1 19 (pos 0) 0 after C 1 100 19 0 0 0 (pos 1) ∷ A 1 100 ∷ D 1 ∷ pushes_attached 63 gives 0)
    ∷ []

tried_hold : map given tried ≡ map expected tried
unfolding refused_by
tried_hold = refl

-- ---- a trace has at most 1,000,000 lines

-- line 1,000,001 is 1 whatever it holds
pub line_1000001 : (room : Room) (past : History) (bs : List ℕ) → length past ≡ 1000000 → verdict room past bs ≡ refused 1
unfolding verdict
line_1000001 room past bs h = ap (λ (n : ℕ). if_true leb most_lines n then refused 1 else weighed room past (read bs)) h

-- line 1,000,000 is weighed as any other
pub line_1000000 : (room : Room) (past : History) (bs : List ℕ) → length past ≡ 999999 → verdict room past bs ≡ weighed room past (read bs)
unfolding verdict
line_1000000 room past bs h = ap (λ (n : ℕ). if_true leb most_lines n then refused 1 else weighed room past (read bs)) h
