-- The capacity of each frame of a thread, top first. Assumes nothing.
use Rattle.std.specs.Prelude.{ℕ, ◌+◌, ◌-◌, max, not, List, [], ◌∷◌, eqb, length, drop}
use Rattle.words.specs.Choice.{if_true◌then◌else◌}
use Rattle.facts.specs.Named.{PushLocalFrame, EnsureLocalCapacity}
use Rattle.lines.specs.Line.{Line, if_opens◌then◌else◌, if_R◌then◌else◌, is_zero}
use Rattle.history.specs.Past.{History, is_of}
use Rattle.history.specs.Items.{items, top_of, asked}
use Rattle.history.specs.Frames.{depth}
use Rattle.history.specs.Handles.{alive_in}

-- N opens a frame of capacity 16 plus the number of its handles; A, which has none, one of 16
abbrev pub native_capacity : List ℕ → ℕ
native_capacity hs = 16 + length hs

-- the top capacity, k at least
abbrev pub raised : ℕ → List ℕ → List ℕ
raised k [] = []
raised k (c ∷ cs) = max c k ∷ cs

-- what a line finds: the frames that go with it, the locals alive in the top frame, and max(n,0) of the matching C
pub record Finds : Type 0 where
  pub gone : ℕ
  pub held : ℕ
  pub asked : ℕ

-- With status 0: 19 pushes a frame of capacity max(n,0), 26 raises the top frame's to max(old, locals alive in it + max(n,0)).
-- A frame that goes takes its capacity with it.
abbrev pub capacities_after : Line → Finds → List ℕ → List ℕ
capacities_after e x cs =
    if_opens e then (λ t env hs. native_capacity hs ∷ cs)
    else if_R e then
    (λ t f r p.
    if_true not (is_zero r) then cs
    else if_true eqb f PushLocalFrame then x.asked ∷ cs
    else if_true eqb f EnsureLocalCapacity then raised (x.held + x.asked) cs
    else cs)
    else drop x.gone cs

unfoldable pub capacities : ℕ → History → List ℕ
capacities t [] = []
capacities t (e ∷ past) =
    if_true is_of t e then
    capacities_after e
    (record { gone = depth t past - depth t (e ∷ past); held = alive_in t (depth t past) past; asked = asked (top_of (items t past)) })
    (capacities t past)
    else capacities t past
