-- After accepted lines, what Z counts under rule 10 are the handles alive of kind 2 and of kind 3. Assumes nothing.
use Prim.Native.Nat.{ℕ, ◌+◌, ◌<◌}
use mathlib.Core.Path.{◌≡◌, sym, ◌∙◌}
use mathlib.Core.Logic.{◌⊎◌, inl, inr, ◌↔◌}
use mathlib.Core.List.{◌∷◌, Memᴰ}
use Rattle.words.specs.Choice.{one}
use Rattle.words.specs.Lists.{count}
use Rattle.lines.specs.Line.{Z, kind}
use Rattle.history.specs.Past.{History}
use Rattle.history.specs.Handles.{Alive, local, shared, global_or_weak, living}
use Rattle.history.specs.Acceptance.{Room}
use Rattle.history.specs.Kinds.{of_kind}
use Rattle.history.specs.Paper.{Broken, handles_left}
use Rattle.history.specs.Accepted.{Accepted}
use Rattle.history.proofs.Counts.{count_parts}
use Rattle.history.proofs.Living.{living_are}
use Rattle.history.proofs.After.{end_living}
use Rattle.history.proofs.Once.{local_placed, shared_kind}

by_kind : (room : Room) (past : History) → Accepted room past → (x : Alive) → Memᴰ x (living past) → one (global_or_weak x) ≡ one (of_kind 2 x) + one (of_kind 3 x)
by_kind room past a (local t d h) m = rw (local_placed room past a t d h ((living_are past (local t d h)).0 m)).2
by_kind room past a (shared h) m = go (shared_kind room past a h ((living_are past (shared h)).0 m))
  where
    go : (kind h ≡ 2) ⊎ (kind h ≡ 3) → 1 ≡ one (of_kind 2 (shared h)) + one (of_kind 3 (shared h))
    go (inl is) = rw is
    go (inr is) = rw is

counted : (room : Room) (past : History) → Accepted room past
    → count global_or_weak (living (Z ∷ past)) ≡ count (of_kind 2) (living (Z ∷ past)) + count (of_kind 3) (living (Z ∷ past))
counted room past a = rw (end_living past) (count_parts global_or_weak (of_kind 2) (of_kind 3) (living past) (by_kind room past a))

pub leaks_by_kind : (room : Room) (past : History) → Accepted room past → (k : ℕ)
    → Broken past Z 10 0 k ↔ ((k ≡ count (of_kind 2) (living (Z ∷ past)) + count (of_kind 3) (living (Z ∷ past))) × (0 < k))
leaks_by_kind room past a k = (there, λ (is, some). handles_left k (is ∙ sym (counted room past a)) some)
  where
    there : Broken past Z 10 0 k → (k ≡ count (of_kind 2) (living (Z ∷ past)) + count (of_kind 3) (living (Z ∷ past))) × (0 < k)
    there (handles_left _ is some) = (is ∙ counted room past a, some)
