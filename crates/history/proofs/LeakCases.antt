-- A worked case of leaks of one line, as foreign tables may have them: by making line, then rule and row. Assumes nothing.
use Prim.Native.Nat.{ℕ}
use mathlib.Core.Path.{◌≡◌, refl}
use mathlib.Core.List.{[], ◌∷◌}
use Rattle.history.specs.Handles.{local, shared}
use Rattle.history.specs.Buffers.{ordinary, critical}
use Rattle.history.specs.Leaks.{Leak, made_at, by_line, leaks_of}

abbrev leak : ℕ → ℕ → ℕ → ℕ → Leak
leak rule thread value line = record { rule = rule; thread = thread; value = value; line = line }

by_line_rule_and_row : leaks_of
    (made_at 3 (ordinary 1 8000) ∷ made_at 3 (critical 2 10 7000) ∷ [])
    (made_at 3 (shared 6) ∷ made_at 2 (shared 11) ∷ made_at 3 (local 1 1 5) ∷ made_at 3 (shared 2) ∷ [])
    ≡ leak 10 0 11 2 ∷ leak 8 0 8000 3 ∷ leak 8 2 7000 3 ∷ leak 10 0 6 3 ∷ leak 10 0 2 3 ∷ []
unfolding by_line leaks_of
by_line_rule_and_row = refl
