-- A thread's pending exception, its monitors and its env. Assumes nothing.
use Rattle.std.specs.Prelude.{ℕ, suc, pred, not, List, [], ◌∷◌, eqb}
use Rattle.words.specs.Choice.{if_true◌then◌else◌}
use Rattle.facts.specs.Named.{MonitorEnter, MonitorExit}
use Rattle.lines.specs.Line.{Line, if_opens◌then◌else◌, if_R◌then◌else◌, if_D◌then◌else◌, is_zero}
use Rattle.history.specs.Past.{History, through}

abbrev pub all_threads : List ℕ
all_threads = 1 ∷ 2 ∷ 3 ∷ 4 ∷ 5 ∷ 6 ∷ 7 ∷ 8 ∷ 9 ∷ 10 ∷ 11 ∷ 12 ∷ 13 ∷ 14 ∷ 15 ∷ 16 ∷ []

-- N and A: pending becomes 0; R sets pending
abbrev pub pending_after : Line → ℕ → ℕ
pending_after e p = if_opens e then (λ t env hs. 0) else if_R e then (λ t f r q. q) else p

unfoldable pub pending : ℕ → History → ℕ
pending = through pending_after 0

-- with status 0, 217 adds one to the thread's monitors, 218 takes one if there is any; on D they become 0
abbrev pub monitors_after : Line → ℕ → ℕ
monitors_after e m =
    if_R e then
    (λ t f r p.
    if_true not (is_zero r) then m
    else if_true eqb f MonitorEnter then suc m
    else if_true eqb f MonitorExit then pred m
    else m)
    else if_D e then (λ t. 0)
    else m

unfoldable pub monitors : ℕ → History → ℕ
monitors = through monitors_after 0

-- a thread's env is that of its first N or A; 0 before it
abbrev pub env_after : Line → ℕ → ℕ
env_after e v = if_opens e then (λ t env hs. if_true eqb v 0 then env else v) else v

unfoldable pub env_of : ℕ → History → ℕ
env_of = through env_after 0
