-- The history: the accepted lines, newest first, and nothing else. Assumes nothing.
use Rattle.std.specs.Prelude.{ℕ, Bool, true, false, List, [], ◌∷◌, eqb}
use Rattle.words.specs.Choice.{if_true◌then◌else◌}
use Rattle.lines.specs.Line.{Line, if_opens◌then◌else◌, if_X◌then◌else◌, if_C◌then◌else◌, if_R◌then◌else◌, if_D◌then◌else◌, if_Z◌then◌else◌, if_states◌then◌else◌}

abbrev pub History : Type 0
History = List Line

-- the thread whose open items a line is of; Z and statements are of none
abbrev pub thread_of : Line → ℕ
thread_of e =
    if_opens e then (λ t env hs. t)
    else if_X e then (λ t r. t)
    else if_C e then (λ t env f a b c n. t)
    else if_R e then (λ t f r p. t)
    else if_D e then (λ t. t)
    else 0

abbrev pub is_of : ℕ → Line → Bool
is_of t e = if_Z e then false else if_states e then false else eqb t (thread_of e)

-- what the lines of thread t make of `x`, one after another
unfoldable pub through {ℓ} : {A : Type ℓ} → (Line → A → A) → A → ℕ → History → A
through after x t [] = x
through after x t (e ∷ past) = if_true is_of t e then after e (through after x t past) else through after x t past

-- nothing is allowed after Z
unfoldable pub closed : History → Bool
closed [] = false
closed (e ∷ past) = if_Z e then true else closed past
