-- The class stated of a handle. Assumes nothing.
use Rattle.std.specs.Prelude.{ℕ, Bool, false, [], ◌∷◌, eqb}
use Rattle.words.specs.Choice.{if_true◌then◌else◌}
use Rattle.words.specs.Lists.{any}
use Rattle.facts.specs.Classes.{no_class, class_made}
use Rattle.lines.specs.Line.{Line, if_R◌then◌else◌, if_O◌then◌else◌, kind}
use Rattle.history.specs.Past.{History, thread_of}
use Rattle.history.specs.Frames.{depth}
use Rattle.history.specs.Handles.{Alive, is_local, is_shared, same_handle, makes}

-- what thread t names by handle h: a local of its own, a global or weak; null and identities name nothing
unfoldable pub names : ℕ → ℕ → Alive → Bool
names t h x = if_true eqb (kind h) 0 then false else if_true eqb (kind h) 1 then is_local t h x else is_shared h x

-- the class of what a line makes: 31's result needs no O
abbrev pub class_by : Line → ℕ
class_by e = if_R e then (λ t f r p. class_made f) else no_class

-- a handle made, or made again, has the class that its line gives it; then the last O counts
unfoldable pub class_stated : History → Alive → ℕ
class_stated [] x = no_class
class_stated (e ∷ past) x =
    if_true any (same_handle x) (makes e (depth (thread_of e) past)) then class_by e
    else if_O e then (λ t h c. if_true names t h x then c else class_stated past x)
    else class_stated past x
