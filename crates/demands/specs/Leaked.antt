-- A leak in the words of document 02: what is outstanding or alive, with the line of the R that made it. Assumes nothing.
use Rattle.std.specs.Prelude.{ℕ, suc, ◌<◌, ◌≡◌, Bool, ◌&&◌, ◌∷◌, ◌++◌, eqb, ℤ, length}
use Rattle.words.specs.Lists.{count}
use Rattle.lines.specs.Line.{Line, R}
use Rattle.history.specs.Past.{History}
use Rattle.history.specs.Handles.{shared}
use Rattle.history.specs.Buffers.{Pin, same_pin, outstanding}
use Rattle.history.specs.Lives.{Lives}
use Rattle.history.specs.Times.{Gets}
use Rattle.history.specs.Leaks.{Leak, owner_of, buffer_of}

pub data Leaked (past : History) : Leak → Type 0 where
  -- an outstanding buffer, of its thread where it is critical: that line got it, and ever since one such was outstanding
  buffer_left : (x : Pin) (newer older : History) (got : Line) → past ≡ newer ++ (got ∷ older) → Gets got x
      → ((later since : History) → newer ≡ later ++ since → 0 < count (same_pin x) (outstanding (since ++ (got ∷ older))))
      → Leaked past (record { rule = 8; thread = owner_of x; value = buffer_of x; line = suc (length older) })
  -- a global or weak alive: that line made it, and no line since has ended it
  handle_left : (h : ℕ) (alive : Lives (shared h) past) → Leaked past (record { rule = 10; thread = 0; value = h; line = suc (length alive.older) })

-- line number n is an R
pub data LineOfR (n : ℕ) (past : History) : Type 0 where
  by_R : (newer older : History) (t f p : ℕ) (r : ℤ) → past ≡ newer ++ (R t f r p ∷ older) → n ≡ suc (length older) → LineOfR n past

abbrev pub of_rule : ℕ → Leak → Bool
of_rule rule x = eqb x.rule rule

-- rule, thread and value are these
abbrev pub is_leak : ℕ → ℕ → ℕ → Leak → Bool
is_leak rule t v x = of_rule rule x && eqb x.thread t && eqb x.value v

-- a buffer of this number, of this thread where it is critical, else of thread 0
abbrev pub is_owned : ℕ → ℕ → Pin → Bool
is_owned t b x = eqb (owner_of x) t && eqb (buffer_of x) b
