-- Classes in the words of document 02: declared or reserved, and below another by a chain of supers. Assumes nothing.
use Rattle.std.specs.Prelude.{ℕ, ◌≤◌, ◌⊎◌, ◌≡◌}
use mathlib.Core.List.{Memᴰ}
use Rattle.facts.specs.Classes.{object, class, string, throwable}
use Rattle.lines.specs.Line.{states, K}
use Rattle.history.specs.Past.{History}

-- a class declared or reserved
pub data Known (past : History) : ℕ → Type 0 where
  reserved : (c : ℕ) → object ≤ c → c ≤ throwable → Known past c
  declared : (c s : ℕ) → Memᴰ (states (K c s)) past → Known past c

-- the second is the super of the first
pub data Super (past : History) : ℕ → ℕ → Type 0 where
  -- 2 to 4 are under 1, the root
  class_under : Super past class object
  string_under : Super past string object
  throwable_under : Super past throwable object
  by_K : (c s : ℕ) → Memᴰ (states (K c s)) past → Super past c s

-- a class is below another when a chain of supers leads there
pub data Below (past : History) : ℕ → ℕ → Type 0 where
  by_super : (c s : ℕ) → Super past c s → Below past c s
  by_chain : (c s k : ℕ) → Super past c s → Below past s k → Below past c k

-- the class itself, or one below it
abbrev pub AtOrBelow : History → ℕ → ℕ → Type 0
AtOrBelow past c k = (c ≡ k) ⊎ Below past c k
