-- Identities in the words of document 02: what an identity was stated to be, and what each function wants. Assumes nothing.
use Rattle.std.specs.Prelude.{ℕ, ◌≤◌, ◌≡◌, ◌⊎◌}
use mathlib.Core.List.{◌∷◌, ◌++◌, Memᴰ}
use Rattle.facts.specs.Identities.{method, field}
use Rattle.lines.specs.Line.{states, M}
use Rattle.history.specs.Past.{History}

-- an earlier M stated it so, and no M since stated the same identity
pub record Identified (x sort static final : ℕ) (past : History) : Type 0 where
  pub newer : History
  pub class : ℕ
  pub older : History
  pub split : past ≡ newer ++ (states (M x sort class static final) ∷ older)
  pub last : (s c u v : ℕ) → ¬ Memᴰ (states (M x s c u v)) newer

-- an identity of this sort, static or not, suits function f
pub data Suits : ℕ → ℕ → ℕ → Type 0 where
  -- 28-30 and 34-93 want a method that isn't static
  object_method : (f : ℕ) → ((28 ≤ f) × (f ≤ 30)) ⊎ ((34 ≤ f) × (f ≤ 93)) → Suits f method 0
  -- 114-143 a static method
  static_method : (f : ℕ) → 114 ≤ f → f ≤ 143 → Suits f method 1
  -- 95-112 a field that isn't static
  object_field : (f : ℕ) → 95 ≤ f → f ≤ 112 → Suits f field 0
  -- 145-162 a static field
  static_field : (f : ℕ) → 145 ≤ f → f ≤ 162 → Suits f field 1
  -- 9 any method, 12 any field
  any_method : (static : ℕ) → Suits 9 method static
  any_field : (static : ℕ) → Suits 12 field static

-- functions 104-112 and 154-162 write a field
pub data Writes (f : ℕ) : Type 0 where
  object_written : 104 ≤ f → f ≤ 112 → Writes f
  static_written : 154 ≤ f → f ≤ 162 → Writes f
