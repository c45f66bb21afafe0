-- The rows that a line makes, as the code writes them. Assumes nothing.
use Rattle.std.specs.Prelude.{ℕ, List, map}
use Rattle.facts.specs.Classes.{no_class}
use Rattle.rows.specs.declared.references.Reference.{Reference}

-- locals of thread t in its frame d, made by line `line`, of no stated class
abbrev pub locals : ℕ → ℕ → ℕ → List ℕ → List Reference
locals line t d hs = map (λ (h : ℕ). record { thread = t; handle = h; frame = d; line = line; class = no_class }) hs
