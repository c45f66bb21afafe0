-- A quoted text as bytes. Assumes nothing.
use Rattle.std.specs.Prelude.{ℕ, List, [], ◌∷◌, eqb}
use Prim.Native.String.{String, [] as empty, ◌∷◌ as ◌then◌}
use Prim.Native.Char.{code}
use Rattle.words.specs.Choice.{if_true◌then◌else◌}

abbrev pub bytes : String → List ℕ
bytes empty = []
bytes (c then s) = code c ∷ bytes s

-- a tab is shown as a space, as document 01 shows its lines
abbrev pub tab : ℕ
tab = 9

abbrev pub line_feed : ℕ
line_feed = 10

abbrev pub with_tabs : List ℕ → List ℕ
with_tabs [] = []
with_tabs (b ∷ bs) = (if_true eqb b 32 then tab else b) ∷ with_tabs bs
