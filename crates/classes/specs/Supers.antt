-- The lent class table: a number for each class, its super, or 0 where it is not declared. Assumes nothing.
use Rattle.std.specs.Prelude.{ℕ, ◌-◌, Bool, ◌&&◌, List, leb, ltb, length, get_or, set, replicate}
use Rattle.words.specs.Choice.{if_true◌then◌else◌}
use Rattle.lines.specs.Line.{classes, is_class}

-- a number for each class
abbrev pub all_classes : ℕ
all_classes = classes

abbrev pub is_short : List ℕ → Bool
is_short cs = ltb (length cs) all_classes

-- the super of class c; a number that is no class has none
unfoldable pub super_in : List ℕ → ℕ → ℕ
super_in cs c = if_true is_class c then get_or cs (c - 1) 0 else 0

-- class c with super s; nothing where c is no class, or the table has no number for it
unfoldable pub with_super : List ℕ → ℕ → ℕ → List ℕ
with_super cs c s = if_true is_class c && leb c (length cs) then set cs (c - 1) s else cs

-- all numbers 0
abbrev pub classes_cleared : List ℕ → List ℕ
classes_cleared cs = replicate (length cs) 0
