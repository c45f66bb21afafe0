-- The classes declared so far, and whether a chain of supers leads from one class to another. Assumes nothing.
use Rattle.std.specs.Prelude.{ℕ, zero, suc, Bool, true, false, not, ◌||◌, [], ◌∷◌, eqb}
use Rattle.words.specs.Choice.{if_true◌then◌else◌}
use Rattle.facts.specs.Classes.{object, is_reserved, no_class}
use Rattle.lines.specs.Line.{if_K◌then◌else◌}
use Rattle.history.specs.Past.{History}

-- the super that K declared of class c; 0 where no line declared it
unfoldable pub super_of : History → ℕ → ℕ
super_of [] c = no_class
super_of (e ∷ past) c = if_K e then (λ d s. if_true eqb c d then s else super_of past c) else super_of past c

-- no chain of classes is longer
abbrev pub most_looks : ℕ
most_looks = 4096

-- ---- of the supers that were declared, whoever declared them

module _ (declared : ℕ → ℕ) where
  -- a class declared or reserved
  abbrev pub is_known : ℕ → Bool
  is_known c = is_reserved c || not (eqb (declared c) no_class)

  -- the super of a class: of the reserved ones 2 to 4 are under 1, the root
  unfoldable pub super : ℕ → ℕ
  super c = if_true is_reserved c then (if_true eqb c object then no_class else object) else declared c

  -- from class c a chain of supers leads to class k, or it is class k, found in at most n looks
  unfoldable pub leads : ℕ → ℕ → ℕ → Bool
  leads zero c k = false
  leads (suc n) c k = if_true eqb c k then true else if_true eqb c no_class then false else leads n (super c) k

  -- the stated class is the fixed one or below it; where none is fixed, or none stated, there is nothing to judge
  unfoldable pub class_fits : ℕ → ℕ → Bool
  class_fits fixed stated = eqb fixed no_class || eqb stated no_class || leads most_looks stated fixed
