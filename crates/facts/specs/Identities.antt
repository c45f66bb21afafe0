-- What document 02 wants of an identity, by the function that it is handed to, as it prints them. Assumes nothing.
use Rattle.std.specs.Prelude.{ℕ, Bool, false, ◌&&◌, [], ◌∷◌, eqb}
use Rattle.words.specs.Choice.{if_true◌then◌else◌}
use Rattle.facts.specs.Table.{only, ◌to◌, lists}
use Rattle.facts.specs.declared.identities.Wanted.{Wanted}

-- sort is 1 method or 2 field
abbrev pub method : ℕ
method = 1

abbrev pub field : ℕ
field = 2

-- 28-30 and 34-93 want a method that isn't static, 114-143 a static method, 95-112 a field that isn't static, 145-162 a static field, 9 any method,
-- 12 any field
unfoldable pub wanted_of : ℕ → Wanted
wanted_of f =
    if_true lists (28 to 30 ∷ 34 to 93 ∷ []) f then Wanted.ObjectMethod
    else if_true lists (114 to 143 ∷ []) f then Wanted.StaticMethod
    else if_true lists (95 to 112 ∷ []) f then Wanted.ObjectField
    else if_true lists (145 to 162 ∷ []) f then Wanted.StaticField
    else if_true lists (only 9 ∷ []) f then Wanted.AnyMethod
    else if_true lists (only 12 ∷ []) f then Wanted.AnyField
    else Wanted.Nothing

-- an identity of this sort, static (1) or not (0), is what is wanted
abbrev pub suits : Wanted → ℕ → ℕ → Bool
suits Wanted.ObjectMethod sort static = eqb sort method && eqb static 0
suits Wanted.StaticMethod sort static = eqb sort method && eqb static 1
suits Wanted.ObjectField sort static = eqb sort field && eqb static 0
suits Wanted.StaticField sort static = eqb sort field && eqb static 1
suits Wanted.AnyMethod sort static = eqb sort method
suits Wanted.AnyField sort static = eqb sort field
suits Wanted.Nothing sort static = false

-- functions 104-112 and 154-162 write a field
unfoldable pub writes_field : ℕ → Bool
writes_field = lists (104 to 112 ∷ 154 to 162 ∷ [])
