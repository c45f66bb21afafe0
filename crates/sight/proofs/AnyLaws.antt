-- Whether one of a list passes a test, in the library's word. Assumes nothing.
use Prim.Native.Nat.{ℕ}
use mathlib.Core.Path.{◌≡◌, refl, ap}
use mathlib.Core.Bool.{Bool, ◌||◌}
use mathlib.Core.List.{List, [], ◌∷◌}
use Rattle.std.specs.List.{list_any}
use Rattle.words.specs.Lists.{any}

pub any_is : (f : ℕ → Bool) (s : List ℕ) → list_any f s ≡ any f s
any_is f [] = refl
any_is f (x ∷ s) = ap (λ (b : Bool). f x || b) (any_is f s)
