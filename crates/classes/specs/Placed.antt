-- Each identity in the class table stands where it is looked for. Assumes nothing.
use Rattle.std.specs.Prelude.{◌≡◌, Bool, ◌&&◌, List, ℕ, ◌<◌, ltb}
use Rattle.classes.specs.Identities.{identity_room, identity_number, place_of, is_used}

-- identity x stands in the table, if each stands where it is looked for
abbrev pub stands : List ℕ → ℕ → Bool
stands cs x = ltb (place_of cs x) (identity_room cs) && is_used cs (place_of cs x)

pub record Placed (cs : List ℕ) : Type 0 where
  pub each : (i : ℕ) → i < identity_room cs → (identity_number cs i 0 ≡ 0 → ⊥) → place_of cs (identity_number cs i 0) ≡ i
