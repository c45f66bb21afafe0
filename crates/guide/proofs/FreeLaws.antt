-- The number of used rows and the word of the lowest free one, in a guide. Assumes nothing.
use mathlib.Core.Path.{◌≡◌}
use mathlib.Core.List.{List}
use Prim.Native.Nat.{ℕ, ◌/◌, ◌<◌, min}
use lib.ListN.{length, get_or, length-set}
use lib.Seq.{get_or-set_same, get_or-set_other}
use Rattle.rows.specs.Marks.{word}
use Rattle.guide.specs.Frees.{lowered_at}

module _ (G : List ℕ) (k r : ℕ) where
  pub lowered_length : length (lowered_at G k r) ≡ length G
  unfolding lowered_at
  lowered_length = length-set G k _

  pub lowered_elsewhere : (j d : ℕ) → (j ≡ k → ⊥) → get_or (lowered_at G k r) j d ≡ get_or G j d
  unfolding lowered_at
  lowered_elsewhere j d n = get_or-set_other G k j _ d n

  pub lowered_is : k < length G → get_or (lowered_at G k r) k 0 ≡ min (get_or G k 0) (r / word)
  unfolding lowered_at
  lowered_is l = get_or-set_same G k _ 0 l
