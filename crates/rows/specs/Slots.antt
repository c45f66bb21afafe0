-- Slots, each free or with something in it: what lent rows and marks stand for. Assumes nothing.
use Rattle.std.specs.Prelude.{Bool, true, false, List, [], ◌∷◌, Option, None, Some}
use Rattle.words.specs.Choice.{if_true◌then◌else◌}

module _ {A : Type 0} where
  -- what the used slots hold, in their order
  abbrev pub held : List (Option A) → List A
  held [] = []
  held (None ∷ s) = held s
  held (Some x ∷ s) = x ∷ held s

  -- the slot is used, and what it holds passes the test
  abbrev pub holding : (A → Bool) → Option A → Bool
  holding q None = false
  holding q (Some x) = q x

  -- the slot is free
  abbrev pub empty : Option A → Bool
  empty None = true
  empty (Some x) = false

  -- into the lowest free slot, if there is one
  abbrev pub put : A → List (Option A) → List (Option A)
  put x [] = []
  put x (None ∷ s) = Some x ∷ s
  put x (Some y ∷ s) = Some y ∷ put x s

  -- one after another
  abbrev pub put_all : List A → List (Option A) → List (Option A)
  put_all [] s = s
  put_all (x ∷ xs) s = put_all xs (put x s)

  -- each slot that passes the test is freed
  abbrev pub wipe : (A → Bool) → List (Option A) → List (Option A)
  wipe q [] = []
  wipe q (None ∷ s) = None ∷ wipe q s
  wipe q (Some x ∷ s) = (if_true q x then None else Some x) ∷ wipe q s

  -- the lowest slot that passes the test is freed
  abbrev pub wipe_first : (A → Bool) → List (Option A) → List (Option A)
  wipe_first q [] = []
  wipe_first q (None ∷ s) = None ∷ wipe_first q s
  wipe_first q (Some x ∷ s) = if_true q x then None ∷ s else Some x ∷ wipe_first q s

  -- the lowest slot that passes the test holds what g makes of it
  abbrev pub change_first : (A → Bool) → (A → A) → List (Option A) → List (Option A)
  change_first q g [] = []
  change_first q g (None ∷ s) = None ∷ change_first q g s
  change_first q g (Some x ∷ s) = if_true q x then Some (g x) ∷ s else Some x ∷ change_first q g s
