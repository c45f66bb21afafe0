-- Lists of slots: places and counts by a test, one slot changed, each slot changed. Assumes nothing.
use mathlib.Core.Path.{◌≡◌, refl, ap, ap₂, ◌∙◌}
use mathlib.Core.Bool.{Bool, true, false, ◌||◌}
use mathlib.Core.List.{List, [], ◌∷◌}
use Rattle.std.specs.Prelude.{Option, option_map, None, Some}
use Prim.Native.Nat.{ℕ, zero, suc, ◌+◌, ◌<◌, suc-le-suc}
use native.Mathlib.Nat.{zero-lt-suc, not-suc-le-zero, le_of_suc-le-suc, suc_inj}
use native.Mathlib.Omega.{arith}
use lib.ListN.{length, get_or, set, replicate}
use lib.Dec.{ltb, leb-suc-suc}
use borrow.Author.Tests.{lt-ltb, le-ltb}
use Rattle.words.specs.Choice.{if_true◌then◌else◌, one}
use Rattle.words.specs.Lists.{any, count, place_of, of_first}
use Rattle.rows.specs.Scan.{how_many, lowest}
use Rattle.rows.specs.Slots.{held, holding, empty, put, wipe, wipe_first, change_first}
use Rattle.rows.specs.Table.{each}

one_more : (b : Bool) (m : ℕ) → one b + m ≡ (if_true b then suc m else m)
one_more true m = omega arith
one_more false m = omega arith

-- ---- f at each number below n
module _ {A : Type 0} where
  pub length_each : (f : ℕ → A) (n : ℕ) → length (each f n) ≡ n
  length_each f zero = refl
  length_each f (suc n) = ap suc (length_each (λ k. f (suc k)) n)

  pub getD_each : (f : ℕ → A) (n k : ℕ) (d : A) → k < n → get_or (each f n) k d ≡ f k
  getD_each f zero k d h = absurd (not-suc-le-zero h)
  getD_each f (suc n) zero d h = refl
  getD_each f (suc n) (suc k) d h = getD_each (λ k. f (suc k)) n k d (le_of_suc-le-suc h)

  pub each_ext : (f g : ℕ → A) (n : ℕ) → ((k : ℕ) → k < n → f k ≡ g k) → each f n ≡ each g n
  each_ext f g zero h = refl
  each_ext f g (suc n) h =
      ap₂ {C = List A} (λ x l. x ∷ l) (h zero (zero-lt-suc n)) (each_ext (λ k. f (suc k)) (λ k. g (suc k)) n (λ k l. h (suc k) (suc-le-suc l)))

  -- g is f but for r
  pub each_set : (f g : ℕ → A) (n r : ℕ) (x : A) → r < n → g r ≡ x → ((k : ℕ) → (k ≡ r → ⊥) → g k ≡ f k) → each g n ≡ set (each f n) r x
  each_set f g zero r x h e o = absurd (not-suc-le-zero h)
  each_set f g (suc n) zero x h e o =
      ap₂ {C = List A} (λ x l. x ∷ l) e (each_ext (λ k. g (suc k)) (λ k. f (suc k)) n (λ k l. o (suc k) (λ z. absurd (omega arith))))
  each_set f g (suc n) (suc r) x h e o =
      ap₂ {C = List A} (λ x l. x ∷ l) (o zero (λ z. absurd (omega arith)))
      (each_set (λ k. f (suc k)) (λ k. g (suc k)) n r x (le_of_suc-le-suc h) e (λ k m. o (suc k) (λ z. m (suc_inj z))))

  pub each_same : (x : A) (n : ℕ) → each (λ k. x) n ≡ replicate n x
  each_same x zero = refl
  each_same x (suc n) = ap {B = List A} (λ l. x ∷ l) (each_same x n)

  pub count_each : (q : A → Bool) (f : ℕ → A) (n : ℕ) → how_many (λ k. q (f k)) n ≡ count q (each f n)
  unfolding how_many
  count_each q f zero = refl
  count_each q f (suc n) = ap (λ (m : ℕ). one (q (f zero)) + m) (count_each q (λ k. f (suc k)) n) ∙ one_more (q (f zero)) (count q (each (λ k. f (suc k)) n))

  pub place_each : (q : A → Bool) (f : ℕ → A) (n : ℕ) → lowest (λ k. q (f k)) n ≡ place_of q (each f n)
  unfolding lowest
  place_each q f zero = refl
  place_each q f (suc n) = ap (λ (m : ℕ). if_true q (f zero) then zero else suc m) (place_each q (λ k. f (suc k)) n)

-- ---- what is put into the lowest free slot, or taken from the lowest that passes, or made of it, or said of it
module _ {A : Type 0} where
  pub put_is_set : (x : A) (s : List (Option A)) → put x s ≡ set s (place_of empty s) (Some x)
  put_is_set x [] = refl
  put_is_set x (None ∷ s) = refl
  put_is_set x (Some y ∷ s) = ap {B = List (Option A)} (λ l. Some y ∷ l) (put_is_set x s)

  pub wipe_first_is_set : (q : A → Bool) (s : List (Option A)) → wipe_first q s ≡ set s (place_of (holding q) s) None
  wipe_first_is_set q [] = refl
  wipe_first_is_set q (None ∷ s) = ap {B = List (Option A)} (λ l. None ∷ l) (wipe_first_is_set q s)
  wipe_first_is_set q (Some x ∷ s) = go (q x) (wipe_first_is_set q s)
    where
      go : (b : Bool) → wipe_first q s ≡ set s (place_of (holding q) s) None
          → ◌≡◌ {A = List (Option A)} (if_true b then None ∷ s else Some x ∷ wipe_first q s) (set (Some x ∷ s) (if_true b then 0 else suc (place_of (holding q) s)) None)
      go true ih = refl
      go false ih = ap {B = List (Option A)} (λ l. Some x ∷ l) ih

  pub change_first_is_set : (q : A → Bool) (g : A → A) (s : List (Option A))
      → change_first q g s ≡ set s (place_of (holding q) s) (option_map g (get_or s (place_of (holding q) s) None))
  change_first_is_set q g [] = refl
  change_first_is_set q g (None ∷ s) = ap {B = List (Option A)} (λ l. None ∷ l) (change_first_is_set q g s)
  change_first_is_set q g (Some x ∷ s) = go (q x) (change_first_is_set q g s)
    where
      go : (b : Bool) → change_first q g s ≡ set s (place_of (holding q) s) (option_map g (get_or s (place_of (holding q) s) None))
          → (let r : ℕ = if_true b then 0 else suc (place_of (holding q) s) in
          ◌≡◌ {A = List (Option A)} (if_true b then Some (g x) ∷ s else Some x ∷ change_first q g s) (set (Some x ∷ s) r (option_map g (get_or (Some x ∷ s) r None))))
      go true ih = refl
      go false ih = ap {B = List (Option A)} (λ l. Some x ∷ l) ih

  -- what f says of a slot, 0 of a free one
  abbrev pub said : (A → ℕ) → Option A → ℕ
  said f None = 0
  said f (Some x) = f x

  pub of_first_is_said : (q : A → Bool) (f : A → ℕ) (s : List (Option A)) → of_first q f (held s) ≡ said f (get_or s (place_of (holding q) s) None)
  of_first_is_said q f [] = refl
  of_first_is_said q f (None ∷ s) = of_first_is_said q f s
  of_first_is_said q f (Some x ∷ s) = go (q x) (of_first_is_said q f s)
    where
      go : (b : Bool) → of_first q f (held s) ≡ said f (get_or s (place_of (holding q) s) None)
          → (if_true b then f x else of_first q f (held s)) ≡ said f (get_or (Some x ∷ s) (if_true b then 0 else suc (place_of (holding q) s)) None)
      go true ih = refl
      go false ih = ih

  -- a slot freed where it passes
  abbrev pub freed : (A → Bool) → Option A → Option A
  freed q None = None
  freed q (Some x) = if_true q x then None else Some x

  pub wipe_each : (q : A → Bool) (f : ℕ → Option A) (n : ℕ) → each (λ k. freed q (f k)) n ≡ wipe q (each f n)
  wipe_each q f zero = refl
  wipe_each q f (suc n) = go (f zero) (wipe_each q (λ k. f (suc k)) n)
    where
      go : (s : Option A) → each (λ k. freed q (f (suc k))) n ≡ wipe q (each (λ k. f (suc k)) n)
          → freed q s ∷ each (λ k. freed q (f (suc k))) n ≡ wipe q (s ∷ each (λ k. f (suc k)) n)
      go None ih = ap {B = List (Option A)} (λ l. None ∷ l) ih
      go (Some x) ih = ap {B = List (Option A)} (λ l. freed q (Some x) ∷ l) ih

  -- ---- what is held
  pub count_held : (q : A → Bool) (s : List (Option A)) → count (holding q) s ≡ count q (held s)
  count_held q [] = refl
  count_held q (None ∷ s) = count_held q s
  count_held q (Some x ∷ s) = ap (λ (m : ℕ). if_true q x then suc m else m) (count_held q s)

  pub length_held : (s : List (Option A)) → count (holding (λ x. true)) s ≡ length (held s)
  length_held [] = refl
  length_held (None ∷ s) = length_held s
  length_held (Some x ∷ s) = ap suc (length_held s)

  pub any_held : (q : A → Bool) (s : List (Option A)) → ltb (place_of (holding q) s) (length s) ≡ any q (held s)
  any_held q [] = le-ltb 0 0 (omega arith)
  any_held q (None ∷ s) = leb-suc-suc (suc (place_of (holding q) s)) (length s) ∙ any_held q s
  any_held q (Some x ∷ s) = go (q x) (any_held q s)
    where
      go : (b : Bool) → ltb (place_of (holding q) s) (length s) ≡ any q (held s)
          → ltb (if_true b then 0 else suc (place_of (holding q) s)) (suc (length s)) ≡ (b || any q (held s))
      go true ih = lt-ltb 0 (suc (length s)) (zero-lt-suc (length s))
      go false ih = leb-suc-suc (suc (place_of (holding q) s)) (length s) ∙ ih

  pub held_put : (x : A) (s : List (Option A)) → place_of empty s < length s → length (held (put x s)) ≡ suc (length (held s))
  held_put x [] h = absurd (not-suc-le-zero h)
  held_put x (None ∷ s) h = refl
  held_put x (Some y ∷ s) h = ap suc (held_put x s (le_of_suc-le-suc h))
