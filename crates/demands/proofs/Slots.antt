-- Laws of slots: what is held after each change, and slots padded with free ones. Assumes nothing.
use Prim.Native.Nat.{ℕ, zero, suc, ◌+◌, ◌≤◌, ◌<◌}
use mathlib.Core.Path.{◌≡◌, refl, ap, ◌∙◌}
use mathlib.Core.Logic.{◌⊎◌, inl, inr}
use mathlib.Core.Bool.{Bool, true, false, not}
use mathlib.Core.List.Memᴰ
use mathlib.Core.List.{List, [], ◌∷◌, Memᴰ}
use Rattle.std.specs.Prelude.{Option, None, Some}
use native.Mathlib.Omega.{arith}
use lib.ListN.{length}
use Rattle.words.specs.Choice.{if_true◌then◌else◌, one}
use Rattle.words.specs.Lists.{keep, count, but_first}
use Rattle.rows.specs.Slots.{held, put, put_all, wipe, wipe_first}
use Rattle.history.proofs.Tests.{either}
use Rattle.history.proofs.Counts.{count_cons}
use Rattle.demands.specs.PastRows.{put_or_add, put_or_add_all, padded}

module _ {A : Type 0} where
  -- ---- what is held

  held_put_or_add : (f : A → Bool) (x : A) (s : List (Option A)) → count f (held (put_or_add x s)) ≡ one (f x) + count f (held s)
  held_put_or_add f x [] = count_cons f x []
  held_put_or_add f x (None ∷ s) = count_cons f x (held s)
  held_put_or_add f x (Some y ∷ s) =
      omega (arith, count_cons f y (held (put_or_add x s)), count_cons f y (held s), held_put_or_add f x s)

  pub held_put_or_add_all : (f : A → Bool) (xs : List A) (s : List (Option A)) → count f (held (put_or_add_all xs s)) ≡ count f xs + count f (held s)
  held_put_or_add_all f [] s = omega arith
  held_put_or_add_all f (x ∷ xs) s = omega (arith, held_put_or_add_all f xs (put_or_add x s), held_put_or_add f x s, count_cons f x xs)

  member_put_or_add : {y : A} (x : A) (s : List (Option A)) → Memᴰ y (held (put_or_add x s)) → (y ≡ x) ⊎ Memᴰ y (held s)
  member_put_or_add x [] m = Memᴰ.cases_cons m
  member_put_or_add x (None ∷ s) m = Memᴰ.cases_cons m
  member_put_or_add {y} x (Some z ∷ s) m =
      either (Memᴰ.cases_cons m) (λ e. inr (Memᴰ.head e)) (λ k. either (member_put_or_add x s k) (λ e. inl e) (λ j. inr (Memᴰ.tail j)))

  pub member_put_or_add_all : {y : A} (xs : List A) (s : List (Option A)) → Memᴰ y (held (put_or_add_all xs s)) → Memᴰ y xs ⊎ Memᴰ y (held s)
  member_put_or_add_all [] s m = inr m
  member_put_or_add_all {y} (x ∷ xs) s m =
      either (member_put_or_add_all xs (put_or_add x s) m) (λ k. inl (Memᴰ.tail k)) (λ k. either (member_put_or_add x s k) (λ e. inl (Memᴰ.head e)) (λ j. inr j))

  pub held_wipe : (g : A → Bool) (s : List (Option A)) → held (wipe g s) ≡ keep (λ x. not (g x)) (held s)
  held_wipe g [] = refl
  held_wipe g (None ∷ s) = held_wipe g s
  held_wipe g (Some x ∷ s) = go (g x) (held_wipe g s)
    where
      go : (b : Bool) → held (wipe g s) ≡ keep (λ x. not (g x)) (held s)
          → held ((if_true b then None else Some x) ∷ wipe g s) ≡ (if_true not b then x ∷ keep (λ x. not (g x)) (held s) else keep (λ x. not (g x)) (held s))
      go true ih = ih
      go false ih = ap (λ (m : List A). x ∷ m) ih

  pub held_wipe_first : (g : A → Bool) (s : List (Option A)) → held (wipe_first g s) ≡ but_first g (held s)
  held_wipe_first g [] = refl
  held_wipe_first g (None ∷ s) = held_wipe_first g s
  held_wipe_first g (Some x ∷ s) = go (g x) (held_wipe_first g s)
    where
      go : (b : Bool) → held (wipe_first g s) ≡ but_first g (held s)
          → held (if_true b then None ∷ s else Some x ∷ wipe_first g s) ≡ (if_true b then held s else x ∷ but_first g (held s))
      go true ih = refl
      go false ih = ap (λ (m : List A). x ∷ m) ih

  -- ---- nothing wiped

  pub wipe_first_none : (s : List (Option A)) → wipe_first (λ x. false) s ≡ s
  wipe_first_none [] = refl
  wipe_first_none (None ∷ s) = ap (λ (r : List (Option A)). None ∷ r) (wipe_first_none s)
  wipe_first_none (Some x ∷ s) = ap (λ (r : List (Option A)). Some x ∷ r) (wipe_first_none s)

  pub wipe_none : (s : List (Option A)) → wipe (λ x. false) s ≡ s
  wipe_none [] = refl
  wipe_none (None ∷ s) = ap (λ (r : List (Option A)). None ∷ r) (wipe_none s)
  wipe_none (Some x ∷ s) = ap (λ (r : List (Option A)). Some x ∷ r) (wipe_none s)

  -- two tests that agree on all but what nothing held passes
  pub wipe_same : (g p q : A → Bool) → ((x : A) → g x ≡ false → p x ≡ q x) → (s : List (Option A)) → count g (held s) ≡ 0 → wipe p s ≡ wipe q s
  wipe_same g p q h [] z = refl
  wipe_same g p q h (None ∷ s) z = ap (λ (r : List (Option A)). None ∷ r) (wipe_same g p q h s z)
  wipe_same g p q h (Some x ∷ s) z = go (g x) (h x) (count_cons g x (held s)) (wipe_same g p q h s)
    where
      go : (b : Bool) → (b ≡ false → p x ≡ q x) → count g (x ∷ held s) ≡ one b + count g (held s) → (count g (held s) ≡ 0 → wipe p s ≡ wipe q s)
          → wipe p (Some x ∷ s) ≡ wipe q (Some x ∷ s)
      go true k e ih = absurd (omega (arith, e, z))
      go false k e ih =
          ap (λ (b : Bool). (if_true b then None else Some x) ∷ wipe p s) (k refl)
          ∙ ap (λ (r : List (Option A)). (if_true q x then None else Some x) ∷ r) (ih (omega (arith, e, z)))

  pub wipe_first_same : (g p q : A → Bool) → ((x : A) → g x ≡ false → p x ≡ q x) → (s : List (Option A)) → count g (held s) ≡ 0 → wipe_first p s ≡ wipe_first q s
  wipe_first_same g p q h [] z = refl
  wipe_first_same g p q h (None ∷ s) z = ap (λ (r : List (Option A)). None ∷ r) (wipe_first_same g p q h s z)
  wipe_first_same g p q h (Some x ∷ s) z = go (g x) (h x) (count_cons g x (held s)) (wipe_first_same g p q h s)
    where
      go : (b : Bool) → (b ≡ false → p x ≡ q x) → count g (x ∷ held s) ≡ one b + count g (held s) → (count g (held s) ≡ 0 → wipe_first p s ≡ wipe_first q s)
          → wipe_first p (Some x ∷ s) ≡ wipe_first q (Some x ∷ s)
      go true k e ih = absurd (omega (arith, e, z))
      go false k e ih =
          ap (λ (b : Bool). if_true b then None ∷ s else Some x ∷ wipe_first p s) (k refl)
          ∙ ap (λ (r : List (Option A)). if_true q x then None ∷ s else Some x ∷ r) (ih (omega (arith, e, z)))

  pub count_same : (g p q : A → Bool) → ((x : A) → g x ≡ false → p x ≡ q x) → (l : List A) → count g l ≡ 0 → count p l ≡ count q l
  count_same g p q h [] z = refl
  count_same g p q h (x ∷ l) z = go (g x) (h x) (count_cons g x l) (count_same g p q h l)
    where
      go : (b : Bool) → (b ≡ false → p x ≡ q x) → count g (x ∷ l) ≡ one b + count g l → (count g l ≡ 0 → count p l ≡ count q l) → count p (x ∷ l) ≡ count q (x ∷ l)
      go true k e ih = absurd (omega (arith, e, z))
      go false k e ih = omega (arith, count_cons p x l, count_cons q x l, ap one (k refl), ih (omega (arith, e, z)))

  -- ---- padded with free ones

  pub length_padded : (n : ℕ) (s : List (Option A)) → length (padded n s) ≡ n
  length_padded zero s = refl
  length_padded (suc n) [] = ap suc (length_padded n [])
  length_padded (suc n) (r ∷ s) = ap suc (length_padded n s)

  put_padded : (n : ℕ) (x : A) (s : List (Option A)) → put x (padded n s) ≡ padded n (put_or_add x s)
  put_padded zero x s = refl
  put_padded (suc n) x [] = refl
  put_padded (suc n) x (None ∷ s) = refl
  put_padded (suc n) x (Some y ∷ s) = ap (λ (r : List (Option A)). Some y ∷ r) (put_padded n x s)

  pub put_all_padded : (n : ℕ) (xs : List A) (s : List (Option A)) → put_all xs (padded n s) ≡ padded n (put_or_add_all xs s)
  put_all_padded n [] s = refl
  put_all_padded n (x ∷ xs) s = ap (put_all xs) (put_padded n x s) ∙ put_all_padded n xs (put_or_add x s)

  pub wipe_padded : (n : ℕ) (g : A → Bool) (s : List (Option A)) → wipe g (padded n s) ≡ padded n (wipe g s)
  wipe_padded zero g s = refl
  wipe_padded (suc n) g [] = ap (λ (r : List (Option A)). None ∷ r) (wipe_padded n g [])
  wipe_padded (suc n) g (None ∷ s) = ap (λ (r : List (Option A)). None ∷ r) (wipe_padded n g s)
  wipe_padded (suc n) g (Some x ∷ s) = ap (λ (r : List (Option A)). (if_true g x then None else Some x) ∷ r) (wipe_padded n g s)

  pub wipe_first_padded : (n : ℕ) (g : A → Bool) (s : List (Option A)) → wipe_first g (padded n s) ≡ padded n (wipe_first g s)
  wipe_first_padded zero g s = refl
  wipe_first_padded (suc n) g [] = ap (λ (r : List (Option A)). None ∷ r) (wipe_first_padded n g [])
  wipe_first_padded (suc n) g (None ∷ s) = ap (λ (r : List (Option A)). None ∷ r) (wipe_first_padded n g s)
  wipe_first_padded (suc n) g (Some x ∷ s) = go (g x) (wipe_first_padded n g s)
    where
      go : (b : Bool) → wipe_first g (padded n s) ≡ padded n (wipe_first g s)
          → (if_true b then None ∷ padded n s else Some x ∷ wipe_first g (padded n s)) ≡ padded (suc n) (if_true b then None ∷ s else Some x ∷ wipe_first g s)
      go true ih = refl
      go false ih = ap (λ (r : List (Option A)). Some x ∷ r) ih

  -- a short list of slots loses nothing
  pub held_padded : (n : ℕ) (s : List (Option A)) → length s ≤ n → held (padded n s) ≡ held s
  held_padded zero [] h = refl
  held_padded (suc n) [] h = held_padded n [] (omega arith)
  held_padded zero (r ∷ s) h = absurd (omega (arith, h))
  held_padded (suc n) (None ∷ s) h = held_padded n s (omega arith)
  held_padded (suc n) (Some x ∷ s) h = ap (λ (l : List A). x ∷ l) (held_padded n s (omega arith))

  length_held_put_or_add : (x : A) (s : List (Option A)) → length (held (put_or_add x s)) ≡ suc (length (held s))
  length_held_put_or_add x [] = refl
  length_held_put_or_add x (None ∷ s) = refl
  length_held_put_or_add x (Some y ∷ s) = ap suc (length_held_put_or_add x s)

  -- a row is added only where none is free
  short_put : (n : ℕ) (x : A) (s : List (Option A)) → length (held s) < n → length s ≤ n → length (put_or_add x s) ≤ n
  short_put n x [] h k = omega arith
  short_put n x (None ∷ s) h k = k
  short_put (suc n) x (Some y ∷ s) h k = omega (arith, short_put n x s (omega arith) (omega arith))
  short_put zero x (Some y ∷ s) h k = absurd (omega (arith, k))

  pub short_put_all : (n : ℕ) (xs : List A) (s : List (Option A)) → length xs + length (held s) ≤ n → length s ≤ n → length (put_or_add_all xs s) ≤ n
  short_put_all n [] s h k = k
  short_put_all n (x ∷ xs) s h k =
      short_put_all n xs (put_or_add x s) (omega (arith, length_held_put_or_add x s)) (short_put n x s (omega arith) k)

  pub length_wipe : (g : A → Bool) (s : List (Option A)) → length (wipe g s) ≡ length s
  length_wipe g [] = refl
  length_wipe g (None ∷ s) = ap suc (length_wipe g s)
  length_wipe g (Some x ∷ s) = ap suc (length_wipe g s)

  pub length_wipe_first : (g : A → Bool) (s : List (Option A)) → length (wipe_first g s) ≡ length s
  length_wipe_first g [] = refl
  length_wipe_first g (None ∷ s) = ap suc (length_wipe_first g s)
  length_wipe_first g (Some x ∷ s) = go (g x) (length_wipe_first g s)
    where
      go : (b : Bool) → length (wipe_first g s) ≡ length s → length (if_true b then None ∷ s else Some x ∷ wipe_first g s) ≡ suc (length s)
      go true ih = refl
      go false ih = ap suc ih
