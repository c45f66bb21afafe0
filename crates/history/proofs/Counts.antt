-- Laws of lists by a test: how many pass it, of a list joined, kept from, or without the first; and which are members. Assumes nothing.
use Prim.Native.Nat.{suc, ◌+◌, ◌≤◌, ◌<◌}
use mathlib.Core.Path.{◌≡◌, refl, sym, ap, ◌∙◌, fun_ext}
use mathlib.Core.Logic.{◌⊎◌, inl, inr}
use mathlib.Core.Bool.{Bool, true, false, not, ◌&&◌, ◌||◌, false≢true}
use mathlib.Core.List.Memᴰ
use mathlib.Core.List.{List, [], ◌∷◌, ◌++◌, map, Memᴰ}
use native.Mathlib.Omega.{arith}
use lib.Dec.{ltb}
use lib.ListN.{length}
use borrow.Author.Tests.{lt-ltb, ltb-true, ltb-false}
use Rattle.words.specs.Choice.{if_true◌then◌else◌, one}
use Rattle.words.specs.Lists.{any, keep, count, but_first}
use Rattle.history.proofs.Tests.{one_le, either}

module _ {ℓ} {A : Type ℓ} where
  pub count_cons : (f : A → Bool) (x : A) (l : List A) → count f (x ∷ l) ≡ one (f x) + count f l
  count_cons f x l = go (f x)
    where
      go : (b : Bool) → (if_true b then suc (count f l) else count f l) ≡ one b + count f l
      go true = omega arith
      go false = omega arith

  pub count_if : (f : A → Bool) (b : Bool) (x : A) (l : List A) → count f (if_true b then x ∷ l else l) ≡ one (b && f x) + count f l
  count_if f true x l = count_cons f x l
  count_if f false x l = omega arith

  pub count_append : (f : A → Bool) (l m : List A) → count f (l ++ m) ≡ count f l + count f m
  count_append f [] m = omega arith
  count_append f (x ∷ l) m = omega (arith, count_cons f x (l ++ m), count_cons f x l, count_append f l m)

  pub count_keep : (f g : A → Bool) (l : List A) → count f (keep g l) ≡ count (λ x. g x && f x) l
  count_keep f g [] = refl
  count_keep f g (x ∷ l) = omega (arith, count_if f (g x) x (keep g l), count_cons (λ y. g y && f y) x l, count_keep f g l)

  pub count_all : (l : List A) → count (λ x. true) l ≡ length l
  count_all [] = refl
  count_all (x ∷ l) = ap suc (count_all l)

  pub count_le : (f g : A → Bool) → ((x : A) → f x ≡ true → g x ≡ true) → (l : List A) → count f l ≤ count g l
  count_le f g h [] = omega arith
  count_le f g h (x ∷ l) = omega (arith, count_cons f x l, count_cons g x l, one_le (f x) (g x) (h x), count_le f g h l)

  pub count_length : (f : A → Bool) (l : List A) → count f l ≤ length l
  count_length f l = omega (arith, count_le f (λ x. true) (λ x h. refl) l, count_all l)

  -- those of f in two parts: those of g and those of h
  pub keep_append : (f : A → Bool) (l m : List A) → keep f (l ++ m) ≡ keep f l ++ keep f m
  keep_append f [] m = refl
  keep_append f (x ∷ l) m = go (f x) (keep_append f l m)
    where
      go : (b : Bool) → keep f (l ++ m) ≡ keep f l ++ keep f m → (if_true b then x ∷ keep f (l ++ m) else keep f (l ++ m)) ≡ (if_true b then x ∷ keep f l else keep f l) ++ keep f m
      go true ih = ap (λ (k : List A). x ∷ k) ih
      go false ih = ih

  pub keep_kept : (f g : A → Bool) (l : List A) → keep f (keep g l) ≡ keep (λ x. g x && f x) l
  keep_kept f g [] = refl
  keep_kept f g (x ∷ l) = go (g x) (keep_kept f g l)
    where
      go : (b : Bool) → keep f (keep g l) ≡ keep (λ y. g y && f y) l
          → keep f (if_true b then x ∷ keep g l else keep g l) ≡ (if_true b && f x then x ∷ keep (λ y. g y && f y) l else keep (λ y. g y && f y) l)
      go true ih = ap (λ (k : List A). if_true f x then x ∷ k else k) ih
      go false ih = ih

  pub length_keep : (f : A → Bool) (l : List A) → length (keep f l) ≡ count f l
  length_keep f [] = refl
  length_keep f (x ∷ l) = go (f x) (length_keep f l)
    where
      go : (b : Bool) → length (keep f l) ≡ count f l → length (if_true b then x ∷ keep f l else keep f l) ≡ (if_true b then suc (count f l) else count f l)
      go true ih = ap suc ih
      go false ih = ih

  pub count_parts : (f g h : A → Bool) (l : List A) → ((x : A) → Memᴰ x l → one (f x) ≡ one (g x) + one (h x)) → count f l ≡ count g l + count h l
  count_parts f g h [] e = refl
  count_parts f g h (x ∷ l) e =
      omega (
        arith,
        count_cons f x l,
        count_cons g x l,
        count_cons h x l,
        e x (Memᴰ.head refl),
        count_parts f g h l (λ y m. e y (Memᴰ.tail m)),
      )

  -- of those kept, as many pass as before, if none that passes was taken
  pub count_kept : (f g : A → Bool) → ((x : A) → f x ≡ true → g x ≡ true) → (l : List A) → count f (keep g l) ≡ count f l
  count_kept f g h l = count_keep f g l ∙ ap (λ (test : A → Bool). count test l) (fun_ext λ x. go (f x) (g x) (h x))
    where
      go : (a b : Bool) → (a ≡ true → b ≡ true) → (b && a) ≡ a
      go true true k = refl
      go true false k = k refl
      go false true k = refl
      go false false k = refl

  -- what nothing of the list passes may be added to a test
  pub keep_but : (d g : A → Bool) (l : List A) → count g l ≡ 0 → keep (λ x. not (d x || g x)) l ≡ keep (λ x. not (d x)) l
  keep_but d g [] e = refl
  keep_but d g (x ∷ l) e = go (g x) (d x) (count_cons g x l) (keep_but d g l)
    where
      go : (b c : Bool) → count g (x ∷ l) ≡ one b + count g l → (count g l ≡ 0 → keep (λ x. not (d x || g x)) l ≡ keep (λ x. not (d x)) l)
          → (if_true not (c || b) then x ∷ keep (λ x. not (d x || g x)) l else keep (λ x. not (d x || g x)) l)
          ≡ (if_true not c then x ∷ keep (λ x. not (d x)) l else keep (λ x. not (d x)) l)
      go true c k ih = absurd (omega (arith, e))
      go false true k ih = ih (omega (arith, e))
      go false false k ih = ap (λ (m : List A). x ∷ m) (ih (omega (arith, e)))

  pub keep_all : (g : A → Bool) (l : List A) → count g l ≡ 0 → keep (λ x. not (g x)) l ≡ l
  keep_all g [] e = refl
  keep_all g (x ∷ l) e = go (g x) (count_cons g x l) (keep_all g l)
    where
      go : (b : Bool) → count g (x ∷ l) ≡ one b + count g l → (count g l ≡ 0 → keep (λ x. not (g x)) l ≡ l)
          → (if_true not b then x ∷ keep (λ x. not (g x)) l else keep (λ x. not (g x)) l) ≡ x ∷ l
      go true k ih = absurd (omega (arith, e))
      go false k ih = ap (λ (m : List A). x ∷ m) (ih (omega (arith, e)))

  -- where at most one passes, without the first is without all
  pub but_first_is : (g : A → Bool) (l : List A) → count g l ≤ 1 → but_first g l ≡ keep (λ x. not (g x)) l
  but_first_is g [] h = refl
  but_first_is g (x ∷ l) h = go (g x) (count_cons g x l) (but_first_is g l)
    where
      go : (b : Bool) → count g (x ∷ l) ≡ one b + count g l → (count g l ≤ 1 → but_first g l ≡ keep (λ x. not (g x)) l)
          → (if_true b then l else x ∷ but_first g l) ≡ (if_true not b then x ∷ keep (λ x. not (g x)) l else keep (λ x. not (g x)) l)
      go true k ih = sym (keep_all g l (omega (arith, h)))
      go false k ih = ap (λ (m : List A). x ∷ m) (ih (omega (arith, h)))

  -- without the first of things that a test takes alike: one thing less, if there is one
  pub count_but_first : (f g : A → Bool) (v : Bool) → ((x : A) → g x ≡ true → f x ≡ v) → (l : List A)
      → count f (but_first g l) + one (ltb 0 (count g l) && v) ≡ count f l
  count_but_first f g v h [] = refl
  count_but_first f g v h (x ∷ l) = go (g x) (h x) (count_but_first f g v h l)
    where
      go : (b : Bool) → (b ≡ true → f x ≡ v) → count f (but_first g l) + one (ltb 0 (count g l) && v) ≡ count f l
          → count f (if_true b then l else x ∷ but_first g l) + one (ltb 0 (if_true b then suc (count g l) else count g l) && v) ≡ count f (x ∷ l)
      go true e ih = rw (lt-ltb 0 (suc (count g l)) (omega arith), ← e refl) (omega (arith, count_cons f x l))
      go false e ih = omega (arith, ih, count_cons f x l, count_cons f x (but_first g l))

  -- without the first of those that another test passes
  pub count_but_other : (f g : A → Bool) → ((x : A) → f x ≡ true → g x ≡ false) → (l : List A) → count f (but_first g l) ≡ count f l
  count_but_other f g h [] = refl
  count_but_other f g h (x ∷ l) = go (g x) refl (f x) refl (count_but_other f g h l)
    where
      go : (b : Bool) → g x ≡ b → (c : Bool) → f x ≡ c → count f (but_first g l) ≡ count f l
          → count f (if_true b then l else x ∷ but_first g l) ≡ (if_true c then suc (count f l) else count f l)
      go true eb true ec ih = absurd (false≢true (sym (h x ec) ∙ eb))
      go true eb false ec ih = refl
      go false eb true ec ih = rw ec (ap suc ih)
      go false eb false ec ih = rw ec ih

  -- ---- one that passes, and members

  pub member_counts : (f : A → Bool) (l : List A) (x : A) → Memᴰ x l → f x ≡ true → 0 < count f l
  member_counts f [] x m h = absurd (Memᴰ.not-nil m)
  member_counts f (y ∷ l) x m h = go (f y) refl (Memᴰ.cases_cons m) (λ k. member_counts f l x k h)
    where
      go : (q : Bool) → f y ≡ q → (x ≡ y) ⊎ Memᴰ x l → (Memᴰ x l → 0 < count f l) → 0 < (if_true q then suc (count f l) else count f l)
      go true e c r = omega arith
      go false e (inl p) r = absurd (false≢true (sym e ∙ ap f (sym p) ∙ h))
      go false e (inr k) r = r k

  pub some_member : (f : A → Bool) (l : List A) → 0 < count f l → (x : A) × Memᴰ x l × (f x ≡ true)
  some_member f [] h = absurd (omega (arith, h))
  some_member f (y ∷ l) h = go (f y) refl h (λ k. some_member f l k)
    where
      go : (q : Bool) → f y ≡ q → 0 < (if_true q then suc (count f l) else count f l) → (0 < count f l → (x : A) × Memᴰ x l × (f x ≡ true))
          → (x : A) × Memᴰ x (y ∷ l) × (f x ≡ true)
      go true e k r = (y, Memᴰ.head refl, e)
      go false e k r = let (x, m, g) = r k in (x, Memᴰ.tail m, g)

  pub any_counts : (f : A → Bool) (l : List A) → any f l ≡ ltb 0 (count f l)
  any_counts f [] = refl
  any_counts f (x ∷ l) = go (f x) (any_counts f l)
    where
      go : (b : Bool) → any f l ≡ ltb 0 (count f l) → (b || any f l) ≡ ltb 0 (if_true b then suc (count f l) else count f l)
      go true ih = sym (lt-ltb 0 (suc (count f l)) (omega arith))
      go false ih = ih

  pub some_any : (f : A → Bool) (l : List A) → any f l ≡ true → (x : A) × Memᴰ x l × (f x ≡ true)
  some_any f l h = some_member f l (ltb-true _ _ (sym (any_counts f l) ∙ h))

  pub any_member : (f : A → Bool) (l : List A) (x : A) → Memᴰ x l → f x ≡ true → any f l ≡ true
  any_member f l x m h = any_counts f l ∙ lt-ltb 0 (count f l) (member_counts f l x m h)

  -- where none fails, each passes
  pub all_pass : (f : A → Bool) (l : List A) (x : A) → any (λ y. not (f y)) l ≡ false → Memᴰ x l → f x ≡ true
  all_pass f l x h m = go (f x) refl
    where
      go : (q : Bool) → f x ≡ q → f x ≡ true
      go true e = e
      go false e = absurd (false≢true (sym h ∙ any_member (λ y. not (f y)) l x m (ap not e)))

  pub none_counts : (f : A → Bool) (l : List A) → any f l ≡ false → count f l ≡ 0
  none_counts f l h = omega (arith, ltb-false 0 (count f l) (sym (any_counts f l) ∙ h))

  pub keep_member : {x : A} (f : A → Bool) (l : List A) → Memᴰ x (keep f l) → Memᴰ x l × (f x ≡ true)
  keep_member f [] m = absurd (Memᴰ.not-nil m)
  keep_member {x} f (y ∷ l) m = go (f y) refl m (keep_member f l)
    where
      go : (q : Bool) → f y ≡ q → Memᴰ x (if_true q then y ∷ keep f l else keep f l)
          → (Memᴰ x (keep f l) → Memᴰ x l × (f x ≡ true)) → Memᴰ x (y ∷ l) × (f x ≡ true)
      go true e m ih = first (Memᴰ.cases_cons m)
        where
          first : (x ≡ y) ⊎ Memᴰ x (keep f l) → Memᴰ x (y ∷ l) × (f x ≡ true)
          first (inl h) = (Memᴰ.head h, ap f h ∙ e)
          first (inr h) = (Memᴰ.tail (ih h).0, (ih h).1)
      go false e m ih = (Memᴰ.tail (ih m).0, (ih m).1)

  pub but_first_member : {x : A} (f : A → Bool) (l : List A) → Memᴰ x (but_first f l) → Memᴰ x l
  but_first_member f [] m = m
  but_first_member {x} f (y ∷ l) m = go (f y) m (but_first_member f l)
    where
      go : (q : Bool) → Memᴰ x (if_true q then l else y ∷ but_first f l) → (Memᴰ x (but_first f l) → Memᴰ x l) → Memᴰ x (y ∷ l)
      go true m ih = Memᴰ.tail m
      go false m ih = first (Memᴰ.cases_cons m)
        where
          first : (x ≡ y) ⊎ Memᴰ x (but_first f l) → Memᴰ x (y ∷ l)
          first (inl h) = Memᴰ.head h
          first (inr h) = Memᴰ.tail (ih h)

  pub member_kept : {x : A} (f : A → Bool) (l : List A) → Memᴰ x l → f x ≡ true → Memᴰ x (keep f l)
  member_kept f [] m h = absurd (Memᴰ.not-nil m)
  member_kept {x} f (y ∷ l) m h = go (Memᴰ.cases_cons m) (λ i. member_kept f l i h)
    where
      rest : (q : Bool) → Memᴰ x (keep f l) → Memᴰ x (if_true q then y ∷ keep f l else keep f l)
      rest true i = Memᴰ.tail i
      rest false i = i

      go : (x ≡ y) ⊎ Memᴰ x l → (Memᴰ x l → Memᴰ x (keep f l)) → Memᴰ x (if_true f y then y ∷ keep f l else keep f l)
      go (inl e) ih = rw (sym (ap f e) ∙ h) (Memᴰ.head e)
      go (inr i) ih = rest (f y) (ih i)

-- ---- a list mapped

pub keep_map : {A B : Type 0} (f : B → Bool) (g : A → B) (l : List A) → keep f (map g l) ≡ map g (keep (λ x. f (g x)) l)
keep_map f g [] = refl
keep_map {A} {B} f g (x ∷ l) = go (f (g x)) (keep_map f g l)
  where
    go : (b : Bool) → keep f (map g l) ≡ map g (keep (λ y. f (g y)) l)
        → (if_true b then g x ∷ keep f (map g l) else keep f (map g l)) ≡ map g (if_true b then x ∷ keep (λ y. f (g y)) l else keep (λ y. f (g y)) l)
    go true ih = ap (λ (m : List B). g x ∷ m) ih
    go false ih = ih

pub count_map : {A B : Type 0} (f : B → Bool) (g : A → B) (l : List A) → count f (map g l) ≡ count (λ x. f (g x)) l
count_map f g [] = refl
count_map f g (x ∷ l) = omega (arith, count_cons f (g x) (map g l), count_cons (λ y. f (g y)) x l, count_map f g l)

pub map_member : {A B : Type 0} {y : B} (f : A → B) (l : List A) → Memᴰ y (map f l) → (x : A) × Memᴰ x l × (y ≡ f x)
map_member f [] m = absurd (Memᴰ.not-nil m)
map_member {A} {B} {y} f (x ∷ l) m = go (Memᴰ.cases_cons m) (map_member f l)
  where
    go : (y ≡ f x) ⊎ Memᴰ y (map f l) → (Memᴰ y (map f l) → (z : A) × Memᴰ z l × (y ≡ f z)) → (z : A) × Memᴰ z (x ∷ l) × (y ≡ f z)
    go (inl e) ih = (x, Memᴰ.head refl, e)
    go (inr h) ih = let (z, i, e) = ih h in (z, Memᴰ.tail i, e)

pub member_map : {A B : Type 0} {x : A} (f : A → B) (l : List A) → Memᴰ x l → Memᴰ (f x) (map f l)
member_map f [] m = absurd (Memᴰ.not-nil m)
member_map f (y ∷ l) m = either (Memᴰ.cases_cons m) (λ e. Memᴰ.head (ap f e)) (λ h. Memᴰ.tail (member_map f l h))
