-- Rows and what they stand for: a lent table that is encoded slots, after each change of it. Assumes nothing.
use Prim.Native.Nat.{ℕ, zero, suc, ◌≤◌}
use mathlib.Core.Path.{◌≡◌, refl, sym, ap, ap₂, ◌∙◌}
use mathlib.Core.Bool.{Bool, true, false, ◌&&◌, and_comm, and_assoc, and-true, and-false}
use mathlib.Core.List.{List, [], ◌∷◌, map}
use Rattle.std.specs.Prelude.{Option, None, Some}
use native.Mathlib.Omega.{arith}
use lib.Dec.{eqb, leb}
use lib.ListN.{length, replicate}
use borrow.Author.Tests.{eqb-true, eqb-false, eq-eqb, ne_eqb}
use Rattle.words.specs.Choice.{if_true◌then◌else◌}
use Rattle.words.specs.Lists.{count, of_first}
use Rattle.facts.specs.Table.{family, is_critical}
use Rattle.rows.specs.Slots.{held, put, put_all, wipe, wipe_first, change_first}
use Rattle.rows.specs.Table.{Layout, Table, room, alive, counted, taken, changed, found, ended_all, cleared}
use Rattle.rows.specs.View.{view}
use Rattle.rows.specs.References.{with_class, is_handle, from_frame}
use Rattle.rows.specs.Pins.{is_buffer}
use Rattle.rows.proofs.ViewLaws.{length_view, alive_view, counted_view, view_taken, view_ended_found, view_changed_found, view_ended_all, view_cleared}
use Rattle.history.specs.Handles.{Alive, local, shared, is_local, is_shared}
use Rattle.history.specs.Buffers.{Pin, ordinary, critical, pin, same_pin}
use Rattle.tables.specs.Tables.{alive_of, reference_of, pin_of, pin_row_of}
use Rattle.tables.specs.Acting.{all_taken, first_ended, pin_owner}
use Rattle.demands.specs.PastRows.{padded}
use Rattle.demands.specs.Tied.{encoded}

-- ---- slots encoded

-- encoded alike, where none of those that may differ is held
pub encoded_same : {A B : Type 0} (f g : B → A) (p : B → Bool) → ((x : B) → p x ≡ false → f x ≡ g x) → (s : List (Option B)) → count p (held s) ≡ 0 → encoded f s ≡ encoded g s
encoded_same f g p same [] none_held = refl
encoded_same {A} f g p same (None ∷ s) none_held = ap (λ (r : List (Option A)). None ∷ r) (encoded_same f g p same s none_held)
encoded_same {A} {B} f g p same (Some x ∷ s) none_held = go (p x) refl none_held (λ h. encoded_same f g p same s h)
  where
    go : (b : Bool) → p x ≡ b → (if_true b then suc (count p (held s)) else count p (held s)) ≡ 0 → (count p (held s) ≡ 0 → encoded f s ≡ encoded g s)
        → encoded f (Some x ∷ s) ≡ encoded g (Some x ∷ s)
    go true e none_held ih = absurd (omega (arith, none_held))
    go false e none_held ih = ap₂ (λ (y : A) (r : List (Option A)). Some y ∷ r) (same x e) (ih none_held)

module _ {A B : Type 0} (f : B → A) where
  length_encoded : (s : List (Option B)) → length (encoded f s) ≡ length s
  length_encoded [] = refl
  length_encoded (None ∷ s) = ap suc (length_encoded s)
  length_encoded (Some x ∷ s) = ap suc (length_encoded s)

  held_encoded : (s : List (Option B)) → length (held (encoded f s)) ≡ length (held s)
  held_encoded [] = refl
  held_encoded (None ∷ s) = held_encoded s
  held_encoded (Some x ∷ s) = ap suc (held_encoded s)

  count_encoded : (p : A → Bool) (s : List (Option B)) → count p (held (encoded f s)) ≡ count (λ x. p (f x)) (held s)
  count_encoded p [] = refl
  count_encoded p (None ∷ s) = count_encoded p s
  count_encoded p (Some x ∷ s) = ap (λ (n : ℕ). if_true p (f x) then suc n else n) (count_encoded p s)

  of_first_encoded : (q : A → Bool) (say : A → ℕ) (s : List (Option B)) → of_first q say (held (encoded f s)) ≡ of_first (λ x. q (f x)) (λ x. say (f x)) (held s)
  of_first_encoded q say [] = refl
  of_first_encoded q say (None ∷ s) = of_first_encoded q say s
  of_first_encoded q say (Some x ∷ s) = ap (λ (n : ℕ). if_true q (f x) then say (f x) else n) (of_first_encoded q say s)

  put_encoded : (x : B) (s : List (Option B)) → put (f x) (encoded f s) ≡ encoded f (put x s)
  put_encoded x [] = refl
  put_encoded x (None ∷ s) = refl
  put_encoded x (Some y ∷ s) = ap (λ (r : List (Option A)). Some (f y) ∷ r) (put_encoded x s)

  wipe_encoded : (p : A → Bool) (s : List (Option B)) → wipe p (encoded f s) ≡ encoded f (wipe (λ x. p (f x)) s)
  wipe_encoded p [] = refl
  wipe_encoded p (None ∷ s) = ap (λ (r : List (Option A)). None ∷ r) (wipe_encoded p s)
  wipe_encoded p (Some x ∷ s) = go (p (f x)) (wipe_encoded p s)
    where
      go : (b : Bool) → wipe p (encoded f s) ≡ encoded f (wipe (λ x. p (f x)) s)
          → (if_true b then None else Some (f x)) ∷ wipe p (encoded f s) ≡ encoded f ((if_true b then None else Some x) ∷ wipe (λ x. p (f x)) s)
      go true ih = ap (λ (r : List (Option A)). None ∷ r) ih
      go false ih = ap (λ (r : List (Option A)). Some (f x) ∷ r) ih

  wipe_first_encoded : (p : A → Bool) (s : List (Option B)) → wipe_first p (encoded f s) ≡ encoded f (wipe_first (λ x. p (f x)) s)
  wipe_first_encoded p [] = refl
  wipe_first_encoded p (None ∷ s) = ap (λ (r : List (Option A)). None ∷ r) (wipe_first_encoded p s)
  wipe_first_encoded p (Some x ∷ s) = go (p (f x)) (wipe_first_encoded p s)
    where
      go : (b : Bool) → wipe_first p (encoded f s) ≡ encoded f (wipe_first (λ x. p (f x)) s)
          → (if_true b then None ∷ encoded f s else Some (f x) ∷ wipe_first p (encoded f s)) ≡ encoded f (if_true b then None ∷ s else Some x ∷ wipe_first (λ x. p (f x)) s)
      go true ih = refl
      go false ih = ap (λ (r : List (Option A)). Some (f x) ∷ r) ih

  -- of the slots held none is such that q and p may differ on it
  change_first_encoded : (g : B → A) (bad p : B → Bool) (q : A → Bool) (change : A → A) → ((x : B) → bad x ≡ false → q (f x) ≡ p x) → ((x : B) → p x ≡ true → change (f x) ≡ g x)
      → ((x : B) → p x ≡ false → f x ≡ g x) → (s : List (Option B)) → count bad (held s) ≡ 0 → count p (held s) ≤ 1 → change_first q change (encoded f s) ≡ encoded g s
  change_first_encoded g bad p q change same this other [] fine few = refl
  change_first_encoded g bad p q change same this other (None ∷ s) fine few = ap (λ (r : List (Option A)). None ∷ r) (change_first_encoded g bad p q change same this other s fine few)
  change_first_encoded g bad p q change same this other (Some x ∷ s) fine few = good (bad x) refl fine (λ k h. change_first_encoded g bad p q change same this other s k h)
    where
      go : (b : Bool) → p x ≡ b → (if_true b then suc (count p (held s)) else count p (held s)) ≤ 1 → (count p (held s) ≤ 1 → change_first q change (encoded f s) ≡ encoded g s)
          → (if_true b then Some (change (f x)) ∷ encoded f s else Some (f x) ∷ change_first q change (encoded f s)) ≡ encoded g (Some x ∷ s)
      go true e few ih = ap₂ (λ (y : A) (r : List (Option A)). Some y ∷ r) (this x e) (encoded_same f g p other s (omega (arith, few)))
      go false e few ih = ap₂ (λ (y : A) (r : List (Option A)). Some y ∷ r) (other x e) (ih few)

      good : (b : Bool) → bad x ≡ b → (if_true b then suc (count bad (held s)) else count bad (held s)) ≡ 0
          → (count bad (held s) ≡ 0 → count p (held s) ≤ 1 → change_first q change (encoded f s) ≡ encoded g s) → change_first q change (encoded f (Some x ∷ s)) ≡ encoded g (Some x ∷ s)
      good true e k ih = absurd (omega (arith, k))
      good false e k ih = rw (same x e) (go (p x) refl few (ih k))

  free_encoded : (n : ℕ) → replicate n None ≡ encoded f (padded n [])
  free_encoded zero = refl
  free_encoded (suc n) = ap (λ (r : List (Option A)). None ∷ r) (free_encoded n)

-- ---- a lent table, of any layout

module _ {A B : Type 0} (L : Layout A) (f : B → A) where
  pub encoded_taken : (xs : List B) (T : Table) (s : List (Option B)) → view L T ≡ encoded f s → view L (all_taken L T (map f xs)) ≡ encoded f (put_all xs s)
  unfolding all_taken
  encoded_taken [] T s is = is
  encoded_taken (x ∷ xs) T s is =
      encoded_taken xs (taken L T (f x)) (put x s) (view_taken L T (f x) ∙ ap (put (f x)) is ∙ put_encoded f x s)

  module _ (T : Table) (s : List (Option B)) (is : view L T ≡ encoded f s) where
    pub encoded_ended : (p : A → Bool) → view L (ended_all L p T) ≡ encoded f (wipe (λ x. p (f x)) s)
    encoded_ended p = view_ended_all L p T ∙ ap (wipe p) is ∙ wipe_encoded f p s

    pub encoded_first_ended : (p : A → Bool) → view L (first_ended L p T) ≡ encoded f (wipe_first (λ x. p (f x)) s)
    unfolding first_ended
    encoded_first_ended p = view_ended_found L p T ∙ ap (wipe_first p) is ∙ wipe_first_encoded f p s

    pub encoded_counted : (p : A → Bool) → counted L p T ≡ count (λ x. p (f x)) (held s)
    encoded_counted p = counted_view L p T ∙ ap (λ (v : List (Option A)). count p (held v)) is ∙ count_encoded f p s

    pub encoded_alive : alive L T ≡ length (held s)
    encoded_alive = alive_view L T ∙ ap (λ (v : List (Option A)). length (held v)) is ∙ held_encoded f s

    pub encoded_room : room L T ≡ length s
    encoded_room = sym (length_view L T) ∙ ap length is ∙ length_encoded f s

    -- the lowest that passes is changed, and no other does
    pub encoded_changed : (g : B → A) (bad p : B → Bool) (q : A → Bool) (change : A → A) → ((x : B) → bad x ≡ false → q (f x) ≡ p x) → ((x : B) → p x ≡ true → change (f x) ≡ g x)
        → ((x : B) → p x ≡ false → f x ≡ g x) → count bad (held s) ≡ 0 → count p (held s) ≤ 1 → view L (changed L T (found L q T) change) ≡ encoded g s
    encoded_changed g bad p q change same this other fine few =
        view_changed_found L q change T ∙ ap (change_first q change) is ∙ change_first_encoded f g bad p q change same this other s fine few

    -- what is said of the first that passes
    pub encoded_of_first : (q : A → Bool) (say : A → ℕ) → of_first q say (held (view L T)) ≡ of_first (λ x. q (f x)) (λ x. say (f x)) (held s)
    encoded_of_first q say = ap (λ (v : List (Option A)). of_first q say (held v)) is ∙ of_first_encoded f q say s

  pub encoded_cleared : (T : Table) → view L (cleared T) ≡ encoded f (padded (room L T) [])
  encoded_cleared T = view_cleared L T ∙ free_encoded f (room L T)

-- ---- references

-- a local of thread 0: no accepted line makes one
abbrev pub unplaced : Alive → Bool
unplaced (local t d h) = eqb t 0
unplaced (shared h) = false

pub alive_of_reference : (n class : ℕ) (x : Alive) → unplaced x ≡ false → alive_of (reference_of n class x) ≡ x
alive_of_reference n class (local t d h) k = rw k
alive_of_reference n class (shared h) k = refl

pub class_of_reference : (n class : ℕ) (x : Alive) → (reference_of n class x).class ≡ class
class_of_reference n class (local t d h) = refl
class_of_reference n class (shared h) = refl

pub with_class_reference : (n class c : ℕ) (x : Alive) → with_class c (reference_of n class x) ≡ reference_of n c x
with_class_reference n class c (local t d h) = refl
with_class_reference n class c (shared h) = refl

no_thread : (t : ℕ) → eqb t 0 ≡ false → eqb 0 t ≡ false
no_thread t n = ne_eqb 0 t (λ z. eqb-false t 0 n (sym z))

pub handle_is_local : (t h : ℕ) → eqb t 0 ≡ false → (line class : ℕ) (x : Alive) → is_handle t h (reference_of line class x) ≡ is_local t h x
handle_is_local t h n line class (local s d g) = and_comm (eqb g h) (eqb s t)
handle_is_local t h n line class (shared g) = rw (no_thread t n, and-false (eqb g h))

pub handle_is_shared : (h line class : ℕ) (x : Alive) → unplaced x ≡ false → is_handle 0 h (reference_of line class x) ≡ is_shared h x
handle_is_shared h line class (local s d g) k = rw (k, and-false (eqb g h))
handle_is_shared h line class (shared g) k = and-true (eqb g h)

-- a local of thread t in frame d or above
abbrev pub is_from : ℕ → ℕ → Alive → Bool
is_from t d (local s c h) = leb d c && eqb s t
is_from t d (shared h) = false

pub frame_is_from : (t d : ℕ) → eqb t 0 ≡ false → (line class : ℕ) (x : Alive) → from_frame t d (reference_of line class x) ≡ is_from t d x
frame_is_from t d n line class (local s c h) = refl
frame_is_from t d n line class (shared h) = rw (no_thread t n, and-false (leb d 0))

-- ---- pins

-- a critical buffer of thread 0: no accepted line gets one
abbrev pub unowned : Pin → Bool
unowned (ordinary k b) = false
unowned (critical t k b) = eqb t 0

pub pin_of_row : (n : ℕ) (x : Pin) → unowned x ≡ false → pin_of (pin_row_of n x) ≡ x
pin_of_row n (ordinary k b) h = refl
pin_of_row n (critical t k b) h = rw h

eqb_sym : (a b : ℕ) → eqb a b ≡ eqb b a
eqb_sym a b = go (eqb a b) refl
  where
    go : (q : Bool) → eqb a b ≡ q → q ≡ eqb b a
    go true e = sym (eq-eqb b a (sym (eqb-true a b e)))
    go false e = sym (ne_eqb b a (λ z. eqb-false a b e (sym z)))

-- the row of the buffer which function f of thread t gets or releases
pub buffer_is : (t f b : ℕ) → eqb t 0 ≡ false → (line : ℕ) (x : Pin) → unowned x ≡ false → is_buffer (pin_owner f t) (family f) b (pin_row_of line x) ≡ same_pin (pin t f b) x
unfolding pin
buffer_is t f b n line x k = go (is_critical (family f)) x k
  where
    turned : (j a : ℕ) → (eqb a b && eqb j (family f)) ≡ (eqb (family f) j && eqb b a)
    turned j a = rw (eqb_sym (family f) j, eqb_sym b a) (and_comm (eqb a b) (eqb j (family f)))

    go : (c : Bool) (x : Pin) → unowned x ≡ false
        → is_buffer (if_true c then t else 0) (family f) b (pin_row_of line x) ≡ same_pin (if_true c then critical t (family f) b else ordinary (family f) b) x
    go true (ordinary j a) k = rw (no_thread t n, and-false (eqb a b && eqb j (family f)))
    go true (critical s j a) k =
        and_comm (eqb a b && eqb j (family f)) (eqb s t)
        ∙ rw (turned j a, eqb_sym s t) (sym (and_assoc (eqb t s) (eqb (family f) j) (eqb b a)))
    go false (ordinary j a) k = and-true (eqb a b && eqb j (family f)) ∙ turned j a
    go false (critical s j a) k = rw (k, and-false (eqb a b && eqb j (family f)))
