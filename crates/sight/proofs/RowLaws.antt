-- The rows told for C and O are those that an accepted C ends, and that an accepted O writes into. Assumes nothing.
use Prim.Native.Nat.{ℕ, ◌%◌}
use mathlib.Core.Path.{◌≡◌, refl, sym, subst, ◌∙◌}
use mathlib.Core.Bool.{Bool, true, false, ◌&&◌, ◌||◌, false≢true}
use native.Mathlib.Decide.{ℕ_discrete}
use borrow.Author.Tests.{eqb-true, ne_eqb}
use lib.Dec.{eqb}
use Rattle.words.specs.Choice.{if_true◌then◌else◌}
use Rattle.facts.specs.Table.{fact_of, family, table}
use Rattle.facts.specs.Named.{DeleteGlobalRef, DeleteLocalRef, DeleteWeakGlobalRef}
use Rattle.facts.specs.Results.{is_buffer_place}
use Rattle.facts.specs.declared.Place.{Place}
use Rattle.rows.specs.Table.{found}
use Rattle.rows.specs.References.{references, is_handle}
use Rattle.rows.specs.Pins.{pins, is_buffer}
use Rattle.lines.specs.Line.{kind}
use Rattle.history.specs.Handles.{is_local, is_shared}
use Rattle.history.specs.Seen.{is_alive, handle_alive}
use Rattle.tables.specs.Tables.{Tables, seen_in}
use Rattle.tables.specs.Acting.{is_delete, delete_owner, pin_owner, owner_of}
use Rattle.sight.specs.Spots.{handle_row, place_row, place_spot}
use Rattle.sight.specs.Sights.{call_sight, state_sight}

-- one of three deletes
first : (p q r : Bool) → ((true && p) || (false && q) || (false && r)) ≡ true → p ≡ true
first true q r h = refl
first false q r h = h

second : (p q r : Bool) → ((false && p) || (true && q) || (false && r)) ≡ true → q ≡ true
second p true r h = refl
second p false r h = h

third : (p q r : Bool) → ((false && p) || (false && q) || (true && r)) ≡ true → r ≡ true
third p q true h = refl
third p q false h = h

module _ (T : Tables) (t a : ℕ) where
  local_row : eqb (a % 4) 1 ≡ true → handle_row T.references t a ≡ found references (is_handle t a) T.references
  unfolding handle_row
  local_row e = rw (eqb-true (a % 4) 1 e) refl

  global_row : eqb (a % 4) 2 ≡ true → handle_row T.references t a ≡ found references (is_handle 0 a) T.references
  unfolding handle_row
  global_row e = rw (eqb-true (a % 4) 2 e) refl

  weak_row : eqb (a % 4) 3 ≡ true → handle_row T.references t a ≡ found references (is_handle 0 a) T.references
  unfolding handle_row
  weak_row e = rw (eqb-true (a % 4) 3 e) refl

  abbrev Right : ℕ → Type 0
  Right f = is_delete f a ≡ true → place_row (fact_of f).a T t f a ≡ found references (is_handle (delete_owner f t) a) T.references

  pub delete_row : (f : ℕ) → Right f
  unfolding place_row fact_of table
  delete_row f h = go (ℕ_discrete f DeleteLocalRef) (ℕ_discrete f DeleteGlobalRef) (ℕ_discrete f DeleteWeakGlobalRef) h
    where
      go : Dec (f ≡ DeleteLocalRef) → Dec (f ≡ DeleteGlobalRef) → Dec (f ≡ DeleteWeakGlobalRef) → Right f
      go (yes e) y z = subst Right (sym e) (λ q. local_row (first (eqb (a % 4) 1) (eqb (a % 4) 2) (eqb (a % 4) 3) q))
      go (no x) (yes e) z = subst Right (sym e) (λ q. global_row (second (eqb (a % 4) 1) (eqb (a % 4) 2) (eqb (a % 4) 3) q))
      go (no x) (no y) (yes e) = subst Right (sym e) (λ q. weak_row (third (eqb (a % 4) 1) (eqb (a % 4) 2) (eqb (a % 4) 3) q))
      go (no x) (no y) (no z) = λ q. absurd (false≢true (sym (none x y z) ∙ q))
        where
          none : (f ≡ DeleteLocalRef → ⊥) → (f ≡ DeleteGlobalRef → ⊥) → (f ≡ DeleteWeakGlobalRef → ⊥) → is_delete f a ≡ false
          none x y z = rw (ne_eqb f DeleteLocalRef x, ne_eqb f DeleteGlobalRef y, ne_eqb f DeleteWeakGlobalRef z) refl

release_row : (p : Place) (T : Tables) (t f b : ℕ) → is_buffer_place p ≡ true → place_row p T t f b ≡ found pins (is_buffer (pin_owner f t) (family f) b) T.pins
unfolding place_row
release_row Place.Buffer T t f b h = refl
release_row Place.Handle T t f b h = absurd (false≢true h)
release_row Place.HandleOrNull T t f b h = absurd (false≢true h)
release_row Place.LocalOrNull T t f b h = absurd (false≢true h)
release_row Place.GlobalOrNull T t f b h = absurd (false≢true h)
release_row Place.WeakOrNull T t f b h = absurd (false≢true h)
release_row Place.Identity T t f b h = absurd (false≢true h)
release_row Place.Unused T t f b h = absurd (false≢true h)

module _ (T : Tables) (t f a b c : ℕ) where
  pub deleted_row : is_delete f a ≡ true → (call_sight T t f a b c).a.row ≡ found references (is_handle (delete_owner f t) a) T.references
  unfolding call_sight place_spot
  deleted_row = delete_row T t a f

  pub released_row : is_buffer_place (fact_of f).b ≡ true → (call_sight T t f a b c).b.row ≡ found pins (is_buffer (pin_owner f t) (family f) b) T.pins
  unfolding call_sight place_spot
  released_row = release_row (fact_of f).b T t f b

  pub place_told : (call_sight T t f a b c).pb ≡ (fact_of f).b
  unfolding call_sight
  place_told = refl

pub stated_row : (T : Tables) (t h c : ℕ) → (state_sight T t h c).alive ≡ true → (state_sight T t h c).row ≡ found references (is_handle (owner_of t h) h) T.references
unfolding state_sight handle_alive handle_row
stated_row T t h c = go (eqb (kind h) 0) (eqb (kind h) 1) (is_alive (is_local t h) (seen_in T)) (is_alive (is_shared h) (seen_in T))
  where
    go : (null own x y : Bool) → (if_true null then false else if_true own then x else y) ≡ true
        → (if_true null then 0 else if_true own then found references (is_handle t h) T.references else found references (is_handle 0 h) T.references)
        ≡ found references (is_handle (if_true own then t else 0) h) T.references
    go true own x y e = absurd (false≢true e)
    go false true x y e = refl
    go false false x y e = refl
