-- Laws of the class table with an identity put at a place, and at the place where it is looked for. Assumes nothing.
use Prim.Native.Nat.{ℕ, suc, ◌+◌, ◌-◌, ◌/◌, ◌≤◌, ◌<◌}
use mathlib.Core.Path.{◌≡◌, refl, sym, ap, ◌∙◌}
use mathlib.Core.Bool.{Bool, true, false, not, ◌||◌}
use mathlib.Core.List.{List}
use mathlib.Core.Logic.{◌⊎◌, inl, inr}
use native.Mathlib.Nat.{add-zero}
use native.Mathlib.Decide.{ℕ_discrete}
use native.Mathlib.Omega.{arith}
use borrow.Author.Tests.{lt-ltb, eqb-true, eqb-false, ne_eqb}
use lib.Dec.{eqb, ltb}
use lib.ListN.{length, get_or}
use Rattle.words.specs.Choice.{if_true◌then◌else◌, one}
use Rattle.lines.specs.Line.{classes}
use Rattle.rows.specs.Scan.{how_many}
use Rattle.classes.specs.Identities.{identity_room, identity_from, identity_number, is_for, place_of, is_used, identity_at, identity_in, with_identity, used_places}
use Rattle.classes.specs.Placed.{Placed, stands}
use Rattle.classes.proofs.Counts.{how_many_changed}
use Rattle.classes.proofs.Fours.{fours, fours_length, fours_apart, first_four, second_four, third_four, fourth_four}
use Rattle.classes.proofs.IdentitySteps.{put_there, put_nowhere}
use Rattle.classes.proofs.IdentityLaws.{for_either, for_its, place_for, there_or_free, nowhere_not_stands, not_stands_not_stated, placed_at, at_same, place_again}

-- ---- an identity is put at place i

module _ (cs : List ℕ) (i x sort static final : ℕ) where
  pub put_length : length (with_identity cs i x sort static final) ≡ length cs
  unfolding with_identity
  put_length = go (ltb i (identity_room cs))
    where
      go : (b : Bool) → length (if_true b then fours cs (identity_from i) x sort static final else cs) ≡ length cs
      go true = fours_length cs (identity_from i) x sort static final
      go false = refl

  pub put_room : identity_room (with_identity cs i x sort static final) ≡ identity_room cs
  unfolding identity_room
  put_room = ap (λ (n : ℕ). (n - classes) / 4) put_length

  -- a number that is none of the place's
  pub put_apart : (j : ℕ) → ((k : ℕ) → k < 4 → j ≡ identity_from i + k → ⊥) → get_or (with_identity cs i x sort static final) j 0 ≡ get_or cs j 0
  unfolding with_identity
  put_apart j apart = go (ltb i (identity_room cs))
    where
      go : (b : Bool) → get_or (if_true b then fours cs (identity_from i) x sort static final else cs) j 0 ≡ get_or cs j 0
      go true = fours_apart cs (identity_from i) x sort static final j apart
      go false = refl

  put_elsewhere : (j k : ℕ) → (j ≡ i → ⊥) → k < 4 → identity_number (with_identity cs i x sort static final) j k ≡ identity_number cs j k
  put_elsewhere j k n l = put_apart (identity_from j + k) (λ h m e. omega arith)

  pub put_past : identity_room cs ≤ i → with_identity cs i x sort static final ≡ cs
  put_past l = sym (put_nowhere cs i x sort static final (identity_room cs) refl l)

  module _ (l : i < identity_room cs) where
    inside : identity_from i + 3 < length cs
    unfolding identity_room
    inside = omega arith

    put_number : (k v : ℕ) → get_or (fours cs (identity_from i) x sort static final) (identity_from i + k) 0 ≡ v
        → identity_number (with_identity cs i x sort static final) i k ≡ v
    put_number k v e = rw (← put_there cs i x sort static final (identity_room cs) refl l) e

    put_it : identity_number (with_identity cs i x sort static final) i 0 ≡ x
    put_it = put_number 0 x (rw add-zero (first_four cs (identity_from i) x sort static final inside))

    put_record : (x ≡ 0 → ⊥) → identity_at (with_identity cs i x sort static final) i ≡ record { sort = sort; isstatic = static; isfinal = final }
    put_record n =
        rw (
          put_room,
          lt-ltb i (identity_room cs) l,
          put_it,
          ne_eqb x 0 n,
          put_number 1 sort (second_four cs (identity_from i) x sort static final inside),
          put_number 2 static (third_four cs (identity_from i) x sort static final inside),
          put_number 3 final (fourth_four cs (identity_from i) x sort static final inside),
        ) refl

-- ---- two tables, one with identity x put where it is looked for in the other

record Put (cs ds : List ℕ) (x : ℕ) : Type 0 where
  room : identity_room ds ≡ identity_room cs
  its : identity_number ds (place_of cs x) 0 ≡ x
  others : (j k : ℕ) → (j ≡ place_of cs x → ⊥) → k < 4 → identity_number ds j k ≡ identity_number cs j k

module _ (cs ds : List ℕ) (x : ℕ) (put : Put cs ds x) (n : x ≡ 0 → ⊥) (l : place_of cs x < identity_room cs) where
  stays : (j : ℕ) → (j ≡ place_of cs x → ⊥) → identity_number ds j 0 ≡ identity_number cs j 0
  stays j m = put.others j 0 m (omega arith)

  -- no place is for an identity that was not for it
  fewer_for : (y j : ℕ) → (is_for ds y (place_of cs x) ≡ true → is_for cs y (place_of cs x) ≡ true) → is_for ds y j ≡ true → is_for cs y j ≡ true
  fewer_for y j here h = go (ℕ_discrete j (place_of cs x))
    where
      go : Dec (j ≡ place_of cs x) → is_for cs y j ≡ true
      go (yes e) = rw e (here (rw e at h))
      go (no m) = rw (← stays j m) h

  its_place_stays : place_of ds x ≡ place_of cs x
  its_place_stays =
      place_again cs ds put.room x (λ j. fewer_for x j (λ _. place_for cs x l)) (λ _. for_its (identity_number ds (place_of cs x) 0) x put.its)

  -- of another identity that stands at its place
  place_stays : (y : ℕ) → (y ≡ x → ⊥) → (place_of cs y ≡ place_of cs x → ⊥) → identity_number cs (place_of cs y) 0 ≡ y → place_of ds y ≡ place_of cs y
  place_stays y d m e =
      place_again cs ds put.room y (λ j. fewer_for y j (λ h. absurd (none (for_either (identity_number ds (place_of cs x) 0) y h))))
      (λ _. for_its (identity_number ds (place_of cs y) 0) y (stays (place_of cs y) m ∙ e))
    where
      none : (identity_number ds (place_of cs x) 0 ≡ y) ⊎ (identity_number ds (place_of cs x) 0 ≡ 0) → ⊥
      none (inl e) = d (sym e ∙ put.its)
      none (inr z) = n (sym put.its ∙ z)

  its_stands : stands ds x ≡ true
  its_stands = rw (its_place_stays, put.room, lt-ltb (place_of cs x) (identity_room cs) l, put.its, ne_eqb x 0 n) refl

  used_still : used_places ds + one (is_used cs (place_of cs x)) ≡ used_places cs + 1
  unfolding used_places
  used_still =
      let more : one (is_used ds (place_of cs x)) ≡ 1 = rw (put.its, ne_eqb x 0 n) refl in
      rw put.room
      (how_many_changed (is_used cs) (is_used ds) (identity_room cs) (place_of cs x) l (λ j m. ap (λ (k : ℕ). not (eqb k 0)) (stays j m))
      ∙ ap (λ (k : ℕ). how_many (is_used cs) (identity_room cs) + k) more)

  module _ (placed : Placed cs) where
    still_placed : Placed ds
    still_placed = record { each = λ j h m. go j (rw put.room at h) m (ℕ_discrete j (place_of cs x)) }
      where
        other : (j y : ℕ) → (j ≡ place_of cs x → ⊥) → identity_number cs j 0 ≡ y → place_of cs y ≡ j → place_of ds y ≡ j
        other j y d e p =
            place_stays y (λ s. d (sym p ∙ ap (place_of cs) s)) (λ s. d (sym p ∙ s)) (ap (λ (k : ℕ). identity_number cs k 0) p ∙ e) ∙ p

        go : (j : ℕ) → j < identity_room cs → (identity_number ds j 0 ≡ 0 → ⊥) → Dec (j ≡ place_of cs x) → place_of ds (identity_number ds j 0) ≡ j
        go j h m (yes e) = ap (place_of ds) (ap (λ (k : ℕ). identity_number ds k 0) e ∙ put.its) ∙ its_place_stays ∙ sym e
        go j h m (no d) = ap (place_of ds) (stays j d) ∙ other j (identity_number cs j 0) d refl (placed.each j h (λ z. m (stays j d ∙ z)))

    -- of another identity: its place has it, or no place has
    found_still : (y : ℕ) → (y ≡ x → ⊥) → (place_of cs y ≡ place_of cs x → ⊥) → identity_number cs (place_of cs y) 0 ≡ y
        → (stands ds y ≡ stands cs y) × (identity_in ds y ≡ identity_in cs y)
    unfolding identity_in
    found_still y d m e = (
      rw (place_stays y d m e, put.room, stays (place_of cs y) m) refl,
      ap (identity_at ds) (place_stays y d m e) ∙ at_same cs ds put.room (place_of cs y) (λ k h. put.others (place_of cs y) k m h),
    )

    absent_still : (y : ℕ) → (y ≡ x → ⊥) → (identity_number cs (place_of cs y) 0 ≡ y → y ≡ 0)
        → (stands ds y ≡ stands cs y) × (identity_in ds y ≡ identity_in cs y)
    absent_still y d m = (not_after ∙ sym not_before, not_stands_not_stated ds y not_after ∙ sym (not_stands_not_stated cs y not_before))
      where
        before : (j : ℕ) → j < identity_room cs → identity_number cs j 0 ≡ y → y ≡ 0
        before j h e = go (ℕ_discrete y 0)
          where
            go : Dec (y ≡ 0) → y ≡ 0
            go (yes z) = z
            go (no z) = m (ap (λ (k : ℕ). identity_number cs k 0) (placed_at cs y j placed z h e) ∙ e)

        after : (j : ℕ) → j < identity_room cs → identity_number ds j 0 ≡ y → Dec (j ≡ place_of cs x) → y ≡ 0
        after j h e (yes s) = absurd (d (sym e ∙ ap (λ (k : ℕ). identity_number ds k 0) s ∙ put.its))
        after j h e (no s) = before j h (sym (stays j s) ∙ e)

        not_before : stands cs y ≡ false
        not_before = nowhere_not_stands cs y before

        not_after : stands ds y ≡ false
        not_after = nowhere_not_stands ds y (λ j h e. after j (rw put.room at h) e (ℕ_discrete j (place_of cs x)))

    other_still : (y : ℕ) → (y ≡ x → ⊥) → (stands ds y ≡ stands cs y) × (identity_in ds y ≡ identity_in cs y)
    other_still y d = go (ℕ_discrete (identity_number cs (place_of cs y) 0) y) (ℕ_discrete (place_of cs y) (place_of cs x))
      where
        free : identity_number cs (place_of cs x) 0 ≡ y → (identity_number cs (place_of cs x) 0 ≡ x) ⊎ (identity_number cs (place_of cs x) 0 ≡ 0) → y ≡ 0
        free e (inl f) = absurd (d (sym e ∙ f))
        free e (inr z) = sym e ∙ z

        go : Dec (identity_number cs (place_of cs y) 0 ≡ y) → Dec (place_of cs y ≡ place_of cs x)
            → (stands ds y ≡ stands cs y) × (identity_in ds y ≡ identity_in cs y)
        go (yes e) (yes s) = absent_still y d (λ _. free (sym (ap (λ (k : ℕ). identity_number cs k 0) s) ∙ e) (there_or_free cs x l))
        go (yes e) (no m) = found_still y d m e
        go (no m) s = absent_still y d (λ e. absurd (m e))

-- ---- an identity is put where it is looked for

module _ (cs : List ℕ) (x sort static final : ℕ) (n : x ≡ 0 → ⊥) (l : place_of cs x < identity_room cs) where
  is_put : Put cs (with_identity cs (place_of cs x) x sort static final) x
  is_put =
      record {
        room = put_room cs (place_of cs x) x sort static final;
        its = put_it cs (place_of cs x) x sort static final l;
        others = put_elsewhere cs (place_of cs x) x sort static final;
      }

  pub put_stated : identity_in (with_identity cs (place_of cs x) x sort static final) x ≡ record { sort = sort; isstatic = static; isfinal = final }
  unfolding identity_in
  put_stated =
      ap (identity_at (with_identity cs (place_of cs x) x sort static final))
      (its_place_stays cs (with_identity cs (place_of cs x) x sort static final) x is_put n l)
      ∙ put_record cs (place_of cs x) x sort static final l n

  -- ---- how many places are used

  pub put_used_same : identity_number cs (place_of cs x) 0 ≡ x → used_places (with_identity cs (place_of cs x) x sort static final) ≡ used_places cs
  put_used_same e = omega (arith, rw (e, ne_eqb x 0 n) at (used_still cs (with_identity cs (place_of cs x) x sort static final) x is_put n l))

  pub put_used_more : identity_number cs (place_of cs x) 0 ≡ 0 → used_places (with_identity cs (place_of cs x) x sort static final) ≡ suc (used_places cs)
  put_used_more z = omega (arith, rw z at (used_still cs (with_identity cs (place_of cs x) x sort static final) x is_put n l))

  pub put_used : used_places (with_identity cs (place_of cs x) x sort static final) ≡ used_places cs + one (not (stands cs x))
  put_used =
      rw (lt-ltb (place_of cs x) (identity_room cs) l)
      (go (used_places (with_identity cs (place_of cs x) x sort static final)) (used_places cs) (is_used cs (place_of cs x)) (used_still cs (with_identity cs (place_of cs x) x sort static final) x is_put n l))
    where
      go : (u v : ℕ) (b : Bool) → u + one b ≡ v + 1 → u ≡ v + one (not b)
      go u v true e = omega arith
      go u v false e = omega arith

  -- ---- of a table where each stands where it is looked for

  module _ (placed : Placed cs) where
    pub put_placed : Placed (with_identity cs (place_of cs x) x sort static final)
    put_placed = still_placed cs (with_identity cs (place_of cs x) x sort static final) x is_put n l placed

    pub put_others : (y : ℕ) → (y ≡ x → ⊥) → identity_in (with_identity cs (place_of cs x) x sort static final) y ≡ identity_in cs y
    put_others y d = (other_still cs (with_identity cs (place_of cs x) x sort static final) x is_put n l placed y d).1

    pub put_each : (y : ℕ)
        → identity_in (with_identity cs (place_of cs x) x sort static final) y
        ≡ (if_true eqb y x then record { sort = sort; isstatic = static; isfinal = final } else identity_in cs y)
    put_each y = go (eqb y x) refl
      where
        go : (b : Bool) → eqb y x ≡ b
            → identity_in (with_identity cs (place_of cs x) x sort static final) y
            ≡ (if_true b then record { sort = sort; isstatic = static; isfinal = final } else identity_in cs y)
        go true e = ap (identity_in (with_identity cs (place_of cs x) x sort static final)) (eqb-true y x e) ∙ put_stated
        go false e = put_others y (eqb-false y x e)

    pub put_stands : (y : ℕ) → stands (with_identity cs (place_of cs x) x sort static final) y ≡ (eqb y x || stands cs y)
    put_stands y = go (eqb y x) refl
      where
        go : (b : Bool) → eqb y x ≡ b → stands (with_identity cs (place_of cs x) x sort static final) y ≡ (b || stands cs y)
        go true e =
            ap (stands (with_identity cs (place_of cs x) x sort static final)) (eqb-true y x e)
            ∙ its_stands cs (with_identity cs (place_of cs x) x sort static final) x is_put n l
        go false e = (other_still cs (with_identity cs (place_of cs x) x sort static final) x is_put n l placed y (eqb-false y x e)).0
