-- Laws of the identities in the class table, whatever numbers stand in it. Assumes nothing.
use Prim.Native.Nat.{ℕ, ◌+◌, ◌-◌, ◌/◌, ◌%◌, ◌≤◌, ◌<◌}
use mathlib.Core.Path.{◌≡◌, refl, sym, ap, ◌∙◌}
use mathlib.Core.Bool.{Bool, true, false, not, ◌||◌}
use mathlib.Core.List.{List}
use mathlib.Core.Logic.{◌⊎◌, inl, inr}
use native.Mathlib.Decide.{dec_lt}
use native.Mathlib.Omega.{arith}
use borrow.Author.Tests.{lt-ltb, le-ltb, ltb-true, not-false, eqb-true, eqb-false, eq-eqb, ne_eqb}
use lib.Dec.{eqb, ltb}
use lib.ListN.{get_or, replicate, length-replicate, get_or-replicate, get_or-eq_default}
use Rattle.words.specs.Choice.{if_true◌then◌else◌}
use Rattle.lines.specs.Line.{classes}
use Rattle.lines.proofs.Tests.{both, neither, or_true, and_false}
use Rattle.rows.specs.Scan.{how_many}
use Rattle.rows.proofs.ScanLaws.{how_many_ext, how_many_le, none_passes}
use Rattle.history.specs.Identities.{not_stated}
use Rattle.classes.specs.Identities.{identity_room, identity_from, identity_number, own_place, is_for, place_of, is_used, identity_at, identity_in, used_places}
use Rattle.classes.specs.Placed.{Placed, stands}
use Rattle.classes.proofs.Counts.{all_pass, one_misses}
use Rattle.classes.proofs.IdentitySteps.{own_within}
use Rattle.classes.proofs.Places.{around_le, around_passes, around_fails, around_again, around_same}

own_fits : (room x : ℕ) → own_place room x ≤ room
own_fits room x = go (eqb room 0) refl
  where
    go : (b : Bool) → eqb room 0 ≡ b → (if_true b then 0 else (x / 4) % room) ≤ room
    go true e = omega arith
    go false e = own_within (x / 4) room (eqb-false room 0 e)

-- ---- the test of a place

pub for_either : (n x : ℕ) → (eqb n 0 || eqb n x) ≡ true → (n ≡ x) ⊎ (n ≡ 0)
for_either n x h = go (eqb n 0) refl h
  where
    go : (b : Bool) → eqb n 0 ≡ b → (b || eqb n x) ≡ true → (n ≡ x) ⊎ (n ≡ 0)
    go true e h = inr (eqb-true n 0 e)
    go false e h = inl (eqb-true n x h)

pub for_its : (n x : ℕ) → n ≡ x → (eqb n 0 || eqb n x) ≡ true
for_its n x e = rw (eq-eqb n x e, or_true (eqb n 0)) refl

for_neither : (n x : ℕ) → (eqb n 0 || eqb n x) ≡ false → (n ≡ 0 → ⊥) × (n ≡ x → ⊥)
for_neither n x h = let k = neither (eqb n 0) (eqb n x) h in (eqb-false n 0 k.0, eqb-false n x k.1)

-- ---- where an identity is looked for

module _ (cs : List ℕ) (x : ℕ) where
  pub place_le : place_of cs x ≤ identity_room cs
  unfolding place_of
  place_le = around_le (is_for cs x) (identity_room cs) (own_place (identity_room cs) x) (own_fits (identity_room cs) x)

  pub place_for : place_of cs x < identity_room cs → is_for cs x (place_of cs x) ≡ true
  unfolding place_of
  place_for = around_passes (is_for cs x) (identity_room cs) (own_place (identity_room cs) x) (own_fits (identity_room cs) x)

  -- its place has it, or is free
  pub there_or_free : place_of cs x < identity_room cs → (identity_number cs (place_of cs x) 0 ≡ x) ⊎ (identity_number cs (place_of cs x) 0 ≡ 0)
  there_or_free l = for_either (identity_number cs (place_of cs x) 0) x (place_for l)

  pub there_stands : place_of cs x < identity_room cs → identity_number cs (place_of cs x) 0 ≡ x → (x ≡ 0 → ⊥) → stands cs x ≡ true
  there_stands l e n = rw (lt-ltb (place_of cs x) (identity_room cs) l, e, ne_eqb x 0 n) refl

  pub free_not_stands : identity_number cs (place_of cs x) 0 ≡ 0 → stands cs x ≡ false
  free_not_stands z = rw (z, and_false (ltb (place_of cs x) (identity_room cs))) refl

  -- 0 is no identity
  pub nowhere_not_stands : ((i : ℕ) → i < identity_room cs → identity_number cs i 0 ≡ x → x ≡ 0) → stands cs x ≡ false
  nowhere_not_stands h = go (dec_lt (place_of cs x) (identity_room cs))
    where
      free : place_of cs x < identity_room cs → (identity_number cs (place_of cs x) 0 ≡ x) ⊎ (identity_number cs (place_of cs x) 0 ≡ 0)
          → identity_number cs (place_of cs x) 0 ≡ 0
      free l (inl e) = e ∙ h (place_of cs x) l e
      free l (inr z) = z

      go : Dec (place_of cs x < identity_room cs) → stands cs x ≡ false
      go (yes l) = free_not_stands (free l (there_or_free l))
      go (no l) = rw (le-ltb (place_of cs x) (identity_room cs) (omega arith)) refl

  pub not_stands_not_stated : stands cs x ≡ false → identity_in cs x ≡ not_stated
  unfolding identity_in
  not_stands_not_stated e = rw e refl

  -- ---- a full room

  module _ (full : identity_room cs ≤ place_of cs x) where
    passed : (i : ℕ) → i < identity_room cs → (identity_number cs i 0 ≡ 0 → ⊥) × (identity_number cs i 0 ≡ x → ⊥)
    unfolding place_of
    passed i l =
        for_neither (identity_number cs i 0) x
        (around_fails (is_for cs x) (identity_room cs) (own_place (identity_room cs) x) (own_fits (identity_room cs) x) full i l)

    pub full_without : (i : ℕ) → i < identity_room cs → identity_number cs i 0 ≡ x → ⊥
    full_without i l = (passed i l).1

    pub full_used : used_places cs ≡ identity_room cs
    unfolding used_places
    full_used = all_pass (is_used cs) (identity_room cs) (λ i l. rw (ne_eqb (identity_number cs i 0) 0 (passed i l).0) refl)

    pub full_not_stands : stands cs x ≡ false
    full_not_stands = nowhere_not_stands (λ i l e. absurd (full_without i l e))

    pub full_not_stated : identity_in cs x ≡ not_stated
    full_not_stated = not_stands_not_stated full_not_stands

  pub free_not_full : place_of cs x < identity_room cs → identity_number cs (place_of cs x) 0 ≡ 0 → used_places cs < identity_room cs
  unfolding used_places
  free_not_full l z = one_misses (is_used cs) (identity_room cs) (place_of cs x) l (rw (eq-eqb (identity_number cs (place_of cs x) 0) 0 z) refl)

  -- what stands has its place, and what does not has none where all are used
  pub stands_below : stands cs x ≡ true → place_of cs x < identity_room cs
  stands_below y = ltb-true (place_of cs x) (identity_room cs) (both (ltb (place_of cs x) (identity_room cs)) (is_used cs (place_of cs x)) y).0

  pub used_up : stands cs x ≡ false → used_places cs ≡ identity_room cs → identity_room cs ≤ place_of cs x
  used_up s e = go (dec_lt (place_of cs x) (identity_room cs))
    where
      free : place_of cs x < identity_room cs → identity_number cs (place_of cs x) 0 ≡ 0
      free l = eqb-true (identity_number cs (place_of cs x) 0) 0 (not-false (eqb (identity_number cs (place_of cs x) 0) 0) (rw (lt-ltb (place_of cs x) (identity_room cs) l) at s))

      go : Dec (place_of cs x < identity_room cs) → identity_room cs ≤ place_of cs x
      go (yes l) = absurd (omega (arith, free_not_full l (free l)))
      go (no l) = omega arith

pub used_le : (cs : List ℕ) → used_places cs ≤ identity_room cs
unfolding used_places
used_le cs = how_many_le (is_used cs) (identity_room cs)

pub zero_not_stands : (cs : List ℕ) → stands cs 0 ≡ false
zero_not_stands cs = nowhere_not_stands cs 0 (λ i l e. refl)

-- what stands at some place is found there
pub placed_at : (cs : List ℕ) (x i : ℕ) → Placed cs → (x ≡ 0 → ⊥) → i < identity_room cs → identity_number cs i 0 ≡ x → place_of cs x ≡ i
placed_at cs x i placed n l e = rw (← e) (placed.each i l (λ z. n (sym e ∙ z)))

-- ---- two tables with one room, and the same numbers at a place

module _ (cs ds : List ℕ) (room : identity_room ds ≡ identity_room cs) where
  pub at_same : (i : ℕ) → ((k : ℕ) → k < 4 → identity_number ds i k ≡ identity_number cs i k) → identity_at ds i ≡ identity_at cs i
  at_same i same = rw (room, same 0 (omega arith), same 1 (omega arith), same 2 (omega arith), same 3 (omega arith)) refl

  -- where fewer places are for it, but its own still is, that stays its own
  pub place_again : (x : ℕ)
      → ((i : ℕ) → is_for ds x i ≡ true → is_for cs x i ≡ true)
      → (place_of cs x < identity_room cs → is_for ds x (place_of cs x) ≡ true)
      → place_of ds x ≡ place_of cs x
  unfolding place_of
  place_again x fewer h = rw room (around_again (is_for cs x) (is_for ds x) fewer (identity_room cs) (own_place (identity_room cs) x) (own_fits (identity_room cs) x) h)

  module _ (same : (i k : ℕ) → identity_number ds i k ≡ identity_number cs i k) where
    for_same : (x i : ℕ) → is_for ds x i ≡ is_for cs x i
    for_same x i = rw (same i 0) refl

    pub place_same : (x : ℕ) → place_of ds x ≡ place_of cs x
    unfolding place_of
    place_same x = rw room (around_same (is_for cs x) (is_for ds x) (for_same x) (identity_room cs) (own_place (identity_room cs) x) (own_fits (identity_room cs) x))

    pub stands_same : (x : ℕ) → stands ds x ≡ stands cs x
    stands_same x = rw (place_same x, room, same (place_of cs x) 0) refl

    pub identity_same : (x : ℕ) → identity_in ds x ≡ identity_in cs x
    unfolding identity_in
    identity_same x = ap (identity_at ds) (place_same x) ∙ at_same (place_of cs x) (λ k _. same (place_of cs x) k)

    pub used_same : used_places ds ≡ used_places cs
    unfolding used_places
    used_same = ap (how_many (is_used ds)) room ∙ how_many_ext (is_used ds) (is_used cs) (identity_room cs) (λ i _. ap (λ (n : ℕ). not (eqb n 0)) (same i 0))

    pub placed_same : Placed cs → Placed ds
    placed_same placed = record {
      each = λ i l n. rw (same i 0) (place_same (identity_number cs i 0) ∙ placed.each i (rw room at l) (λ z. n (same i 0 ∙ z)));
    }

-- ---- a start: all numbers are 0

module _ (n : ℕ) where
  pub zero_at : (i : ℕ) → ◌≡◌ {A = ℕ} (get_or (replicate n 0) i 0) 0
  zero_at i = go (dec_lt i n)
    where
      go : Dec (i < n) → ◌≡◌ {A = ℕ} (get_or (replicate n 0) i 0) 0
      go (yes l) = get_or-replicate n i 0 0 l
      go (no l) = get_or-eq_default (replicate n 0) 0 (omega (arith, length-replicate {A = ℕ} n 0))

  pub cleared_room : identity_room (replicate n 0) ≡ (n - classes) / 4
  unfolding identity_room
  cleared_room = ap (λ (m : ℕ). (m - classes) / 4) (length-replicate {A = ℕ} n 0)

  pub cleared_placed : Placed (replicate n 0)
  cleared_placed = record { each = λ i l m. absurd (m (zero_at (identity_from i + 0))) }

  pub cleared_stands : (x : ℕ) → stands (replicate n 0) x ≡ false
  cleared_stands x = nowhere_not_stands (replicate n 0) x (λ i l e. sym e ∙ zero_at (identity_from i + 0))

  pub cleared_identity : (x : ℕ) → identity_in (replicate n 0) x ≡ not_stated
  cleared_identity x = not_stands_not_stated (replicate n 0) x (cleared_stands x)

  pub cleared_used : used_places (replicate n 0) ≡ 0
  unfolding used_places
  cleared_used = none_passes (is_used (replicate n 0)) (identity_room (replicate n 0)) (λ i l. ap (λ (k : ℕ). not (eqb k 0)) (zero_at (identity_from i + 0)))
