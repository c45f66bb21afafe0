-- Laws of the supers in the class table: they and the identities do not touch each other. Assumes nothing.
use Prim.Native.Nat.{ℕ, ◌+◌, ◌-◌, ◌/◌, ◌≤◌}
use mathlib.Core.Path.{◌≡◌, refl, sym, ap, ◌∙◌}
use mathlib.Core.Bool.{Bool, true, false, ◌&&◌, false≢true}
use mathlib.Core.List.{List}
use native.Mathlib.Omega.{arith}
use borrow.Author.Tests.{le-leb, eqb-true, eqb-false}
use lib.Dec.{eqb, leb}
use lib.ListN.{length, get_or, set, replicate, length-set}
use lib.Seq.{get_or-set_same, get_or-set_other}
use Rattle.words.specs.Choice.{if_true◌then◌else◌}
use Rattle.lines.specs.Line.{classes, is_class}
use Rattle.classes.specs.Supers.{super_in, with_super}
use Rattle.classes.specs.Identities.{identity_room, identity_from, identity_number, place_of, identity_in, with_identity, used_places}
use Rattle.classes.specs.Placed.{Placed, stands}
use Rattle.classes.proofs.Steps.{from_one, index_within, super_set}
use Rattle.classes.proofs.IdentityLaws.{place_same, stands_same, identity_same, used_same, placed_same, zero_at}
use Rattle.classes.proofs.PutLaws.{put_apart}

-- ---- a class is declared

module _ (cs : List ℕ) (c s : ℕ) where
  pub declared_length : length (with_super cs c s) ≡ length cs
  unfolding with_super
  declared_length = go (is_class c && leb c (length cs))
    where
      go : (b : Bool) → length (if_true b then set cs (c - 1) s else cs) ≡ length cs
      go true = length-set cs (c - 1) s
      go false = refl

  pub declared_room : identity_room (with_super cs c s) ≡ identity_room cs
  unfolding identity_room
  declared_room = ap (λ (n : ℕ). (n - classes) / 4) declared_length

  module _ (y : is_class c ≡ true) where
    pub declared_number : (i k : ℕ) → identity_number (with_super cs c s) i k ≡ identity_number cs i k
    unfolding with_super
    declared_number i k = go (is_class c && leb c (length cs))
      where
        go : (b : Bool) → get_or (if_true b then set cs (c - 1) s else cs) (identity_from i + k) 0 ≡ get_or cs (identity_from i + k) 0
        go true = get_or-set_other cs (c - 1) (identity_from i + k) s 0 (λ e. omega (arith, index_within classes c y))
        go false = refl

    pub declared_place : (x : ℕ) → place_of (with_super cs c s) x ≡ place_of cs x
    declared_place = place_same cs (with_super cs c s) declared_room declared_number

    pub declared_stands : (x : ℕ) → stands (with_super cs c s) x ≡ stands cs x
    declared_stands = stands_same cs (with_super cs c s) declared_room declared_number

    pub declared_identity : (x : ℕ) → identity_in (with_super cs c s) x ≡ identity_in cs x
    declared_identity = identity_same cs (with_super cs c s) declared_room declared_number

    pub declared_used : used_places (with_super cs c s) ≡ used_places cs
    declared_used = used_same cs (with_super cs c s) declared_room declared_number

    pub declared_placed : Placed cs → Placed (with_super cs c s)
    declared_placed = placed_same cs (with_super cs c s) declared_room declared_number

    pub declared_super : c ≤ length cs → (d : ℕ) → super_in (with_super cs c s) d ≡ (if_true eqb d c then s else super_in cs d)
    unfolding super_in
    declared_super l d = rw (← super_set cs c s there) (go (eqb d c) refl (is_class d) refl)
      where
        there : (is_class c && leb c (length cs)) ≡ true
        there = rw (y, le-leb c (length cs) l) refl

        go : (a : Bool) → eqb d c ≡ a → (b : Bool) → is_class d ≡ b
            → (if_true b then get_or (set cs (c - 1) s) (d - 1) 0 else 0) ≡ (if_true a then s else if_true b then get_or cs (d - 1) 0 else 0)
        go true e true z = rw (eqb-true d c e) (get_or-set_same cs (c - 1) s 0 (omega (arith, from_one classes c y)))
        go true e false z = absurd (false≢true (sym z ∙ ap is_class (eqb-true d c e) ∙ y))
        go false e true z = get_or-set_other cs (c - 1) (d - 1) s 0 (λ f. eqb-false d c e (omega (arith, from_one classes c y, from_one classes d z)))
        go false e false z = refl

-- ---- an identity is put, and a start

pub put_super : (cs : List ℕ) (i x sort static final c : ℕ) → super_in (with_identity cs i x sort static final) c ≡ super_in cs c
unfolding super_in
put_super cs i x sort static final c = go (is_class c) refl
  where
    go : (b : Bool) → is_class c ≡ b → (if_true b then get_or (with_identity cs i x sort static final) (c - 1) 0 else 0) ≡ (if_true b then get_or cs (c - 1) 0 else 0)
    go true y = put_apart cs i x sort static final (c - 1) (λ k l e. omega (arith, index_within classes c y))
    go false y = refl

pub cleared_super : (n c : ℕ) → super_in (replicate n 0) c ≡ 0
unfolding super_in
cleared_super n c = go (is_class c)
  where
    go : (b : Bool) → ◌≡◌ {A = ℕ} (if_true b then get_or (replicate n 0) (c - 1) 0 else 0) 0
    go true = zero_at n (c - 1)
    go false = refl
