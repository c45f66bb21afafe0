-- From what the code did to the words of the definitions of identities: one law for each return. Assumes nothing.
use Prim.Native.Nat.{ℕ, ◌+◌, ◌-◌, ◌*◌, ◌/◌, ◌%◌, ◌≤◌, ◌<◌}
use mathlib.Core.Path.{◌≡◌, refl, sym, ◌∙◌}
use mathlib.Core.Bool.{Bool, true, false, ◌||◌}
use mathlib.Core.List.{List}
use native.Mathlib.Nat.{add-zero, sub-zero, mod-lt}
use native.Mathlib.Omega.{arith}
use borrow.Author.Tests.{lt-ltb, le-ltb, eq-eqb, ne_eqb}
use lib.Dec.{eqb, ltb}
use Rattle.std.specs.Prelude.{Option, Some, unwrap_or}
use lib.ListN.{get_or, set}
use Rattle.lines.specs.Line.{classes}
use Rattle.lines.proofs.Tests.{and_false}
use Rattle.history.specs.Identities.{not_stated}
use Rattle.classes.specs.Identities.{identity_room, before, is_for, first_from, first_around, place_of, identity_in, with_identity}
use Rattle.classes.proofs.Places.{search_hit, search_on, either_before}

-- ---- the first place for an identity

module _ (cs : List ℕ) (x i : ℕ) where
  looked : (b : Bool) → (eqb (get_or cs (classes + i * 4) 0) 0 || eqb (get_or cs (classes + i * 4) 0) x) ≡ b → is_for cs x i ≡ b
  looked b e = rw add-zero e

  module _ (to : ℕ) (l : i < to) where
    pub place_here : (eqb (get_or cs (classes + i * 4) 0) 0 || eqb (get_or cs (classes + i * 4) 0) x) ≡ true → i ≡ first_from (is_for cs x) i (to - i)
    place_here y = search_hit (is_for cs x) i to l (looked true y)

    pub place_on : (eqb (get_or cs (classes + i * 4) 0) 0 || eqb (get_or cs (classes + i * 4) 0) x) ≡ false
        → first_from (is_for cs x) (i + 1) (to - (i + 1)) ≡ first_from (is_for cs x) i (to - i)
    place_on n = search_on (is_for cs x) i to l (looked false n)

-- ---- the place of an identity

pub own_within : (y many : ℕ) → (many ≡ 0 → ⊥) → y % many ≤ many
own_within y many more =
    let h : 0 < many = omega arith in
    omega (arith, mod-lt y h)

module _ (cs : List ℕ) (x many : ℕ) (e : many ≡ identity_room cs) where
  pub no_places : many ≡ 0 → 0 ≡ place_of cs x
  unfolding place_of first_around first_from
  no_places z = rw (sym e ∙ z) refl

  module _ (more : many ≡ 0 → ⊥) where
    around_own : first_around (is_for cs x) many ((x / 4) % many) ≡ place_of cs x
    unfolding place_of
    around_own = rw (← e, ne_eqb many 0 more) refl

    pub place_by : (r s : Option ℕ) → r ≡ before many (first_from (is_for cs x) ((x / 4) % many) (many - (x / 4) % many))
        → s ≡ before ((x / 4) % many) (first_from (is_for cs x) 0 ((x / 4) % many - 0))
        → unwrap_or r (unwrap_or s many) ≡ place_of cs x
    unfolding first_around
    place_by r s f g = either_before r s _ _ ((x / 4) % many) many f (rw sub-zero at g) ∙ around_own

    pub place_found : (i : ℕ) → Some i ≡ before many (first_from (is_for cs x) ((x / 4) % many) (many - (x / 4) % many)) → i ≡ place_of cs x
    place_found i f = place_by (Some i) (before ((x / 4) % many) (first_from (is_for cs x) 0 ((x / 4) % many - 0))) f refl

-- ---- what is stated

module _ (cs : List ℕ) (x i : ℕ) (p : i ≡ place_of cs x) where
  module _ (many : ℕ) (e : many ≡ identity_room cs) where
    pub stated_there : i < many → (get_or cs (classes + i * 4) 0 ≡ 0 → ⊥)
        → record {
          sort = get_or cs (classes + i * 4 + 1) 0;
          isstatic = get_or cs (classes + i * 4 + 2) 0;
          isfinal = get_or cs (classes + i * 4 + 3) 0;
        } ≡ identity_in cs x
    unfolding identity_in
    stated_there l n = rw (← p, lt-ltb i (identity_room cs) (omega arith), add-zero, ne_eqb (get_or cs (classes + i * 4) 0) 0 n) refl

    pub stated_past : many ≤ i → not_stated ≡ identity_in cs x
    unfolding identity_in
    stated_past l = rw (← p, le-ltb i (identity_room cs) (omega arith)) refl

  pub stated_free : get_or cs (classes + i * 4) 0 ≡ 0 → not_stated ≡ identity_in cs x
  unfolding identity_in
  stated_free z = rw (← p, add-zero, eq-eqb (get_or cs (classes + i * 4) 0) 0 z, and_false (ltb i (identity_room cs))) refl

-- ---- an identity is put

module _ (cs : List ℕ) (i x sort static final many : ℕ) (e : many ≡ identity_room cs) where
  pub put_there : i < many
      → set (set (set (set cs (classes + i * 4) x) (classes + i * 4 + 1) sort) (classes + i * 4 + 2) static) (classes + i * 4 + 3) final
      ≡ with_identity cs i x sort static final
  unfolding with_identity
  put_there l = rw (lt-ltb i (identity_room cs) (omega arith)) refl

  pub put_nowhere : many ≤ i → cs ≡ with_identity cs i x sort static final
  unfolding with_identity
  put_nowhere l = rw (le-ltb i (identity_room cs) (omega arith)) refl
