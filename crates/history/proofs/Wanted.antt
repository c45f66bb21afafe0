-- What a function wants of an identity, and whether it writes, is computed as document 02 says it. Assumes nothing.
use Prim.Native.Nat.{ℕ, ◌≤◌, ◌<◌}
use mathlib.Core.Path.{◌≡◌, refl}
use mathlib.Core.Logic.{◌↔◌, inl, inr}
use mathlib.Core.Bool.{Bool, true, false, ◌&&◌, ◌||◌, false≢true}
use mathlib.Core.List.{[], ◌∷◌}
use native.Mathlib.Omega.{arith}
use lib.Dec.{eqb, leb}
use borrow.Author.Tests.{leb-true, le-leb, lt-leb, eqb-true}
use Rattle.words.specs.Choice.{if_true◌then◌else◌, within}
use Rattle.facts.specs.Table.{only, ◌to◌, lists}
use Rattle.facts.specs.Identities.{method, field, wanted_of, suits, writes_field}
use Rattle.facts.specs.declared.identities.Wanted.{Wanted}
use Rattle.history.specs.Identified.{Suits, object_method, static_method, object_field, static_field, any_method, any_field, Writes, object_written, static_written}
use Rattle.history.proofs.Tests.{and_left, and_right, or_cases, either}

-- ---- numbers from one to another

in_range : (lo hi f : ℕ) → within lo hi f ≡ true → (lo ≤ f) × (f ≤ hi)
in_range lo hi f h = (leb-true lo f (and_left (leb lo f) (leb f hi) h), leb-true f hi (and_right (leb lo f) (leb f hi) h))

is_in_range : (lo hi f : ℕ) → lo ≤ f → f ≤ hi → within lo hi f ≡ true
is_in_range lo hi f a b = rw (le-leb lo f a, le-leb f hi b)

below_range : (lo hi f : ℕ) → f < lo → within lo hi f ≡ false
below_range lo hi f a = rw (lt-leb lo f a)

above_range : (lo hi f : ℕ) → lo ≤ f → hi < f → within lo hi f ≡ false
above_range lo hi f a b = rw (le-leb lo f a, lt-leb f hi b)

or_nothing : (b : Bool) → (b || false) ≡ true → b ≡ true
or_nothing b h = either (or_cases b false h) (λ k. k) (λ k. absurd (false≢true k))

-- ---- what is wanted

suited : (f sort static : ℕ) → suits (wanted_of f) sort static ≡ true → Suits f sort static
unfolding wanted_of
suited f sort static =
    go (lists (28 to 30 ∷ 34 to 93 ∷ []) f) refl (lists (114 to 143 ∷ []) f) refl (lists (95 to 112 ∷ []) f) refl (lists (145 to 162 ∷ []) f) refl
    (lists (only 9 ∷ []) f) refl (lists (only 12 ∷ []) f) refl
  where
    flagged : (k u : ℕ) → (eqb sort k && eqb static u) ≡ true → (sort ≡ k) × (static ≡ u)
    flagged k u h = (eqb-true sort k (and_left (eqb sort k) (eqb static u) h), eqb-true static u (and_right (eqb sort k) (eqb static u) h))

    go : (a : Bool) → lists (28 to 30 ∷ 34 to 93 ∷ []) f ≡ a → (b : Bool) → lists (114 to 143 ∷ []) f ≡ b → (c : Bool) → lists (95 to 112 ∷ []) f ≡ c
        → (d : Bool) → lists (145 to 162 ∷ []) f ≡ d → (m : Bool) → lists (only 9 ∷ []) f ≡ m → (n : Bool) → lists (only 12 ∷ []) f ≡ n
        → suits
        (if_true a then Wanted.ObjectMethod
        else if_true b then Wanted.StaticMethod
        else if_true c then Wanted.ObjectField
        else if_true d then Wanted.StaticField
        else if_true m then Wanted.AnyMethod
        else if_true n then Wanted.AnyField
        else Wanted.Nothing)
        sort
        static
        ≡ true
        → Suits f sort static
    go true ea b eb c ec d ed m em n en h =
        rw ((flagged method 0 h).0, (flagged method 0 h).1)
        (object_method f
        (either (or_cases (within 28 30 f) (within 34 93 f || false) ea) (λ k. inl (in_range 28 30 f k)) (λ k. inr (in_range 34 93 f (or_nothing (within 34 93 f) k)))))
    go false ea true eb c ec d ed m em n en h =
        let (lo, hi) = in_range 114 143 f (or_nothing (within 114 143 f) eb) in rw ((flagged method 1 h).0, (flagged method 1 h).1) (static_method f lo hi)
    go false ea false eb true ec d ed m em n en h =
        let (lo, hi) = in_range 95 112 f (or_nothing (within 95 112 f) ec) in rw ((flagged field 0 h).0, (flagged field 0 h).1) (object_field f lo hi)
    go false ea false eb false ec true ed m em n en h =
        let (lo, hi) = in_range 145 162 f (or_nothing (within 145 162 f) ed) in rw ((flagged field 1 h).0, (flagged field 1 h).1) (static_field f lo hi)
    go false ea false eb false ec false ed true em n en h = rw (eqb-true f 9 (or_nothing (eqb f 9) em), eqb-true sort method h) (any_method static)
    go false ea false eb false ec false ed false em true en h = rw (eqb-true f 12 (or_nothing (eqb f 12) en), eqb-true sort field h) (any_field static)
    go false ea false eb false ec false ed false em false en h = absurd (false≢true h)

suits_so : (f sort static : ℕ) → Suits f sort static → suits (wanted_of f) sort static ≡ true
unfolding wanted_of
suits_so _ _ _ (object_method f (inl (lo, hi))) = rw (is_in_range 28 30 f lo hi)
suits_so _ _ _ (object_method f (inr (lo, hi))) = rw (above_range 28 30 f (omega arith) (omega arith), is_in_range 34 93 f lo hi)
suits_so _ _ _ (static_method f lo hi) =
    rw (above_range 28 30 f (omega arith) (omega arith), above_range 34 93 f (omega arith) (omega arith), is_in_range 114 143 f lo hi)
suits_so _ _ _ (object_field f lo hi) =
    rw (above_range 28 30 f (omega arith) (omega arith), above_range 34 93 f (omega arith) (omega arith), below_range 114 143 f (omega arith), is_in_range 95 112 f lo hi)
suits_so _ _ _ (static_field f lo hi) =
    rw (
      above_range 28 30 f (omega arith) (omega arith),
      above_range 34 93 f (omega arith) (omega arith),
      above_range 114 143 f (omega arith) (omega arith),
      above_range 95 112 f (omega arith) (omega arith),
      is_in_range 145 162 f lo hi,
    )
suits_so _ _ _ (any_method static) = refl
suits_so _ _ _ (any_field static) = refl

pub suits_are : (f sort static : ℕ) → (suits (wanted_of f) sort static ≡ true) ↔ Suits f sort static
suits_are f sort static = (suited f sort static, suits_so f sort static)

-- sort 0 is no sort
pub nothing_suits : (f : ℕ) → suits (wanted_of f) 0 0 ≡ false
nothing_suits f = none (wanted_of f)
  where
    none : (w : Wanted) → suits w 0 0 ≡ false
    none Wanted.ObjectMethod = refl
    none Wanted.StaticMethod = refl
    none Wanted.ObjectField = refl
    none Wanted.StaticField = refl
    none Wanted.AnyMethod = refl
    none Wanted.AnyField = refl
    none Wanted.Nothing = refl

-- ---- what writes

pub writes_are : (f : ℕ) → (writes_field f ≡ true) ↔ Writes f
unfolding writes_field
writes_are f = (there, back)
  where
    there : lists (104 to 112 ∷ 154 to 162 ∷ []) f ≡ true → Writes f
    there h =
        either (or_cases (within 104 112 f) (within 154 162 f || false) h) (λ k. let (lo, hi) = in_range 104 112 f k in object_written lo hi)
        (λ k. let (lo, hi) = in_range 154 162 f (or_nothing (within 154 162 f) k) in static_written lo hi)

    back : Writes f → lists (104 to 112 ∷ 154 to 162 ∷ []) f ≡ true
    back (object_written lo hi) = rw (is_in_range 104 112 f lo hi)
    back (static_written lo hi) = rw (above_range 104 112 f (omega arith) (omega arith), is_in_range 154 162 f lo hi)
