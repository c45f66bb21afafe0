-- What is found stands in the order of the places. Assumes nothing.
use Prim.Native.Nat.{ℕ, zero, suc, ◌+◌, ◌-◌, ◌≤◌, ◌<◌}
use mathlib.Core.Path.{◌≡◌, refl}
use mathlib.Core.Bool.{Bool, true, false}
use mathlib.Core.List.{List, [], ◌∷◌, ◌++◌}
use Rattle.std.specs.Prelude.{Option, None, Some}
use native.Mathlib.Omega.{arith}
use lib.Dec.{eqb, ltb}
use lib.ListN.{get_or}
use Rattle.words.specs.Choice.{if_true◌then◌else◌}
use Rattle.rows.specs.Slots.{held}
use Rattle.rows.specs.Table.{Table, each, room}
use Rattle.rows.specs.View.{view}
use Rattle.rows.specs.References.{references}
use Rattle.rows.specs.Pins.{pins}
use Rattle.rows.specs.declared.references.Reference.{Reference}
use Rattle.rows.specs.declared.pins.Pin.{Pin}
use Rattle.leaks.specs.declared.entries.Entry.{Entry}
use Rattle.leaks.specs.Entries.{first_reference}
use Rattle.leaks.specs.Found.{of_pin, of_reference, found_at, found_from, found_in}
use Rattle.leaks.proofs.Sameness.{All, all_map}
use Rattle.leaks.proofs.ByLine.{Climbing}

-- ---- an entry's place is where it was found
abbrev place_or : ℕ → Option Entry → ℕ
place_or p None = p
place_or p (Some e) = e.place

of_pin_place : (p : ℕ) (o : Option Pin) → place_or p (of_pin p o) ≡ p
of_pin_place p None = refl
of_pin_place p (Some x) = refl

of_reference_place : (p : ℕ) (o : Option Reference) → place_or p (of_reference p o) ≡ p
of_reference_place p None = refl
of_reference_place p (Some x) = go (eqb x.thread 0)
  where
    go : (b : Bool) → place_or p (if_true b then Some (record { place = p; thread = x.thread; value = x.handle; line = x.line }) else None) ≡ p
    go true = refl
    go false = refl

found_place : (R P : Table) (p : ℕ) → place_or p (found_at R P p) ≡ p
unfolding found_at
found_place R P p = go (ltb p first_reference)
  where
    go : (b : Bool)
        → place_or p (if_true b then of_pin p (get_or (view pins P) p None) else of_reference p (get_or (view references R) (p - first_reference) None)) ≡ p
    go true = of_pin_place p (get_or (view pins P) p None)
    go false = of_reference_place p (get_or (view references R) (p - first_reference) None)

-- ---- place after place
abbrev Between : ℕ → ℕ → Entry → Type 0
Between a b e = (a ≤ e.place) × (e.place < b)

in_order : (f : ℕ → Option Entry) (a n : ℕ) → ((i : ℕ) → place_or (a + i) (f i) ≡ a + i) → Climbing (held (each f n)) × All (Between a (a + n)) (held (each f n))
in_order f a zero h = (tt, tt)
in_order f a (suc n) h = go (f zero) (h zero) (in_order (λ k. f (suc k)) (suc a) n next)
  where
    next : (i : ℕ) → place_or (suc a + i) (f (suc i)) ≡ suc a + i
    next i = let e : a + suc i ≡ suc a + i = omega arith in rw e at (h (suc i))

    wider : (e : Entry) → Between (suc a) (suc a + n) e → Between a (a + suc n) e
    wider e b = (omega arith, omega arith)

    go : (o : Option Entry) → place_or (a + 0) o ≡ a + 0
        → Climbing (held (each (λ k. f (suc k)) n)) × All (Between (suc a) (suc a + n)) (held (each (λ k. f (suc k)) n))
        → Climbing (held (o ∷ each (λ k. f (suc k)) n)) × All (Between a (a + suc n)) (held (o ∷ each (λ k. f (suc k)) n))
    go None e ih = (ih.0, all_map (Between (suc a) (suc a + n)) (Between a (a + suc n)) (held (each (λ k. f (suc k)) n)) wider ih.1)
    go (Some x) e ih = (
      (all_map (Between (suc a) (suc a + n)) (λ y. x.place < y.place) (held (each (λ k. f (suc k)) n)) (λ y b. omega arith) ih.1, ih.0),
      (
        (omega arith, omega arith),
        all_map (Between (suc a) (suc a + n)) (Between a (a + suc n)) (held (each (λ k. f (suc k)) n)) wider ih.1,
      ),
    )

from_climbing : (R P : Table) (a n : ℕ) → Climbing (found_from R P a n) × All (Between a (a + n)) (found_from R P a n)
unfolding found_from
from_climbing R P a n = in_order (λ i. found_at R P (a + i)) a n (λ i. found_place R P (a + i))

all_append : (Q : Entry → Type 0) (xs ys : List Entry) → All Q xs → All Q ys → All Q (xs ++ ys)
all_append Q [] ys h k = k
all_append Q (x ∷ xs) ys h k = (h.0, all_append Q xs ys h.1 k)

climbing_append : (m : ℕ) (xs ys : List Entry) → Climbing xs → All (λ e. e.place < m) xs → Climbing ys → All (λ e. m ≤ e.place) ys → Climbing (xs ++ ys)
climbing_append m [] ys c h d k = d
climbing_append m (x ∷ xs) ys c h d k =
    let l = h.0 in (
      all_append (λ e. x.place < e.place) xs ys c.0 (all_map (λ e. m ≤ e.place) (λ e. x.place < e.place) ys (λ e g. omega arith) k),
      climbing_append m xs ys c.1 h.1 d k,
    )

pub found_climbing : (R P : Table) → Climbing (found_in R P)
unfolding found_in room
found_climbing R P =
    let p = from_climbing R P 0 (room pins P) in
    let r = from_climbing R P first_reference (room references R) in
    climbing_append first_reference (found_from R P 0 (room pins P)) (found_from R P first_reference (room references R)) p.0
    (all_map (Between 0 (0 + room pins P)) (λ e. e.place < first_reference) (found_from R P 0 (room pins P)) (λ e b. omega arith) p.1)
    r.0
    (all_map (Between first_reference (first_reference + room references R)) (λ e. first_reference ≤ e.place) (found_from R P first_reference (room references R)) (λ e b. b.0) r.1)
