-- What is found at the places, one behind another: collected place after place. Assumes nothing.
use Prim.Native.Nat.{ℕ, zero, suc, ◌+◌, ◌-◌, ◌≤◌, ◌<◌}
use mathlib.Core.Path.{◌≡◌, refl, sym, ap, ◌∙◌}
use mathlib.Core.List.{List, [], ◌∷◌, ◌++◌, append_assoc, append-nil}
use Rattle.std.specs.Prelude.{Option, None, Some}
use native.Mathlib.Nat.{add-zero}
use native.Mathlib.Numerals.{add-one}
use native.Mathlib.Omega.{arith}
use borrow.Author.Tests.{lt-ltb, le-ltb, eq-eqb, ne_eqb}
use lib.ListN.{length, get_or, set, take, length-append}
use lib.Seq.{take-suc-set}
use Rattle.rows.specs.Slots.{held}
use Rattle.rows.specs.Table.{Table, each}
use Rattle.rows.specs.View.{view}
use Rattle.rows.specs.References.{references}
use Rattle.rows.specs.Pins.{pins}
use Rattle.rows.specs.declared.references.Reference.{Reference}
use Rattle.leaks.specs.declared.entries.Entry.{Entry}
use Rattle.leaks.specs.Entries.{first_reference}
use Rattle.leaks.specs.Found.{of_pin, of_reference, found_at, found_from, Added}

-- ---- at one place
pub shared_leaks : (p : ℕ) (x : Reference) → x.thread ≡ 0 → Some (record { place = p; thread = x.thread; value = x.handle; line = x.line }) ≡ of_reference p (Some x)
shared_leaks p x e = rw (eq-eqb x.thread 0 e)

pub local_stays : (p : ℕ) (x : Reference) → (x.thread ≡ 0 → ⊥) → None ≡ of_reference p (Some x)
local_stays p x n = rw (ne_eqb x.thread 0 n)

module _ (R P : Table) (p : ℕ) (o : Option Entry) where
  pub pin_found : p < first_reference → o ≡ of_pin p (get_or (view pins P) p None) → o ≡ found_at R P p
  unfolding found_at
  pin_found h e = rw (lt-ltb p first_reference h) e

  pub reference_found : first_reference ≤ p → o ≡ of_reference p (get_or (view references R) (p - first_reference) None) → o ≡ found_at R P p
  unfolding found_at
  reference_found h e = rw (le-ltb p first_reference h) e

-- ---- one more
pub added_one : (xs ys : List Entry) (at : ℕ) (e : Entry) → at < length xs → ys ≡ set xs at e → Added (e ∷ []) at (at + 1) xs ys
added_one xs ys at e l h = record { many = refl; front = rw (add-one at, h) (take-suc-set xs at e l) }

pub added_none : (xs : List Entry) (at : ℕ) → Added [] at at xs xs
added_none xs at = record { many = sym (add-zero at); front = sym (append-nil (take at xs)) }

pub added_both : {es fs xs ys zs : List Entry} {k m n : ℕ} → Added es k m xs ys → Added fs m n ys zs → Added (es ++ fs) k n xs zs
added_both {es} {fs} {xs} {ys} {zs} {k} {m} {n} a b =
    record {
      many = omega (arith, a.many, b.many, length-append es fs);
      front = b.front ∙ ap (λ (l : List Entry). l ++ fs) a.front ∙ append_assoc (take k xs) es fs;
    }

-- ---- place after place
held_last : (f : ℕ → Option Entry) (n : ℕ) → held (each f (suc n)) ≡ held (each f n) ++ held (f n ∷ [])
held_last f zero = refl
held_last f (suc n) = go (f zero) (held_last (λ k. f (suc k)) n)
  where
    go : (o : Option Entry) → held (each (λ k. f (suc k)) (suc n)) ≡ held (each (λ k. f (suc k)) n) ++ held (f (suc n) ∷ [])
        → held (o ∷ each (λ k. f (suc k)) (suc n)) ≡ held (o ∷ each (λ k. f (suc k)) n) ++ held (f (suc n) ∷ [])
    go None ih = ih
    go (Some x) ih = ap (λ (l : List Entry). x ∷ l) ih

module _ (R P : Table) (a : ℕ) where
  found_more : (i : ℕ) → found_from R P a (suc i) ≡ found_from R P a i ++ held (found_at R P (a + i) ∷ [])
  unfolding found_from
  found_more i = held_last (λ i. found_at R P (a + i)) i

  fewer : (i d : ℕ) → length (found_from R P a i) ≤ length (found_from R P a (d + i))
  fewer i zero = let e : 0 + i ≡ i = omega arith in rw e (omega arith)
  fewer i (suc d) =
      let e : suc d + i ≡ suc (d + i) = omega arith in
      rw (e, found_more (d + i)) (omega (arith, fewer i d, length-append (found_from R P a (d + i)) (held (found_at R P (a + (d + i)) ∷ []))))

  -- there is room for what is found at the next place
  pub room_next : (i n at m r : ℕ) (o : Option Entry) → o ≡ found_at R P (a + i) → m ≡ at + length (found_from R P a i) → i < n → at + length (found_from R P a n) ≤ r
      → m + length (held (o ∷ [])) ≤ r
  room_next i n at m r o f e l h =
      let d : n - suc i + suc i ≡ n = omega arith in
      rw f
      (omega (
        arith,
        fewer (suc i) (n - suc i),
        ap (λ (k : ℕ). length (found_from R P a k)) d,
        ap length (found_more i),
        length-append (found_from R P a i) (held (found_at R P (a + i) ∷ [])),
      ))

  pub collect_first : (xs : List Entry) (at : ℕ) → Added (found_from R P a 0) at at xs xs
  unfolding found_from
  collect_first xs at = added_none xs at

  pub collect_next : {xs ys zs : List Entry} {at m n : ℕ} (i : ℕ) (o : Option Entry) → Added (found_from R P a i) at m xs ys → o ≡ found_at R P (a + i)
      → Added (held (o ∷ [])) m n ys zs → Added (found_from R P a (i + 1)) at n xs zs
  collect_next i o h e k = rw (add-one i, found_more i, ← e) (added_both h k)

  pub collect_last : {xs ys : List Entry} {at m : ℕ} (i n : ℕ) → i ≤ n → n ≤ i → Added (found_from R P a i) at m xs ys → Added (found_from R P a n) at m xs ys
  collect_last i n l g h = let e : i ≡ n = omega arith in rw e at h
