-- The lowest number that passes one of two tests, or a test and is a certain one. Assumes nothing.
use mathlib.Core.Path.{◌≡◌, refl, sym, ap, ap₂, ◌∙◌}
use mathlib.Core.Bool.{Bool, true, false, ◌&&◌, ◌||◌, false≢true}
use Prim.Native.Nat.{ℕ, ◌≤◌, ◌<◌, min}
use native.Mathlib.Decide.{ℕ_discrete, dec_lt}
use native.Mathlib.Omega.{arith}
use lib.Dec.{eqb}
use borrow.Author.Tests.{eq-eqb, ne_eqb}
use Rattle.words.specs.Choice.{if_true◌then◌else◌}
use Rattle.rows.specs.Scan.{lowest}
use Rattle.rows.proofs.ScanLaws.{lowest_is, lowest_le, lowest_below, lowest_at}

either_false : (a b : Bool) → a ≡ false → b ≡ false → (a || b) ≡ false
either_false a b e f = rw (e, f) refl

left_true : (a b : Bool) → a ≡ true → (a || b) ≡ true
left_true a b e = rw e refl

right_true : (a b : Bool) → b ≡ true → (a || b) ≡ true
right_true true b e = refl
right_true false b e = e

pub lowest_or : (p q : ℕ → Bool) (n : ℕ) → lowest (λ k. p k || q k) n ≡ min (lowest p n) (lowest q n)
lowest_or p q n =
    lowest_is (λ k. p k || q k) n (min (lowest p n) (lowest q n)) (omega (arith, lowest_le p n))
    (λ k l. either_false (p k) (q k) (lowest_below p n k (omega arith)) (lowest_below q n k (omega arith)))
    (λ l. go l (dec_lt (lowest q n) (lowest p n)))
  where
    go : min (lowest p n) (lowest q n) < n → Dec (lowest q n < lowest p n) → (p (min (lowest p n) (lowest q n)) || q (min (lowest p n) (lowest q n))) ≡ true
    go l (yes a) =
        let m : min (lowest p n) (lowest q n) ≡ lowest q n = omega arith in
        right_true (p (min (lowest p n) (lowest q n))) (q (min (lowest p n) (lowest q n))) (ap q m ∙ lowest_at q n (omega arith))
    go l (no a) =
        let m : min (lowest p n) (lowest q n) ≡ lowest p n = omega arith in
        left_true (p (min (lowest p n) (lowest q n))) (q (min (lowest p n) (lowest q n))) (ap p m ∙ lowest_at p n (omega arith))

and_false : (a b : Bool) → b ≡ false → (a && b) ≡ false
and_false true b e = e
and_false false b e = refl

and_true : (a b : Bool) → a ≡ true → b ≡ true → (a && b) ≡ true
and_true a b e f = rw (e, f) refl

-- `b` tells whether r passes and is below n
pub lowest_one : (p : ℕ → Bool) (n r : ℕ) (b : Bool) → (r < n → b ≡ p r) → (n ≤ r → b ≡ false) → lowest (λ k. p k && eqb r k) n ≡ (if_true b then r else n)
lowest_one p n r b h g = go b refl (dec_lt r n)
  where
    go : (c : Bool) → b ≡ c → Dec (r < n) → lowest (λ k. p k && eqb r k) n ≡ (if_true c then r else n)
    go true e (yes l) =
        lowest_is (λ k. p k && eqb r k) n r (omega arith) (λ k m. and_false (p k) (eqb r k) (ne_eqb r k (omega arith)))
        (λ m. and_true (p r) (eqb r r) (sym (h l) ∙ e) (eq-eqb r r refl))
    go true e (no l) = absurd (false≢true (sym (g (omega arith)) ∙ e))
    go false e d = sym (none_low)
      where
        fails : (k : ℕ) → k < n → (p k && eqb r k) ≡ false
        fails k m = at (ℕ_discrete r k)
          where
            at : Dec (r ≡ k) → (p k && eqb r k) ≡ false
            at (yes q) = ap₂ ◌&&◌ (ap p (sym q) ∙ sym (h (omega (arith, q))) ∙ e) refl
            at (no q) = and_false (p k) (eqb r k) (ne_eqb r k q)

        none_low : n ≡ lowest (λ k. p k && eqb r k) n
        none_low = sym (lowest_is (λ k. p k && eqb r k) n n (omega arith) fails (λ l. absurd (omega arith)))
