-- The tallies of a guide: one row more, one less, and numbers elsewhere. Assumes nothing.
use mathlib.Core.Path.{◌≡◌, refl, sym, ap, ◌∙◌}
use mathlib.Core.Bool.{Bool}
use mathlib.Core.List.{List}
use Rattle.std.specs.Prelude.{Option, None, Some}
use Prim.Native.Nat.{ℕ, zero, suc, ◌+◌, ◌-◌, ◌≤◌, ◌<◌}
use native.Mathlib.Decide.{ℕ_discrete}
use native.Mathlib.Omega.{arith}
use lib.Dec.{eqb, ltb}
use lib.ListN.{length, get_or, set}
use lib.Seq.{get_or-set_same, get_or-set_other}
use borrow.Author.Tests.{eq-eqb, ne_eqb, lt-ltb}
use Rattle.words.specs.Choice.{if_true◌then◌else◌, one}
use Rattle.rows.specs.Scan.{how_many}
use Rattle.rows.specs.Slots.{holding}
use Rattle.rows.specs.Table.{most}
use Rattle.rows.proofs.ScanLaws.{how_many_suc, how_many_ext, how_many_le}
use Rattle.guide.specs.Tallies.{more_at, less_at, tally, Tallied}

-- two tests that differ at r alone
pub how_many_but : (p q : ℕ → Bool) (n r : ℕ) → r < n → ((k : ℕ) → k < n → (k ≡ r → ⊥) → p k ≡ q k) → how_many q n + one (p r) ≡ how_many p n + one (q r)
how_many_but p q zero r l h = absurd (omega arith)
how_many_but p q (suc n) r l h = go (λ m. how_many_but p q n r m (λ k i d. h k (omega arith) d)) (ℕ_discrete r n)
  where
    go : (r < n → how_many q n + one (p r) ≡ how_many p n + one (q r)) → Dec (r ≡ n) → how_many q (suc n) + one (p r) ≡ how_many p (suc n) + one (q r)
    go ih (yes e) =
        let same : how_many q n ≡ how_many p n = sym (how_many_ext p q n (λ k m. h k (omega arith) (omega (arith, e)))) in
        let a : one (p r) ≡ one (p n) = ap (λ (i : ℕ). one (p i)) e in
        let b : one (q r) ≡ one (q n) = ap (λ (i : ℕ). one (q i)) e in
        omega (arith, how_many_suc p n, how_many_suc q n, same, a, b)
    go ih (no e) =
        let last : one (p n) ≡ one (q n) = ap one (h n (omega arith) (λ d. e (sym d))) in
        omega (arith, how_many_suc p n, how_many_suc q n, ih (omega arith), last)

module _ {A : Type 0} (cell : A → ℕ) where
  pub tally_le : (S : ℕ → Option A) (n k : ℕ) → tally cell S n k ≤ n
  unfolding tally
  tally_le S n k = how_many_le (λ r. holding (λ x. eqb (cell x) k) (S r)) n

  -- row r is free, then holds x
  pub tally_more : (S S' : ℕ → Option A) (n r : ℕ) (x : A) → r < n → S r ≡ None → S' r ≡ Some x → ((k : ℕ) → k < n → (k ≡ r → ⊥) → S' k ≡ S k)
      → (j : ℕ) → tally cell S' n j ≡ tally cell S n j + one (eqb (cell x) j)
  unfolding tally
  tally_more S S' n r x l was is same j =
      let b = how_many_but (λ k. holding (λ y. eqb (cell y) j) (S k)) (λ k. holding (λ y. eqb (cell y) j) (S' k)) n r l
      (λ k m d. ap (holding (λ (y : A). eqb (cell y) j)) (sym (same k m d)))
      in
      let no : one (holding (λ (y : A). eqb (cell y) j) (S r)) ≡ 0 = ap (λ (o : Option A). one (holding (λ (y : A). eqb (cell y) j) o)) was in
      let yes_is : one (holding (λ (y : A). eqb (cell y) j) (S' r)) ≡ one (eqb (cell x) j) = ap (λ (o : Option A). one (holding (λ (y : A). eqb (cell y) j) o)) is in
      omega (arith, b, no, yes_is)

  -- the next row
  pub tally_next : (S : ℕ → Option A) (n : ℕ) (o : Option A) → S n ≡ o → (j : ℕ) → tally cell S (suc n) j ≡ tally cell S n j + one (holding (λ (y : A). eqb (cell y) j) o)
  unfolding tally
  tally_next S n o e j =
      how_many_suc (λ r. holding (λ x. eqb (cell x) j) (S r)) n
      ∙ ap (λ (p : Option A). how_many (λ r. holding (λ x. eqb (cell x) j) (S r)) n + one (holding (λ (y : A). eqb (cell y) j) p)) e

  module _ (from to : ℕ) (G : List ℕ) where
    -- as many rows in each cell
    pub tallied_like : (S S' : ℕ → Option A) (n : ℕ) → ((k : ℕ) → k < n → (j : ℕ) → holding (λ (x : A). eqb (cell x) j) (S' k) ≡ holding (λ (x : A). eqb (cell x) j) (S k))
        → Tallied cell from to S n G → Tallied cell from to S' n G
    unfolding tally
    tallied_like S S' n same c k h = c k h ∙ how_many_ext _ _ n (λ r l. sym (same r l k))

    -- one more in the cell of x
    pub tallied_plus : (x : A) (S S' : ℕ → Option A) (n n' : ℕ) → from + cell x < to → to ≤ length G → n' ≤ most
        → ((j : ℕ) → tally cell S' n' j ≡ tally cell S n j + one (eqb (cell x) j)) → Tallied cell from to S n G → Tallied cell from to S' n' (more_at G (from + cell x))
    unfolding more_at
    tallied_plus x S S' n n' inside long few grows c k h = go (ℕ_discrete k (cell x))
      where
        v : ℕ
        v = get_or G (from + cell x) 0

        self : one (eqb (cell x) (cell x)) ≡ 1
        self = ap one (eq-eqb (cell x) (cell x) refl)

        now : (if_true ltb v most then suc v else v) ≡ suc v
        now = rw (lt-ltb v most (omega (arith, c (cell x) inside, tally_le S' n' (cell x), few, grows (cell x), self))) refl

        go : Dec (k ≡ cell x) → get_or (set G (from + cell x) (if_true ltb v most then suc v else v)) (from + k) 0 ≡ tally cell S' n' k
        go (yes e) =
            ap (λ (i : ℕ). get_or (set G (from + cell x) (if_true ltb v most then suc v else v)) (from + i) 0) e
            ∙ get_or-set_same G (from + cell x) (if_true ltb v most then suc v else v) 0 (omega arith)
            ∙ now
            ∙ omega (arith, grows (cell x), self, c (cell x) inside)
            ∙ ap (tally cell S' n') (sym e)
        go (no d) =
            get_or-set_other G (from + cell x) (from + k) (if_true ltb v most then suc v else v) 0 (omega (arith, d))
            ∙ (let g = grows k in let o : one (eqb (cell x) k) ≡ 0 = ap one (ne_eqb (cell x) k (λ q. d (sym q))) in omega (arith, g, o, c k h))

    -- and one less
    pub tallied_minus : (x : A) (S S' : ℕ → Option A) (n : ℕ) → from + cell x < to → to ≤ length G
        → ((j : ℕ) → tally cell S n j ≡ tally cell S' n j + one (eqb (cell x) j)) → Tallied cell from to S n G → Tallied cell from to S' n (less_at G (from + cell x))
    unfolding less_at
    tallied_minus x S S' n inside long shrinks c k h = go (ℕ_discrete k (cell x))
      where
        v : ℕ
        v = get_or G (from + cell x) 0

        go : Dec (k ≡ cell x) → get_or (set G (from + cell x) (v - 1)) (from + k) 0 ≡ tally cell S' n k
        go (yes e) =
            ap (λ (i : ℕ). get_or (set G (from + cell x) (v - 1)) (from + i) 0) e
            ∙ get_or-set_same G (from + cell x) (v - 1) 0 (omega arith)
            ∙ (let g = shrinks (cell x) in let o : one (eqb (cell x) (cell x)) ≡ 1 = ap one (eq-eqb (cell x) (cell x) refl) in omega (arith, g, o, c (cell x) inside))
            ∙ ap (tally cell S' n) (sym e)
        go (no d) =
            get_or-set_other G (from + cell x) (from + k) (v - 1) 0 (omega (arith, d))
            ∙ (let g = shrinks k in let o : one (eqb (cell x) k) ≡ 0 = ap one (ne_eqb (cell x) k (λ q. d (sym q))) in omega (arith, g, o, c k h))
