-- Rows of k numbers in one list, for any k. Assumes nothing.
use mathlib.Core.Path.{◌≡◌, refl, sym, ap, ap₂, ◌∙◌}
use mathlib.Core.Logic.{◌⊎◌, inl, inr, ⊎_elim}
use mathlib.Core.List.{List, [], ◌∷◌, ◌++◌, append_assoc}
use Prim.Native.Nat.{ℕ, zero, suc, ◌+◌, ◌-◌, ◌*◌, ◌≤◌, ◌<◌}
use native.Mathlib.Nat.{mul-le-mul_right, suc-mul, add-zero, not-suc-le-zero}
use native.Mathlib.Decide.{dec_lt}
use native.Mathlib.Omega.{arith}
use lib.ListN.{length, get_or, set, take, drop, replicate, length-set, length-replicate}
use lib.Seq.{sets, sets-eq, get_or-set_same, get_or-set_other}
use borrow.Rule.Slice.PartMut.{mid_of, put_mid, mid_len, Post-is}
use Rattle.rows.specs.Table.{put_row}

-- what stands beside the numbers that are written is as it was
sets_out : (vs l : List ℕ) (i m d : ℕ) → (m < i) ⊎ (i + length vs ≤ m) → get_or (sets l i vs) m d ≡ get_or l m d
sets_out [] l i m d h = refl
sets_out (v ∷ vs) l i m d h =
    sets_out vs (set l i v) (suc i) m d (⊎_elim (λ a. inl (omega arith)) (λ a. inr (omega arith)) h)
    ∙ get_or-set_other l i m v d (λ e. ⊎_elim (λ a. absurd (omega arith)) (λ a. absurd (omega arith)) h)

-- and they are what was written
sets_in : (vs l : List ℕ) (i j d : ℕ) → i + length vs ≤ length l → j < length vs → get_or (sets l i vs) (i + j) d ≡ get_or vs j d
sets_in [] l i j d h k = absurd (not-suc-le-zero k)
sets_in (v ∷ vs) l i zero d h k =
    let a : i < length l = omega arith in
    ap (λ (m : ℕ). get_or (sets (set l i v) (suc i) vs) m d) (add-zero i)
    ∙ sets_out vs (set l i v) (suc i) i d (inl (omega arith)) ∙ get_or-set_same l i v d a
sets_in (v ∷ vs) l i (suc j) d h k =
    let a : i + suc j ≡ suc i + j = omega arith in
    ap (λ (m : ℕ). get_or (sets (set l i v) (suc i) vs) m d) a
    ∙ sets_in vs (set l i v) (suc i) j d (omega (arith, length-set l i v)) (omega arith)

module _ (k : ℕ) (vs : List ℕ) (long : length vs ≡ k) where
  pub cell_in : (l : List ℕ) (r j : ℕ) → r * k + k ≤ length l → j < k → get_or (sets l (r * k) vs) (r * k + j) 0 ≡ get_or vs j 0
  cell_in l r j h a = sets_in vs l (r * k) j 0 (omega arith) (omega arith)

  pub cell_out : (l : List ℕ) (r q j : ℕ) → (q ≡ r → ⊥) → j < k → get_or (sets l (r * k) vs) (q * k + j) 0 ≡ get_or l (q * k + j) 0
  cell_out l r q j n a = sets_out vs l (r * k) (q * k + j) 0 (go (dec_lt q r))
    where
      go : Dec (q < r) → (q * k + j < r * k) ⊎ (r * k + length vs ≤ q * k + j)
      go (yes b) = inl (omega (arith, mul-le-mul_right k b, suc-mul q k))
      go (no b) = let c : r < q = omega arith in inr (omega (arith, mul-le-mul_right k c, suc-mul r k))

-- row r of rows of k numbers, put back as zeros
pub zeros_back : (k r : ℕ) (rs vs : List ℕ) → r * k + k ≤ length rs → vs ≡ replicate (length (mid_of (r * k) (r * k + k - r * k) rs)) 0
    → put_mid (r * k) (r * k + k - r * k) rs vs ≡ put_row k rs r (replicate k 0)
unfolding put_row
zeros_back k r rs vs h e =
    let l : length (mid_of (r * k) (r * k + k - r * k) rs) ≡ k = omega (arith, mid_len (r * k) (r * k + k) rs h) in
    let n = length-replicate {A = ℕ} k 0 in
    ap₂ (λ (a b : List ℕ). take (r * k) rs ++ (a ++ b)) (e ∙ ap (λ (m : ℕ). replicate m 0) l) (Post-is (r * k) (r * k + k) rs (omega arith))
    ∙ sym (append_assoc (take (r * k) rs) (replicate k 0) (drop (r * k + k) rs))
    ∙ ap (λ (m : ℕ). take (r * k) rs ++ replicate k 0 ++ drop (r * k + m) rs) (sym n)
    ∙ sym (sets-eq (replicate k 0) rs (r * k) (omega (arith, n)))
