-- What comes next of the unread bytes, and all their pieces one after the other. Assumes nothing.
use Prim.Native.Nat.{ℕ, zero, suc, ◌+◌, ◌≤◌, ◌<◌}
use mathlib.Core.Path.{◌≡◌, refl, sym, ap, subst, ◌∙◌}
use mathlib.Core.Bool.{Bool, true, false}
use mathlib.Core.List.{List, ◌∷◌}
use native.Mathlib.Numerals.{add-one}
use native.Mathlib.Omega.{arith}
use lib.ListN.{length, take, drop, length-drop}
use Rattle.lines.specs.Line.{longest}
use Rattle.pieces.specs.declared.Next.{Next}
use Rattle.pieces.specs.Pieces.{before_lf, piece_length, next_by, next_of, cut_by, pieces_for, pieces_of}
use Rattle.pieces.proofs.FirstLf.{before_most}
use Rattle.pieces.proofs.Sizes.{size_some, size_none, piece_within, piece_none}

-- ---- as the code finds it

last_by : (k : ℕ) → (k ≡ 0 → ⊥) → Next.Line k ≡ next_by true 0 k
last_by zero some = absurd (some refl)
last_by (suc k) some = refl

module _ (s : List ℕ) (ended : Bool) (k : ℕ) (e : k ≡ before_lf s) where
  pub next_some : k < length s → Next.Line (k + 1) ≡ next_of ended s
  unfolding next_of
  next_some h =
      let n : suc k ≡ piece_length s = ap suc e ∙ size_some s (omega (arith, e)) in
      ap Next.Line (add-one k) ∙ ap (λ (n : ℕ). next_by ended n (length s)) n

  module _ (all : length s ≤ k) where
    none : 0 ≡ piece_length s
    none = size_none s (omega (arith, e))

    pub next_more : ended ≡ false → Next.More ≡ next_of ended s
    unfolding next_of
    next_more z i = next_by (sym z i) (none i) (length s)

    pub next_end : ended ≡ true → k ≡ 0 → Next.End ≡ next_of ended s
    unfolding next_of
    next_end t z = let n : 0 ≡ length s = omega arith in λ i. next_by (sym t i) (none i) (n i)

    pub next_last : ended ≡ true → (k ≡ 0 → ⊥) → Next.Line k ≡ next_of ended s
    unfolding next_of
    next_last t some =
        let n : k ≡ length s = omega (arith, e, before_most s) in
        last_by k some ∙ λ i. next_by (sym t i) (none i) (n i)

-- ---- what it tells

-- a piece, or what is left at the end; more is read only before it
pub data Comes (ended : Bool) (s : List ℕ) : Next → Type 0 where
  is_piece : (n : ℕ) → piece_length s ≡ suc n → Comes ended s (Next.Line (suc n))
  is_rest : (n : ℕ) → ended ≡ true → piece_length s ≡ 0 → length s ≡ suc n → Comes ended s (Next.Line (suc n))
  is_more : ended ≡ false → piece_length s ≡ 0 → Comes ended s Next.More
  is_end : ended ≡ true → length s ≡ 0 → Comes ended s Next.End

pub comes : (ended : Bool) (s : List ℕ) (x : Next) → next_of ended s ≡ x → Comes ended s x
unfolding next_of
comes ended s x h = subst (Comes ended s) h (go ended (piece_length s) (length s) refl refl refl)
  where
    go : (o : Bool) (p m : ℕ) → ended ≡ o → piece_length s ≡ p → length s ≡ m → Comes ended s (next_by o p m)
    go o (suc p) m t size all = is_piece p size
    go false zero m t size all = is_more t size
    go true zero zero t size all = is_end t all
    go true zero (suc m) t size all = is_rest m t size all

-- a line has a byte at least, and 225 at most
pub record LineNext (s : List ℕ) (n : ℕ) : Type 0 where
  pub some : 0 < n
  pub within : n ≤ length s
  pub short : n ≤ suc longest

pub line_next : (ended : Bool) (s : List ℕ) (n : ℕ) → next_of ended s ≡ Next.Line n → LineNext s n
line_next ended s n h = go n (comes ended s (Next.Line n) h)
  where
    go : (n : ℕ) → Comes ended s (Next.Line n) → LineNext s n
    go _ (is_piece p size) = record { some = omega arith; within = omega (arith, piece_within s); short = omega (arith, piece_within s) }
    go _ (is_rest m t size all) = record { some = omega arith; within = omega arith; short = omega (arith, piece_none s size) }

-- more is read only where at most 224 bytes are unread
pub more_next : (ended : Bool) (s : List ℕ) → next_of ended s ≡ Next.More → (ended ≡ false) × (length s ≤ longest)
more_next ended s h = go (comes ended s Next.More h)
  where
    go : Comes ended s Next.More → (ended ≡ false) × (length s ≤ longest)
    go (is_more t size) = (t, (piece_none s size).0)

pub end_next : (ended : Bool) (s : List ℕ) → next_of ended s ≡ Next.End → (ended ≡ true) × (length s ≡ 0)
end_next ended s h = go (comes ended s Next.End h)
  where
    go : Comes ended s Next.End → (ended ≡ true) × (length s ≡ 0)
    go (is_end t all) = (t, all)

-- ---- all pieces

module _ (ended : Bool) where
  -- what holds before the last piece, and of bytes with a piece more, holds of all
  pub by_pieces : (P : List ℕ → Type 0) → ((s : List ℕ) → next_of ended s ≡ Next.More → P s) → ((s : List ℕ) → next_of ended s ≡ Next.End → P s)
      → ((s : List ℕ) (n : ℕ) → next_of ended s ≡ Next.Line n → P (drop n s) → P s) → (s : List ℕ) → P s
  by_pieces P more end line s = go (suc (length s)) s (omega arith)
    where
      on : (s : List ℕ) → ((n : ℕ) → LineNext s n → P (drop n s)) → (x : Next) → next_of ended s ≡ x → P s
      on s rest Next.More q = more s q
      on s rest Next.End q = end s q
      on s rest (Next.Line n) q = line s n q (rest n (line_next ended s n q))

      go : (k : ℕ) (s : List ℕ) → length s < k → P s
      go zero s h = absurd (omega arith)
      go (suc k) s h = on s (λ n l. go k (drop n s) (omega (arith, length-drop n s, l.some, l.within))) (next_of ended s) refl

  -- however many may be cut, where there are as many as bytes
  cut_for : (s : List ℕ) (k : ℕ) → length s ≤ k → pieces_for k ended s ≡ cut_by (next_of ended s) s (pieces_of ended)
  unfolding pieces_for pieces_of
  cut_for = by_pieces (λ s. (k : ℕ) → length s ≤ k → pieces_for k ended s ≡ cut_by (next_of ended s) s (pieces_of ended))
      (λ s q k h. none k s q)
      (λ s q k h. none_at_end k s q)
      (λ s n q rest k h. one k s n q rest h)
    where
      none : (k : ℕ) (s : List ℕ) → next_of ended s ≡ Next.More → pieces_for k ended s ≡ cut_by (next_of ended s) s (pieces_of ended)
      none zero s q = rw q
      none (suc k) s q = rw q

      none_at_end : (k : ℕ) (s : List ℕ) → next_of ended s ≡ Next.End → pieces_for k ended s ≡ cut_by (next_of ended s) s (pieces_of ended)
      none_at_end zero s q = rw q
      none_at_end (suc k) s q = rw q

      one : (k : ℕ) (s : List ℕ) (n : ℕ) → next_of ended s ≡ Next.Line n
          → ((k : ℕ) → length (drop n s) ≤ k → pieces_for k ended (drop n s) ≡ cut_by (next_of ended (drop n s)) (drop n s) (pieces_of ended))
          → length s ≤ k → pieces_for k ended s ≡ cut_by (next_of ended s) s (pieces_of ended)
      one zero s n q rest h = let l = line_next ended s n q in absurd (omega arith)
      one (suc k) s n q rest h =
          let l = line_next ended s n q in
          rw q (ap (λ (x : List (List ℕ)). take n s ∷ x)
          (rest k (omega (arith, length-drop n s)) ∙ sym (rest (length (drop n s)) (omega arith))))

  pub pieces_next : (s : List ℕ) (x : Next) → next_of ended s ≡ x → pieces_of ended s ≡ cut_by x s (pieces_of ended)
  unfolding pieces_of
  pieces_next s x h = cut_for s (length s) (omega arith) ∙ ap (λ (x : Next). cut_by x s (pieces_of ended)) h
