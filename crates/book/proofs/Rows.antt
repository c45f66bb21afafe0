-- Writing to one row of the book: what each row then holds. Assumes nothing.
use Rattle.std.proofs.Common.{◌≡◌, ℕ, ◌+◌, ◌*◌, ◌<◌, ◌≤◌, eqb, ◌⊎◌, List, [], ◌∷◌, length, refl, ap, ◌∙◌, ⊎_elim, arith, length-set, get_or-set_other, get_or-set_same, eq-eqb, ne_eqb}
use native.Mathlib.Decide.{ℕ_discrete}
use Rattle.words.specs.Choice.{if_true◌then◌else◌}
use Rattle.book.specs.Layout.{width, cell, put, Write, into, wrote, Stands}
use Rattle.book.specs.Threads.{Row}

-- a row, written one after another
abbrev pub after : Row → List Write → Row
after c [] = c
after c (into j v ∷ ws) = after (λ (k : ℕ). if_true eqb k j then v else c k) ws

-- each column that is written is one of those from lo to hi - 1
pub data Among (lo hi : ℕ) : List Write → Type 0 where
  none : Among lo hi []
  more : {j v : ℕ} {ws : List Write} → lo ≤ j → j < hi → Among lo hi ws → Among lo hi (into j v ∷ ws)

pub wider : {lo hi lo' hi' : ℕ} {ws : List Write} → lo' ≤ lo → hi ≤ hi' → Among lo hi ws → Among lo' hi' ws
wider a b none = none
wider a b (more {j = j} x y m) = more {j = j} (omega arith) (omega arith) (wider a b m)

pub after_ext : (ws : List Write) (c d : Row) (n : ℕ) → ((k : ℕ) → k < n → c k ≡ d k) → (k : ℕ) → k < n → after c ws k ≡ after d ws k
after_ext [] c d n h k l = h k l
after_ext (into j v ∷ ws) c d n h k l = after_ext ws _ _ n (λ i m. ap (λ (x : ℕ). if_true eqb i j then v else x) (h i m)) k l

-- a column that is not among them
pub after_apart : {lo hi : ℕ} {ws : List Write} (c : Row) (k : ℕ) → Among lo hi ws → (k < lo) ⊎ (hi ≤ k) → after c ws k ≡ c k
after_apart c k none h = refl
after_apart c k (more {j = j} {v = v} a b m) h =
    after_apart _ k m h ∙ rw (ne_eqb k j (λ e. ⊎_elim (λ x. absurd (omega arith)) (λ x. absurd (omega arith)) h))

-- ---- one number written
pub cell_put_same : (b : List ℕ) (t j v : ℕ) → t * width + j < length b → cell (put b t j v) t j ≡ v
unfolding cell put
cell_put_same b t j v h = get_or-set_same b (t * width + j) v 0 h

cell_put_other : (b : List ℕ) (t j v s k : ℕ) → (s * width + k ≡ t * width + j → ⊥) → cell (put b t j v) s k ≡ cell b s k
unfolding cell put
cell_put_other b t j v s k n = get_or-set_other b (t * width + j) (s * width + k) v 0 n

cell_put : (b : List ℕ) (t j v k : ℕ) → Stands b t → j < width → cell (put b t j v) t k ≡ (if_true eqb k j then v else cell b t k)
cell_put b t j v k h a = go (ℕ_discrete k j)
  where
    go : Dec (k ≡ j) → cell (put b t j v) t k ≡ (if_true eqb k j then v else cell b t k)
    go (yes e) = rw (e, eq-eqb j j refl) (cell_put_same b t j v (omega arith))
    go (no n) = rw (ne_eqb k j n) (cell_put_other b t j v t k (λ e. n (omega arith)))

length_put : (b : List ℕ) (t j v : ℕ) → length (put b t j v) ≡ length b
unfolding put
length_put b t j v = length-set b (t * width + j) v

-- ---- a row written
pub length_wrote : (ws : List Write) (b : List ℕ) (t : ℕ) → length (wrote b t ws) ≡ length b
unfolding wrote
length_wrote [] b t = refl
length_wrote (into j v ∷ ws) b t = length_wrote ws (put b t j v) t ∙ length_put b t j v

pub cell_wrote : {ws : List Write} (b : List ℕ) (t k : ℕ) → Among 0 width ws → Stands b t → k < width
    → cell (wrote b t ws) t k ≡ after (cell b t) ws k
unfolding wrote
cell_wrote b t k none h l = refl
cell_wrote b t k (more {j = j} {v = v} {ws = ws} x y m) h l =
    cell_wrote (put b t j v) t k m (omega (arith, length_put b t j v)) l
    ∙ after_ext ws (cell (put b t j v) t) _ width (λ i a. cell_put b t j v i h y) k l

pub cell_elsewhere : {ws : List Write} (b : List ℕ) (t s k : ℕ) → Among 0 width ws → (s ≡ t → ⊥) → k < width
    → cell (wrote b t ws) s k ≡ cell b s k
unfolding wrote
cell_elsewhere b t s k none n l = refl
cell_elsewhere b t s k (more {j = j} {v = v} {ws = ws} x y m) n l =
    cell_elsewhere (put b t j v) t s k m n l ∙ cell_put_other b t j v s k (λ e. n (omega arith))

-- a column that is not among those written, in any row
pub cell_apart : {lo hi : ℕ} {ws : List Write} (b : List ℕ) (t s k : ℕ) → Among lo hi ws → hi ≤ width → k < width → (k < lo) ⊎ (hi ≤ k)
    → cell (wrote b t ws) s k ≡ cell b s k
unfolding wrote
cell_apart b t s k none g l h = refl
cell_apart b t s k (more {j = j} {v = v} {ws = ws} x y m) g l h =
    cell_apart (put b t j v) t s k m g l h
    ∙ cell_put_other b t j v s k (λ e. ⊎_elim (λ z. absurd (omega arith)) (λ z. absurd (omega arith)) h)
