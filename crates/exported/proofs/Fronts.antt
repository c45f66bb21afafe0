-- Findings put one behind another stand at the front. Assumes nothing.
use Prim.Native.Nat.{ℕ, suc, ◌+◌, ◌*◌, ◌≤◌, ◌<◌}
use mathlib.Core.Path.{◌≡◌, refl, sym, ap, ap₂, ◌∙◌}
use mathlib.Core.List.{List, [], ◌∷◌, ◌++◌}
use native.Mathlib.Omega.{arith}
use native.Mathlib.Numerals.{add-one}
use lib.ListN.{length, take, drop, get_or, length-append, length-drop}
use lib.Seq.{sets, sets-eq, take-suc, take_at, drop-drop, drop-append-add, length-take-le}
use Rattle.words.specs.Lists.{joined}
use Rattle.history.specs.declared.Finding.{Finding}
use Rattle.exported.specs.Told.{numbers, numbers_of, over, in_front, put_at}

length_numbers : (fs : List Finding) → length (joined fs numbers_of) ≡ length fs * numbers
length_numbers [] = refl
length_numbers (f ∷ fs) = omega (arith, length-append (numbers_of f) (joined fs numbers_of), length_numbers fs)

joined_append : (fs : List Finding) (f : Finding) → joined (fs ++ (f ∷ [])) numbers_of ≡ joined fs numbers_of ++ numbers_of f
joined_append [] f = refl
joined_append (g ∷ fs) f = ap (λ (l : List ℕ). numbers_of g ++ l) (joined_append fs f)

-- numbers behind others, over what stood there
over_next : (p ns vs : List ℕ) → length p + length vs ≤ length ns
    → sets (over p ns) (length p) vs ≡ over (p ++ vs) ns
over_next p ns vs h =
    sets-eq vs (over p ns) (length p) (simp (length-append, length-drop) (omega arith))
    ∙ ap₂ (λ (a b : List ℕ). (a ++ vs) ++ b) (take_at p (drop (length p) ns) (length p) refl)
    (drop-append-add p (drop (length p) ns) (length vs) ∙ drop-drop (length vs) (length p) ns ∙ ap (λ (n : ℕ). drop n ns) (sym (length-append p vs)))

pub none_put : (fs : List Finding) (ns : List ℕ) → ns ≡ in_front (take 0 fs) ns
unfolding in_front
none_put fs ns = refl

module _ (fs : List Finding) (ns : List ℕ) (at : ℕ) (d : Finding) (inside : at < length fs) (room : at * numbers + numbers ≤ length ns) where
  abbrev there : List ℕ
  there = joined (take at fs) numbers_of

  length_there : length there ≡ at * numbers
  length_there = length_numbers (take at fs) ∙ ap (λ (n : ℕ). n * numbers) (length-take-le at fs (omega arith))

  one_more : joined (take (suc at) fs) numbers_of ≡ there ++ numbers_of (get_or fs at d)
  one_more = ap (λ (l : List Finding). joined l numbers_of) (take-suc fs at d inside) ∙ joined_append (take at fs) (get_or fs at d)

  put_next : put_at (in_front (take at fs) ns) at (get_or fs at d) ≡ in_front (take (suc at) fs) ns
  unfolding put_at in_front
  put_next = rw (one_more, ← length_there) (over_next there ns (numbers_of (get_or fs at d)) (omega (arith, length_there)))

  pub next_put : {l l' : List ℕ} → l ≡ in_front (take at fs) ns → l' ≡ put_at l at (get_or fs at d) → l' ≡ in_front (take (at + 1) fs) ns
  next_put e h = h ∙ ap (λ (l : List ℕ). put_at l at (get_or fs at d)) e ∙ put_next ∙ ap (λ (n : ℕ). in_front (take n fs) ns) (sym (add-one at))

pub all_put : {l : List ℕ} (fs : List Finding) (ns : List ℕ) (at n : ℕ) → at ≡ n → l ≡ in_front (take at fs) ns → l ≡ in_front (take n fs) ns
all_put fs ns at n e h = h ∙ ap (λ (m : ℕ). in_front (take m fs) ns) e
