-- A field at a place of a line: it runs to the next tab, and the next field begins past that. Assumes nothing.
use mathlib.Core.Path.{◌≡◌, refl, ap, ap₂, sym, ◌∙◌}
use mathlib.Core.Bool.{Bool, true, false}
use mathlib.Core.List.{List, [], ◌∷◌}
use Prim.Native.Nat.{ℕ, suc, ◌+◌, ◌≤◌, ◌<◌}
use native.Mathlib.Omega.{arith}
use native.Mathlib.Numerals.{add-one}
use lib.Dec.{leb, eqb, leb-suc-suc}
use lib.ListN.{length, drop, length-drop}
use lib.Seq.{drop-drop}
use borrow.Author.Tests.{le-leb, lt-leb, leb-true, leb-false}
use Rattle.words.specs.Choice.{if_true◌then◌else◌}
use Rattle.words.specs.Text.{tab}
use Rattle.numbers.specs.Reading.{until, field_at}
use Rattle.lines.specs.Reading.{onto_first, fields}
use Rattle.lines.specs.Gathered.{fields_from}

-- one test for another
same_test : (a b c d : ℕ) → (a ≤ b → c ≤ d) → (c ≤ d → a ≤ b) → leb a b ≡ leb c d
same_test a b c d f g = go (leb a b) refl
  where
    go : (t : Bool) → leb a b ≡ t → t ≡ leb c d
    go true e = sym (le-leb c d (f (leb-true a b e)))
    go false e =
        let n = leb-false a b e in
        let m : c ≤ d → ⊥ = λ h. let k = g h in omega arith in
        sym (lt-leb c d (omega arith))

until_le : (s : List ℕ) → length (until tab s) ≤ length s
unfolding until
until_le [] = omega arith
until_le (b ∷ s) = go (eqb b tab) (until_le s)
  where
    go : (t : Bool) → length (until tab s) ≤ length s → length (if_true t then [] else b ∷ until tab s) ≤ suc (length s)
    go true h = omega arith
    go false h = omega arith

shift : (b : ℕ) (s : List ℕ) (n : ℕ) → fields_from (b ∷ s) (suc n + 1) ≡ fields_from s (n + 1)
shift b s n = rw (add-one (suc n), add-one n) (ap (λ (t : Bool). if_true t then fields (drop (suc n) s) else []) (leb-suc-suc (suc n) (length s)))

-- the first field, and the fields after it
pub first_field : (s : List ℕ) → fields s ≡ until tab s ∷ fields_from s (length (until tab s) + 1)
unfolding fields until
first_field [] = refl
first_field (b ∷ s) = go (eqb b tab) (first_field s)
  where
    go : (t : Bool)
        → fields s ≡ until tab s ∷ fields_from s (length (until tab s) + 1)
        → (if_true t then [] ∷ fields s else onto_first b (fields s))
        ≡ (if_true t then [] else b ∷ until tab s) ∷ fields_from (b ∷ s) (length (if_true t then [] else b ∷ until tab s) + 1)
    go true ih = rw (le-leb 1 (suc (length s)) (omega arith))
    go false ih = rw ih (ap (λ (r : List (List ℕ)). (b ∷ until tab s) ∷ r) (sym (shift b s (length (until tab s)))))

module _ (s : List ℕ) (at : ℕ) (h : at ≤ length s) where
  pub field_fits : at + length (field_at s at tab) ≤ length s
  field_fits = let k = until_le (drop at s) in let l = length-drop at s in omega arith

  rest : fields_from (drop at s) (length (field_at s at tab) + 1) ≡ fields_from s (at + length (field_at s at tab) + 1)
  rest =
      let n = length (field_at s at tab) in
      let l = length-drop at s in
      let k : at + (n + 1) ≡ at + n + 1 = omega arith in
      ap₂ (λ (t : Bool) (x : List ℕ). if_true t then fields x else [])
      (same_test (n + 1) (length (drop at s)) (at + n + 1) (length s) (λ g. omega arith) (λ g. omega arith))
      (drop-drop (n + 1) at s ∙ ap (λ (i : ℕ). drop i s) k)

  pub next_field : fields_from s at ≡ field_at s at tab ∷ fields_from s (at + length (field_at s at tab) + 1)
  next_field = rw (le-leb at (length s) h) (first_field (drop at s) ∙ ap (λ (r : List (List ℕ)). field_at s at tab ∷ r) rest)

pub past_end : (s : List ℕ) (at : ℕ) → length s < at → fields_from s at ≡ []
past_end s at h = rw (lt-leb at (length s) h)
