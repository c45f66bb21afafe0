-- What holds of every form holds of the form of each letter. Assumes nothing.
use mathlib.Core.Path.{◌≡◌, refl, sym}
use mathlib.Core.Bool.{Bool, true, false}
use mathlib.Core.List.{List, [], ◌∷◌}
use Prim.Native.Nat.{ℕ, zero, suc, ◌≤◌}
use native.Mathlib.Omega.{arith}
use lib.Dec.{eqb, leb, ltb}
use borrow.Author.Tests.{eqb-true, le-leb, lt-leb, leb-true, ltb-false}
use Rattle.words.specs.Choice.{if_true◌then◌else◌, within}
use Rattle.words.specs.Lists.{any}
use Rattle.lines.specs.Forms.{Form, forms, no_form, of_letter, form_of, most_fields}
use Rattle.lines.proofs.Tests.{both, neither, and_false}

pub within_low : (lo hi n : ℕ) → within lo hi n ≡ true → lo ≤ n
within_low lo hi n h = leb-true lo n (both (leb lo n) (leb n hi) h).0

pub within_high : (lo hi n : ℕ) → within lo hi n ≡ true → n ≤ hi
within_high lo hi n h = leb-true n hi (both (leb lo n) (leb n hi) h).1

pub is_within : (lo hi n : ℕ) → lo ≤ n → n ≤ hi → within lo hi n ≡ true
is_within lo hi n l h = rw (le-leb lo n l, le-leb n hi h)

-- as many as must be, and no more may be
pub within_one : (k n : ℕ) → within k k n ≡ true → n ≡ k
within_one k n h = let a = within_low k k n h in let b = within_high k k n h in omega arith

-- no count is right where the least is over the most
pub no_count : (n : ℕ) → within 1 0 n ≡ false
no_count zero = refl
no_count (suc n) = rw (lt-leb (suc n) 0 (omega arith)) (and_false (leb 1 (suc n)))

abbrev pub EachForm : (Form → Type 0) → List Form → Type 0
EachForm P [] = Unit
EachForm P (f ∷ fs) = P f × EachForm P fs

in_each : (P : Form → Type 0) (fs : List Form) → EachForm P fs → (b : ℕ) → P (no_form b) → P (of_letter b fs)
unfolding of_letter
in_each P [] h b other = other
in_each P (f ∷ fs) h b other = go (eqb b f.letter) (in_each P fs h.1 b other)
  where
    go : (t : Bool) → P (of_letter b fs) → P (if_true t then f else of_letter b fs)
    go true rest = h.0
    go false rest = rest

pub of_each : (P : Form → Type 0) (fs : List Form) → EachForm P fs → ((b : ℕ) → P (no_form b)) → (b : ℕ) → P (of_letter b fs)
of_each P fs h other b = in_each P fs h b (other b)

letter_in : (b : ℕ) (fs : List Form) → (of_letter b fs).letter ≡ b
unfolding of_letter
letter_in b [] = refl
letter_in b (f ∷ fs) = go (eqb b f.letter) refl (letter_in b fs)
  where
    go : (t : Bool) → eqb b f.letter ≡ t → (of_letter b fs).letter ≡ b → (if_true t then f else of_letter b fs).letter ≡ b
    go true e rest = sym (eqb-true b f.letter e)
    go false e rest = rest

pub letter_is : (b : ℕ) → (form_of b).letter ≡ b
letter_is b = letter_in b forms

-- no letter has more numbers than the most: one computed test over the table
few_in : (b : ℕ) (fs : List Form) → any (λ (f : Form). ltb most_fields f.most) fs ≡ false → (of_letter b fs).most ≤ most_fields
unfolding of_letter
few_in b [] h = omega arith
few_in b (f ∷ fs) h =
    let k = neither (ltb most_fields f.most) (any (λ (f : Form). ltb most_fields f.most) fs) h in
    go (eqb b f.letter) (ltb-false most_fields f.most k.0) (few_in b fs k.1)
  where
    go : (t : Bool) → f.most ≤ most_fields → (of_letter b fs).most ≤ most_fields → (if_true t then f else of_letter b fs).most ≤ most_fields
    go true l rest = l
    go false l rest = rest

pub most_few : (b : ℕ) → (form_of b).most ≤ most_fields
most_few b = few_in b forms refl
