-- Rows taken for handles, one after another.
use Prim.Native.Nat.{ℕ, ◌+◌, ◌≤◌, ◌<◌}
use mathlib.Core.Path.{◌≡◌, refl, sym, ap, ap₂, ◌∙◌}
use mathlib.Core.List.{List, [], ◌∷◌, map}
use native.Mathlib.Numerals.{add-one}
use lib.ListN.{length, get_or, drop, drop_of_length-le}
use lib.Seq.{drop-cons}
use Rattle.facts.specs.Classes.{no_class}
use Rattle.rows.specs.Table.{Table, taken}
use Rattle.rows.specs.References.{references}
use Rattle.rows.specs.declared.references.Reference.{Reference}
use Rattle.history.specs.Handles.{local}
use Rattle.tables.specs.Tables.{reference_of}
use Rattle.tables.specs.Acting.{all_taken}
use Rattle.act.specs.Rows.{locals}

-- rows for the handles from place i on come to rows for all of them
unfoldable pub Rest : Table → Table → ℕ → ℕ → ℕ → List ℕ → ℕ → Type 0
Rest T S line t d hs i = all_taken references S (locals line t d (drop i hs)) ≡ all_taken references T (locals line t d hs)

module _ (T : Table) (line t d : ℕ) (hs : List ℕ) where
  pub rest_first : Rest T T line t d hs 0
  unfolding Rest
  rest_first = refl

  pub rest_next : (S S' : Table) (i : ℕ) → i < length hs → Rest T S line t d hs i → S' ≡ taken references S (record { thread = t; handle = get_or hs i 0; frame = d; line = line; class = no_class })
      → Rest T S' line t d hs (i + 1)
  unfolding Rest all_taken
  rest_next S S' i h e k =
      ap₂ (λ (X : Table) (j : ℕ). all_taken references X (locals line t d (drop j hs))) k (add-one i)
      ∙ sym (ap (λ (l : List ℕ). all_taken references S (locals line t d l)) (drop-cons hs i 0 h))
      ∙ e

  pub rest_last : (S : Table) (i : ℕ) → length hs ≤ i → Rest T S line t d hs i → S ≡ all_taken references T (locals line t d hs)
  unfolding Rest all_taken
  rest_last S i h e = sym (ap (λ (l : List ℕ). all_taken references S (locals line t d l)) (drop_of_length-le hs h)) ∙ e

-- the rows of locals
pub rows_of_locals : (line t d : ℕ) (hs : List ℕ) → locals line t d hs ≡ map (reference_of line no_class) (map (local t d) hs)
rows_of_locals line t d [] = refl
rows_of_locals line t d (h ∷ hs) = ap (λ (l : List Reference). record { thread = t; handle = h; frame = d; line = line; class = no_class } ∷ l) (rows_of_locals line t d hs)
