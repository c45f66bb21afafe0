-- A line by its length, its last byte, the letter alone, and the fields after it. Assumes nothing.
use mathlib.Core.Path.{◌≡◌, refl, ap, sym, ◌∙◌}
use mathlib.Core.Bool.{Bool, true, false, ◌||◌, true≢false, false≢true}
use mathlib.Core.List.{List, [], ◌∷◌}
use Rattle.std.specs.Prelude.{Option, None, Some}
use Prim.Native.Nat.{ℕ, suc, ◌-◌, ◌≤◌, ◌<◌}
use native.Mathlib.Omega.{arith}
use lib.Dec.{eqb, ltb}
use lib.IntN.{ℤ}
use lib.ListN.{length, get_or, take}
use borrow.Author.Tests.{le-leb, lt-ltb, le-ltb, eq-eqb, ne_eqb, eqb-true}
use Rattle.words.specs.Choice.{if_true◌then◌else◌}
use Rattle.words.specs.Text.{tab, line_feed}
use Rattle.lines.specs.Line.{longest}
use Rattle.lines.specs.Forms.{of_letter}
use Rattle.lines.specs.Reading.{refused, onto_first, fields, numbers, line_of, if_numbers, of_fields, read}
use Rattle.lines.specs.Gathered.{fields_from, letter_alone}
use Rattle.lines.proofs.Cut.{is_tab}
use Rattle.lines.proofs.Tests.{or_true}
use Rattle.lines.proofs.Formed.{no_count}

-- a tab is no letter
tab_two : (o : Option (List ℤ)) → if_numbers tab o ≡ refused 2
unfolding line_of of_letter
tab_two None = refl
tab_two (Some ns) = rw (no_count (length ns))

two_bytes : (b x : ℕ) (ws : List (List ℕ)) → of_fields (onto_first b (onto_first x ws)) ≡ refused 2
unfolding of_fields
two_bytes b x [] = refl
two_bytes b x (w ∷ ws) = refl

pub not_alone : (c : List ℕ) → letter_alone c ≡ false → of_fields (fields c) ≡ refused 2
unfolding fields of_fields
not_alone [] h = refl
not_alone (b ∷ []) h = absurd (true≢false h)
not_alone (b ∷ x ∷ s) h =
    let k : is_tab x ≡ false = rw (le-leb 2 (suc (suc (length s))) (omega arith)) at h in
    go (is_tab b) k
  where
    go : (t : Bool) → is_tab x ≡ false → of_fields (if_true t then [] ∷ fields (x ∷ s) else onto_first b (fields (x ∷ s))) ≡ refused 2
    go true k = refl
    go false k = rw k (two_bytes b x (fields s))

pub alone : (c : List ℕ) → letter_alone c ≡ true → of_fields (fields c) ≡ if_numbers (get_or c 0 0) (numbers (fields_from c 2))
unfolding fields of_fields
alone [] h = absurd (false≢true h)
alone (b ∷ []) h = go (is_tab b) refl
  where
    go : (t : Bool) → is_tab b ≡ t → of_fields (if_true t then [] ∷ [] ∷ [] else (b ∷ []) ∷ []) ≡ if_numbers b (numbers [])
    go true e = sym (ap (λ (x : ℕ). if_numbers x (numbers [])) (eqb-true b tab e) ∙ tab_two (numbers []))
    go false e = refl
alone (b ∷ x ∷ s) h =
    let l = le-leb 2 (suc (suc (length s))) (omega arith) in
    let k : is_tab x ≡ true = rw l at h in
    rw l (go (is_tab b) refl k)
  where
    go : (t : Bool) → is_tab b ≡ t → is_tab x ≡ true
        → of_fields (if_true t then [] ∷ fields (x ∷ s) else onto_first b (fields (x ∷ s))) ≡ if_numbers b (numbers (fields s))
    go true e k = sym (ap (λ (y : ℕ). if_numbers y (numbers (fields s))) (eqb-true b tab e) ∙ tab_two (numbers (fields s)))
    go false e k = rw k

pub alone_some : (c : List ℕ) → letter_alone c ≡ true → 0 < length c
alone_some [] h = absurd (false≢true h)
alone_some (b ∷ c) h = omega arith

-- ---- the whole line: how long it is, and its last byte

module _ (s : List ℕ) where
  pub read_empty : length s ≡ 0 → refused 1 ≡ read s
  unfolding read
  read_empty h = rw (eq-eqb (length s) 0 h)

  pub read_long : suc longest < length s → refused 1 ≡ read s
  unfolding read
  read_long h = rw (lt-ltb (suc longest) (length s) h, or_true (eqb (length s) 0))

  pub read_unended : (get_or s (length s - 1) 0 ≡ line_feed → ⊥) → refused 1 ≡ read s
  unfolding read
  read_unended h = rw (ne_eqb (get_or s (length s - 1) 0) line_feed h, or_true (eqb (length s) 0 || ltb (suc longest) (length s)))

  pub read_content : (length s ≡ 0 → ⊥) → length s ≤ suc longest → get_or s (length s - 1) 0 ≡ line_feed → of_fields (fields (take (length s - 1) s)) ≡ read s
  unfolding read
  read_content n l e =
      rw (ne_eqb (length s) 0 n, le-ltb (suc longest) (length s) l, eq-eqb (get_or s (length s - 1) 0) line_feed e)
