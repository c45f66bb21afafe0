-- Bytes cut at their tabs, and put together again. Assumes nothing.
use mathlib.Core.Path.{◌≡◌, refl, ap, ap₂, sym, ◌∙◌}
use mathlib.Core.Bool.{Bool, true, false}
use mathlib.Core.List.{List, [], ◌∷◌, ◌++◌, map, append-nil}
use Prim.Native.Nat.{ℕ}
use lib.Dec.{eqb}
use lib.IntN.{ℤ}
use borrow.Author.Tests.{eqb-true}
use Rattle.words.specs.Choice.{if_true◌then◌else◌}
use Rattle.words.specs.Lists.{any}
use Rattle.words.specs.Text.{tab}
use Rattle.numbers.specs.Decimal.{shown}
use Rattle.lines.specs.Reading.{onto_first, fields}
use Rattle.lines.specs.Writing.{tabbed}
use Rattle.lines.proofs.Tests.{neither}

abbrev pub is_tab : ℕ → Bool
is_tab b = eqb b tab

-- fields, each after a tab
unfoldable pub tails : List (List ℕ) → List ℕ
tails [] = []
tails (w ∷ ws) = tab ∷ (w ++ tails ws)

-- fields, parted by tabs
abbrev pub parted : List (List ℕ) → List ℕ
parted [] = []
parted (w ∷ ws) = w ++ tails ws

-- ---- put together again

-- there is a first field
pub record Cons (ws : List (List ℕ)) : Type 0 where
  pub first : List ℕ
  pub others : List (List ℕ)
  pub are : ws ≡ first ∷ others

onto_cons : (b : ℕ) (ws : List (List ℕ)) → Cons (onto_first b ws)
onto_cons b [] = record { first = b ∷ []; others = []; are = refl }
onto_cons b (w ∷ ws) = record { first = b ∷ w; others = ws; are = refl }

pub fields_cons : (s : List ℕ) → Cons (fields s)
unfolding fields
fields_cons [] = record { first = []; others = []; are = refl }
fields_cons (b ∷ s) = go (is_tab b)
  where
    go : (t : Bool) → Cons (if_true t then [] ∷ fields s else onto_first b (fields s))
    go true = record { first = []; others = fields s; are = refl }
    go false = onto_cons b (fields s)

tails_parted : (s : List ℕ) → tails (fields s) ≡ tab ∷ parted (fields s)
unfolding tails
tails_parted s = let c = fields_cons s in rw c.are

parted_onto : (b : ℕ) (ws : List (List ℕ)) → parted (onto_first b ws) ≡ b ∷ parted ws
unfolding tails
parted_onto b [] = refl
parted_onto b (w ∷ ws) = refl

pub parted_fields : (s : List ℕ) → parted (fields s) ≡ s
unfolding fields tails
parted_fields [] = refl
parted_fields (b ∷ s) = go (is_tab b) refl (parted_fields s)
  where
    go : (t : Bool) → is_tab b ≡ t → parted (fields s) ≡ s → parted (if_true t then [] ∷ fields s else onto_first b (fields s)) ≡ b ∷ s
    go true e ih = tails_parted s ∙ ap₂ (λ x y. x ∷ y) (sym (eqb-true b tab e)) ih
    go false e ih = parted_onto b (fields s) ∙ ap (λ x. b ∷ x) ih

-- ---- cut again

-- none of the fields has a tab inside
abbrev pub NoTabs : List (List ℕ) → Type 0
NoTabs [] = Unit
NoTabs (w ∷ ws) = (any is_tab w ≡ false) × NoTabs ws

one_field : (w : List ℕ) → any is_tab w ≡ false → fields w ≡ w ∷ []
unfolding fields
one_field [] a = refl
one_field (b ∷ w) a =
    let n = neither (is_tab b) (any is_tab w) a in
    rw n.0 (ap (onto_first b) (one_field w n.1))

field_then : (w s : List ℕ) → any is_tab w ≡ false → fields (w ++ tab ∷ s) ≡ w ∷ fields s
unfolding fields
field_then [] s a = refl
field_then (b ∷ w) s a =
    let n = neither (is_tab b) (any is_tab w) a in
    rw n.0 (ap (onto_first b) (field_then w s n.1))

pub fields_parted : (w : List ℕ) (ws : List (List ℕ)) → any is_tab w ≡ false → NoTabs ws → fields (parted (w ∷ ws)) ≡ w ∷ ws
unfolding tails
fields_parted w [] a b = rw append-nil (one_field w a)
fields_parted w (v ∷ ws) a b = field_then w (v ++ tails ws) a ∙ ap (λ x. w ∷ x) (fields_parted v ws b.0 b.1)

pub tabbed_tails : (ns : List ℤ) → tabbed ns ≡ tails (map shown ns)
unfolding tabbed tails
tabbed_tails [] = refl
tabbed_tails (n ∷ ns) = ap (λ x. tab ∷ (shown n ++ x)) (tabbed_tails ns)
