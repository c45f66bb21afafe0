-- The lowest row that passes of those that words name: by three looks, by six, or by a look at all rows. Assumes nothing.
use mathlib.Core.Path.{◌≡◌, refl, sym, ap, ap₂, ◌∙◌}
use mathlib.Core.Bool.{Bool, true, false, not, ◌&&◌, ◌||◌}
use mathlib.Core.List.{List}
use Rattle.std.specs.Prelude.{Option, None, Some, unwrap_or}
use Prim.Native.Nat.{ℕ, ◌-◌, ◌≤◌, ◌<◌, min}
use native.Mathlib.Omega.{arith}
use lib.Dec.{eqb}
use lib.ListN.{length, get_or, get_or-eq_default}
use borrow.Author.Tests.{not-true, not-false}
use Rattle.words.specs.Choice.{if_true◌then◌else◌}
use Rattle.rows.specs.Scan.{lowest}
use Rattle.rows.specs.Slots.{holding}
use Rattle.rows.specs.Table.{Layout, Table, room, found}
use Rattle.rows.specs.View.{slot, view}
use Rattle.rows.proofs.ScanLaws.{lowest_le, lowest_ext}
use Rattle.rows.proofs.ViewLaws.{passes_slot, view_at, view_past}
use Rattle.guide.specs.Words.{full_word, name_a, name_b, name_c, is_full, named}
use Rattle.guide.specs.Listing.{word_at, lists, found_by}
use Rattle.guide.proofs.Lowest.{lowest_or, lowest_one}

-- ---- one row, from what stands in its slot

module _ {A : Type 0} (q : A → Bool) (o : Option A) (x : A) (r n : ℕ) (e : o ≡ Some x) where
  pub row_that : q x ≡ true → r ≡ (if_true holding q o then r else n)
  row_that h = rw (e, h)

  pub row_other : q x ≡ false → n ≡ (if_true holding q o then r else n)
  row_other h = rw (e, h)

pub row_none : {A : Type 0} (q : A → Bool) (o : Option A) (r n : ℕ) → o ≡ None → n ≡ (if_true holding q o then r else n)
row_none q o r n e = rw e

each_of : (h a b c : Bool) → (h && ((a || b) || c)) ≡ (((h && a) || (h && b)) || (h && c))
each_of true a b c = refl
each_of false a b c = refl

module _ {A : Type 0} (L : Layout A) (q : A → Bool) (T : Table) where
  abbrev test : ℕ → Bool
  test k = holding q (slot L T k)

  -- row r where it passes, or the room
  abbrev one : ℕ → ℕ
  one r = lowest (λ k. holding q (slot L T k) && eqb r k) (room L T)

  -- the lowest of one word
  abbrev low : ℕ → ℕ
  low w = lowest (λ k. holding q (slot L T k) && named w k) (room L T)

  -- ---- three looks

  one_row : (r : ℕ) → (if_true holding q (get_or (view L T) r None) then r else room L T) ≡ one r
  one_row r =
      sym
      (lowest_one test (room L T) r (holding q (get_or (view L T) r None)) (λ l. ap (holding q) (view_at L T r l)) (λ l. ap (holding q) (view_past L T r l)))

  three_rows : (w : ℕ) → min (min (one (name_a w)) (one (name_b w))) (one (name_c w)) ≡ low w
  unfolding named
  three_rows w =
      ap (λ (m : ℕ). min m (one (name_c w))) (sym (lowest_or (λ k. test k && eqb (name_a w) k) (λ k. test k && eqb (name_b w) k) (room L T)))
      ∙ sym (lowest_or (λ k. (test k && eqb (name_a w) k) || (test k && eqb (name_b w) k)) (λ k. test k && eqb (name_c w) k) (room L T))
      ∙ lowest_ext _ _ (room L T) (λ k l. sym (each_of (test k) (eqb (name_a w) k) (eqb (name_b w) k) (eqb (name_c w) k)))

  look : (n a x r : ℕ) → n ≡ room L T → a ≡ r → x ≡ (if_true holding q (get_or (view L T) a None) then a else n) → x ≡ one r
  look n a x r en ea ex = ex ∙ rw (en, ea) (one_row r)

  pub named_row_is : (w n a x b y c z m r : ℕ) → n ≡ room L T
      → a ≡ name_a w → x ≡ (if_true holding q (get_or (view L T) a None) then a else n)
      → b ≡ name_b w → y ≡ (if_true holding q (get_or (view L T) b None) then b else n)
      → c ≡ name_c w → z ≡ (if_true holding q (get_or (view L T) c None) then c else n)
      → m ≡ min x y → r ≡ min m z → r ≡ low w
  named_row_is w n a x b y c z m r en ea ex eb ey ec ez em er =
      er ∙ ap (λ (i : ℕ). min i z) em
      ∙ rw (look n a x (name_a w) en ea ex, look n b y (name_b w) en eb ey, look n c z (name_c w) en ec ez) (three_rows w)

  -- ---- the first place, both, or all rows

  module _ (G : List ℕ) (a b : ℕ) where
    open_first : is_full (word_at G a) ≡ false → found_by L G a b q T ≡ low (word_at G a)
    unfolding found_by lists
    open_first e = lowest_ext _ _ (room L T) (λ k l. rw e (ap (◌&&◌ (test k)) (or_false (named (word_at G a) k))))
      where
        or_false : (x : Bool) → (x || false) ≡ x
        or_false true = refl
        or_false false = refl

    open_second : is_full (word_at G a) ≡ true → is_full (word_at G b) ≡ false → found_by L G a b q T ≡ min (low (word_at G a)) (low (word_at G b))
    unfolding found_by lists
    open_second e f =
        lowest_ext _ _ (room L T) (λ k l. rw (e, f) (either (test k) (named (word_at G a) k) (named (word_at G b) k)))
        ∙ lowest_or (λ k. test k && named (word_at G a) k) (λ k. test k && named (word_at G b) k) (room L T)
      where
        either : (h x y : Bool) → (h && (x || (true && (y || false)))) ≡ ((h && x) || (h && y))
        either true x true = refl
        either true x false = refl
        either false x y = refl

    both_full : is_full (word_at G a) ≡ true → is_full (word_at G b) ≡ true → found_by L G a b q T ≡ found L q T
    unfolding found_by found lists
    both_full e f = lowest_ext _ _ (room L T) (λ k l. rw (e, f) (all (test k) (named (word_at G a) k) (named (word_at G b) k)) ∙ sym (passes_slot L q T k))
      where
        all : (h x y : Bool) → (h && (x || (true && (y || true)))) ≡ h
        all true true y = refl
        all true false true = refl
        all true false false = refl
        all false x y = refl

    -- without words every place is full
    full_past : (s : ℕ) → length G ≡ 0 → is_full (word_at G s) ≡ true
    unfolding word_at is_full
    full_past s e = rw (get_or-eq_default G full_word {n = s} (omega (arith, e))) refl

    pub found_unguided : length G ≡ 0 → found_by L G a b q T ≡ found L q T
    found_unguided e = both_full (full_past a e) (full_past b e)

    pub found_scanned : (r : ℕ) → r ≡ found L q T → length G ≡ 0 → r ≡ found_by L G a b q T
    found_scanned r er e = er ∙ sym (found_unguided e)

    -- ---- one place after the other: so many are left, the next is s, and `best` is the lowest row that those before it name
    pub data Looks (left s best : ℕ) : Type 0 where
      at_first_place : left ≡ 2 → s ≡ a → best ≡ room L T → Looks left s best
      at_second_place : left ≡ 1 → s ≡ b → is_full (word_at G a) ≡ true → best ≡ low (word_at G a) → Looks left s best
      at_none : left ≡ 0 → is_full (word_at G a) ≡ true → is_full (word_at G b) ≡ true → Looks left s best

    low_least : (w : ℕ) → min (room L T) (low w) ≡ low w
    low_least w = omega (arith, lowest_le (λ k. test k && named w k) (room L T))

    module _ (left s best w r m : ℕ) (f : Bool) (ew : w ≡ word_at G s) (er : r ≡ low w) (em : m ≡ min best r) (ef : f ≡ is_full w) where
      pub found_open : Looks left s best → 0 < left → not f ≡ true → m ≡ found_by L G a b q T
      found_open (at_first_place n es eb) l h =
          em ∙ ap₂ min eb er ∙ low_least w ∙ ap low (ew ∙ ap (word_at G) es) ∙ sym (open_first (sym (ef ∙ ap is_full (ew ∙ ap (word_at G) es)) ∙ not-true f h))
      found_open (at_second_place n es full eb) l h =
          em ∙ ap₂ min eb (er ∙ ap low (ew ∙ ap (word_at G) es)) ∙ sym (open_second full (sym (ef ∙ ap is_full (ew ∙ ap (word_at G) es)) ∙ not-true f h))
      found_open (at_none n x y) l h = absurd (omega (arith, n, l))

      pub looks_on : (s' k : ℕ) → Looks left s best → 0 < left → not f ≡ false → s' ≡ b → k ≡ left - 1 → Looks k s' m
      looks_on s' k (at_first_place n es eb) l h e u =
          let its : w ≡ word_at G a = ew ∙ ap (word_at G) es in
          at_second_place (omega (arith, n, u)) e (sym (ef ∙ ap is_full its) ∙ not-false f h) (em ∙ ap₂ min eb er ∙ low_least w ∙ ap low its)
      looks_on s' k (at_second_place n es full eb) l h e u = at_none (omega (arith, n, u)) full (sym (ef ∙ ap is_full (ew ∙ ap (word_at G) es)) ∙ not-false f h)
      looks_on s' k (at_none n x y) l h e u = absurd (omega (arith, n, l))

    pub found_none : (left s best r : ℕ) → Looks left s best → left ≤ 0 → r ≡ found L q T → r ≡ found_by L G a b q T
    found_none left s best r (at_first_place n es eb) l e = absurd (omega (arith, n, l))
    found_none left s best r (at_second_place n es full eb) l e = absurd (omega (arith, n, l))
    found_none left s best r (at_none n x y) l e = e ∙ sym (both_full x y)

    -- what the looks tell: a row, or that all rows are to be looked at
    pub told_some : (i j r : ℕ) (o : Option ℕ) → a ≡ i → b ≡ j → o ≡ Some r → unwrap_or o (found L q T) ≡ found_by L G a b q T → r ≡ found_by L G i j q T
    told_some i j r o ea eb e h = sym (ap (λ (z : Option ℕ). unwrap_or z (found L q T)) e) ∙ h ∙ ap₂ (λ (x y : ℕ). found_by L G x y q T) ea eb

    pub told_none : (i j r : ℕ) (o : Option ℕ) → a ≡ i → b ≡ j → o ≡ None → unwrap_or o (found L q T) ≡ found_by L G a b q T → r ≡ found L q T
        → r ≡ found_by L G i j q T
    told_none i j r o ea eb e h f = f ∙ sym (ap (λ (z : Option ℕ). unwrap_or z (found L q T)) e) ∙ h ∙ ap₂ (λ (x y : ℕ). found_by L G x y q T) ea eb
