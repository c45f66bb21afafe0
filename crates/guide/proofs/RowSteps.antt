-- A row listed, step by step of the code: which rows want a place, a word with the row, and the guide with it. Assumes nothing.
use mathlib.Core.Path.{◌≡◌, sym, ap, ◌∙◌}
use mathlib.Core.Bool.{Bool, true, false, not, ◌||◌}
use mathlib.Core.List.{List}
use Rattle.std.specs.Prelude.{None, Some}
use Prim.Native.Nat.{ℕ, ◌≤◌, ◌<◌}
use native.Mathlib.Decide.{dec_lt}
use native.Mathlib.Omega.{arith}
use lib.Dec.{eqb}
use lib.ListN.{get_or, set}
use borrow.Author.Tests.{not-true, not-false}
use Rattle.rows.specs.Table.{Layout, Table, room}
use Rattle.rows.specs.View.{view}
use Rattle.rows.proofs.ViewLaws.{view_past}
use Rattle.guide.specs.Words.{lane, name_a, name_b, name_c, above, word_of, named}
use Rattle.guide.specs.Listing.{word_at, wants, with_row, with_listed}

module _ {A : Type 0} (L : Layout A) (T : Table) where
  low_room : room L T ≤ lane
  unfolding room
  low_room = omega arith

  -- a row that is told has a name
  pub row_low : (r : ℕ) (x : A) → get_or (view L T) r None ≡ Some x → r < lane
  row_low r x e = go (dec_lt r (room L T))
    where
      go : Dec (r < room L T) → r < lane
      go (yes l) = omega (arith, low_room)
      go (no l) =
          let past : get_or (view L T) r None ≡ None = view_past L T r (omega arith) in
          let z : ◌≡◌ {A = ℕ} 0 1 = cc in
          absurd (omega arith)

  module _ (first second : A → ℕ) where
    -- ---- a place wanted

    pub wants_some : (s r i j : ℕ) (x : A) → get_or (view L T) r None ≡ Some x → i ≡ first x → j ≡ second x → (eqb i s || eqb j s) ≡ wants L first second T s r
    unfolding wants
    wants_some s r i j x e ei ej = rw (e, ei, ej)

    pub wants_none : (s r : ℕ) → get_or (view L T) r None ≡ None → false ≡ wants L first second T s r
    unfolding wants
    wants_none s r e = rw e

    -- ---- a word with the row

    module _ (s w r a b c : ℕ) (ea : a ≡ name_a w) (eb : b ≡ name_b w) (ec : c ≡ name_c w) where
      free : (f : Bool) (k n : ℕ) → k ≡ n → f ≡ wants L first second T s k → not f ≡ true → wants L first second T s n ≡ false
      free f k n e ef h = sym (ef ∙ ap (wants L first second T s) e) ∙ not-true f h

      used : (f : Bool) (k n : ℕ) → k ≡ n → f ≡ wants L first second T s k → not f ≡ false → wants L first second T s n ≡ true
      used f k n e ef h = sym (ef ∙ ap (wants L first second T s) e) ∙ not-false f h

      module _ (f : Bool) (ef : f ≡ wants L first second T s a) where
        pub row_for_a : (t v : ℕ) → not f ≡ true → t ≡ above w → v ≡ word_of r b c t → v ≡ with_row L first second T s w r
        unfolding with_row
        row_for_a t v h et ev = ev ∙ rw (eb, ec, et, free f a (name_a w) ea ef h)

        module _ (h : not f ≡ false) (g : Bool) (eg : g ≡ wants L first second T s b) where
          pub row_for_b : (t v : ℕ) → not g ≡ true → t ≡ above w → v ≡ word_of a r c t → v ≡ with_row L first second T s w r
          unfolding with_row
          row_for_b t v k et ev = ev ∙ rw (ea, ec, et, used f a (name_a w) ea ef h, free g b (name_b w) eb eg k)

          module _ (k : not g ≡ false) (m : Bool) (em : m ≡ wants L first second T s c) where
            pub row_for_c : (t v : ℕ) → not m ≡ true → t ≡ above w → v ≡ word_of a b r t → v ≡ with_row L first second T s w r
            unfolding with_row
            row_for_c t v l et ev = ev ∙ rw (ea, eb, et, used f a (name_a w) ea ef h, used g b (name_b w) eb eg k, free m c (name_c w) ec em l)

            pub row_for_none : (v : ℕ) → not m ≡ false → v ≡ word_of a b c 1 → v ≡ with_row L first second T s w r
            unfolding with_row
            row_for_none v l ev = ev ∙ rw (ea, eb, ec, used f a (name_a w) ea ef h, used g b (name_b w) eb eg k, used m c (name_c w) ec em l)

    -- ---- the guide with it

    module _ (G H : List ℕ) (a b r u v : ℕ) (eu : u ≡ word_at G a) (ev : v ≡ with_row L first second T a u r) (eh : H ≡ set G a v) (m : Bool) (em : m ≡ named v r) where
      word_a : v ≡ with_row L first second T a (word_at G a) r
      word_a = ev ∙ ap (λ (w : ℕ). with_row L first second T a w r) eu

      guide_a : H ≡ set G a (with_row L first second T a (word_at G a) r)
      guide_a = eh ∙ ap (set G a) word_a

      named_a : named (with_row L first second T a (word_at G a) r) r ≡ m
      named_a = ap (λ (w : ℕ). named w r) (sym word_a) ∙ sym em

      pub listed_first : m ≡ true → H ≡ with_listed L first second T G a b r
      unfolding with_listed
      listed_first h = guide_a ∙ rw (named_a ∙ h)

      pub listed_second : m ≡ false → (I : List ℕ) (x y : ℕ) → x ≡ word_at H b → y ≡ with_row L first second T b x r → I ≡ set H b y → I ≡ with_listed L first second T G a b r
      unfolding with_listed
      listed_second h I x y ex ey ei = ei ∙ rw (ey, ex, guide_a, named_a ∙ h)

    pub listed_at : (G : List ℕ) (a b i j r : ℕ) → a ≡ i → b ≡ j → with_listed L first second T G a b r ≡ with_listed L first second T G i j r
    listed_at G a b i j r e f = cc
