-- A guide lists each used row: what is found by it is what a look at all rows finds, and one row more is listed too. Assumes nothing.
use mathlib.Core.Path.{◌≡◌, refl, sym, ap, subst, ◌∙◌}
use mathlib.Core.Bool.{Bool, true, false, ◌&&◌, ◌||◌, false≢true}
use mathlib.Core.List.{List}
use Rattle.std.specs.Prelude.{Option, None, Some}
use Prim.Native.Nat.{ℕ, ◌≤◌, ◌<◌}
use native.Mathlib.Decide.{ℕ_discrete}
use native.Mathlib.Omega.{arith}
use lib.Dec.{eqb}
use lib.ListN.{length, get_or, set, length-set}
use lib.Seq.{get_or-set_same, get_or-set_other}
use borrow.Author.Tests.{eq-eqb, ne_eqb, le-leb, leb-true}
use Rattle.rows.specs.Slots.{holding}
use Rattle.rows.specs.Table.{Layout, Table, room, passes, found}
use Rattle.rows.specs.View.{slot, view}
use Rattle.rows.proofs.ScanLaws.{lowest_ext}
use Rattle.rows.proofs.ViewLaws.{passes_slot}
use Rattle.guide.specs.Words.{lane, full_word, name_a, name_b, name_c, above, is_full, word_of, named}
use Rattle.guide.specs.Listing.{word_at, lists, found_by, wants, with_row, put_row_at, with_listed, Listed}
use Rattle.guide.proofs.WordLaws.{named_is}
use Rattle.guide.proofs.Changes.{some_inj, Added}

low_a : (w : ℕ) → name_a w < lane
low_a w = omega arith

low_b : (w : ℕ) → name_b w < lane
low_b w = omega arith

low_c : (w : ℕ) → name_c w < lane
low_c w = omega arith

-- ---- one word more, less or other

word_same : (G : List ℕ) (s w : ℕ) → s < length G → word_at (set G s w) s ≡ w
unfolding word_at
word_same G s w h = get_or-set_same G s w full_word h

word_other : (G : List ℕ) (s w j : ℕ) → (j ≡ s → ⊥) → word_at (set G s w) j ≡ word_at G j
unfolding word_at
word_other G s w j n = get_or-set_other G s j w full_word n

-- a word that names as much and is full where the other was
record Covers (k v w : ℕ) : Type 0 where
  names : named v k ≡ true → named w k ≡ true
  fulls : is_full v ≡ true → is_full w ≡ true

covers_then : {k u v w : ℕ} → Covers k u v → Covers k v w → Covers k u w
covers_then p q = record { names = λ h. q.names (p.names h); fulls = λ h. q.fulls (p.fulls h) }

lists_kept : (G H : List ℕ) (a b k : ℕ) → Covers k (word_at G a) (word_at H a) → Covers k (word_at G b) (word_at H b) → lists G a b k ≡ true → lists H a b k ≡ true
unfolding lists
lists_kept G H a b k p q h = go (named (word_at G a) k) (is_full (word_at G a)) (named (word_at G b) k) (is_full (word_at G b)) p.names p.fulls q.names q.fulls h
  where
    go : (m f n g : Bool) → (m ≡ true → named (word_at H a) k ≡ true) → (f ≡ true → is_full (word_at H a) ≡ true) → (n ≡ true → named (word_at H b) k ≡ true)
        → (g ≡ true → is_full (word_at H b) ≡ true) → (m || (f && (n || g))) ≡ true
        → (named (word_at H a) k || (is_full (word_at H a) && (named (word_at H b) k || is_full (word_at H b)))) ≡ true
    go true f n g pm pf pn pg e = rw (pm refl) refl
    go false true true g pm pf pn pg e = rw (pf refl, pn refl) (or_true (named (word_at H a) k))
      where
        or_true : (x : Bool) → (x || true) ≡ true
        or_true true = refl
        or_true false = refl
    go false true false true pm pf pn pg e = rw (pf refl, pg refl) (both (named (word_at H a) k) (named (word_at H b) k))
      where
        both : (x y : Bool) → (x || (y || true)) ≡ true
        both true y = refl
        both false true = refl
        both false false = refl
    go false true false false pm pf pn pg e = absurd (false≢true e)
    go false false n g pm pf pn pg e = absurd (false≢true e)

module _ {A : Type 0} (L : Layout A) where
  -- ---- what is found

  -- all that passes is listed at a or b
  pub found_by_is : (first second : A → ℕ) (q : A → Bool) (T : Table) (G : List ℕ) (a b : ℕ) → ((x : A) → q x ≡ true → (first x ≡ a) × (second x ≡ b))
      → Listed L first second (slot L T) (room L T) G → found_by L G a b q T ≡ found L q T
  unfolding found_by found
  found_by_is first second q T G a b w c = lowest_ext _ (passes L q T) (room L T) (λ r l. at r l (slot L T r) refl ∙ sym (passes_slot L q T r))
    where
      shown : (r : ℕ) (x : A) (y : Bool) → r < room L T → slot L T r ≡ Some x → q x ≡ y → (y && lists G a b r) ≡ y
      shown r x true l e p = subst (λ (j : ℕ). lists G j b r ≡ true) (w x p).0 (subst (λ (j : ℕ). lists G (first x) j r ≡ true) (w x p).1 (c r x l e))
      shown r x false l e p = refl

      at : (r : ℕ) → r < room L T → (o : Option A) → slot L T r ≡ o → (holding q (slot L T r) && lists G a b r) ≡ holding q (slot L T r)
      at r l None e = rw e refl
      at r l (Some x) e = ap (λ (o : Option A). holding q o && lists G a b r) e ∙ shown r x (q x) l e refl ∙ ap (holding q) (sym e)

  -- ---- a row listed

  module _ (first second : A → ℕ) (T : Table) (s w r : ℕ) (low : r < lane) where
    abbrev mid : ℕ
    mid = with_row L first second T s w r

    row_a : wants L first second T s (name_a w) ≡ false → mid ≡ word_of r (name_b w) (name_c w) (above w)
    unfolding with_row
    row_a e = rw e refl

    row_b : wants L first second T s (name_a w) ≡ true → wants L first second T s (name_b w) ≡ false → mid ≡ word_of (name_a w) r (name_c w) (above w)
    unfolding with_row
    row_b e f = rw (e, f) refl

    row_c : wants L first second T s (name_a w) ≡ true → wants L first second T s (name_b w) ≡ true → wants L first second T s (name_c w) ≡ false
        → mid ≡ word_of (name_a w) (name_b w) r (above w)
    unfolding with_row
    row_c e f g = rw (e, f, g) refl

    row_full : wants L first second T s (name_a w) ≡ true → wants L first second T s (name_b w) ≡ true → wants L first second T s (name_c w) ≡ true
        → mid ≡ word_of (name_a w) (name_b w) (name_c w) 1
    unfolding with_row
    row_full e f g = rw (e, f, g) refl

    -- the four words that it may be
    data Which : Type 0 where
      in_a : wants L first second T s (name_a w) ≡ false → mid ≡ word_of r (name_b w) (name_c w) (above w) → Which
      in_b : wants L first second T s (name_b w) ≡ false → mid ≡ word_of (name_a w) r (name_c w) (above w) → Which
      in_c : wants L first second T s (name_c w) ≡ false → mid ≡ word_of (name_a w) (name_b w) r (above w) → Which
      in_none : mid ≡ word_of (name_a w) (name_b w) (name_c w) 1 → Which

    which : Which
    which = go (wants L first second T s (name_a w)) refl (wants L first second T s (name_b w)) refl (wants L first second T s (name_c w)) refl
      where
        go : (x : Bool) → wants L first second T s (name_a w) ≡ x → (y : Bool) → wants L first second T s (name_b w) ≡ y → (z : Bool) → wants L first second T s (name_c w) ≡ z → Which
        go false ex y ey z ez = in_a ex (row_a ex)
        go true ex false ey z ez = in_b ey (row_b ex ey)
        go true ex true ey false ez = in_c ez (row_c ex ey ez)
        go true ex true ey true ez = in_none (row_full ex ey ez)

    is_one : (a b c top : ℕ) → a < lane → b < lane → c < lane → mid ≡ word_of a b c top → (k : ℕ) → ((eqb a k || eqb b k) || eqb c k) ≡ true → named mid k ≡ true
    is_one a b c top la lb lc e k h = ap (λ (v : ℕ). named v k) e ∙ named_is a b c top la lb lc k ∙ h

    one_of_a : (a b c k : ℕ) → a ≡ k → ((eqb a k || eqb b k) || eqb c k) ≡ true
    one_of_a a b c k e = rw (eq-eqb a k e) refl

    one_of_b : (a b c k : ℕ) → b ≡ k → ((eqb a k || eqb b k) || eqb c k) ≡ true
    one_of_b a b c k e = rw (eq-eqb b k e) (go (eqb a k))
      where
        go : (x : Bool) → ((x || true) || eqb c k) ≡ true
        go true = refl
        go false = refl

    one_of_c : (a b c k : ℕ) → c ≡ k → ((eqb a k || eqb b k) || eqb c k) ≡ true
    one_of_c a b c k e = rw (eq-eqb c k e) (go (eqb a k || eqb b k))
      where
        go : (x : Bool) → (x || true) ≡ true
        go true = refl
        go false = refl

    -- the name that goes is of a row that does not want the place
    gone : (j k : ℕ) → wants L first second T s j ≡ false → wants L first second T s k ≡ true → j ≡ k → ⊥
    gone j k f t e = false≢true (sym f ∙ ap (wants L first second T s) e ∙ t)

    pub names_kept : (k : ℕ) → wants L first second T s k ≡ true → named w k ≡ true → named mid k ≡ true
    unfolding named
    names_kept k t h = go which (ℕ_discrete (name_a w) k) (ℕ_discrete (name_b w) k) (ℕ_discrete (name_c w) k)
      where
        go : Which → Dec (name_a w ≡ k) → Dec (name_b w ≡ k) → Dec (name_c w ≡ k) → named mid k ≡ true
        go u (no x) (no y) (no z) = absurd (false≢true (rw (ne_eqb (name_a w) k x, ne_eqb (name_b w) k y, ne_eqb (name_c w) k z) at h))
        go (in_a f e) (yes x) y z = absurd (gone (name_a w) k f t x)
        go (in_a f e) (no x) (yes y) z = is_one r (name_b w) (name_c w) (above w) low (low_b w) (low_c w) e k (one_of_b r (name_b w) (name_c w) k y)
        go (in_a f e) (no x) (no y) (yes z) = is_one r (name_b w) (name_c w) (above w) low (low_b w) (low_c w) e k (one_of_c r (name_b w) (name_c w) k z)
        go (in_b f e) (yes x) y z = is_one (name_a w) r (name_c w) (above w) (low_a w) low (low_c w) e k (one_of_a (name_a w) r (name_c w) k x)
        go (in_b f e) (no x) (yes y) z = absurd (gone (name_b w) k f t y)
        go (in_b f e) (no x) (no y) (yes z) = is_one (name_a w) r (name_c w) (above w) (low_a w) low (low_c w) e k (one_of_c (name_a w) r (name_c w) k z)
        go (in_c f e) (yes x) y z = is_one (name_a w) (name_b w) r (above w) (low_a w) (low_b w) low e k (one_of_a (name_a w) (name_b w) r k x)
        go (in_c f e) (no x) (yes y) z = is_one (name_a w) (name_b w) r (above w) (low_a w) (low_b w) low e k (one_of_b (name_a w) (name_b w) r k y)
        go (in_c f e) (no x) (no y) (yes z) = absurd (gone (name_c w) k f t z)
        go (in_none e) (yes x) y z = is_one (name_a w) (name_b w) (name_c w) 1 (low_a w) (low_b w) (low_c w) e k (one_of_a (name_a w) (name_b w) (name_c w) k x)
        go (in_none e) (no x) (yes y) z = is_one (name_a w) (name_b w) (name_c w) 1 (low_a w) (low_b w) (low_c w) e k (one_of_b (name_a w) (name_b w) (name_c w) k y)
        go (in_none e) (no x) (no y) (yes z) = is_one (name_a w) (name_b w) (name_c w) 1 (low_a w) (low_b w) (low_c w) e k (one_of_c (name_a w) (name_b w) (name_c w) k z)

    stays_full : (a b c top : ℕ) → mid ≡ word_of a b c top → 1 ≤ top → is_full mid ≡ true
    unfolding is_full word_of
    stays_full a b c top e l = ap (λ (v : ℕ). is_full v) e ∙ le-leb full_word (word_of a b c top) (omega (arith, l))

    pub fulls_kept : is_full w ≡ true → is_full mid ≡ true
    unfolding is_full
    fulls_kept h = go which
      where
        up : 1 ≤ above w
        up = let l = leb-true full_word w h in omega (arith, l)

        go : Which → is_full mid ≡ true
        go (in_a f e) = stays_full r (name_b w) (name_c w) (above w) e up
        go (in_b f e) = stays_full (name_a w) r (name_c w) (above w) e up
        go (in_c f e) = stays_full (name_a w) (name_b w) r (above w) e up
        go (in_none e) = stays_full (name_a w) (name_b w) (name_c w) 1 e (omega arith)

    pub row_or_full : named mid r ≡ false → is_full mid ≡ true
    row_or_full h = go which
      where
        go : Which → is_full mid ≡ true
        go (in_a f e) = absurd (false≢true (sym h ∙ is_one r (name_b w) (name_c w) (above w) low (low_b w) (low_c w) e r (one_of_a r (name_b w) (name_c w) r refl)))
        go (in_b f e) = absurd (false≢true (sym h ∙ is_one (name_a w) r (name_c w) (above w) (low_a w) low (low_c w) e r (one_of_b (name_a w) r (name_c w) r refl)))
        go (in_c f e) = absurd (false≢true (sym h ∙ is_one (name_a w) (name_b w) r (above w) (low_a w) (low_b w) low e r (one_of_c (name_a w) (name_b w) r r refl)))
        go (in_none e) = stays_full (name_a w) (name_b w) (name_c w) 1 e (omega arith)

  module _ (first second : A → ℕ) (T : Table) (G : List ℕ) (a b r : ℕ) (low : r < lane) (ha : a < length G) (hb : b < length G) where
    abbrev at_a : List ℕ
    at_a = put_row_at L first second T G a r

    abbrev at_b : List ℕ
    at_b = put_row_at L first second T at_a b r

    abbrev new : List ℕ
    new = with_listed L first second T G a b r

    new_a : named (with_row L first second T a (word_at G a) r) r ≡ true → new ≡ at_a
    unfolding with_listed
    new_a e = rw e refl

    new_b : named (with_row L first second T a (word_at G a) r) r ≡ false → new ≡ at_b
    unfolding with_listed
    new_b e = rw e refl

    -- a full word stays full, and where row k wants the place, it is named as before
    put_fulls : (H : List ℕ) (s j : ℕ) → s < length H → is_full (word_at H j) ≡ true → is_full (word_at (put_row_at L first second T H s r) j) ≡ true
    put_fulls H s j l h = go (ℕ_discrete j s)
      where
        v : ℕ
        v = with_row L first second T s (word_at H s) r

        go : Dec (j ≡ s) → is_full (word_at (put_row_at L first second T H s r) j) ≡ true
        go (yes e) =
            ap (λ (i : ℕ). is_full (word_at (put_row_at L first second T H s r) i)) e ∙ ap is_full (word_same H s v l)
            ∙ fulls_kept first second T s (word_at H s) r low (ap (λ (i : ℕ). is_full (word_at H i)) (sym e) ∙ h)
        go (no n) = ap is_full (word_other H s v j n) ∙ h

    put_names : (H : List ℕ) (s j k : ℕ) → s < length H → (j ≡ s → wants L first second T s k ≡ true) → named (word_at H j) k ≡ true
        → named (word_at (put_row_at L first second T H s r) j) k ≡ true
    put_names H s j k l t h = go (ℕ_discrete j s)
      where
        v : ℕ
        v = with_row L first second T s (word_at H s) r

        go : Dec (j ≡ s) → named (word_at (put_row_at L first second T H s r) j) k ≡ true
        go (yes e) =
            ap (λ (i : ℕ). named (word_at (put_row_at L first second T H s r) i) k) e ∙ ap (λ (u : ℕ). named u k) (word_same H s v l)
            ∙ names_kept first second T s (word_at H s) r low k (t e) (ap (λ (i : ℕ). named (word_at H i) k) (sym e) ∙ h)
        go (no n) = ap (λ (u : ℕ). named u k) (word_other H s v j n) ∙ h

    put_covers : (H : List ℕ) (s j k : ℕ) → s < length H → (j ≡ s → wants L first second T s k ≡ true) → Covers k (word_at H j) (word_at (put_row_at L first second T H s r) j)
    put_covers H s j k l t = record { names = put_names H s j k l t; fulls = put_fulls H s j l }

    long : b < length at_a
    long = omega (arith, hb, length-set G a (with_row L first second T a (word_at G a) r))

    new_covers : (j k : ℕ) → (j ≡ a → wants L first second T a k ≡ true) → (j ≡ b → wants L first second T b k ≡ true) → Covers k (word_at G j) (word_at new j)
    new_covers j k ta tb = go (named (with_row L first second T a (word_at G a) r) r) refl
      where
        go : (c : Bool) → named (with_row L first second T a (word_at G a) r) r ≡ c → Covers k (word_at G j) (word_at new j)
        go true e = subst (λ (H : List ℕ). Covers k (word_at G j) (word_at H j)) (sym (new_a e)) (put_covers G a j k ha ta)
        go false e = subst (λ (H : List ℕ). Covers k (word_at G j) (word_at H j)) (sym (new_b e)) (covers_then (put_covers G a j k ha ta) (put_covers at_a b j k long tb))

    -- row k, of places c and d, is listed as before
    others_listed : (c d k : ℕ) → (c ≡ a → wants L first second T a k ≡ true) → (c ≡ b → wants L first second T b k ≡ true) → (d ≡ a → wants L first second T a k ≡ true)
        → (d ≡ b → wants L first second T b k ≡ true) → lists G c d k ≡ true → lists new c d k ≡ true
    others_listed c d k ca cb da db h = lists_kept G new c d k (new_covers c k ca cb) (new_covers d k da db) h

    last : (m n f : Bool) → (n ≡ false → f ≡ true) → (m || (true && (n || f))) ≡ true
    last true n f h = refl
    last false true f h = refl
    last false false f h = h refl

    by_first : (H : List ℕ) → named (word_at H a) r ≡ true → lists H a b r ≡ true
    unfolding lists
    by_first H e = rw e refl

    by_second : (H : List ℕ) → is_full (word_at H a) ≡ true → (named (word_at H b) r ≡ false → is_full (word_at H b) ≡ true) → lists H a b r ≡ true
    unfolding lists
    by_second H f h = rw f (last (named (word_at H a) r) (named (word_at H b) r) (is_full (word_at H b)) h)

    -- and row r is listed at its own
    row_listed : lists new a b r ≡ true
    row_listed = go (named x r) refl
      where
        x : ℕ
        x = with_row L first second T a (word_at G a) r

        y : ℕ
        y = with_row L first second T b (word_at at_a b) r

        go : (c : Bool) → named x r ≡ c → lists new a b r ≡ true
        go true e = subst (λ (H : List ℕ). lists H a b r ≡ true) (sym (new_a e)) (by_first at_a (ap (λ (v : ℕ). named v r) (word_same G a x ha) ∙ e))
        go false e =
            let there : word_at at_b b ≡ y = word_same at_a b y long in
            let full : is_full (word_at at_a a) ≡ true = ap is_full (word_same G a x ha) ∙ row_or_full first second T a (word_at G a) r low e in
            subst (λ (H : List ℕ). lists H a b r ≡ true) (sym (new_b e))
            (by_second at_b (put_fulls at_a b a long full)
            (λ n. ap is_full there ∙ row_or_full first second T b (word_at at_a b) r low (sym (ap (λ (v : ℕ). named v r) there) ∙ n)))

  wants_first : (first second : A → ℕ) (T : Table) (s k : ℕ) (y : A) → get_or (view L T) k None ≡ Some y → first y ≡ s → wants L first second T s k ≡ true
  unfolding wants
  wants_first first second T s k y e f = rw (e, eq-eqb (first y) s f) refl

  wants_second : (first second : A → ℕ) (T : Table) (s k : ℕ) (y : A) → get_or (view L T) k None ≡ Some y → second y ≡ s → wants L first second T s k ≡ true
  unfolding wants
  wants_second first second T s k y e f = rw (e, eq-eqb (second y) s f) (go (eqb (first y) s))
    where
      go : (m : Bool) → (m || true) ≡ true
      go true = refl
      go false = refl

  -- row r, which holds x, is listed beside the others
  pub listed_more : (first second : A → ℕ) (T : Table) (G : List ℕ) (S S' : ℕ → Option A) (n n' r : ℕ) (x : A) → first x < length G → second x < length G → Added L T S n S' n' r x
      → Listed L first second S n G → Listed L first second S' n' (with_listed L first second T G (first x) (second x) r)
  listed_more first second T G S S' n n' r x ha hb d c k y l e = go (ℕ_discrete k r)
    where
      go : Dec (k ≡ r) → lists (with_listed L first second T G (first x) (second x) r) (first y) (second y) k ≡ true
      go (yes q) =
          let same : x ≡ y = some_inj x y (sym d.this ∙ ap S' (sym q) ∙ e) in
          subst (λ (i : ℕ). lists (with_listed L first second T G (first x) (second x) r) (first y) (second y) i ≡ true) (sym q)
          (subst (λ (z : A). lists (with_listed L first second T G (first x) (second x) r) (first z) (second z) r ≡ true) same
          (row_listed first second T G (first x) (second x) r d.low ha hb))
      go (no q) =
          let v = d.held k y l e in
          let o = d.old k y l q e in
          others_listed first second T G (first x) (second x) r d.low ha hb (first y) (second y) k
          (λ f. wants_first first second T (first x) k y v f)
          (λ f. wants_first first second T (second x) k y v f)
          (λ f. wants_second first second T (first x) k y v f)
          (λ f. wants_second first second T (second x) k y v f)
          (c k y o.0 o.1)
