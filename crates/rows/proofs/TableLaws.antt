-- What the functions' proofs ask, in the words of the definitions: one law for each return. Assumes nothing.
use mathlib.Core.Path.{◌≡◌, refl, sym, ap, ap₂, ◌∙◌}
use mathlib.Core.Bool.{Bool, true, false, ◌&&◌}
use mathlib.Core.List.{List}
use Rattle.std.specs.Prelude.{None, Some}
use Prim.Native.Nat.{ℕ, zero, suc, ◌+◌, ◌-◌, ◌*◌, ◌/◌, ◌%◌, ◌^◌, ◌≤◌, ◌<◌}
use native.Mathlib.Nat.{add-zero}
use native.Mathlib.Numerals.{add-one}
use native.Mathlib.Omega.{arith}
use borrow.Author.Tests.{lt-ltb, le-ltb}
use lib.ListN.{length, get_or, replicate}
use mir.Val.{bool_byte}
use Rattle.words.specs.Choice.{one}
use Rattle.rows.specs.Scan.{how_many, lowest}
use Rattle.rows.specs.Marks.{word, in_word, used, marked, unmarked}
use Rattle.rows.specs.Table.{Layout, Table, table, put_row, room, row_at, matches, passes, free_row, alive, counted, stored, taken, changed, ended, ended_if, ended_from, ended_all, cleared}
use Rattle.rows.specs.View.{slot, view}
use Rattle.rows.proofs.ViewLaws.{view_at, view_past}
use Rattle.rows.proofs.ScanLaws.{how_many_ext, each_fails, none_passes, lowest_none}
use Rattle.rows.proofs.MarkLaws.{word_unused, word_used, sum_next}

-- a test's answer as a number
pub byte_one : (b : Bool) → bool_byte b ≡ one b
byte_one true = refl
byte_one false = refl

pub byte_most : (b : Bool) → bool_byte b ≤ 1
byte_most true = omega arith
byte_most false = omega arith

module _ {A : Type 0} (L : Layout A) where
  -- ---- what the marks say of the room
  pub alive_rows : (rs ms : List ℕ) (n r : ℕ) → n ≡ room L (table rs ms) → r ≡ how_many (used ms) n → r ≡ alive L (table rs ms)
  unfolding alive
  alive_rows rs ms n r a b = cc

  -- ---- a slot: past the room, used, or not
  pub slot_past : (T : Table) (n r : ℕ) → n ≡ room L T → n ≤ r → None ≡ get_or (view L T) r None
  slot_past T n r a l = sym (view_past L T r (omega arith))

  pub slot_used : (rs ms : List ℕ) (n r : ℕ) (b : Bool) (x : A) → n ≡ room L (table rs ms) → r < n → b ≡ used ms r → b ≡ true → x ≡ row_at L rs r
      → Some x ≡ get_or (view L (table rs ms)) r None
  unfolding slot
  slot_used rs ms n r b x a l e y f = ap Some f ∙ rw (view_at L (table rs ms) r (omega arith), ← e, y)

  pub slot_free : (rs ms : List ℕ) (n r : ℕ) (b : Bool) → n ≡ room L (table rs ms) → r < n → b ≡ used ms r → b ≡ false
      → None ≡ get_or (view L (table rs ms)) r None
  unfolding slot
  slot_free rs ms n r b a l e y = rw (view_at L (table rs ms) r (omega arith), ← e, y)

  -- ---- a row stored, changed, or ended
  pub store_some : (rs ms rs' ms' : List ℕ) (x : A) (n r : ℕ) → n ≡ room L (table rs ms) → r < n
      → rs' ≡ put_row L.stride rs r (L.numbers x) → ms' ≡ marked ms r → table rs' ms' ≡ stored L (table rs ms) r x
  unfolding stored
  store_some rs ms rs' ms' x n r a l p m = ap₂ table p m ∙ rw (lt-ltb r (room L (table rs ms)) (omega arith))

  pub store_none : (rs ms : List ℕ) (x : A) (n r : ℕ) → n ≡ room L (table rs ms) → n ≤ r → table rs ms ≡ stored L (table rs ms) r x
  unfolding stored
  store_none rs ms x n r a l = rw (le-ltb r (room L (table rs ms)) (omega arith))

  pub take_left : (T S : Table) (x : A) (r : ℕ) → r ≡ free_row L T → S ≡ stored L T r x → S ≡ taken L T x
  unfolding taken
  take_left T S x r a b = b ∙ ap (λ (k : ℕ). stored L T k x) a

  pub change_some : (rs ms rs' : List ℕ) (g : A → A) (n r : ℕ) → n ≡ room L (table rs ms) → r < n
      → rs' ≡ put_row L.stride rs r (L.numbers (g (row_at L rs r))) → table rs' ms ≡ changed L (table rs ms) r g
  unfolding changed
  change_some rs ms rs' g n r a l p = ap (λ (x : List ℕ). table x ms) p ∙ rw (lt-ltb r (room L (table rs ms)) (omega arith))

  pub change_none : (rs ms : List ℕ) (g : A → A) (n r : ℕ) → n ≡ room L (table rs ms) → n ≤ r → table rs ms ≡ changed L (table rs ms) r g
  unfolding changed
  change_none rs ms g n r a l = rw (le-ltb r (room L (table rs ms)) (omega arith))

  pub end_some : (rs ms rs' ms' : List ℕ) (n r : ℕ) → n ≡ room L (table rs ms) → r < n
      → rs' ≡ put_row L.stride rs r (replicate L.stride 0) → ms' ≡ unmarked ms r → table rs' ms' ≡ ended L (table rs ms) r
  unfolding ended
  end_some rs ms rs' ms' n r a l p m = ap₂ table p m ∙ rw (lt-ltb r (room L (table rs ms)) (omega arith))

  pub end_none : (rs ms : List ℕ) (n r : ℕ) → n ≡ room L (table rs ms) → n ≤ r → table rs ms ≡ ended L (table rs ms) r
  unfolding ended
  end_none rs ms n r a l = rw (le-ltb r (room L (table rs ms)) (omega arith))

  -- ---- a row's test: what stands there, then its mark
  pub test_yes : (q : A → Bool) (rs ms : List ℕ) (r : ℕ) (x : A) (a b : Bool) → x ≡ row_at L rs r → a ≡ q x → a ≡ true → b ≡ used ms r
      → b ≡ passes L q (table rs ms) r
  unfolding passes matches
  test_yes q rs ms r x a b d e f g = g ∙ rw (sym (ap q d) ∙ sym e ∙ f)

  pub test_no : (q : A → Bool) (rs ms : List ℕ) (r : ℕ) (x : A) (a : Bool) → x ≡ row_at L rs r → a ≡ q x → a ≡ false → false ≡ passes L q (table rs ms) r
  unfolding passes matches
  test_no q rs ms r x a d e f = rw (sym (ap q d) ∙ sym e ∙ f)

  pub match_next : (q : A → Bool) (rs : List ℕ) (w s i k : ℕ) (x : A) (b : Bool) → s ≡ how_many (in_word (matches L q rs) w) i
      → x ≡ row_at L rs (w * word + i) → b ≡ q x → k ≡ one b → s + k ≡ how_many (in_word (matches L q rs) w) (i + 1)
  match_next q rs w s i k x b a e f g = sum_next (matches L q rs) w s i k b a (f ∙ ap q e ∙ at) g
    where
      at : q (row_at L rs (w * word + i)) ≡ matches L q rs (w * word + i)
      at = unfold matches in refl

  -- ---- a word none of whose rows matches: no used row of it passes
  unmatched : (q : A → Bool) (rs ms : List ℕ) (r : ℕ) → matches L q rs r ≡ false → passes L q (table rs ms) r ≡ false
  unfolding passes
  unmatched q rs ms r e = rw e

  -- q is tried by a weaker test o
  fails_in : (q o : A → Bool) (rs ms : List ℕ) (w k i : ℕ) → ((x : A) → o x ≡ false → q x ≡ false) → k ≡ how_many (in_word (matches L o rs) w) word → k ≡ 0
      → i < word → in_word (passes L q (table rs ms)) w i ≡ false
  unfolding in_word matches
  fails_in q o rs ms w k i u e z l =
      unmatched q rs ms (w * word + i) (u (row_at L rs (w * word + i)) (each_fails (in_word (matches L o rs) w) word i (sym e ∙ z) l))

  pub seek_none : (q o : A → Bool) (rs ms : List ℕ) (w k : ℕ) → ((x : A) → o x ≡ false → q x ≡ false) → k ≡ how_many (in_word (matches L o rs) w) word → k ≡ 0
      → word ≡ lowest (in_word (passes L q (table rs ms)) w) word
  seek_none q o rs ms w k u e z = lowest_none (in_word (passes L q (table rs ms)) w) word (λ i l. fails_in q o rs ms w k i u e z l)

  pub sum_none : (q : A → Bool) (rs ms : List ℕ) (w k : ℕ) → k ≡ how_many (in_word (matches L q rs) w) word → k ≡ 0
      → 0 ≡ how_many (in_word (passes L q (table rs ms)) w) word
  sum_none q rs ms w k e z = sym (none_passes (in_word (passes L q (table rs ms)) w) word (λ i l. fails_in q q rs ms w k i (λ x f. f) e z l))

  -- a word all of whose rows are used: those that match pass
  used_match : (a b : Bool) → b ≡ true → a ≡ (a && b)
  used_match true b e = sym e
  used_match false b e = refl

  pub sum_used : (q : A → Bool) (rs ms : List ℕ) (w k : ℕ) → get_or ms w 0 < 2 ^ word → 2 ^ word - 1 - get_or ms w 0 ≡ 0
      → k ≡ how_many (in_word (matches L q rs) w) word → k ≡ how_many (in_word (passes L q (table rs ms)) w) word
  unfolding in_word passes
  sum_used q rs ms w k f z e =
      e ∙ how_many_ext (in_word (matches L q rs) w) (in_word (passes L q (table rs ms)) w) word
      (λ i l. used_match (matches L q rs (w * word + i)) (used ms (w * word + i)) (word_used ms w i f z l))

  -- a word none of whose rows is used: none passes
  unused_match : (a b : Bool) → b ≡ false → (a && b) ≡ false
  unused_match true b e = e
  unused_match false b e = refl

  unused_fails : (q : A → Bool) (rs ms : List ℕ) (w i : ℕ) → get_or ms w 0 ≡ 0 → i < word → passes L q (table rs ms) (w * word + i) ≡ false
  unfolding in_word passes
  unused_fails q rs ms w i z l = unused_match (matches L q rs (w * word + i)) (used ms (w * word + i)) (word_unused ms w i z l)

  pub seek_unused : (q : A → Bool) (rs ms : List ℕ) (w : ℕ) → get_or ms w 0 ≡ 0 → word ≡ lowest (in_word (passes L q (table rs ms)) w) word
  unfolding in_word
  seek_unused q rs ms w z = lowest_none (in_word (passes L q (table rs ms)) w) word (λ i l. unused_fails q rs ms w i z l)

  pub sum_unused : (q : A → Bool) (rs ms : List ℕ) (w : ℕ) → get_or ms w 0 ≡ 0 → 0 ≡ how_many (in_word (passes L q (table rs ms)) w) word
  unfolding in_word
  sum_unused q rs ms w z = sym (none_passes (in_word (passes L q (table rs ms)) w) word (λ i l. unused_fails q rs ms w i z l))

  -- ---- row after row of the whole room
  pub counted_all : (q : A → Bool) (T : Table) (s n : ℕ) → n ≡ room L T → s ≡ how_many (in_word (passes L q T) 0) n → s ≡ counted L q T
  unfolding counted in_word
  counted_all q T s n a e =
      e ∙ how_many_ext (λ i. passes L q T (0 * word + i)) (passes L q T) n (λ i l. let x : 0 * word + i ≡ i = omega arith in ap (passes L q T) x)
      ∙ ap (how_many (passes L q T)) a

  -- ---- rows ended one after another
  pub end_passes : (q : A → Bool) (T S : Table) (r : ℕ) (b : Bool) → b ≡ passes L q T r → b ≡ true → S ≡ ended L T r → S ≡ ended_if L q T r
  unfolding ended_if
  end_passes q T S r b e y f = f ∙ rw (sym e ∙ y)

  pub end_fails : (q : A → Bool) (T : Table) (r : ℕ) (b : Bool) → b ≡ passes L q T r → b ≡ false → T ≡ ended_if L q T r
  unfolding ended_if
  end_fails q T r b e y = rw (sym e ∙ y)

  pub ended_first : (q : A → Bool) (T : Table) (a : ℕ) → T ≡ ended_from L q T a 0
  unfolding ended_from
  ended_first q T a = refl

  pub ended_next : (q : A → Bool) (T S S' : Table) (a i : ℕ) → S ≡ ended_from L q T a i → S' ≡ ended_if L q S (a + i) → S' ≡ ended_from L q T a (i + 1)
  unfolding ended_from
  ended_next q T S S' a i e f = rw (add-one i) (f ∙ ap (λ (X : Table). ended_if L q X (a + i)) e)

  pub ended_end : (q : A → Bool) (T S : Table) (a i m : ℕ) → S ≡ ended_from L q T a i → i ≤ m → m ≤ i → S ≡ ended_from L q T a m
  ended_end q T S a i m e l g = let x : i ≡ m = omega arith in cc

  pub ended_none : (q : A → Bool) (T : Table) (a m : ℕ) → ((i : ℕ) → i < m → passes L q T (a + i) ≡ false) → ended_from L q T a m ≡ T
  unfolding ended_from
  ended_none q T a zero h = refl
  ended_none q T a (suc m) h =
      ap (λ (X : Table). ended_if L q X (a + m)) (ended_none q T a m (λ i l. h i (omega arith)))
      ∙ sym (end_fails q T (a + m) false (sym (h m (omega arith))) refl)

  pub ended_unmatched : (q : A → Bool) (rs ms : List ℕ) (w k : ℕ) → k ≡ how_many (in_word (matches L q rs) w) word → k ≡ 0
      → table rs ms ≡ ended_from L q (table rs ms) (w * word) word
  unfolding in_word
  ended_unmatched q rs ms w k e z = sym (ended_none q (table rs ms) (w * word) word (λ i l. fails_in q q rs ms w k i (λ x f. f) e z l))

  pub ended_unused : (q : A → Bool) (rs ms : List ℕ) (w : ℕ) → get_or ms w 0 ≡ 0 → table rs ms ≡ ended_from L q (table rs ms) (w * word) word
  ended_unused q rs ms w z = sym (ended_none q (table rs ms) (w * word) word (λ i l. unused_fails q rs ms w i z l))

  -- the rows from a on, and then those from a + m on
  ended_add : (q : A → Bool) (T : Table) (a m n : ℕ) → ended_from L q (ended_from L q T a m) (a + m) n ≡ ended_from L q T a (m + n)
  unfolding ended_from
  ended_add q T a m zero = ap (ended_from L q T a) (sym (add-zero m))
  ended_add q T a m (suc n) =
      let e : a + m + n ≡ a + (m + n) = omega arith in
      let f : suc (m + n) ≡ m + suc n = omega arith in
      ap (λ (X : Table). ended_if L q X (a + m + n)) (ended_add q T a m n)
      ∙ ap (λ (r : ℕ). ended_if L q (ended_from L q T a (m + n)) r) e ∙ ap (ended_from L q T a) f

  -- rows of which none passes are passed over
  pub ended_skip : (q : A → Bool) (T S : Table) (a m p : ℕ) → S ≡ ended_from L q T a m → m ≤ p → ((k : ℕ) → m ≤ k → k < p → passes L q S (a + k) ≡ false) → S ≡ ended_from L q T a p
  ended_skip q T S a m p e l h =
      let f : m + (p - m) ≡ p = omega arith in
      sym (ended_none q S (a + m) (p - m) (λ i u. let g : a + m + i ≡ a + (m + i) = omega arith in ap (passes L q S) g ∙ h (m + i) (omega arith) (omega arith)))
      ∙ ap (λ (X : Table). ended_from L q X (a + m) (p - m)) e ∙ ended_add q T a m (p - m) ∙ ap (ended_from L q T a) f

  onward : (q : A → Bool) (T : Table) (m n : ℕ) → ended_from L q (ended_from L q T 0 m) m n ≡ ended_from L q T 0 (m + n)
  onward q T m n = let e : m ≡ 0 + m = omega arith in ap (λ (a : ℕ). ended_from L q (ended_from L q T 0 m) a n) e ∙ ended_add q T 0 m n

  pub ended_word : (q : A → Bool) (T S S' : Table) (w : ℕ) → S ≡ ended_from L q T 0 (w * word) → S' ≡ ended_from L q S (w * word) word
      → S' ≡ ended_from L q T 0 ((w + 1) * word)
  ended_word q T S S' w e f =
      let g : w * word + word ≡ (w + 1) * word = omega arith in
      f ∙ ap (λ (X : Table). ended_from L q X (w * word) word) e ∙ onward q T (w * word) word ∙ ap (ended_from L q T 0) g

  pub ended_last : (q : A → Bool) (T S S' : Table) (w n : ℕ) → n ≡ room L T → w ≤ n / word → n / word ≤ w → S ≡ ended_from L q T 0 (w * word)
      → S' ≡ ended_from L q S (n / word * word) (n % word) → S' ≡ ended_all L q T
  unfolding ended_all
  ended_last q T S S' w n a l g e f =
      let c : w * word ≡ n / word * word = omega arith in
      let d : n / word * word + n % word ≡ room L T = omega arith in
      f ∙ ap (λ (X : Table). ended_from L q X (n / word * word) (n % word)) (e ∙ ap (ended_from L q T 0) c)
      ∙ onward q T (n / word * word) (n % word) ∙ ap (ended_from L q T 0) d

pub clear_all : (rs ms rs' ms' : List ℕ) → rs' ≡ replicate (length rs) 0 → ms' ≡ replicate (length ms) 0 → table rs' ms' ≡ cleared (table rs ms)
unfolding cleared
clear_all rs ms rs' ms' p q = ap₂ table p q
