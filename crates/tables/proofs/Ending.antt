-- Reference rows ended with their guide: a word that the guide does not show has none to end, and once all are ended it need show none. Assumes nothing.
use mathlib.Core.Path.{◌≡◌, refl, sym, ap, subst, ◌∙◌}
use mathlib.Core.Bool.{Bool, true, false, false≢true}
use mathlib.Core.List.{List}
use Rattle.std.specs.Prelude.{Option, None, Some}
use Prim.Native.Nat.{ℕ, ◌+◌, ◌*◌, ◌/◌, ◌%◌, ◌^◌, ◌≤◌, ◌<◌}
use native.Mathlib.Nat.{le_refl, zero-add}
use native.Mathlib.Decide.{dec_lt}
use native.Mathlib.Omega.{arith}
use lib.ListN.{get_or}
use borrow.Author.Tests.{ne_eqb}
use Rattle.words.specs.Choice.{if_true◌then◌else◌}
use Rattle.rows.specs.Slots.{holding}
use Rattle.rows.specs.Marks.{word, bit}
use Rattle.rows.specs.Table.{Layout, Table, room, passes, ended, ended_if, ended_from, ended_all}
use Rattle.rows.specs.View.{slot, view}
use Rattle.rows.specs.declared.references.Reference.{Reference}
use Rattle.rows.specs.References.{references, from_frame}
use Rattle.rows.proofs.SlotLaws.{freed}
use Rattle.rows.proofs.TableLaws.{end_passes, end_fails, ended_none, ended_first, ended_skip, ended_word, ended_last}
use Rattle.rows.proofs.ViewLaws.{room_same, passes_slot, view_at, ended_below}
use Rattle.guide.specs.Masks.{word_bit, mark_bit}
use Rattle.guide.specs.References.{words, marks, bits_from, none_from, Guides}
use Rattle.guide.proofs.Telling.{word_shown, mark_shown}
use Rattle.guide.proofs.Clearing.{guide_cleared}
use Rattle.tables.specs.Unshown.{Unshown}
use Rattle.tables.proofs.Shown.{unshown_still}

module _ {A : Type 0} (L : Layout A) (q : A → Bool) where
  -- ---- a row, by what is told of it
  told_passes : (T : Table) (r : ℕ) (o : Option A) → r < room L T → get_or (view L T) r None ≡ o → holding q o ≡ passes L q T r
  told_passes T r o l e = ap (holding q) (sym e ∙ view_at L T r l) ∙ sym (passes_slot L q T r)

  pub such_ended : (T S : Table) (r : ℕ) (x : A) → r < room L T → get_or (view L T) r None ≡ Some x → q x ≡ true → S ≡ ended L T r → S ≡ ended_if L q T r
  such_ended T S r x l e y f = end_passes L q T S r (q x) (told_passes T r (Some x) l e) y f

  pub other_stays : (T : Table) (r : ℕ) (x : A) → r < room L T → get_or (view L T) r None ≡ Some x → q x ≡ false → T ≡ ended_if L q T r
  other_stays T r x l e y = end_fails L q T r (q x) (told_passes T r (Some x) l e) y

  pub none_stays : (T : Table) (r : ℕ) → r < room L T → get_or (view L T) r None ≡ None → T ≡ ended_if L q T r
  none_stays T r l e = end_fails L q T r false (told_passes T r None l e) refl

  -- ---- a word that is not shown
  pub unshown_stays : (T : Table) (s w m : ℕ) → ((r : ℕ) → r < room L T → bit s (word_bit r) ≡ false → passes L q T r ≡ false) → w * word + m ≤ room L T → m ≤ word
      → (s / 2 ^ (w % word) % 2 ≡ 1 → ⊥) → T ≡ ended_from L q T (w * word) m
  unshown_stays T s w m h l g n =
      let e : bit s (w % word) ≡ false = unfold bit in ne_eqb (s / 2 ^ (w % word) % 2) 1 n in
      sym (ended_none L q T (w * word) m
      (λ i k. let a : (w * word + i) / word % word ≡ w % word = omega arith in h (w * word + i) (omega arith) (ap (bit s) a ∙ e)))

  -- ---- what is ended does not pass
  freed_fails : (o : Option A) → holding q (freed q o) ≡ false
  freed_fails None = refl
  freed_fails (Some x) = go (q x) refl
    where
      go : (b : Bool) → q x ≡ b → holding q (if_true b then None else Some x) ≡ false
      go true e = refl
      go false e = e

  fails_below : (T S : Table) (n r : ℕ) → S ≡ ended_from L q T 0 n → n ≤ room L T → (n ≤ r → passes L q T r ≡ false) → passes L q S r ≡ false
  fails_below T S n r e l h = ap (λ (X : Table). passes L q X r) e ∙ passes_slot L q (ended_from L q T 0 n) r ∙ go (dec_lt r n)
    where
      go : Dec (r < n) → holding q (slot L (ended_from L q T 0 n) r) ≡ false
      go (yes k) = ap (holding q) ((ended_below L q T n l).below r k) ∙ freed_fails (slot L T r)
      go (no k) = ap (holding q) ((ended_below L q T n l).above r (omega arith)) ∙ sym (passes_slot L q T r) ∙ h (omega arith)

  same_room : (T S : Table) (n : ℕ) → S ≡ ended_from L q T 0 n → n ≤ room L T → room L S ≡ room L T
  same_room T S n e l = ap (room L) e ∙ room_same L (ended_from L q T 0 n) T (ended_below L q T n l).lengths

-- ---- word after word

-- a mask with a bit for each such row leaves none out
unshown : (bit_of : ℕ → ℕ) (s t f : ℕ) (T : Table) → ((r : ℕ) (x : Reference) → r < room references T → slot references T r ≡ Some x → from_frame t f x ≡ true → bit s (bit_of r) ≡ true)
    → Unshown bit_of s t f T
unshown bit_of s t f T h r l e = passes_slot references (from_frame t f) T r ∙ go (slot references T r) refl
  where
    go : (o : Option Reference) → slot references T r ≡ o → holding (from_frame t f) o ≡ false
    go None i = refl
    go (Some x) i = at (from_frame t f x) refl
      where
        at : (b : Bool) → from_frame t f x ≡ b → b ≡ false
        at true y = absurd (false≢true (sym e ∙ h r x l i y))
        at false y = refl

module _ (T : Table) (G : List ℕ) (t f : ℕ) (g : Guides T G) where
  pub words_unshown : (s : ℕ) → s ≡ bits_from G words t f → Unshown word_bit s t f T
  words_unshown s e = unshown word_bit s t f T (λ r x l i y. ap (λ (m : ℕ). bit m (word_bit r)) e ∙ word_shown T G t f r x g l i y)

  pub marks_unshown : (s : ℕ) → s ≡ bits_from G marks t f → Unshown mark_bit s t f T
  marks_unshown s e = unshown mark_bit s t f T (λ r x l i y. ap (λ (m : ℕ). bit m (mark_bit r)) e ∙ mark_shown T G t f r x g l i y)

-- words that are not shown are passed over: before the first one, and behind one whose rows are ended
module _ (T : Table) (t f s n : ℕ) (u : Unshown word_bit s t f T) (d : n ≡ room references T) where
  pub word_first : (w : ℕ) → w ≤ n / word → ((k : ℕ) → 0 ≤ k → k < w → bit s (k % word) ≡ false) → T ≡ ended_from references (from_frame t f) T 0 (w * word)
  word_first w l h =
      ended_skip references (from_frame t f) T T 0 0 (w * word) (ended_first references (from_frame t f) T 0) (omega arith)
      (λ k a b. ap (passes references (from_frame t f) T) (zero-add k) ∙ u k (omega (arith, d)) (h (k / word) (omega arith) (omega arith)))

  pub word_next : (R S : Table) (w p : ℕ) → R ≡ ended_from references (from_frame t f) T 0 (w * word) → S ≡ ended_from references (from_frame t f) R (w * word) word
      → w < n / word → w + 1 ≤ p → p ≤ n / word → ((k : ℕ) → w + 1 ≤ k → k < p → bit s (k % word) ≡ false) → S ≡ ended_from references (from_frame t f) T 0 (p * word)
  word_next R S w p c a l v m h =
      let done = ended_word references (from_frame t f) T R S w c a in
      let same : room references S ≡ room references T = same_room references (from_frame t f) T S ((w + 1) * word) done (omega (arith, d)) in
      ended_skip references (from_frame t f) T S 0 ((w + 1) * word) (p * word) done (omega arith)
      (λ k i j. ap (passes references (from_frame t f) S) (zero-add k)
      ∙ unshown_still t f word_bit s T S 0 ((w + 1) * word) u done k (omega (arith, d, same)) (h (k / word) (omega arith) (omega arith)))

-- once all are ended there is none that the guide must show
module _ (T S : Table) (G : List ℕ) (t f : ℕ) where
  all_fail : S ≡ ended_all references (from_frame t f) T → (r : ℕ) → r < room references S → passes references (from_frame t f) S r ≡ false
  unfolding ended_all
  all_fail e r l =
      let n : room references T ≤ room references T = le_refl (room references T) in
      fails_below references (from_frame t f) T S (room references T) r e n
      (λ k. absurd (omega (arith, same_room references (from_frame t f) T S (room references T) e n)))

  all_cleared : S ≡ ended_all references (from_frame t f) T → Guides S G → t ≤ 16 → Guides S (none_from (none_from G words t f) marks t f)
  all_cleared e g a =
      guide_cleared S t f a (λ r x l y. ap (holding (from_frame t f)) (sym y) ∙ sym (passes_slot references (from_frame t f) S r) ∙ all_fail e r l) G g

  pub last_cleared : (R : Table) (H : List ℕ) (w n : ℕ) → n ≡ room references T → w ≤ n / word → n / word ≤ w → R ≡ ended_from references (from_frame t f) T 0 (w * word)
      → S ≡ ended_from references (from_frame t f) R (n / word * word) (n % word) → Guides S G → t ≤ 16 → H ≡ none_from (none_from G words t f) marks t f → Guides S H
  last_cleared R H w n d u v c e g a h = subst (Guides S) (sym h) (all_cleared (ended_last references (from_frame t f) T R S w n d u v c e) g a)
