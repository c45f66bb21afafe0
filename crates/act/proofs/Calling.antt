-- What the code of C ends is what an accepted C ends.
use Prim.Native.Nat.{ℕ}
use mathlib.Core.Path.{◌≡◌, refl, sym, ap, subst, ◌∙◌}
use mathlib.Core.Bool.{Bool, true, false, ◌&&◌, false≢true}
use mathlib.Core.List.{List}
use borrow.Author.Tests.{eqb-true, eq-eqb, ne_eqb}
use lib.Dec.{eqb}
use lib.IntN.{ℤ}
use lib.ListN.{length}
use Rattle.words.specs.Choice.{if_true◌then◌else◌}
use Rattle.facts.specs.Table.{fact_of, family}
use Rattle.facts.specs.Named.{PopLocalFrame}
use Rattle.facts.specs.declared.Place.{Place}
use Rattle.facts.specs.Results.{is_buffer_place}
use Rattle.lines.specs.Line.{C}
use Rattle.rows.specs.Table.{Table, found, ended, ended_all}
use Rattle.rows.specs.References.{references, is_handle, from_frame}
use Rattle.rows.specs.Pins.{pins, is_buffer}
use Rattle.history.specs.Frames.{top_pushed}
use Rattle.book.specs.Threads.{thread_in}
use Rattle.book.specs.Moves.{frame_popped, line_counted}
use Rattle.tables.specs.Tables.{Tables}
use Rattle.tables.specs.Lent.{with_references, with_pins, with_book}
use Rattle.tables.specs.Acting.{first_ended, is_delete, delete_owner, pin_owner, references_after, pins_after, book_after, classes_after, acted}
use Rattle.act.specs.Books.{popped, called_book}
use Rattle.act.specs.Calls.{deleted, top_ended, called_references, released, called}
use Rattle.act.proofs.Choosing.{chosen, passed_over}

-- ---- a handle

module _ (T : Tables) (f a row : ℕ) (b : Bool) (e : b ≡ is_delete f a) where
  pub handle_ended : (T' : Tables) → b ≡ true → T' ≡ with_references T (ended references T.references row) → T' ≡ with_references T (deleted T.references f a row)
  unfolding deleted
  handle_ended T' h k = k ∙ ap (with_references T) (chosen (is_delete f a) (ended references T.references row) T.references (sym e ∙ h) refl)

  pub no_handle_ended : b ≡ false → T ≡ with_references T (deleted T.references f a row)
  unfolding deleted
  no_handle_ended h = ap (with_references T) (passed_over (is_delete f a) (ended references T.references row) T.references (sym e ∙ h) refl)

-- ---- the top frame

module _ (T : Tables) (t f : ℕ) (y : Bool) (e : y ≡ (eqb f PopLocalFrame && top_pushed (thread_in T.book t).frames)) where
  abbrev its_rows : ℕ → Table
  its_rows d = ended_all references (from_frame t d) T.references

  pub frame_ended : (T' : Tables) (d : ℕ) → y ≡ true → d ≡ length (thread_in T.book t).frames → T' ≡ with_references T (ended_all references (from_frame t d) T.references)
      → T' ≡ with_references T (top_ended T.references T.book t f)
  unfolding top_ended
  frame_ended T' d h ed k =
      k
      ∙ ap (with_references T)
      (chosen (eqb f PopLocalFrame && top_pushed (thread_in T.book t).frames) (its_rows (length (thread_in T.book t).frames)) T.references (sym e ∙ h) (ap its_rows ed))

  pub no_frame_ended : y ≡ false → T ≡ with_references T (top_ended T.references T.book t f)
  unfolding top_ended
  no_frame_ended h =
      ap (with_references T)
      (passed_over (eqb f PopLocalFrame && top_pushed (thread_in T.book t).frames) (its_rows (length (thread_in T.book t).frames)) T.references (sym e ∙ h) refl)

-- ---- a buffer

module _ (T : Tables) (p : Place) (row : ℕ) (b : Bool) (e : b ≡ is_buffer_place p) where
  pub buffer_ended : (T' : Tables) → b ≡ true → T' ≡ with_pins T (ended pins T.pins row) → T' ≡ with_pins T (released T.pins p row)
  unfolding released
  buffer_ended T' h q = q ∙ ap (with_pins T) (chosen (is_buffer_place p) (ended pins T.pins row) T.pins (sym e ∙ h) refl)

  pub no_buffer_ended : b ≡ false → T ≡ with_pins T (released T.pins p row)
  unfolding released
  no_buffer_ended h = ap (with_pins T) (passed_over (is_buffer_place p) (ended pins T.pins row) T.pins (sym e ∙ h) refl)

-- ---- the book

module _ (b : List ℕ) (t f : ℕ) where
  pub frame_gone : (b' : List ℕ) → f ≡ PopLocalFrame → b' ≡ frame_popped b t → b' ≡ popped b t f
  unfolding popped
  frame_gone b' h e = chosen (eqb f PopLocalFrame) (frame_popped b t) b (eq-eqb f PopLocalFrame h) e

  pub frame_stays : (f ≡ PopLocalFrame → ⊥) → b ≡ popped b t f
  unfolding popped
  frame_stays h = passed_over (eqb f PopLocalFrame) (frame_popped b t) b (ne_eqb f PopLocalFrame h) refl

  pub book_called : (b1 b2 : List ℕ) → b1 ≡ popped b t f → b2 ≡ line_counted b1 → b2 ≡ called_book b t f
  unfolding called_book
  book_called b1 b2 e k = k ∙ ap line_counted e

-- ---- the tables

-- what deletes a handle pops no frame
no_delete : (f a : ℕ) → eqb f PopLocalFrame ≡ true → is_delete f a ≡ false
no_delete f a h = subst (λ (g : ℕ). is_delete g a ≡ false) (sym (eqb-true f PopLocalFrame h)) refl

one_of_two : (del pop top : Bool) (T D : Table) (E : Table → Table) → (pop ≡ true → del ≡ false)
    → (if_true pop && top then E (if_true del then D else T) else if_true del then D else T) ≡ (if_true del then D else if_true pop && top then E T else T)
one_of_two true true top T D E h = absurd (false≢true (sym (h refl)))
one_of_two true false top T D E h = refl
one_of_two false pop top T D E h = refl

-- one step after another
pub tables_called : (T T1 T2 T3 : Tables) (b : List ℕ) (t f a x : ℕ) (p : Place) (y : ℕ) → T1 ≡ with_references T (deleted T.references f a x)
    → T2 ≡ with_references T1 (top_ended T1.references T1.book t f) → T3 ≡ with_pins T2 (released T2.pins p y) → b ≡ called_book T3.book t f → with_book T3 b ≡ called T t f a x p y
unfolding called called_references
tables_called T T1 T2 T3 b t f a x p y e1 e2 e3 eb =
    ap (with_book T3) eb
    ∙ ap (λ (X : Tables). with_book X (called_book X.book t f))
    (e3
    ∙ ap (λ (X : Tables). with_pins X (released X.pins p y))
    (e2 ∙ ap (λ (X : Tables). with_references X (top_ended X.references X.book t f)) e1))

if_same : {A : Type 0} (d : Bool) (x y z : A) → (d ≡ true → x ≡ y) → (if_true d then x else z) ≡ (if_true d then y else z)
if_same true x y z h = h refl
if_same false x y z h = refl

called_acts : (T : Tables) (t env f a b c : ℕ) (n : ℤ) (line m x y : ℕ) → (is_delete f a ≡ true → x ≡ found references (is_handle (delete_owner f t) a) T.references)
    → (is_buffer_place (fact_of f).b ≡ true → y ≡ found pins (is_buffer (pin_owner f t) (family f) b) T.pins) → called T t f a x (fact_of f).b y ≡ acted line (C t env f a b c n) m T
unfolding called acted references_after pins_after book_after classes_after called_references deleted top_ended released called_book popped first_ended
called_acts T t env f a b c n line m x y hx hy =
    let rows : (if_true eqb f PopLocalFrame && top_pushed (thread_in T.book t).frames then
    ended_all references (from_frame t (length (thread_in T.book t).frames)) (if_true is_delete f a then ended references T.references x else T.references)
    else if_true is_delete f a then ended references T.references x
    else T.references)
    ≡ (if_true is_delete f a then ended references T.references (found references (is_handle (delete_owner f t) a) T.references)
    else if_true eqb f PopLocalFrame && top_pushed (thread_in T.book t).frames then
    ended_all references (from_frame t (length (thread_in T.book t).frames)) T.references
    else T.references) =
    one_of_two
    (is_delete f a)
    (eqb f PopLocalFrame)
    (top_pushed (thread_in T.book t).frames)
    T.references
    (ended references T.references x)
    (ended_all references (from_frame t (length (thread_in T.book t).frames)))
    (no_delete f a)
    ∙ if_same (is_delete f a) _ _ _ (λ h. ap (ended references T.references) (hx h))
    in
    let buffers : (if_true is_buffer_place (fact_of f).b then ended pins T.pins y else T.pins)
    ≡ (if_true is_buffer_place (fact_of f).b then ended pins T.pins (found pins (is_buffer (pin_owner f t) (family f) b) T.pins) else T.pins) =
    if_same (is_buffer_place (fact_of f).b) _ _ _ (λ h. ap (ended pins T.pins) (hy h))
    in
    λ i. record { references = rows i; pins = buffers i; book = called_book T.book t f; classes = T.classes }

-- where the rows and the place told are those that an accepted C looks at
pub called_is_acted : (T : Tables) (t env f a b c : ℕ) (n : ℤ) (line m x : ℕ) (p : Place) (y : ℕ) → (is_delete f a ≡ true → x ≡ found references (is_handle (delete_owner f t) a) T.references)
    → p ≡ (fact_of f).b → (is_buffer_place (fact_of f).b ≡ true → y ≡ found pins (is_buffer (pin_owner f t) (family f) b) T.pins) → called T t f a x p y ≡ acted line (C t env f a b c n) m T
called_is_acted T t env f a b c n line m x p y hx e hy = ap (λ (q : Place). called T t f a x q y) e ∙ called_acts T t env f a b c n line m x y hx hy
