-- What the code of R leaves is what an accepted R leaves, where its result takes the lowest free row.
use Prim.Native.Nat.{ℕ, ◌+◌}
use mathlib.Core.Path.{◌≡◌, refl, sym, ap, ap₂, ◌∙◌}
use mathlib.Core.Bool.{Bool, true, false, not, ◌&&◌, false≢true}
use mathlib.Core.List.{List, [], ◌∷◌, map}
use borrow.Author.Tests.{ne_eqb}
use lib.Dec.{eqb}
use lib.IntN.{ℤ, pos, negsuc}
use lib.ListN.{length}
use mir.Syntax.{w32}
use mir.Val.{SFits, to_z, of_z}
use mir.Facts.{to_z-of_z}
use Rattle.words.specs.Choice.{if_true◌then◌else◌}
use Rattle.facts.specs.Table.{table as fact_table, fact_of, family, is_critical}
use Rattle.facts.specs.Named.{PushLocalFrame, EnsureLocalCapacity, MonitorEnter, MonitorExit}
use Rattle.facts.specs.Classes.{class_made}
use Rattle.facts.specs.declared.Result.{Result}
use Rattle.facts.specs.Results.{is_buffer_result, is_handle_result, is_local_result}
use Rattle.lines.specs.Line.{R, is_zero, above_zero}
use Rattle.lines.specs.Events.{is_status, gives_status, result_in_line}
use Rattle.rows.specs.Table.{Table, free_row, stored, taken}
use Rattle.rows.specs.References.{references}
use Rattle.rows.specs.Pins.{pins}
use Rattle.rows.specs.declared.references.Reference.{Reference}
use Rattle.history.specs.Handles.{Alive, local, shared, result_made, makes}
use Rattle.history.specs.Buffers.{ordinary, critical, pin, gets}
use Rattle.history.specs.Acceptance.{made_by}
use Rattle.book.specs.Threads.{thread_in}
use Rattle.book.specs.Moves.{capacity_raised, pending_set, line_counted}
use Rattle.tables.specs.Tables.{Tables, reference_of, pin_row_of, seen_in}
use Rattle.tables.specs.Acting.{all_taken, pin_owner, status_acted, references_after, pins_after, book_after, classes_after, acted}
use Rattle.tables.specs.Lent.{with_references, with_pins, with_book}
use Rattle.act.specs.Returns.{result_row, made, got, held, status_taken, returned_book, returned}
use Rattle.act.proofs.Choosing.{chosen, passed_over}

-- ---- a handle

module _ (line : ℕ) (k : Result) (t d h c : ℕ) (y : Bool) (e : y ≡ is_local_result k) where
  pub local_row : y ≡ true → record { thread = t; handle = h; frame = d; line = line; class = c } ≡ result_row line k t d h c
  unfolding result_row
  local_row q = rw (sym e ∙ q) refl

  pub shared_row : y ≡ false → record { thread = 0; handle = h; frame = 0; line = line; class = c } ≡ result_row line k t d h c
  unfolding result_row
  shared_row q = rw (sym e ∙ q) refl

-- a test of a result that is not null
not_null : (x y : Bool) (h : ℕ) (b : Bool) → x ≡ y → (x && not (eqb h 0)) ≡ b → (y && not (eqb h 0)) ≡ b
not_null x y h b e q = sym (ap (λ (z : Bool). z && not (eqb h 0)) e) ∙ q

module _ (T : Tables) (line : ℕ) (k : Result) (t d f h row : ℕ) (y : Bool) (e : y ≡ is_handle_result k) where
  pub handle_stored : (T' : Tables) (x : Reference) (c : ℕ) → (y && not (eqb h 0)) ≡ true → c ≡ class_made f → x ≡ result_row line k t d h c
      → T' ≡ with_references T (stored references T.references row x) → T' ≡ with_references T (made T.references line k t d f h row)
  unfolding made
  handle_stored T' x c q ec ex s =
      rw (not_null y (is_handle_result k) h true e q) (s ∙ ap (λ (z : Reference). with_references T (stored references T.references row z)) (ex ∙ ap (result_row line k t d h) ec))

  pub no_handle_stored : (y && not (eqb h 0)) ≡ false → T ≡ with_references T (made T.references line k t d f h row)
  unfolding made
  no_handle_stored q = rw (not_null y (is_handle_result k) h false e q) refl

-- ---- a buffer

module _ (T : Tables) (line : ℕ) (k : Result) (t f h row : ℕ) (y : Bool) (e : y ≡ is_buffer_result k) where
  pub buffer_stored : (T' : Tables) (j o : ℕ) → (y && not (eqb h 0)) ≡ true → j ≡ family f → o ≡ (if_true is_critical j then t else 0)
      → T' ≡ with_pins T (stored pins T.pins row (record { thread = o; family = j; buffer = h; line = line })) → T' ≡ with_pins T (got T.pins line k t f h row)
  unfolding got
  buffer_stored T' j o q ej eo es =
      rw (not_null y (is_buffer_result k) h true e q)
      (es
      ∙ ap (λ (s : ℕ). with_pins T (stored pins T.pins row (record { thread = s; family = j; buffer = h; line = line }))) eo
      ∙ ap (λ (i : ℕ). with_pins T (stored pins T.pins row (record { thread = if_true is_critical i then t else 0; family = i; buffer = h; line = line }))) ej)

  pub no_buffer_stored : (y && not (eqb h 0)) ≡ false → T ≡ with_pins T (got T.pins line k t f h row)
  unfolding got
  no_buffer_stored q = rw (not_null y (is_buffer_result k) h false e q) refl

-- ---- the book

status_idle : (b : List ℕ) (t f held n : ℕ) → (f ≡ PushLocalFrame → ⊥) → (f ≡ EnsureLocalCapacity → ⊥) → (f ≡ MonitorEnter → ⊥) → (f ≡ MonitorExit → ⊥)
    → b ≡ status_acted b t f held n
status_idle b t f held n h1 h2 h3 h4 =
    rw (ne_eqb f PushLocalFrame h1, ne_eqb f EnsureLocalCapacity h2, ne_eqb f MonitorEnter h3, ne_eqb f MonitorExit h4) refl

pub capacity_held : (T : Tables) (b : List ℕ) (t k n : ℕ) → k ≡ held T.references T.book t → b ≡ capacity_raised T.book t (k + n)
    → with_book T b ≡ with_book T (capacity_raised T.book t (held T.references T.book t + n))
capacity_held T b t k n e q = ap (with_book T) (q ∙ ap (λ (j : ℕ). capacity_raised T.book t (j + n)) e)

-- the test of a status is one of its bits
pub zero_status : (s : ℤ) → SFits w32 s → of_z w32 s ≡ 0 → is_zero s ≡ true
zero_status s f h = ap is_zero (sym (to_z-of_z f) ∙ ap (to_z w32) h)

pub other_status : (s : ℤ) → (of_z w32 s ≡ 0 → ⊥) → is_zero s ≡ false
other_status (pos n) h = ne_eqb n 0 (λ e. h (ap (λ (k : ℕ). of_z w32 (pos k)) e))
other_status (negsuc n) h = refl

module _ (T : Tables) (t f n : ℕ) (s : ℤ) where
  abbrev acts : List ℕ
  acts = status_acted T.book t f (held T.references T.book t) n

  pub status_acts : (S : Tables) → SFits w32 s → of_z w32 s ≡ 0 → S ≡ with_book T (status_acted T.book t f (held T.references T.book t) n)
      → S ≡ with_book T (status_taken T.references T.book t f s n)
  unfolding status_taken
  status_acts S k h e = e ∙ ap (with_book T) (chosen (is_zero s) acts T.book (zero_status s k h) refl)

  pub status_rests : (of_z w32 s ≡ 0 → ⊥) → T ≡ with_book T (status_taken T.references T.book t f s n)
  unfolding status_taken
  status_rests h = ap (with_book T) (passed_over (is_zero s) acts T.book (other_status s h) refl)

  -- passed on, a status is read from its bits
  pub book_returned : (S : Tables) (b1 b2 : List ℕ) (p : ℕ) (z : ℤ) → z ≡ s → S ≡ with_book T (status_taken T.references T.book t f z n) → b1 ≡ pending_set S.book t p → b2 ≡ line_counted b1
      → with_book S b2 ≡ with_book T (returned_book T.references T.book t f s p n)
  unfolding returned_book
  book_returned S b1 b2 p z ez e e1 e2 =
      ap (with_book S) (e2 ∙ ap line_counted e1)
      ∙ ap (λ (X : Tables). with_book X (line_counted (pending_set X.book t p))) (e ∙ ap (λ (y : ℤ). with_book T (status_taken T.references T.book t f y n)) ez)

-- ---- the tables

-- one step after another
pub all_returned : (T T1 T2 T3 : Tables) (line : ℕ) (k : Result) (row t f h p n d : ℕ) (s z : ℤ) → d ≡ length (thread_in T.book t).frames → z ≡ s
    → T1 ≡ with_book T (returned_book T.references T.book t f z p n) → T2 ≡ with_references T1 (made T1.references line k t d f h row) → T3 ≡ with_pins T2 (got T2.pins line k t f h row)
    → T3 ≡ returned T line k row t f h s p n
unfolding returned
all_returned T T1 T2 T3 line k row t f h p n d s z ed ez e1 e2 e3 =
    e3
    ∙ ap (λ (X : Tables). with_pins X (got X.pins line k t f h row))
    (e2
    ∙ ap (λ (X : Tables). with_references X (made X.references line k t d f h row)) (e1 ∙ ap (λ (y : ℤ). with_book T (returned_book T.references T.book t f y p n)) ez)
    ∙ ap (λ (j : ℕ). with_references (with_book T (returned_book T.references T.book t f s p n)) (made T.references line k t j f h row)) ed)

-- ---- it is what an accepted R leaves

module _ (T : Table) (line class row : ℕ) where
  one_made : (null : Bool) (x : Alive) → (not null ≡ true → row ≡ free_row references T)
      → (if_true not null then stored references T row (reference_of line class x) else T) ≡ all_taken references T (map (reference_of line class) (if_true null then [] else x ∷ []))
  unfolding all_taken taken
  one_made true x e = refl
  one_made false x e = ap (λ (r : ℕ). stored references T r (reference_of line class x)) (e refl)

  none_made : (null : Bool) → T ≡ all_taken references T (map (reference_of line class) (if_true null then [] else []))
  unfolding all_taken
  none_made true = refl
  none_made false = refl

  made_result : (k : Result) (t d h : ℕ) (s : ℤ) → ((is_handle_result k && not (eqb h 0)) ≡ true → row ≡ free_row references T)
      → (if_true is_handle_result k && not (eqb h 0) then stored references T row (result_row line k t d h class) else T)
      ≡ all_taken references T
      (map (reference_of line class) (if_true eqb (above_zero (if_true is_status k then s else pos h)) 0 then [] else result_made k t d (above_zero (if_true is_status k then s else pos h))))
  unfolding result_row
  made_result Result.Local t d h s e = one_made (eqb h 0) (local t d h) e
  made_result Result.Global t d h s e = one_made (eqb h 0) (shared h) e
  made_result Result.Weak t d h s e = one_made (eqb h 0) (shared h) e
  made_result Result.Identity t d h s e = none_made (eqb h 0)
  made_result Result.Buffer t d h s e = none_made (eqb h 0)
  made_result Result.Status t d h s e = none_made (eqb (above_zero s) 0)
  made_result Result.Nothing t d h s e = none_made (eqb h 0)

row_of_pin : (line t f h : ℕ) → record { thread = pin_owner f t; family = family f; buffer = h; line = line } ≡ pin_row_of line (pin t f h)
unfolding pin
row_of_pin line t f h = go (is_critical (family f))
  where
    go : (o : Bool) → record { thread = if_true o then t else 0; family = family f; buffer = h; line = line } ≡ pin_row_of line (if_true o then critical t (family f) h else ordinary (family f) h)
    go true = refl
    go false = refl

module _ (P : Table) (line row t f h : ℕ) where
  one_got : (null : Bool) → (not null ≡ true → row ≡ free_row pins P)
      → (if_true not null then stored pins P row (record { thread = pin_owner f t; family = family f; buffer = h; line = line }) else P)
      ≡ all_taken pins P (map (pin_row_of line) (if_true not null then pin t f h ∷ [] else []))
  unfolding all_taken taken
  one_got true e = refl
  one_got false e = ap₂ (stored pins P) (e refl) (row_of_pin line t f h)

  got_result : (k : Result) (s : ℤ) → ((is_buffer_result k && not (eqb h 0)) ≡ true → row ≡ free_row pins P)
      → (if_true is_buffer_result k && not (eqb h 0) then stored pins P row (record { thread = pin_owner f t; family = family f; buffer = h; line = line }) else P)
      ≡ all_taken pins P
      (map (pin_row_of line)
      (if_true is_buffer_result k && not (eqb (above_zero (if_true is_status k then s else pos h)) 0) then pin t f (above_zero (if_true is_status k then s else pos h)) ∷ [] else []))
  unfolding all_taken
  got_result Result.Buffer s e = one_got (eqb h 0) e
  got_result Result.Local s e = refl
  got_result Result.Global s e = refl
  got_result Result.Weak s e = refl
  got_result Result.Identity s e = refl
  got_result Result.Status s e = refl
  got_result Result.Nothing s e = refl

-- a function that gives no status is none of those that do
not_that : (f g : ℕ) → gives_status f ≡ false → gives_status g ≡ true → f ≡ g → ⊥
not_that f g h k e = false≢true (sym h ∙ ap gives_status e ∙ k)

no_status : (b : List ℕ) (t f held n : ℕ) → gives_status f ≡ false → b ≡ status_acted b t f held n
unfolding fact_of fact_table
no_status b t f held n h =
    status_idle
    b
    t
    f
    held
    n
    (not_that f PushLocalFrame h refl)
    (not_that f EnsureLocalCapacity h refl)
    (not_that f MonitorEnter h refl)
    (not_that f MonitorExit h refl)

same_book : (status : Bool) (h : ℕ) (s : ℤ) (b b' : List ℕ) → (status ≡ false → b ≡ b')
    → (if_true is_zero s then b' else b) ≡ (if_true is_zero (if_true status then s else pos h) then b' else b)
same_book true h s b b' e = refl
same_book false h s b b' e = both_ways (is_zero s) ∙ sym (both_ways (eqb h 0))
  where
    both_ways : (o : Bool) → (if_true o then b' else b) ≡ b
    both_ways true = sym (e refl)
    both_ways false = refl

-- where the row is the lowest free one of the table that gets the result
pub returned_is_acted : (T : Tables) (line row t f h : ℕ) (s : ℤ) (p n : ℕ)
    → ((is_handle_result (fact_of f).result && not (eqb h 0)) ≡ true → row ≡ free_row references T.references)
    → ((is_buffer_result (fact_of f).result && not (eqb h 0)) ≡ true → row ≡ free_row pins T.pins)
    → returned T line (fact_of f).result row t f h s p n ≡ acted line (R t f (result_in_line f h s) p) n T
unfolding returned made got returned_book status_taken held acted references_after pins_after book_after classes_after made_by makes gets seen_in
returned_is_acted T line row t f h s p n er ep =
    let depth : ℕ = length (thread_in T.book t).frames
    in
    let rows : made T.references line (fact_of f).result t depth f h row ≡ references_after line (R t f (result_in_line f h s) p) T =
    made_result T.references line (class_made f) row (fact_of f).result t depth h s er
    in
    let buffers : got T.pins line (fact_of f).result t f h row ≡ pins_after line (R t f (result_in_line f h s) p) T =
    got_result T.pins line row t f h (fact_of f).result s ep
    in
    let book : returned_book T.references T.book t f s p n ≡ line_counted (book_after (R t f (result_in_line f h s) p) n T) =
    ap
    (λ (b : List ℕ). line_counted (pending_set b t p))
    (same_book
    (gives_status f)
    h
    s
    T.book
    (status_acted T.book t f (held T.references T.book t) n)
    (no_status T.book t f (held T.references T.book t) n))
    in
    λ i. record { references = rows i; pins = buffers i; book = book i; classes = T.classes }
