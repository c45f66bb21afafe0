-- What the code looked up for R is what the tables show. Assumes nothing.
use Prim.Native.Nat.{ℕ}
use mathlib.Core.Path.{◌≡◌, refl, sym, ap, ap₂, ◌∙◌}
use mathlib.Core.Bool.{Bool, true, false, not, ◌&&◌, false≢true}
use mathlib.Core.List.{List}
use borrow.Author.Tests.{eq-eqb, ne_eqb}
use lib.Dec.{eqb, leb, ltb}
use lib.ListN.{length}
use Rattle.words.specs.Choice.{if_true◌then◌else◌}
use Rattle.facts.specs.Table.{fact_of}
use Rattle.facts.specs.Results.{is_local_result, is_handle_result, is_buffer_result}
use Rattle.facts.specs.declared.Result.{Result}
use Rattle.lines.proofs.Tests.{and_true, and_false}
use Rattle.rows.specs.Table.{Table, room, free_row}
use Rattle.rows.specs.References.{references}
use Rattle.rows.specs.Pins.{pins}
use Rattle.history.specs.Handles.{in_frame}
use Rattle.book.specs.Threads.{thread_in, top_capacity}
use Rattle.tables.specs.Tables.{Tables, handles_in}
use Rattle.sight.specs.declared.returns.Made.{Made}
use Rattle.sight.specs.Returns.{is_alive_as, nothing_made, handle_made, buffer_made, made_sight, over_capacity, overflows_in, return_sight}

-- ---- what is made

pub handle_seen : (R : Table) (l : Bool) (t h : ℕ) (b : Bool) (r n : ℕ) → b ≡ is_alive_as l R t h → r ≡ free_row references R → n ≡ room references R
    → record { alive = b; row = r; fits = ltb r n } ≡ handle_made l R t h
unfolding handle_made
handle_seen R l t h b r n eb er en i = record { alive = eb i; row = er i; fits = ap₂ ltb er en i }

pub buffer_seen : (P : Table) (r n : ℕ) → r ≡ free_row pins P → n ≡ room pins P → record { alive = false; row = r; fits = ltb r n } ≡ buffer_made P
unfolding buffer_made
buffer_seen P r n er en i = record { alive = false; row = er i; fits = ap₂ ltb er en i }

module _ (R P : Table) (k : Result) (t h : ℕ) (m : Made) where
  pub null_made : h ≡ 0 → m ≡ nothing_made → m ≡ made_sight R P k t h
  unfolding made_sight
  null_made z q = rw (eq-eqb h 0 z) q

  pub made_handle : (l : Bool) → (h ≡ 0 → ⊥) → is_handle_result k ≡ true → l ≡ is_local_result k → m ≡ handle_made l R t h → m ≡ made_sight R P k t h
  unfolding made_sight
  made_handle l z y e q = rw (ne_eqb h 0 z, y) (q ∙ ap (λ (x : Bool). handle_made x R t h) e)

  pub made_buffer : (h ≡ 0 → ⊥) → is_handle_result k ≡ false → is_buffer_result k ≡ true → m ≡ buffer_made P → m ≡ made_sight R P k t h
  unfolding made_sight
  made_buffer z n y q = rw (ne_eqb h 0 z, n, y) q

  pub made_nothing : (h ≡ 0 → ⊥) → is_handle_result k ≡ false → is_buffer_result k ≡ false → m ≡ nothing_made → m ≡ made_sight R P k t h
  unfolding made_sight
  made_nothing z n y q = rw (ne_eqb h 0 z, n, y) q

-- ---- capacities

pub capacity_left : (R : Table) (b : List ℕ) (t d held c : ℕ) → d ≡ length (thread_in b t).frames → held ≡ handles_in R (in_frame t d) → c ≡ top_capacity (thread_in b t).capacities
    → (ltb 0 d && leb c held) ≡ over_capacity R b t
unfolding over_capacity
capacity_left R b t d held c ed eh ec =
    ap₂ (λ (x y : ℕ). ltb 0 d && leb x y) ec eh
    ∙ ap (λ (n : ℕ). ltb 0 n && leb (top_capacity (thread_in b t).capacities) (handles_in R (in_frame t n))) ed

module _ (R : Table) (b : List ℕ) (k : Result) (t h : ℕ) (l : Bool) (e : l ≡ is_local_result k) where
  pub over_there : (o : Bool) → (l && not (eqb h 0)) ≡ true → o ≡ over_capacity R b t → o ≡ overflows_in R b k t h
  unfolding overflows_in
  over_there o y eo = rw (sym (ap (λ (x : Bool). x && not (eqb h 0)) e) ∙ y) eo

  pub over_none : (l && not (eqb h 0)) ≡ false → false ≡ overflows_in R b k t h
  unfolding overflows_in
  over_none y = rw (sym (ap (λ (x : Bool). x && not (eqb h 0)) e) ∙ y) refl

-- ---- all of it

pub return_seen : (T : Tables) (t f h : ℕ) (k : Result) (m : Made) (n : ℕ) (o : Bool) → k ≡ (fact_of f).result
    → m ≡ made_sight T.references T.pins k t h → n ≡ length (thread_in T.book t).frames → o ≡ overflows_in T.references T.book k t h
    → record { kind = k; made = m; frames = n; over = o } ≡ return_sight T t f h
unfolding return_sight
return_seen T t f h k m n o ek em en eo i =
    record {
      kind = ek i;
      made = (em ∙ ap (λ (x : Result). made_sight T.references T.pins x t h) ek) i;
      frames = en i;
      over = (eo ∙ ap (λ (x : Result). overflows_in T.references T.book x t h) ek) i;
    }

-- the row of the result is the lowest free one of its table
module _ (T : Tables) (t f h : ℕ) where
  row_as : (null : Bool) (k : Result) → (is_handle_result k && not null) ≡ true
      → (if_true null then nothing_made else if_true is_handle_result k then handle_made (is_local_result k) T.references t h else if_true is_buffer_result k then buffer_made T.pins else nothing_made).row
      ≡ free_row references T.references
  unfolding handle_made
  row_as true k q = absurd (false≢true (sym (and_false (is_handle_result k)) ∙ q))
  row_as false k q = rw (sym (and_true (is_handle_result k)) ∙ q) refl

  pin_row_as : (null : Bool) (k : Result) → (is_buffer_result k && not null) ≡ true
      → (if_true null then nothing_made else if_true is_handle_result k then handle_made (is_local_result k) T.references t h else if_true is_buffer_result k then buffer_made T.pins else nothing_made).row
      ≡ free_row pins T.pins
  unfolding buffer_made
  pin_row_as true k q = absurd (false≢true (sym (and_false (is_buffer_result k)) ∙ q))
  pin_row_as false Result.Buffer q = refl
  pin_row_as false Result.Local q = absurd (false≢true q)
  pin_row_as false Result.Global q = absurd (false≢true q)
  pin_row_as false Result.Weak q = absurd (false≢true q)
  pin_row_as false Result.Identity q = absurd (false≢true q)
  pin_row_as false Result.Status q = absurd (false≢true q)
  pin_row_as false Result.Nothing q = absurd (false≢true q)

  pub handle_row : (is_handle_result (fact_of f).result && not (eqb h 0)) ≡ true → (return_sight T t f h).made.row ≡ free_row references T.references
  unfolding return_sight made_sight
  handle_row = row_as (eqb h 0) (fact_of f).result

  pub buffer_row : (is_buffer_result (fact_of f).result && not (eqb h 0)) ≡ true → (return_sight T t f h).made.row ≡ free_row pins T.pins
  unfolding return_sight made_sight
  buffer_row = pin_row_as (eqb h 0) (fact_of f).result

  pub kind_told : (return_sight T t f h).kind ≡ (fact_of f).result
  unfolding return_sight
  kind_told = refl
