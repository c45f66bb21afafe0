-- Lent rows and marks after a start, number by number: unused rows hold zeros and no mark past the room is set. Assumes nothing.
use Prim.Native.Nat.{ℕ, suc}
use mathlib.Core.Path.{refl, subst}
use mathlib.Core.Bool.{Bool, true, false, ◌&&◌}
use mathlib.Core.List.{List, [], ◌∷◌, map}
use lib.Dec.{eqb, leb}
use lib.ListN.{length}
use Rattle.words.specs.Choice.{if_true◌then◌else◌}
use Rattle.facts.specs.Table.{fact_of, family}
use Rattle.facts.specs.Classes.{no_class, class_made}
use Rattle.facts.specs.Named.{PopLocalFrame}
use Rattle.facts.specs.Results.{is_buffer_place}
use Rattle.lines.specs.Line.{Line, N, X, C, R, A, D, Z, states, K, O, M}
use Rattle.lines.specs.Reading.{Read, says, refused, read}
use Rattle.rows.specs.Table.{Layout, Table, row, row_at, found, taken, ended_all}
use Rattle.rows.specs.Exact.{Exact}
use Rattle.rows.specs.References.{references, with_class, is_handle, from_frame}
use Rattle.rows.specs.Pins.{pins, is_buffer}
use Rattle.rows.proofs.ExactLaws.{Clean, clean_cleared, clean_taken, clean_changed, clean_ended, clean_ended_all, exact}
use Rattle.history.specs.Past.{History, thread_of}
use Rattle.history.specs.Items.{top_of, asked}
use Rattle.history.specs.Frames.{without_native, top_pushed}
use Rattle.history.specs.Buffers.{gets}
use Rattle.history.specs.Acceptance.{Room, made_by}
use Rattle.history.specs.Replies.{Reply, accepted, not_accepted, most_lines}
use Rattle.book.specs.Threads.{thread_in, items_in, lines_in}
use Rattle.tables.specs.Tables.{Tables, seen_in, reference_of, pin_row_of}
use Rattle.tables.specs.Weighing.{weighed_in}
use Rattle.tables.specs.Acting.{all_taken, first_ended, is_delete, delete_owner, owner_of, pin_owner, references_after, pins_after, acted}
use Rattle.tables.specs.Stepping.{untouched, follow, next_line, on_read, unfit_tables, step_of, start_of}
use Rattle.demands.specs.Tied.{past_references, past_pins, Tied}
use Rattle.demands.specs.Calls.{after}

-- ---- a table

module _ {A : Type 0} (L : Layout A) where
  clean_all_taken : (xs : List A) (T : Table) → Clean L T → Clean L (all_taken L T xs)
  unfolding all_taken
  clean_all_taken [] T k = k
  clean_all_taken (x ∷ xs) T k = clean_all_taken xs (taken L T x) (clean_taken L T x k)

  clean_first_ended : (test : A → Bool) (T : Table) → Clean L T → Clean L (first_ended L test T)
  unfolding first_ended
  clean_first_ended test T k = clean_ended L T (found L test T) k

-- ---- the tables

record CleanTables (T : Tables) : Type 0 where
  reference_table : Clean references T.references
  pin_table : Clean pins T.pins

module _ (T : Tables) (k : CleanTables T) where
  clean_references : (line : ℕ) (e : Line) → Clean references (references_after line e T)
  unfolding references_after
  clean_references line (N t env hs) = clean_all_taken references (map (reference_of line no_class) (made_by (N t env hs) (seen_in T))) T.references k.reference_table
  clean_references line (X t r) = clean_ended_all references (from_frame t (suc (length (without_native (thread_in T.book t).frames)))) T.references k.reference_table
  clean_references line (C t env f a b c n) = go (is_delete f a) (eqb f PopLocalFrame && top_pushed (thread_in T.book t).frames)
    where
      go : (d q : Bool) → Clean references
          (if_true d then first_ended references (is_handle (delete_owner f t) a) T.references
          else if_true q then ended_all references (from_frame t (length (thread_in T.book t).frames)) T.references
          else T.references)
      go true q = clean_first_ended references (is_handle (delete_owner f t) a) T.references k.reference_table
      go false true = clean_ended_all references (from_frame t (length (thread_in T.book t).frames)) T.references k.reference_table
      go false false = k.reference_table
  clean_references line (R t f r p) = clean_all_taken references (map (reference_of line (class_made f)) (made_by (R t f r p) (seen_in T))) T.references k.reference_table
  clean_references line (A t env) = clean_all_taken references (map (reference_of line no_class) (made_by (A t env) (seen_in T))) T.references k.reference_table
  clean_references line (D t) = clean_ended_all references (from_frame t 1) T.references k.reference_table
  clean_references line Z = clean_all_taken references (map (reference_of line no_class) (made_by Z (seen_in T))) T.references k.reference_table
  clean_references line (states (K c s)) = clean_all_taken references (map (reference_of line no_class) (made_by (states (K c s)) (seen_in T))) T.references k.reference_table
  clean_references line (states (M x sort c static final)) = clean_all_taken references (map (reference_of line no_class) (made_by (states (M x sort c static final)) (seen_in T))) T.references k.reference_table
  clean_references line (states (O t h c)) = clean_changed references (is_handle (owner_of t h) h) (with_class c) T.references k.reference_table

  got_clean : (line : ℕ) (e : Line) → Clean pins (all_taken pins T.pins (map (pin_row_of line) (gets e)))
  got_clean line e = clean_all_taken pins (map (pin_row_of line) (gets e)) T.pins k.pin_table

  clean_pins : (line : ℕ) (e : Line) → Clean pins (pins_after line e T)
  unfolding pins_after
  clean_pins line (N t env hs) = got_clean line (N t env hs)
  clean_pins line (X t r) = got_clean line (X t r)
  clean_pins line (C t env f a b c n) = go (is_buffer_place (fact_of f).b)
    where
      go : (q : Bool) → Clean pins (if_true q then first_ended pins (is_buffer (pin_owner f t) (family f) b) T.pins else T.pins)
      go true = clean_first_ended pins (is_buffer (pin_owner f t) (family f) b) T.pins k.pin_table
      go false = k.pin_table
  clean_pins line (R t f r p) = got_clean line (R t f r p)
  clean_pins line (A t env) = got_clean line (A t env)
  clean_pins line (D t) = got_clean line (D t)
  clean_pins line Z = got_clean line Z
  clean_pins line (states s) = got_clean line (states s)

  clean_line : (line : ℕ) (e : Line) (n : ℕ) (r : Reply) → CleanTables (follow line e n r T).left
  unfolding acted
  clean_line line e n (not_accepted j) = k
  clean_line line e n (accepted fs) = record { reference_table = clean_references line e; pin_table = clean_pins line e }

  clean_read : (r : Read) → CleanTables (on_read r T).left
  clean_read (refused j) = k
  clean_read (says e) =
      let is = items_in T.book (thread_of e) in
      clean_line (next_line T) e (asked (top_of is)) (weighed_in (next_line T) e (top_of is) (length is) T)

  -- whatever the line is
  clean_step : (bs : List ℕ) → CleanTables (step_of T bs).left
  unfolding step_of
  clean_step bs = go (unfit_tables T) (leb most_lines (lines_in T.book))
    where
      go : (p q : Bool) → CleanTables (if_true p then untouched 8 T else if_true q then untouched 1 T else on_read (read bs) T).left
      go true q = k
      go false true = k
      go false false = clean_read (read bs)

clean_after : (T : Tables) (calls : List (List ℕ)) → CleanTables (after (start_of T) calls)
unfolding after start_of
clean_after T [] = record { reference_table = clean_cleared references T.references; pin_table = clean_cleared pins T.pins }
clean_after T (bs ∷ before) = clean_step (after (start_of T) before) (clean_after T before) bs

-- ---- so every row and every mark is that of the past

module _ (room : Room) (T : Tables) (calls : List (List ℕ)) (past : History) (tied : Tied room (after (start_of T) calls) past) where
  pub references_exact : Exact references (after (start_of T) calls).references (past_references room.references past)
  references_exact =
      subst (Exact references (after (start_of T) calls).references) tied.reference_table
      (exact references (after (start_of T) calls).references (λ rs r. unfold row_at row in refl) (clean_after T calls).reference_table)

  pub pins_exact : Exact pins (after (start_of T) calls).pins (past_pins room.pins past)
  pins_exact =
      subst (Exact pins (after (start_of T) calls).pins) tied.pin_table
      (exact pins (after (start_of T) calls).pins (λ rs r. unfold row_at row in refl) (clean_after T calls).pin_table)
