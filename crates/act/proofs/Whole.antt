-- What the code leaves in rows and book is what an accepted line leaves in the tables.
use Prim.Native.Nat.{ℕ, suc, ◌+◌}
use mathlib.Core.Path.{◌≡◌, refl, sym, ap, ◌∙◌}
use mathlib.Core.Bool.{false}
use mathlib.Core.List.{List, [], map}
use native.Mathlib.Numerals.{add-one}
use borrow.Author.Tests.{eq-eqb, ne_eqb}
use lib.ListN.{length}
use Rattle.rows.specs.Table.{ended_all}
use Rattle.rows.specs.References.{references, from_frame}
use Rattle.facts.specs.Classes.{no_class}
use Rattle.lines.specs.Line.{N, X, A, D, Z, K, states}
use Rattle.history.specs.Frames.{without_native}
use Rattle.history.specs.Handles.{local, makes}
use Rattle.history.specs.Capacities.{native_capacity}
use Rattle.history.specs.Buffers.{gets}
use Rattle.history.specs.Acceptance.{made_by}
use Rattle.classes.specs.Supers.{with_super}
use Rattle.book.specs.Threads.{thread_in}
use Rattle.book.specs.Moves.{frame_pushed, native_left, frames_ended, env_set, pending_set, monitors_dropped, line_counted, closed_set}
use Rattle.tables.specs.Tables.{Tables, reference_of, seen_in}
use Rattle.tables.specs.Lent.{with_references, with_book}
use Rattle.tables.specs.Acting.{all_taken, references_after, pins_after, book_after, classes_after, acted, env_kept}
use Rattle.act.specs.Rows.{locals}
use Rattle.act.specs.Books.{entered_book, left_book, detached_book}
use Rattle.act.proofs.Taking.{rows_of_locals}

-- ---- the env

pub env_new : (b c : List ℕ) (t env own : ℕ) → own ≡ (thread_in b t).env → own ≡ 0 → c ≡ env_set b t env → c ≡ env_kept b t env
env_new b c t env own e z k = rw (eq-eqb (thread_in b t).env 0 (sym e ∙ z)) k

pub env_old : (b : List ℕ) (t env own : ℕ) → own ≡ (thread_in b t).env → (own ≡ 0 → ⊥) → b ≡ env_kept b t env
env_old b t env own e z = rw (ne_eqb (thread_in b t).env 0 (λ q. z (e ∙ q))) refl

-- ---- the book, one move after another

pub book_entered : (b b1 b2 b3 b4 : List ℕ) (t env : ℕ) (hs : List ℕ) → b1 ≡ frame_pushed b t (native_capacity hs) false → b2 ≡ env_kept b1 t env → b3 ≡ pending_set b2 t 0 → b4 ≡ line_counted b3
    → b4 ≡ entered_book b t env hs
unfolding entered_book
book_entered b b1 b2 b3 b4 t env hs e1 e2 e3 e4 =
    e4 ∙ ap line_counted (e3 ∙ ap (λ (x : List ℕ). pending_set x t 0) (e2 ∙ ap (λ (x : List ℕ). env_kept x t env) e1))

pub book_left : (b b1 b2 : List ℕ) (t : ℕ) → b1 ≡ native_left b t → b2 ≡ line_counted b1 → b2 ≡ left_book b t
unfolding left_book
book_left b b1 b2 t e1 e2 = e2 ∙ ap line_counted e1

pub book_detached : (b b1 b2 b3 : List ℕ) (t : ℕ) → b1 ≡ frames_ended b t → b2 ≡ monitors_dropped b1 t → b3 ≡ line_counted b2 → b3 ≡ detached_book b t
unfolding detached_book
book_detached b b1 b2 b3 t e1 e2 e3 = e3 ∙ ap line_counted (e2 ∙ ap (λ (x : List ℕ). monitors_dropped x t) e1)

-- ---- the tables

module _ (T S : Tables) (b : List ℕ) (line n : ℕ) where
  pub entered : (t env d : ℕ) (hs : List ℕ) → d ≡ length (thread_in T.book t).frames → S ≡ with_references T (all_taken references T.references (locals line t (d + 1) hs))
      → b ≡ entered_book S.book t env hs → with_book S b ≡ acted line (N t env hs) n T
  unfolding acted references_after pins_after book_after classes_after made_by makes gets all_taken seen_in entered_book
  entered t env d hs ed er eb =
      let rows : all_taken references T.references (locals line t (d + 1) hs)
      ≡ all_taken references T.references (map (reference_of line no_class) (map (local t (suc (length (thread_in T.book t).frames))) hs)) =
      ap (λ (k : ℕ). all_taken references T.references (locals line t k hs)) (add-one d ∙ ap suc ed)
      ∙ ap (all_taken references T.references) (rows_of_locals line t (suc (length (thread_in T.book t).frames)) hs)
      in
      ap (with_book S) eb ∙ ap (λ (X : Tables). with_book X (entered_book X.book t env hs)) (er ∙ ap (with_references T) rows)

  pub left : (t r d : ℕ) → d ≡ length (without_native (thread_in T.book t).frames) → S ≡ with_references T (ended_all references (from_frame t (d + 1)) T.references)
      → b ≡ left_book S.book t → with_book S b ≡ acted line (X t r) n T
  unfolding acted references_after pins_after book_after classes_after gets all_taken left_book
  left t r d ed er eb =
      ap (with_book S) eb
      ∙ ap (λ (Y : Tables). with_book Y (left_book Y.book t))
      (er ∙ ap (λ (k : ℕ). with_references T (ended_all references (from_frame t k) T.references)) (add-one d ∙ ap suc ed))

  pub detached : (t : ℕ) → S ≡ with_references T (ended_all references (from_frame t 1) T.references) → b ≡ detached_book S.book t → with_book S b ≡ acted line (D t) n T
  unfolding acted references_after pins_after book_after classes_after gets all_taken detached_book
  detached t er eb = ap (with_book S) eb ∙ ap (λ (X : Tables). with_book X (detached_book X.book t)) er

-- A does what N does with no handles
pub attached : (line n t env : ℕ) (T : Tables) → acted line (N t env []) n T ≡ acted line (A t env) n T
unfolding acted references_after pins_after book_after classes_after made_by makes gets
attached line n t env T = refl

pub closed : (T : Tables) (b1 b2 : List ℕ) (line n : ℕ) → b1 ≡ closed_set T.book → b2 ≡ line_counted b1 → with_book T b2 ≡ acted line Z n T
unfolding acted references_after pins_after book_after classes_after made_by makes gets all_taken
closed T b1 b2 line n e1 e2 = ap (with_book T) (e2 ∙ ap line_counted e1)

pub declared : (T : Tables) (b cs : List ℕ) (line n c s : ℕ) → cs ≡ with_super T.classes c s → b ≡ line_counted T.book
    → record { references = T.references; pins = T.pins; book = b; classes = cs } ≡ acted line (states (K c s)) n T
unfolding acted references_after pins_after book_after classes_after made_by makes gets all_taken
declared T b cs line n c s ec eb i = record { references = T.references; pins = T.pins; book = eb i; classes = ec i }
