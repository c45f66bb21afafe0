-- What the code of O and M leaves is what an accepted O or M leaves, where the row told is that of its handle, the place that of its identity.
use Prim.Native.Nat.{ℕ}
use mathlib.Core.Path.{◌≡◌, ap, ◌∙◌}
use mathlib.Core.List.{List}
use Rattle.lines.specs.Line.{O, M, states}
use Rattle.rows.specs.Table.{found, changed}
use Rattle.rows.specs.References.{references, with_class, is_handle}
use Rattle.history.specs.Handles.{makes}
use Rattle.history.specs.Buffers.{gets}
use Rattle.history.specs.Acceptance.{made_by}
use Rattle.classes.specs.Identities.{place_of, with_identity}
use Rattle.book.specs.Moves.{line_counted}
use Rattle.tables.specs.Tables.{Tables}
use Rattle.tables.specs.Lent.{with_references, with_book}
use Rattle.tables.specs.Acting.{all_taken, owner_of, references_after, pins_after, book_after, classes_after, acted}
use Rattle.act.specs.Statements.{stated, identified}

pub tables_stated : (T S : Tables) (b : List ℕ) (row c : ℕ) → S ≡ with_references T (changed references T.references row (with_class c)) → b ≡ line_counted S.book → with_book S b ≡ stated T row c
unfolding stated
tables_stated T S b row c er eb = ap (with_book S) eb ∙ ap (λ (X : Tables). with_book X (line_counted X.book)) er

pub stated_is_acted : (T : Tables) (t h c line n row : ℕ) → row ≡ found references (is_handle (owner_of t h) h) T.references
    → stated T row c ≡ acted line (states (O t h c)) n T
unfolding stated acted references_after pins_after book_after classes_after gets all_taken
stated_is_acted T t h c line n row e i =
    record {
      references = ap (λ (r : ℕ). changed references T.references r (with_class c)) e i;
      pins = T.pins;
      book = line_counted T.book;
      classes = T.classes;
    }

pub tables_identified : (T : Tables) (b cs : List ℕ) (place x sort static final : ℕ) → cs ≡ with_identity T.classes place x sort static final → b ≡ line_counted T.book
    → record { references = T.references; pins = T.pins; book = b; classes = cs } ≡ identified T place x sort static final
unfolding identified
tables_identified T b cs place x sort static final ec eb i = record { references = T.references; pins = T.pins; book = eb i; classes = ec i }

pub identified_is_acted : (T : Tables) (x sort c static final line n place : ℕ) → place ≡ place_of T.classes x
    → identified T place x sort static final ≡ acted line (states (M x sort c static final)) n T
unfolding identified acted references_after pins_after book_after classes_after made_by makes gets all_taken
identified_is_acted T x sort c static final line n place e i =
    record {
      references = T.references;
      pins = T.pins;
      book = line_counted T.book;
      classes = with_identity T.classes (e i) x sort static final;
    }
