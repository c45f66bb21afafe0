-- What O and M leave in the lent tables, where the row of the handle and the place of the identity are told. Assumes nothing.
use Rattle.std.specs.Prelude.{ℕ}
use Rattle.rows.specs.Table.{changed}
use Rattle.rows.specs.References.{references, with_class}
use Rattle.classes.specs.Identities.{with_identity}
use Rattle.book.specs.Moves.{line_counted}
use Rattle.tables.specs.Tables.{Tables}

-- the handle stands in this row, and is of class c
unfoldable pub stated : Tables → ℕ → ℕ → Tables
stated T row c =
    record {
      references = changed references T.references row (with_class c);
      pins = T.pins;
      book = line_counted T.book;
      classes = T.classes;
    }

-- identity x stands at this place, and is stated so
unfoldable pub identified : Tables → ℕ → ℕ → ℕ → ℕ → ℕ → Tables
identified T place x sort static final =
    record {
      references = T.references;
      pins = T.pins;
      book = line_counted T.book;
      classes = with_identity T.classes place x sort static final;
    }
