-- The lent tables from one function to the next. Assumes nothing.
use Prim.Native.Nat.{ℕ}
use mathlib.Core.Path.{◌≡◌, sym, ap, subst, ◌∙◌}
use mathlib.Core.List.{List}
use native.Mathlib.Omega.{arith}
use Rattle.rows.specs.Table.{Table, free_row}
use Rattle.rows.specs.References.{references}
use Rattle.rows.specs.Pins.{pins}
use Rattle.tables.specs.Tables.{Tables}
use Rattle.tables.specs.declared.Lent.{Lent}
use Rattle.guide.specs.References.{Leads, scans}
use Rattle.guide.specs.Pins.{Leads as PinLeads, scans as pins_scans}
use Rattle.tables.specs.Lent.{tables_of, Same, Led, Unguided, NextRow, NextPin, with_references}

module _ {k l : Lent} (s : Same k l) where
  pub same_still : {m : Lent} → Same l m → Same k m
  same_still t =
      record {
        rows = s.rows ∙ t.rows;
        marks = s.marks ∙ t.marks;
        guide = s.guide ∙ t.guide;
        pins = s.pins ∙ t.pins;
        pinmarks = s.pinmarks ∙ t.pinmarks;
        pinguide = s.pinguide ∙ t.pinguide;
        book = s.book ∙ t.book;
        classes = s.classes ∙ t.classes;
        guide_length = s.guide_length ∙ t.guide_length;
        pinguide_length = s.pinguide_length ∙ t.pinguide_length;
      }

  -- the lowest free row stays it where the rows do
  pub next_still : {r : ℕ} → (tables_of k).references ≡ (tables_of l).references → NextRow l r → NextRow k r
  next_still e n i = n (omega (arith, i, s.guide_length)) ∙ sym (ap (free_row references) e)

  pub next_pin_still : {r : ℕ} → (tables_of k).pins ≡ (tables_of l).pins → NextPin l r → NextPin k r
  next_pin_still e n i = n (omega (arith, i, s.pinguide_length)) ∙ sym (ap (free_row pins) e)

-- where there are no guides nothing is led astray, whatever the rows
pub unguided_led : {l : Lent} → Unguided l → Led l
unguided_led u = record { references = scans u.references; pins = pins_scans u.pins }

-- where both guides lead, so does each by itself
pub rows_led : {l : Lent} {R : Table} {G : List ℕ} → Led l → (R ≡ (tables_of l).references) × (G ≡ l.guide.now) → Leads R G
rows_led {l} {R} {G} led e = subst (λ (X : Table). Leads X G) (sym e.0) (subst (Leads (tables_of l).references) (sym e.1) led.references)

pub pins_led : {l : Lent} {P : Table} {G : List ℕ} → Led l → (P ≡ (tables_of l).pins) × (G ≡ l.pinguide.now) → PinLeads P G
pins_led {l} {P} {G} led e = subst (λ (X : Table). PinLeads X G) (sym e.0) (subst (PinLeads (tables_of l).pins) (sym e.1) led.pins)

-- once more with other rows
pub rows_again : (T S S' : Tables) (R : Table) → S ≡ with_references T S.references → S' ≡ with_references S R → S' ≡ with_references T S'.references
rows_again T S S' R e f = f ∙ ap (λ (X : Tables). with_references X R) e ∙ ap (with_references T) (sym (ap (λ (X : Tables). X.references) f))
