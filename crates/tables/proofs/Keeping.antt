-- Lent rows and their guide: the guide stays one as a row is stored in both, and ended in both. Assumes nothing.
use mathlib.Core.Path.{◌≡◌, refl, sym, ap, subst, ◌∙◌}
use mathlib.Core.Bool.{Bool, true, false≢true}
use borrow.Author.Tests.{eqb-true}
use lib.Dec.{eqb}
use mathlib.Core.List.{List}
use Rattle.std.specs.Prelude.{Option, None, Some}
use Prim.Native.Nat.{ℕ, ◌≤◌, ◌<◌}
use native.Mathlib.Decide.{ℕ_discrete, dec_lt}
use native.Mathlib.Omega.{arith}
use lib.ListN.{length, get_or}
use Rattle.rows.specs.Slots.{empty}
use Rattle.rows.specs.Marks.{free as free_mark}
use Rattle.rows.specs.Table.{Layout, Table, room, free_row, stored, changed, ended}
use Rattle.rows.specs.Frees.{free_from}
use Rattle.rows.specs.View.{slot, view}
use Rattle.rows.specs.declared.references.Reference.{Reference}
use Rattle.rows.specs.declared.pins.Pin.{Pin}
use Rattle.rows.specs.References.{references, with_class}
use Rattle.rows.specs.Pins.{pins}
use Rattle.rows.proofs.ScanLaws.{lowest_below, lowest_at}
use Rattle.rows.proofs.RowLaws.{stored_out, slot_stored_same, slot_stored_other}
use Rattle.rows.proofs.ViewLaws.{free_slot, view_past}
use Rattle.guide.specs.Frees.{raised_at}
use Rattle.guide.specs.References.{low_at, Guides, noted, forgotten, Leads, scans, by_guide}
use Rattle.guide.specs.Pins.{Guides as PinGuides, noted as pin_noted, forgotten as pin_forgotten, Leads as PinLeads, scans as pin_scans, by_guide as pin_by_guide}
use Rattle.guide.proofs.Telling.{leads_free}
use Rattle.guide.proofs.Staying.{guide_stored, guide_raised, guide_ended, guide_stated}
use Rattle.guide.proofs.PinGuideLaws.{pin_guide_stored, pin_guide_ended}

kept_in_both : (Guided : Table → List ℕ → Type 0) (T S : Table) (G H : List ℕ) → S ≡ T → H ≡ G → Guided T G → Guided S H
kept_in_both Guided T S G H e f g = subst (λ (X : Table). Guided X H) (sym e) (subst (λ (X : List ℕ). Guided T X) (sym f) g)

module _ {A : Type 0} (L : Layout A) (Guided : Table → List ℕ → Type 0) where
  -- the lowest free row, where there is one, holds nothing
  lowest_holds : (T : Table) (r : ℕ) → r ≡ free_row L T → r < room L T → slot L T r ≡ None
  unfolding free_row
  lowest_holds T r e l = go (slot L T r) (sym (free_slot L T r) ∙ ap (free_mark T.marks) e ∙ lowest_at (free_mark T.marks) (room L T) (omega (arith, e, l)))
    where
      go : (o : Option A) → empty o ≡ true → o ≡ None
      go None h = refl
      go (Some x) h = absurd (false≢true h)

  -- the lowest free row stored, then noted
  kept_stored : (note : Table → List ℕ → ℕ → List ℕ) → ((T : Table) (G : List ℕ) (r : ℕ) → get_or (view L T) r None ≡ None → note T G r ≡ G)
      → ((T : Table) (G : List ℕ) (r : ℕ) (x : A) → Guided T G → r < room L T → slot L T r ≡ None → Guided (stored L T r x) (note (stored L T r x) G r))
      → (T S : Table) (G H : List ℕ) (r : ℕ) (x : A) → Guided T G → r ≡ free_row L T → S ≡ stored L T r x → H ≡ note S G r → Guided S H
  kept_stored note none_noted one_noted T S G H r x g free e f = go (dec_lt r (room L T))
    where
      go : Dec (r < room L T) → Guided S H
      go (yes l) = kept_in_both Guided _ S _ H e (f ∙ ap (λ (X : Table). note X G r) e) (one_noted T G r x g l (lowest_holds T r free l))
      go (no l) =
          let same : S ≡ T = e ∙ stored_out L T r x (omega arith) in
          kept_in_both Guided T S G H same (f ∙ ap (λ (X : Table). note X G r) same ∙ none_noted T G r (view_past L T r (omega arith))) g

-- the lowest free row stored, noted, and none free below it
module _ (T S : Table) (r : ℕ) (x : Reference) (free : r ≡ free_row references T) (e : S ≡ stored references T r x) where
  was_free : (k : ℕ) → slot references S k ≡ None → Dec (r < room references T) → Dec (k ≡ r) → slot references T k ≡ None
  was_free k h (no l) d = ap (λ (X : Table). slot references X k) (sym (e ∙ stored_out references T r x (omega arith))) ∙ h
  was_free k h (yes l) (yes d) = absurd (false≢true (sym (ap empty (sym h ∙ ap (λ (X : Table). slot references X k) e ∙ ap (slot references (stored references T r x)) d ∙ slot_stored_same references T r x l))))
  was_free k h (yes l) (no d) = sym (slot_stored_other references T r k x l d) ∙ ap (λ (X : Table). slot references X k) (sym e) ∙ h

  none_lower : (k : ℕ) → slot references S k ≡ None → r ≤ k
  unfolding free_row
  none_lower k h = go (dec_lt k r)
    where
      go : Dec (k < r) → r ≤ k
      go (no l) = omega arith
      go (yes l) =
          absurd (false≢true (sym (lowest_below (free_mark T.marks) (room references T) k (omega (arith, free, l)))
          ∙ free_slot references T k ∙ ap empty (was_free k h (dec_lt r (room references T)) (ℕ_discrete k r))))

  pub row_stored : (G H I : List ℕ) → Guides T G → H ≡ noted S G r → I ≡ raised_at H low_at r → Guides S I
  row_stored G H I g f i =
      subst (Guides S) (sym i)
      (guide_raised S H r (kept_stored references Guides noted (λ T G r e. unfold noted in rw e) guide_stored T S G H r x g free e f) (λ k l h. none_lower k h))

pub row_ended : (T S : Table) (G H : List ℕ) (r : ℕ) → Guides T G → H ≡ forgotten T G r → S ≡ ended references T r → Guides S H
row_ended T S G H r g f e = kept_in_both Guides _ S _ H e f (guide_ended T G r g)

pub pin_stored : (T S : Table) (G H : List ℕ) (r : ℕ) (x : Pin) → PinGuides T G → r ≡ free_row pins T → S ≡ stored pins T r x → H ≡ pin_noted S G r → PinGuides S H
pin_stored = kept_stored pins PinGuides pin_noted (λ T G r e. unfold pin_noted in rw e) pin_guide_stored

pub pin_ended : (T S : Table) (G H : List ℕ) (r : ℕ) → PinGuides T G → H ≡ pin_forgotten T G r → S ≡ ended pins T r → PinGuides S H
pin_ended T S G H r g f e = kept_in_both PinGuides _ S _ H e f (pin_guide_ended T G r g)

-- ---- a guide, or none

module _ (T S : Table) (r : ℕ) (x : Reference) (e : S ≡ stored references T r x) where
  pub store_led : (G H I : List ℕ) → Leads T G → (0 < length G → r ≡ free_row references T) → H ≡ noted S G r → I ≡ raised_at H low_at r → length I ≡ length G → Leads S I
  store_led G H I (scans z) free f i l = scans (l ∙ z)
  store_led G H I (by_guide g) free f i l = by_guide (row_stored T S r x (free (omega (arith, g.whole))) e G H I g f i)

pub end_led : (T S : Table) (G H : List ℕ) (r : ℕ) → Leads T G → H ≡ forgotten T G r → S ≡ ended references T r → length H ≡ length G → Leads S H
end_led T S G H r (scans z) f e l = scans (l ∙ z)
end_led T S G H r (by_guide g) f e l = by_guide (row_ended T S G H r g f e)

pub state_led : (T S : Table) (G : List ℕ) (r c : ℕ) → Leads T G → S ≡ changed references T r (with_class c) → Leads S G
state_led T S G r c (scans z) e = scans z
state_led T S G r c (by_guide g) e = by_guide (subst (λ (X : Table). Guides X G) (sym e) (guide_stated T G r c g))

pub lowest_led : (T : Table) (G : List ℕ) (r : ℕ) → Leads T G → r ≡ free_from references T (get_or G low_at 0) → r ≡ free_row references T
lowest_led T G r g e = e ∙ leads_free T G g

-- where there are no words nothing is led astray, whatever the rows
pub unguided_leads : (T S : Table) (G : List ℕ) (o : Bool) → Leads T G → o ≡ eqb (length G) 0 → o ≡ true → Leads S G
unguided_leads T S G o leads e y = scans (eqb-true (length G) 0 (sym e ∙ y))

-- where there are words they are a guide
pub guide_led : (T : Table) (G : List ℕ) → Leads T G → (length G ≡ 0 → ⊥) → Guides T G
guide_led T G (scans z) n = absurd (n z)
guide_led T G (by_guide g) n = g

pub store_pin_led : (T S : Table) (G H : List ℕ) (r : ℕ) (x : Pin) → PinLeads T G → (0 < length G → r ≡ free_row pins T) → S ≡ stored pins T r x → H ≡ pin_noted S G r
    → length H ≡ length G → PinLeads S H
store_pin_led T S G H r x (pin_scans z) free e f l = pin_scans (l ∙ z)
store_pin_led T S G H r x (pin_by_guide g) free e f l = pin_by_guide (pin_stored T S G H r x g (free (omega (arith, g.whole))) e f)

pub end_pin_led : (T S : Table) (G H : List ℕ) (r : ℕ) → PinLeads T G → H ≡ pin_forgotten T G r → S ≡ ended pins T r → length H ≡ length G → PinLeads S H
end_pin_led T S G H r (pin_scans z) f e l = pin_scans (l ∙ z)
end_pin_led T S G H r (pin_by_guide g) f e l = pin_by_guide (pin_ended T S G H r g f e)
