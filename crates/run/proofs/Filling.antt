-- Rows are led by guides that were filled from nothing. Assumes nothing.
use mathlib.Core.Path.{◌≡◌, sym, subst}
use mathlib.Core.List.{List}
use Prim.Native.Nat.{ℕ}
use lib.ListN.{replicate}
use Rattle.rows.specs.Table.{Table, room}
use Rattle.rows.specs.References.{references}
use Rattle.rows.specs.Pins.{pins}
use Rattle.guide.specs.References.{size, filled, Guides, Leads, by_guide}
use Rattle.guide.specs.Pins.{size as pin_size, filled as pin_filled, Guides as PinGuides, Leads as PinLeads, by_guide as by_pin_guide}
use Rattle.guide.proofs.Filling.{guide_filled}
use Rattle.guide.proofs.PinGuideLaws.{pin_guide_filled}

pub led : (T : Table) (G : List ℕ) → G ≡ filled T (replicate size 0) (room references T) → Leads T G
led T G e = by_guide (subst (Guides T) (sym e) (guide_filled T))

pub pins_led : (T : Table) (G : List ℕ) → G ≡ pin_filled T (replicate pin_size 0) (room pins T) → PinLeads T G
pins_led T G e = by_pin_guide (subst (PinGuides T) (sym e) (pin_guide_filled T))
