-- `leaks::found::found_at` meets its contract. Assumes nothing.
use mathlib.Core.Path.{◌∙◌, ap}
use native.Mathlib.Omega.{arith}
use Rattle.leaks.specs.Found.{of_pin, of_reference}
use Rattle.leaks.proofs.FoundLaws.{pin_found, reference_found}
use Rattle.leaks.proofs.found.found_at.Goals as goal

pub returns-then-place-lt-FIRST_REFERENCE : goal.returns-then-place-lt-FIRST_REFERENCE
returns-then-place-lt-FIRST_REFERENCE c = pin_found _ _ _ _ (omega arith) (c.of_pin.ensures ∙ ap (of_pin _) c.slot.ensures)

pub returns : goal.returns
returns c = reference_found _ _ _ _ (omega arith) (c.of_reference.ensures ∙ ap (of_reference _) c.slot-2.ensures)
