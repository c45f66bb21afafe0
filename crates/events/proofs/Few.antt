-- N's handles are at most eight. Assumes nothing.
use Prim.Native.Nat.{ℕ, ◌≤◌}
use mathlib.Core.Path.{◌≡◌, subst}
use Rattle.lines.specs.Line.{most_handles}
use Rattle.lines.specs.declared.Event.{Event}
use Rattle.events.specs.Event.{slots_named}

pub few_named : (ev : Event) {t env n : ℕ} → slots_named ev ≤ most_handles → ev ≡ Event.Enter t env n → n ≤ most_handles
few_named ev h p = subst (λ (v : Event). slots_named v ≤ most_handles) p h
