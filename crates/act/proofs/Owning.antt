-- The thread in a row: critical buffers belong to one, the others to none.
use Prim.Native.Nat.{ℕ}
use mathlib.Core.Path.{◌≡◌, refl, sym, ◌∙◌}
use mathlib.Core.Bool.{Bool, true, false}
use Rattle.words.specs.Choice.{if_true◌then◌else◌}
use Rattle.facts.specs.Table.{is_critical}
use Rattle.act.proofs.Choosing.{chosen, passed_over}

module _ (t k : ℕ) (o : Bool) (e : o ≡ is_critical k) where
  pub critical_owned : o ≡ true → t ≡ (if_true is_critical k then t else 0)
  critical_owned h = chosen (is_critical k) t 0 (sym e ∙ h) refl

  pub ordinary_not_owned : o ≡ false → 0 ≡ (if_true is_critical k then t else 0)
  ordinary_not_owned h = passed_over (is_critical k) t 0 (sym e ∙ h) refl
