-- What is answered to K, from what it was told. Assumes nothing.
use Rattle.std.specs.Prelude.{ℕ, Bool, not, ◌||◌}
use Rattle.words.specs.Choice.{if_true◌then◌else◌}
use Rattle.sight.specs.declared.declare.DeclareSight.{DeclareSight}

-- 0, 4 or 9
unfoldable pub declare_refusal : Bool → DeclareSight → ℕ
declare_refusal closed s = if_true closed then 4 else if_true s.known || not s.under then 9 else 0
