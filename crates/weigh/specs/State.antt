-- What is answered to O, from what it was told. Assumes nothing.
use Rattle.std.specs.Prelude.{ℕ, Bool, not}
use Rattle.words.specs.Choice.{if_true◌then◌else◌}
use Rattle.sight.specs.declared.state.StateSight.{StateSight}

-- 0, 4, 9 or 10
unfoldable pub state_refusal : Bool → StateSight → ℕ
state_refusal closed s = if_true closed then 4 else if_true not s.known then 9 else if_true not s.alive then 10 else 0
