-- What is answered to M, from what it was told. Assumes nothing.
use Rattle.std.specs.Prelude.{ℕ, Bool, not}
use Rattle.words.specs.Choice.{if_true◌then◌else◌}
use Rattle.sight.specs.declared.identify.IdentifySight.{IdentifySight}

-- 0, 4, 9 or 7
unfoldable pub identify_refusal : Bool → IdentifySight → ℕ
identify_refusal closed s = if_true closed then 4 else if_true not s.known then 9 else if_true not s.fits then 7 else 0
