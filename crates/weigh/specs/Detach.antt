-- What is answered to D, from what it was told. Assumes nothing.
use Rattle.std.specs.Prelude.{ℕ, Bool, not, ◌&&◌, List, ◌++◌, Option}
use Rattle.words.specs.Choice.{if_true◌then◌else◌}
use Rattle.history.specs.Items.{Item, is_attached}
use Rattle.history.specs.Breaches.{when, some_of}
use Rattle.history.specs.Findings.{found}
use Rattle.history.specs.declared.Finding.{Finding}
use Rattle.sight.specs.declared.detach.DetachSight.{DetachSight}

-- 0 or 4
unfoldable pub detach_refusal : Bool → Option Item → ℕ
detach_refusal closed top = if_true not closed && is_attached top then 0 else 4

-- the findings of line number `line`
unfoldable pub found_detach : ℕ → DetachSight → List Finding
found_detach line s = found line 3 0 (when s.critical 0) ++ found line 9 0 (some_of s.monitors)
