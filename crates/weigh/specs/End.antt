-- The findings of Z, from what it was told. Assumes nothing.
use Rattle.std.specs.Prelude.{ℕ, List, ◌++◌}
use Rattle.history.specs.Breaches.{some_of}
use Rattle.history.specs.Findings.{found}
use Rattle.history.specs.declared.Finding.{Finding}
use Rattle.sight.specs.declared.end.EndSight.{EndSight}

unfoldable pub found_end : ℕ → EndSight → List Finding
found_end line s =
    found line 8 0 (some_of s.buffers) ++ (found line 9 0 (some_of s.monitors) ++ found line 10 0 (some_of s.handles))
