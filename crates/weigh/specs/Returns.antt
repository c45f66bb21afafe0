-- What is answered to R, from what it was told. Assumes nothing.
use Rattle.std.specs.Prelude.{ℕ, Bool, not, ◌&&◌, ◌||◌, List, eqb, ltb, Option}
use Rattle.words.specs.Choice.{if_true◌then◌else◌}
use Rattle.facts.specs.Named.{PushLocalFrame}
use Rattle.history.specs.Items.{Item, is_call_of}
use Rattle.history.specs.Acceptance.{deepest}
use Rattle.history.specs.Breaches.{when}
use Rattle.history.specs.Findings.{found}
use Rattle.history.specs.declared.Finding.{Finding}
use Rattle.sight.specs.declared.returns.ReturnSight.{ReturnSight}

abbrev pub return_turn : Bool → ℕ → Option Item → Bool
return_turn closed f top = not closed && is_call_of f top

-- a push that acts finds a frame left
abbrev pub frame_free : ℕ → Bool → ℕ → Bool
frame_free f acts frames = not (eqb f PushLocalFrame && acts) || ltb frames deepest

-- of R in turn: 0, 6 or 7
unfoldable pub return_refusal : ℕ → Bool → ReturnSight → ℕ
return_refusal f acts s =
    if_true s.made.alive then 6
    else if_true s.made.fits && frame_free f acts s.frames then 0
    else 7

unfoldable pub found_return : ℕ → ℕ → ReturnSight → List Finding
found_return line h s = found line 11 0 (when s.over h)
