-- `exported::weir_piece` meets its contract. Assumes nothing.
use mathlib.Core.Path.{◌∙◌}
use mir.Syntax.{w32}
use mir.Facts.{to_z-of_z}
use native.Mathlib.Omega.{arith}
use Rattle.exported.proofs.Piecing.{short_told, whole_told}
use borrow.Author.Rules.{rules}
use Rattle.exported.proofs.weir_piece.Goals as goal

pub returns-then-far-lt-FAR : goal.returns-then-far-lt-FAR
returns-then-far-lt-FAR c = short_told _ _ _ _ _ c.if-far-lt-FAR.true

pub put_far-requires : goal.put_far-requires
put_far-requires c = omega (arith, c.if-far-lt-FAR.false)

pub returns : goal.returns
returns c = whole_told _ _ _ _ _ c.run_lines-passed.ensures (omega (arith, c.if-far-lt-FAR.false)) c.put_far.ensures (to_z-of_z {w = w32} {z = c.stop_told.result} (search rules) ∙ c.stop_told.ensures)
