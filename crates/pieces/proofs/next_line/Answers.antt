-- `pieces::next_line` meets its contract. Assumes nothing.
use native.Mathlib.Omega.{arith}
use Rattle.pieces.proofs.Nexts.{next_some, next_more, next_end, next_last}
use Rattle.pieces.proofs.next_line.Goals as goal

pub returns-then-k-s : goal.returns-then-k-s
returns-then-k-s c = next_some _ _ _ c.before_lf-k.ensures c.if-k-s.true

pub returns-then-not-ended : goal.returns-then-not-ended
returns-then-not-ended c = next_more _ _ _ c.before_lf-k.ensures (omega (arith, c.if-k-s.false)) c.if-not-ended.true

pub returns-then-k-eq0 : goal.returns-then-k-eq0
returns-then-k-eq0 c = next_end _ _ _ c.before_lf-k.ensures (omega (arith, c.if-k-s.false)) c.if-not-ended.false c.if-k-eq0.true

pub returns-else-k-eq0 : goal.returns-else-k-eq0
returns-else-k-eq0 c = next_last _ _ _ c.before_lf-k.ensures (omega (arith, c.if-k-s.false)) c.if-not-ended.false c.if-k-eq0.false
