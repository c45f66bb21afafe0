-- `classes::above` meets its contract. Assumes nothing.
use Rattle.classes.proofs.Steps.{above_declared, above_root, above_reserved}
use Rattle.classes.proofs.above.Goals as goal

pub returns-then-c-eq-ROOT : goal.returns-then-c-eq-ROOT
returns-then-c-eq-ROOT c = above_root _ _ c.if-c.true c.if-c-eq-ROOT.true

pub returns-else-c-eq-ROOT : goal.returns-else-c-eq-ROOT
returns-else-c-eq-ROOT c = above_reserved _ _ c.if-c.true c.if-c-eq-ROOT.false

pub returns : goal.returns
returns c = above_declared _ _ _ c.if-c.false c.super_of.ensures
