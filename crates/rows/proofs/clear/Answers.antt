-- `rows::clear` meets its contract. Assumes nothing.
use Rattle.std.proofs.Common.{rules}
use Rattle.rows.proofs.TableLaws.{clear_all}
use Rattle.rows.proofs.clear.Goals as goal

pub returns : goal.returns
returns c = clear_all _ _ _ _ (c.fill.ensures.after (λ y e. search rules)) (c.fill-2.ensures.after (λ y e. search rules))
