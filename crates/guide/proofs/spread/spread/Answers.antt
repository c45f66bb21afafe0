-- `guide::spread::spread` meets its contract. Assumes nothing.
use mathlib.Core.Path.{refl}
use Rattle.guide.specs.Spread.{spread}
use Rattle.guide.proofs.SpreadLaws.{halves_low, spread_low}
use Rattle.guide.proofs.spread.spread.Goals as goal

pub overflow_add-result : goal.overflow_add-result
overflow_add-result c = record { fits = halves_low c.args.v c.ranges.v.fits }

pub overflow_add-result-2 : goal.overflow_add-result-2
overflow_add-result-2 c = record { fits = spread_low c.args.v c.ranges.v.fits c.args.beside c.requires }

pub returns : goal.returns
returns c = unfold spread in refl
