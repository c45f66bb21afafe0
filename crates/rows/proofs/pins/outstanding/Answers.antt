-- `rows::pins::outstanding` meets its contract. Assumes nothing.
use mathlib.Core.Path.{ap₂}
use Rattle.std.proofs.Common.{rules, nat_lt}
use Rattle.rows.specs.Pins.{of_thread}
use Rattle.rows.specs.Scan.{some_below}
use Rattle.rows.specs.Table.{found, some_row}
use Rattle.rows.proofs.pins.outstanding.Goals as goal

pub returns : goal.returns
returns c = unfold found some_row some_below in ap₂ nat_lt (c.find.ensures (of_thread c.args.t) (of_thread c.args.t) (λ x b e. search rules) (λ x b e. search rules) (λ x e. e)) c.room.ensures
