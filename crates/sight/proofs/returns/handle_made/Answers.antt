-- `sight::returns::handle_made` meets its contract. Assumes nothing.
use Rattle.std.specs.Prelude.{[]}
use Rattle.tables.specs.Looked.{table_of, with_all}
use Rattle.sight.proofs.ReturnLaws.{handle_seen}
use Rattle.sight.proofs.SpotLaws.{there_as}
use Rattle.sight.proofs.returns.handle_made.Goals as goal

pub returns : goal.returns
returns c = λ led. handle_seen _ _ _ _ _ _ _ (there_as (with_all (table_of c.args.references) (table_of c.args.references) [] []) _ _ _ _ (c.looked_up-at.ensures led _ _ _)) (c.lowest_free-row.ensures led) c.room-room.ensures
