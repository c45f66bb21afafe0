-- `sight::enter::some_alive` meets its contract. Assumes nothing.
use Rattle.std.proofs.Common.{ℕ, true, ◌∙◌, rules, tests}
use Rattle.std.specs.Prelude.{nat_lt, []}
use Rattle.std.proofs.lemmas.Iterator.{YieldsList-from_slice}
use Rattle.std.proofs.lemmas.Iterator.Search.{any_from_yields_List}
use Rattle.history.specs.Handles.{is_local}
use Rattle.tables.specs.Tables.{handles_in}
use Rattle.tables.specs.Looked.{table_of, with_all}
use Rattle.sight.specs.Sights.{some_alive}
use Rattle.sight.proofs.AnyLaws.{any_is}
use Rattle.sight.proofs.SpotLaws.{there_as}
use Rattle.sight.proofs.enter.some_alive.Goals as goal

pub returns : goal.returns
returns c = λ led.
    unfold some_alive in
    any_from_yields_List (λ (h : ℕ). nat_lt 0 (handles_in (table_of c.args.references) (is_local c.args.t h))) c.any.new.self _ _ c.any.ensures.ran
    (YieldsList-from_slice c.args.hs.now (cc)) (λ x b q k. search (rules, tests, there_as (with_all (table_of c.args.references) (table_of c.args.references) [] []) c.args.t x.now true))
    ∙ any_is _ c.args.hs.now
