-- `lines::ranges::enter_allows` meets its contract. Assumes nothing.
use mathlib.Core.Path.{◌≡◌, ap₂, sym, ◌∙◌}
use mathlib.Core.Bool.{true, ◌&&◌}
use lib.Dec.{leb}
use lib.ListN.{length}
use borrow.Author.Tests.{le-leb}
use Rattle.lines.specs.Line.{is_thread, is_env, most_handles}
use Rattle.lines.specs.Sizes.{named}
use Rattle.lines.proofs.Tests.{and_true}
use Rattle.lines.proofs.SlotLaws.{named_few}
use borrow.Author.Rules.{rules}
use Rattle.lines.proofs.ranges.enter_allows.Goals as goal

pub returns : goal.returns
returns c =
    let a = c.args in
    let few : leb (length (named a.n a.v)) most_handles ≡ true = le-leb (length (named a.n a.v)) most_handles (named_few a.n a.v (search rules)) in
    rw few (ap₂ ◌&&◌ (c.attach_allows.ensures ∙ sym (and_true (is_thread a.thread && is_env a.env))) c.are_arguments.ensures)
