-- `leaks::list` meets its contract. Assumes nothing.
use borrow.Author.Rules.{rules}
use borrow.Author.Tests.{not-true, not-false}
use mathlib.Core.Path.{ap, ◌∙◌}
use native.Mathlib.Omega.{arith}
use Rattle.words.specs.Lists.{joined}
use Rattle.tables.specs.Listing.{numbers_of}
use Rattle.leaks.proofs.Lists.{few_leaks, front_fits, short_book, trace_open, no_room, all_written, by_rows}
use mathlib.Core.Bool.{not}
use Rattle.leaks.proofs.list.Goals as goal

pub returns-then-unfit : goal.returns-then-unfit
returns-then-unfit c = λ cs. short_book _ _ _ c.unfit.ensures c.if-unfit.true

pub returns-then-not-is_closed : goal.returns-then-not-is_closed
returns-then-not-is_closed c = λ cs. trace_open _ _ _ c.unfit.ensures c.if-unfit.false _ c.is_closed.ensures (not-true _ (ap not c.if-not-is_closed.true))

pub overflow_add-count : goal.overflow_add-count
overflow_add-count c = omega (arith, few_leaks _ _ _ _ c.alive.ensures c.globals.ensures)

pub returns-then-leaks-count : goal.returns-then-leaks-count
returns-then-leaks-count c = λ cs. no_room _ _ _ c.unfit.ensures c.if-unfit.false _ c.is_closed.ensures (not-false _ (ap not c.if-not-is_closed.false)) _ _ c.alive.ensures c.globals.ensures c.if-leaks-count.true

pub fill-requires : goal.fill-requires
fill-requires c = front_fits _ _ _ _ c.alive.ensures c.globals.ensures _ (search rules)

pub returns : goal.returns
returns c = λ cs. all_written _ _ _ c.unfit.ensures c.if-unfit.false _ c.is_closed.ensures (not-false _ (ap not c.if-not-is_closed.false)) _ _ c.alive.ensures c.globals.ensures _ (search rules) (c.fill.ensures ∙ ap (λ l. joined l numbers_of) (by_rows _ _ _ _ _ _))
