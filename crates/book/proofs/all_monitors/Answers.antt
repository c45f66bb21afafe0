-- `book::all_monitors` meets its contract. Assumes nothing.
use Rattle.std.proofs.Common.{ℕ, min, refl, rules, tests}
use Rattle.std.proofs.lemmas.Iterator.{YieldsList-from_range, YieldsList-from_map}
use Rattle.std.proofs.lemmas.Iterator.Consumers.{YieldsList-at, sum_by_from_yields_List, fits_by_from_yields_list}
use Rattle.std.specs.List.{range_with_len}
use Rattle.history.specs.Replies.{most_lines}
use Rattle.book.specs.Threads.{thread_in}
use Rattle.book.proofs.Steps.{monitors_fit, monitors_added}
use Rattle.book.proofs.all_monitors.Goals as goal

pub sum-requires-clause-fits : goal.sum-requires-clause-fits
sum-requires-clause-fits c =
    fits_by_from_yields_list (λ (t : ℕ). min (thread_in c.args.book.now t).monitors most_lines) (range_with_len 1 16) c.map.result _
    (YieldsList-from_map _ (λ (t : ℕ). min (thread_in c.args.book.now t).monitors most_lines) (YieldsList-at c.map.ensures.source (YieldsList-from_range 1 17 16 (cc) refl)) c.map.ensures.closure (λ x r q k. search (rules, tests)))
    (monitors_fit c.args.book.now)

pub returns : goal.returns
returns c =
    monitors_added c.args.book.now _
    (sum_by_from_yields_List (λ (t : ℕ). min (thread_in c.args.book.now t).monitors most_lines) (range_with_len 1 16) c.map.result _ c.sum.ensures.ran
    (YieldsList-from_map _ (λ (t : ℕ). min (thread_in c.args.book.now t).monitors most_lines) (YieldsList-at c.map.ensures.source (YieldsList-from_range 1 17 16 (cc) refl)) c.map.ensures.closure (λ x r q k. search (rules, tests))))
