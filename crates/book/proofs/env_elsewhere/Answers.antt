-- `book::env_elsewhere` meets its contract. Assumes nothing.
use Rattle.std.proofs.Common.{ℕ, not, ◌&&◌, ◌==◌, refl, rules, tests}
use Rattle.std.proofs.lemmas.Iterator.{YieldsList-from_range}
use Rattle.std.proofs.lemmas.Iterator.Search.{any_from_yields_List}
use Rattle.book.specs.Threads.{thread_in, env_elsewhere}
use Rattle.book.proofs.env_elsewhere.Goals as goal

pub returns : goal.returns
returns c =
    unfold env_elsewhere in
    any_from_yields_List (λ (s : ℕ). not (s == c.args.t) && (thread_in c.args.book.now s).env == c.args.env) c.any.new.self _ _ c.any.ensures.ran
    (YieldsList-from_range 1 17 16 (cc) refl) (λ x b q k. search (rules, tests))
