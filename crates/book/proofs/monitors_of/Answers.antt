-- `book::monitors_of` meets its contract. Assumes nothing.
use Rattle.book.specs.Threads.{thread_in, thread_of}
use Rattle.std.proofs.Common.{rules}
use Rattle.book.proofs.monitors_of.Goals as goal

pub returns : goal.returns
returns c = unfold thread_in thread_of in search rules
