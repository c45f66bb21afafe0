-- `book::store` meets its contract. Assumes nothing.
use Rattle.book.specs.Layout.{put}
use Rattle.book.proofs.Steps.{store_past}
use Rattle.std.proofs.Common.{rules}
use Rattle.book.proofs.store.Goals as goal

pub returns-then-at-book : goal.returns-then-at-book
returns-then-at-book c = unfold put in search rules

pub returns-else-at-book : goal.returns-else-at-book
returns-else-at-book c = search store_past
