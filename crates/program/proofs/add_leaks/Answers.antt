-- `program::add_leaks` meets its contract. Assumes nothing.
use borrow.Author.Rules.{rules}
use Rattle.program.proofs.Finishing.{listed_left}
use Rattle.program.proofs.add_leaks.Goals as goal

pub print_leaks-requires : goal.print_leaks-requires
print_leaks-requires c =
    let pre = c.requires in
    (pre.0, listed_left c.args.streams _ _ c.with_leaks-asked.ensures c.list-count.ensures (search rules) pre.1)
