-- `lines::apart::read_apart` meets its contract. Assumes nothing.
use mathlib.Core.Path.{sym, ◌∙◌}
use borrow.Author.Rules.{rules}
use Rattle.lines.proofs.HeadLaws.{head_said}
use Rattle.lines.proofs.ToldLaws.{apart_line}
use Rattle.lines.proofs.apart.read_apart.Goals as goal

pub returns : goal.returns
returns c =
    let h = c.in_ok-head.head in
    apart_line h.letter h.count h.minus c.take_line.new.values (search rules) (sym c.event_of.ensures ∙ c.in_ok-event_of.was)
    c.args.numbers.now c.take_line.ensures (head_said c.take_line.ensures (c.in_ok-head.was)) c.tell_sizes.ensures
