-- `lines::heads::take_line` meets its contract. Assumes nothing.
use Rattle.lines.proofs.Content.{read_empty, read_long, read_unended, read_content}
use Rattle.lines.proofs.HeadLaws.{refused_headed}
use Rattle.lines.proofs.heads.take_line.Goals as goal

pub returns-then-n-eq0 : goal.returns-then-n-eq0
returns-then-n-eq0 c = refused_headed (read_empty c.args.s.now c.if-n-eq0.true)

pub returns-then-n : goal.returns-then-n
returns-then-n c = refused_headed (read_long c.args.s.now c.if-n.true)

pub returns-then-s-n-ne-LINE_FEED : goal.returns-then-s-n-ne-LINE_FEED
returns-then-s-n-ne-LINE_FEED c = refused_headed (read_unended c.args.s.now c.if-s-n-ne-LINE_FEED.true)

pub returns : goal.returns
returns c = rw (← read_content c.args.s.now c.if-n-eq0.false c.if-n.false c.if-s-n-ne-LINE_FEED.false) c.take_content.ensures
