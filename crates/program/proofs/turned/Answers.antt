-- `program::turned` meets its contract. Assumes nothing.
use mathlib.Core.Path.{refl}
use Rattle.program.specs.Running.{is_full, is_refused, is_at_end, failed}
use Rattle.program.proofs.Reading.{read_turned}
use Rattle.program.proofs.Turning.{not_wrote, wrote, passed, few_unread, ended, still_newest}
use Rattle.program.proofs.turned.Goals as goal

pub print-streams-requires : goal.print-streams-requires
print-streams-requires c = let pre = c.requires in (pre.2, pre.1.put, pre.1.due, pre.1.streams)

pub returns-then-is_unwritable : goal.returns-then-is_unwritable
returns-then-is_unwritable c =
    let s = c.stopped.ensures in
    let WroteSo = c.print-streams.ensures in
    (failed (not_wrote WroteSo.0 s.0 s.1 c.is_unwritable.ensures c.if-is_unwritable.true), still_newest s.1 WroteSo.1)

pub read_more-requires : goal.read_more-requires
read_more-requires c = (
  c.requires.0,
  few_unread c.requires.1 (wrote c.args.run.streams _ c.print-streams.ensures.0 c.is_unwritable.ensures c.if-is_unwritable.false) c.in-More.is,
  c.print-streams.ensures.1,
)

pub returns-in-Refused : goal.returns-in-Refused
returns-in-Refused c =
    let s = c.stopped-in-Refused.ensures in
    (is_refused _ c.in-Refused.is (ended c.requires.1 (wrote c.args.run.streams _ c.print-streams.ensures.0 c.is_unwritable.ensures c.if-is_unwritable.false) s), still_newest s.1 c.print-streams.ensures.1)

pub returns-in-Full : goal.returns-in-Full
returns-in-Full c = (is_full c.in-Full.is (passed c.requires.1 (wrote c.args.run.streams _ c.print-streams.ensures.0 c.is_unwritable.ensures c.if-is_unwritable.false)) refl, c.print-streams.ensures.1)

pub returns-in-More : goal.returns-in-More
returns-in-More c = (
  read_turned c.in-More.is (passed c.requires.1 (wrote c.args.run.streams _ c.print-streams.ensures.0 c.is_unwritable.ensures c.if-is_unwritable.false)) c.read_more.ensures.0,
  c.read_more.ensures.1,
)

pub returns-in-End : goal.returns-in-End
returns-in-End c =
    let s = c.stopped-in-End.ensures in
    (is_at_end c.in-End.is (ended c.requires.1 (wrote c.args.run.streams _ c.print-streams.ensures.0 c.is_unwritable.ensures c.if-is_unwritable.false) s), still_newest s.1 c.print-streams.ensures.1)
