-- `program::read_more` meets its contract. Assumes nothing.
use native.Mathlib.Omega.{arith}
use Rattle.program.proofs.Reading.{more_failed, no_fewer, stand_within, more_read}
use Rattle.program.proofs.Turning.{still_newest}
use Rattle.program.proofs.read_more.Goals as goal

pub returns-then-is_unreadable : goal.returns-then-is_unreadable
returns-then-is_unreadable c =
    let s = c.stopped.ensures in
    let got = c.read_behind-streams.ensures in
    (more_failed got.0 s.0 s.1 c.is_unreadable.ensures c.if-is_unreadable.true, still_newest s.1 got.1)

pub overflow_sub-next : goal.overflow_sub-next
overflow_sub-next c = no_fewer c.requires.1 c.read_behind-streams.ensures.0 c.is_unreadable.ensures c.if-is_unreadable.false c.bytes_read.ensures c.bytes_read-2.ensures

pub overflow_add-next : goal.overflow_add-next
overflow_add-next c =
    let within = stand_within c.requires.1 c.read_behind-streams.ensures.0 c.is_unreadable.ensures c.if-is_unreadable.false c.bytes_read.ensures c.bytes_read-2.ensures in
    record { fits = omega (arith, within) }

pub returns : goal.returns
returns c = (
  more_read c.requires.1 c.read_behind-streams.ensures.0 c.is_unreadable.ensures c.if-is_unreadable.false c.bytes_read.ensures c.bytes_read-2.ensures
      _ _ _ c.requires.0 c.shift.ensures c.read_behind-streams.ensures.2,
  c.read_behind-streams.ensures.1,
)
