-- `book::with_mark` meets its contract. Assumes nothing.
use Rattle.book.specs.Moves.{with_mark}
use Rattle.rows.proofs.MarkLaws.{shl_one}
use Rattle.std.proofs.Common.{rules}
use Rattle.book.proofs.with_mark.Goals as goal

pub returns-then-native : goal.returns-then-native
returns-then-native c = unfold with_mark in rw (shl_one c.args.i (search rules), c.if-native.true)

pub returns : goal.returns
returns c = unfold with_mark in rw (shl_one c.args.i (search rules), c.if-native.false)
