-- What a lent line is after accepted lines: an event, or the number given instead, in the order of documents 01 and 02. Assumes nothing.
use Rattle.std.specs.Prelude.{ℕ, ◌≤◌, ◌<◌, ◌≡◌, ◌≢◌, List, length}
use Rattle.lines.specs.Line.{Line}
use Rattle.lines.specs.Reading.{Read, says, refused, read}
use Rattle.history.specs.Past.{History}
use Rattle.history.specs.Acceptance.{Room}
use Rattle.history.specs.Refusals.{Given}

pub data Weighs (room : Room) (past : History) (bs : List ℕ) : Read → Type 0 where
  -- line 1,000,001 is 1, whatever it holds
  too_many : 1000000 ≤ length past → Weighs room past bs (refused 1)
  -- the reader alone gives 1 (length, LF), 2, 3
  not_read : (k : ℕ) → length past < 1000000 → read bs ≡ refused k → Weighs room past bs (refused k)
  -- then 4, 5, 6, 9, 10, 7
  refuses : (e : Line) (k : ℕ) → length past < 1000000 → read bs ≡ says e → k ≢ 0 → Given room past e k → Weighs room past bs (refused k)
  takes : (e : Line) → length past < 1000000 → read bs ≡ says e → Given room past e 0 → Weighs room past bs (says e)
