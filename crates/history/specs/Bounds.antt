-- What refusal 8 tests of a thread: after accepted lines it never finds fault. Assumes nothing.
use Rattle.std.specs.Prelude.{ℕ, ◌≤◌, ◌<◌, length, Some}
use Rattle.words.specs.Lists.{count}
use Rattle.history.specs.Past.{History}
use Rattle.history.specs.Items.{Item, items, native_or_attached}
use Rattle.history.specs.Frames.{depth}
use Rattle.history.specs.Thread.{monitors}

pub record Bounded (t : ℕ) (past : History) : Type 0 where
  -- at most 64 open items and frames
  pub items_fit : length (items t past) ≤ 64
  pub frames_fit : depth t past ≤ 64
  -- no more natives than frames, attached items counted as natives
  pub natives_fit : count (λ (i : Item). native_or_attached (Some i)) (items t past) ≤ depth t past
  -- no open items in a thread without a frame
  pub framed : 0 < length (items t past) → 0 < depth t past
  -- a monitor and a line count of at most 1,000,000
  pub monitors_fit : monitors t past ≤ 1000000
  pub lines_fit : length past ≤ 1000000
