-- The loop of `book::frames_left`. Assumes nothing.
use Rattle.std.proofs.Common.{◌≡◌, ◌≤◌, length}
use Rattle.history.specs.Frames.{without_native}
use Rattle.history.specs.Acceptance.{deepest}
use Rattle.book.specs.Threads.{thread_in}
use Rattle.book.proofs.Steps.{left_of}
use Rattle.book.proofs.frames_left.Given as goal

abbrev pub invariant-loop-i : goal.invariant-loop-i
invariant-loop-i l = (l.i ≤ deepest) × (length (without_native (thread_in l.book l.t).frames) ≡ left_of l.book l.t l.i)
