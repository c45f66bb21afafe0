-- What the run over a piece is to the run of the whole input. Assumes nothing.
use Rattle.std.specs.Prelude.{ℕ, suc, ◌+◌, ◌*◌, ◌≤◌, ◌≡◌, Bool, false, List, ◌++◌, length, drop}
use Rattle.lines.specs.Line.{longest}
use Rattle.lines.specs.Numbered.{number_of}
use Rattle.history.specs.Report.{lines_of}
use Rattle.history.specs.declared.Finding.{Finding}
use Rattle.answers.specs.Answer.{most_found}
use Rattle.report.specs.Shown.{most_shown}
use Rattle.tables.specs.Tables.{Tables}
use Rattle.demands.specs.Calls.{Ran, ran, run_in}
use Rattle.pieces.specs.Pieces.{Behind}
use Rattle.run.specs.declared.Stop.{Stop}
use Rattle.run.specs.Following.{Follows}
use Rattle.run.specs.Running.{Run}

-- how the run of the input goes on from there with the bytes that are unread
abbrev pub from_stop : Stop → Tables → List Finding → List ℕ → Ran
from_stop (Stop.Refused k) T fs unread = ran T fs (number_of k)
from_stop Stop.Full T fs unread = run_in T fs (lines_of unread)
from_stop Stop.More T fs unread = run_in T fs (lines_of unread)
from_stop Stop.End T fs unread = ran T fs 0

-- `r` is the run over the bytes s, behind which the input may have ended, with a slice of this size
pub record Passes (ended : Bool) (size : ℕ) (T : Tables) (s : List ℕ) (r : Run) : Type 0 where
  -- the run of the input is this one and what comes behind, after whatever was found before
  pub same : (before : List Finding) (next : List ℕ) → Behind ended next
      → run_in T before (lines_of (s ++ next)) ≡ from_stop r.stop r.left (before ++ r.found) (drop r.taken s ++ next)
  -- so many lines were accepted: each has a byte at least and 225 at most, and at most six findings
  pub lines : ℕ
  pub follows : (n : ℕ) → Follows T n → Follows r.left (n + lines)
  pub within : r.taken ≤ length s
  pub some : lines ≤ r.taken
  pub covered : r.taken ≤ suc longest * lines
  pub few : length r.found ≤ most_found * lines
  -- more is asked for only before the end of the input, and where at most 224 bytes are unread
  pub more : r.stop ≡ Stop.More → (ended ≡ false) × (length (drop r.taken s) ≤ longest)
  -- a slice that has room at first is full only after a line
  pub full : r.stop ≡ Stop.Full → most_shown ≤ size → 1 ≤ lines
