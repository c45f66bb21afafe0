-- How far a run over a piece has come, from one function to the next. Assumes nothing.
use Rattle.std.specs.Prelude.{ℕ, ◌+◌, ◌-◌, ◌≤◌, ◌<◌, ◌≡◌, Bool, List, length, drop, Ok, Err}
use Rattle.numbers.specs.Writing.{put}
use Rattle.lines.specs.declared.refusal.Refusal.{Refusal}
use Rattle.answers.specs.declared.Findings.{Findings}
use Rattle.answers.specs.Answer.{Answer}
use Rattle.report.specs.Shown.{most_shown, shown_findings}
use Rattle.tables.specs.Tables.{Tables}
use Rattle.pieces.specs.declared.Next.TheVariants as Next
use Rattle.pieces.specs.Pieces.{next_of}
use Rattle.run.specs.declared.Way.{Way}
use Rattle.run.specs.declared.Stop.TheVariants as Stop
use Rattle.run.specs.Running.{stops, run_of}

-- the way q has come as far as w
pub record AsFar (w q : Way) : Type 0 where
  pub at : q.at ≡ w.at
  pub put : q.put ≡ w.put
  pub findings : q.findings ≡ w.findings

-- a line comes next, and there is room for its findings
pub record LineComes (ended : Bool) (size : ℕ) (s : List ℕ) (q : Way) : Type 0 where
  pub within : q.to ≤ length s
  pub roomy : q.put + most_shown ≤ size
  pub next : next_of ended (drop q.at s) ≡ Next.Line (q.to - q.at)

-- a line comes next, or the run stops here
pub record Aims (ended : Bool) (size : ℕ) (s : List ℕ) (q : Way) : Type 0 where
  pub line : q.at < q.to → LineComes ended size s q
  pub none : q.to ≤ q.at → (T : Tables) → run_of ended (size - q.put) T (drop q.at s) ≡ stops T q.stop

-- after the answer to the line that came next
pub data Heard (ended : Bool) (s : List ℕ) (a : Answer) (w : Way) (out : List ℕ) (q : Way) (out' : List ℕ) : Type 0 where
  line_refused : (k : Refusal) → a ≡ Err k → AsFar w q → q.to ≡ q.at → q.stop ≡ Stop.Refused k → out' ≡ out → Heard ended s a w out q out'
  line_accepted : (f : Findings) → a ≡ Ok f → q.at ≡ w.to → q.put ≡ w.put + length (shown_findings f) → q.findings ≡ w.findings + f.count → Aims ended (length out) s q
      → out' ≡ put out w.put (shown_findings f) → q.put ≤ length out → Heard ended s a w out q out'
