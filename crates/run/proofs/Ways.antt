-- What comes next on the way through a piece. Assumes nothing.
use Prim.Native.Nat.{ℕ, ◌+◌, ◌-◌, ◌≤◌, ◌<◌}
use mathlib.Core.Path.{◌≡◌, sym, ap, subst, ◌∙◌}
use mathlib.Core.Bool.{Bool, true, false}
use mathlib.Core.List.{List, []}
use Rattle.std.specs.Prelude.{Ok}
use native.Mathlib.Omega.{arith}
use borrow.Author.Tests.{lt-ltb}
use lib.ListN.{length, take, drop, length-drop}
use lib.Seq.{take_all}
use Rattle.words.specs.Lists.{joined}
use Rattle.numbers.specs.Writing.{put}
use Rattle.numbers.proofs.Put.{put_none, length_put}
use Rattle.history.specs.Report.{shown_finding}
use Rattle.answers.specs.declared.Findings.{Findings}
use Rattle.answers.specs.Answer.{Answer}
use Rattle.report.specs.Shown.{most_shown, shown_findings}
use Rattle.tables.specs.Tables.{Tables}
use Rattle.pieces.specs.declared.Next.{Next}
use Rattle.pieces.specs.Pieces.{next_of}
use Rattle.pieces.proofs.Nexts.{LineNext, line_next, more_next, end_next, pieces_next}
use Rattle.run.specs.declared.Way.{Way}
use Rattle.run.specs.declared.Stop.{Stop}
use Rattle.run.specs.Running.{stops, run_lines, run_of}
use Rattle.run.specs.Way.{AsFar, Aims, Heard, line_accepted}

module _ (ended : Bool) (size : ℕ) (s : List ℕ) (w : Way) {x : Next} (e : x ≡ next_of ended (take (length s - w.at) (drop w.at s))) where
  next_is : {y : Next} → x ≡ y → next_of ended (drop w.at s) ≡ y
  next_is p = ap (next_of ended) (sym (take_all (length s - w.at) (drop w.at s) (omega (arith, length-drop w.at s)))) ∙ sym e ∙ p

  stopped : {q : Way} (stop : Stop) → AsFar w q → q.to ≡ q.at → q.stop ≡ stop
      → ((T : Tables) → run_of ended (size - w.put) T (drop w.at s) ≡ stops T stop) → Aims ended size s q
  stopped {q} stop far to told run =
      record { line = λ some. absurd (omega (arith, some, to)); none = λ _ T. rw (far.at, far.put, told) (run T) }

  module _ {n : ℕ} (p : x ≡ Next.Line n) where
    there : LineNext (drop w.at s) n
    there = line_next ended (drop w.at s) n (next_is p)

    pub line_within : w.at ≤ length s → w.at + n ≤ length s
    line_within h = omega (arith, there.within, length-drop w.at s)

    -- the line that comes next
    pub aim_line : {q : Way} → w.at ≤ length s → w.put ≤ size → most_shown ≤ size - w.put → AsFar w q → q.to ≡ w.at + n → Aims ended size s q
    aim_line {q} within fits room far to =
        let size_is : n ≡ q.to - q.at = omega (arith, to, far.at) in
        record {
          line = λ _.
              record {
                within = omega (arith, to, line_within within);
                roomy = omega (arith, room, fits, far.put);
                next = ap (λ (i : ℕ). next_of ended (drop i s)) far.at ∙ next_is p ∙ ap Next.Line size_is;
              };
          none = λ h. absurd (omega (arith, h, to, far.at, there.some));
        }

    -- there is no room for its findings
    pub aim_full : {q : Way} → size - w.put < most_shown → AsFar w q → q.to ≡ q.at → q.stop ≡ Stop.Full → Aims ended size s q
    unfolding run_of run_lines
    aim_full room far to told =
        stopped Stop.Full far to told (λ T. rw (pieces_next ended (drop w.at s) (Next.Line n) (next_is p), lt-ltb (size - w.put) most_shown room))

  pub aim_more : {q : Way} → x ≡ Next.More → AsFar w q → q.to ≡ q.at → q.stop ≡ Stop.More → Aims ended size s q
  unfolding run_of run_lines
  aim_more p far to told =
      let before_end : ended ≡ false = (more_next ended (drop w.at s) (next_is p)).0 in
      stopped Stop.More far to told (λ T. rw (pieces_next ended (drop w.at s) Next.More (next_is p), before_end))

  pub aim_end : {q : Way} → x ≡ Next.End → AsFar w q → q.to ≡ q.at → q.stop ≡ Stop.End → Aims ended size s q
  unfolding run_of run_lines
  aim_end p far to told =
      let at_end : ended ≡ true = (end_next ended (drop w.at s) (next_is p)).0 in
      stopped Stop.End far to told (λ T. rw (pieces_next ended (drop w.at s) Next.End (next_is p), at_end))

-- ---- after the answer to a line

-- a line without findings
pub none_shown : (d : List ℕ) (at : ℕ) (f : Findings) → f.count ≡ 0 → (0 ≡ length (shown_findings f)) × (0 ≤ most_shown) × (d ≡ put d at (shown_findings f))
unfolding shown_findings
none_shown d at f z =
    let none : [] ≡ shown_findings f = ap (λ (n : ℕ). joined (take n f.found) shown_finding) (sym z) in
    (ap length none, omega arith, sym (put_none d at) ∙ ap (put d at) none)

pub goes_on : {ended : Bool} {s out out' : List ℕ} {a : Answer} {f : Findings} {w p q : Way} {n : ℕ} → a ≡ Ok f → w.put + most_shown ≤ length out
    → (n ≡ length (shown_findings f)) × (n ≤ most_shown) × (out' ≡ put out w.put (shown_findings f)) → p.at ≡ w.to → p.put ≡ w.put + n
    → p.findings ≡ w.findings + f.count → AsFar p q → Aims ended (length out') s q → Heard ended s a w out q out'
goes_on {ended} {s} {out} {out'} {a} {f} {w} {p} {q} z room shown at put findings far aims =
    let long : length out' ≡ length out = ap length shown.2 ∙ length_put out w.put (shown_findings f) (omega (arith, room, shown.0, shown.1)) in
    line_accepted f z (far.at ∙ at) (omega (arith, far.put, put, shown.0)) (far.findings ∙ findings) (subst (λ (n : ℕ). Aims ended n s q) long aims) shown.2
    (omega (arith, far.put, put, shown.1, room))
