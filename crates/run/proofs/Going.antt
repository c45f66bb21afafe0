-- The way through a piece of the input: its start, one line more, and its end. Assumes nothing.
use Prim.Native.Nat.{ℕ, zero, suc, ◌+◌, ◌-◌, ◌≤◌, ◌<◌}
use mathlib.Core.Path.{◌≡◌, refl, sym, ap, ap₂, subst, ◌∙◌}
use mathlib.Core.Bool.{Bool}
use Rattle.std.specs.Prelude.{IfOk, Err}
use mathlib.Core.List.{List, [], ◌∷◌, ◌++◌, append_assoc, append-nil}
use native.Mathlib.Nat.{zero-add, add-zero, add_assoc}
use native.Mathlib.Omega.{arith}
use borrow.Author.Tests.{le-ltb}
use lib.ListN.{length, take, drop, length-append, length-drop}
use lib.Seq.{length-take-le, drop-drop}
use Rattle.numbers.specs.Writing.{put}
use Rattle.numbers.proofs.Put.{put_none, length_put, put_put}
use Rattle.history.specs.Replies.{Reply}
use Rattle.history.specs.Report.{shown_finding}
use Rattle.history.specs.declared.Finding.{Finding}
use Rattle.lines.specs.Numbered.{refusal_of, passes}
use Rattle.lines.specs.declared.refusal.Refusal.{Refusal}
use Rattle.answers.specs.declared.Findings.{Findings}
use Rattle.answers.specs.Answer.{Answer, most_found, findings_of}
use Rattle.report.specs.Shown.{most_shown, shown_findings}
use Rattle.report.proofs.Answered.{shown_accepted}
use Rattle.tables.specs.Tables.{Tables}
use Rattle.tables.specs.Stepping.{step_of}
use Rattle.events.specs.Outcome.{leaves as answers_leaving}
use Rattle.judge.specs.Outcome.{step_outcome, by_tables}
use Rattle.judge.proofs.ByTables.{by_its_tables}
use Rattle.pieces.specs.declared.Next.TheVariants as Next
use Rattle.pieces.proofs.Nexts.{pieces_next}
use Rattle.run.specs.declared.Passed.{Passed}
use Rattle.run.specs.declared.Way.{Way}
use Rattle.run.specs.declared.Stop.{Stop}
use Rattle.run.specs.Running.{all_shown, Run, stands, stops, behind, go_on, run_lines, run_of, leaves, outcome, piece_outcome}
use Rattle.run.specs.Way.{AsFar, LineComes, Aims, Heard, line_refused, line_accepted}
use Rattle.run.proofs.Answering.{takes, refuses, few_counted}

-- ---- the bytes of findings

pub all_shown_append : (fs gs : List Finding) → all_shown (fs ++ gs) ≡ all_shown fs ++ all_shown gs
all_shown_append [] gs = refl
all_shown_append (f ∷ fs) gs = ap (λ (x : List ℕ). shown_finding f ++ x) (all_shown_append fs gs) ∙ sym (append_assoc (shown_finding f) (all_shown fs) (all_shown gs))

-- a finding has a byte at least
no_longer : (fs : List Finding) → length fs ≤ length (all_shown fs)
no_longer [] = omega arith
no_longer (f ∷ fs) = simp length-append (omega (arith, no_longer fs))

-- ---- runs behind each other

behind_none : (r : Run) → r ≡ behind [] 0 r
behind_none r i = stands r.left r.found (sym (zero-add r.taken) i) r.stop

behind_stops : (fs : List Finding) (n : ℕ) (T : Tables) (stop : Stop) → behind fs n (stops T stop) ≡ stands T fs n stop
behind_stops fs n T stop i = stands T (append-nil fs i) (add-zero n i) stop

behind_both : (fs gs : List Finding) (n m : ℕ) (r : Run) → behind fs n (behind gs m r) ≡ behind (fs ++ gs) (n + m) r
behind_both fs gs n m r i = stands r.left (sym (append_assoc fs gs r.found) i) (sym (add_assoc n m r.taken) i) r.stop

-- ---- before the byte `at` of the piece

pub record Going (ended : Bool) (T : Tables) (s out : List ℕ) (w : Way) (T' : Tables) (out' : List ℕ) : Type 0 where
  pub found : List Finding
  pub findings : w.findings ≡ length found
  pub bytes : w.put ≡ length (all_shown found)
  pub shown : out' ≡ put out 0 (all_shown found)
  pub as_long : length out' ≡ length out
  pub fits : w.put ≤ length out
  pub line : w.at < w.to → LineComes ended (length out) s w
  pub same : w.at < w.to → run_of ended (length out) T s ≡ behind found w.at (run_of ended (length out - w.put) T' (drop w.at s))
  pub done : w.to ≤ w.at → run_of ended (length out) T s ≡ stands T' found w.at w.stop

pub going_start : {ended : Bool} {T : Tables} {s out : List ℕ} {w : Way} → w.at ≡ 0 → w.put ≡ 0 → w.findings ≡ 0 → Aims ended (length out) s w → Going ended T s out w T out
going_start {ended} {T} {s} {out} {w} at p f aims =
    let start : run_of ended (length out) T s ≡ run_of ended (length out - w.put) T (drop w.at s) =
    ap (λ (n : ℕ). run_of ended n T s) (omega (arith, p)) ∙ ap (λ (i : ℕ). run_of ended (length out - w.put) T (drop i s)) (sym at)
    in
    record {
      found = [];
      findings = f;
      bytes = p;
      shown = sym (put_none out 0);
      as_long = refl;
      fits = omega (arith, p);
      line = aims.line;
      same = λ _.
          start ∙ behind_none (run_of ended (length out - w.put) T (drop w.at s))
          ∙ λ i. behind [] (sym at i) (run_of ended (length out - w.put) T (drop w.at s));
      done = λ h. start ∙ aims.none h T ∙ λ i. stands T [] (sym at i) w.stop;
    }

going_end : {ended : Bool} {T T' : Tables} {s out out' : List ℕ} {w : Way} → Going ended T s out w T' out' → w.to ≤ w.at
    → leaves (record { taken = w.at; put = w.put; findings = w.findings; stop = w.stop }) T' out' ≡ piece_outcome ended T s out
unfolding piece_outcome
going_end {ended} {T} {T'} {s} {out} {out'} {w} g h =
    (λ i. leaves (record { taken = w.at; put = g.bytes i; findings = g.findings i; stop = w.stop }) T' (g.shown i))
    ∙ ap (λ (r : Run). outcome r out) (sym (g.done h))

pub going_told : {ended : Bool} {T T' : Tables} {s out out' : List ℕ} {w : Way} {r : Passed} → r ≡ record { taken = w.at; put = w.put; findings = w.findings; stop = w.stop }
    → Going ended T s out w T' out' → w.to ≤ w.at → leaves r T' out' ≡ piece_outcome ended T s out
going_told {T' = T'} {out' = out'} e g h = ap (λ (r : Passed). leaves r T' out') e ∙ going_end g h

-- the bytes that are not taken, and one for the line that comes next: each turn leaves less
abbrev pub one_of : ℕ → ℕ
one_of zero = 0
one_of (suc n) = 1

one_most : (n : ℕ) → one_of n ≤ 1
one_most zero = omega arith
one_most (suc n) = omega arith

one_some : (n : ℕ) → 0 < n → one_of n ≡ 1
one_some zero h = absurd (omega arith)
one_some (suc n) h = refl

abbrev pub still : List ℕ → Way → ℕ
still s w = (length s - w.at) + one_of (w.to - w.at)

-- ---- one line

module _ {ended : Bool} {T S : Tables} {s out out1 : List ℕ} {w : Way} (g : Going ended T s out w S out1) (some : w.at < w.to) where
  pub less : {a : Answer} {q : Way} {out' : List ℕ} → Heard ended s a w out1 q out' → still s q < still s w
  less {q = q} (line_refused k z far to stop out_is) =
      let none : q.to - q.at ≡ 0 = omega (arith, to) in
      omega (arith, far.at, ap one_of none, one_some (w.to - w.at) (omega (arith, some)))
  less {q = q} (line_accepted f z at put_is findings aims out_is fits) =
      omega (arith, some, at, (g.line some).within, one_most (q.to - q.at), one_some (w.to - w.at) (omega (arith, some)))

  module _ {S' : Tables} {a : Answer} (h : answers_leaving a S' ≡ step_outcome S (take (w.to - w.at) (drop w.at s))) where
    abbrev its_line : List ℕ
    its_line = take (w.to - w.at) (drop w.at s)

    -- what is known before its answer is heard
    pub roomy : (w.to ≤ length s) × (w.put + most_shown ≤ length out1) × (w.findings ≤ w.put) × IfOk a (λ f. f.count ≤ most_found)
    roomy =
        let l = g.line some in
        (l.within, omega (arith, l.roomy, g.as_long), omega (arith, g.findings, g.bytes, no_longer g.found), few_counted S its_line a S' h)

    its_length : length its_line ≡ w.to - w.at
    its_length = length-take-le (w.to - w.at) (drop w.at s) (omega (arith, length-drop w.at s, (g.line some).within))

    gone_on : Reply → Run
    gone_on r =
        behind g.found w.at
        (go_on S r (λ gs. behind gs (w.to - w.at) (run_of ended (length out - w.put - length (all_shown gs)) (step_of S its_line).left (drop w.to s))))

    stepped : run_of ended (length out) T s ≡ gone_on (step_of S its_line).reply
    unfolding run_of run_lines gone_on
    stepped =
        let l = g.line some in
        let room : most_shown ≤ length out - w.put = omega (arith, l.roomy) in
        let sum : w.at + (w.to - w.at) ≡ w.to = omega (arith, some) in
        let past : drop (w.to - w.at) (drop w.at s) ≡ drop w.to s = drop-drop (w.to - w.at) w.at s ∙ ap (λ (n : ℕ). drop n s) sum in
        g.same some
        ∙ rw (pieces_next ended (drop w.at s) (Next.Line (w.to - w.at)) l.next, le-ltb (length out - w.put) most_shown room, its_length, past)

    pub going_on : {q : Way} {out' : List ℕ} → Heard ended s a w out1 q out' → Going ended T s out q S' out'
    unfolding gone_on findings_of
    going_on {q} {out'} (line_refused k z far to stop out_is) =
        let t = refuses S its_line a k S' h z in
        let told : Stop.Refused (refusal_of t.number) ≡ q.stop = ap Stop.Refused (sym t.refusal) ∙ sym stop in
        record {
          found = g.found;
          findings = far.findings ∙ g.findings;
          bytes = far.put ∙ g.bytes;
          shown = out_is ∙ g.shown;
          as_long = ap length out_is ∙ g.as_long;
          fits = omega (arith, far.put, g.fits);
          line = λ more. absurd (omega (arith, more, to));
          same = λ more. absurd (omega (arith, more, to));
          done = λ _. stepped ∙ ap gone_on t.reply ∙ behind_stops g.found w.at S (Stop.Refused (refusal_of t.number))
              ∙ λ i. stands (sym t.left i) g.found (sym far.at i) (told i);
        }
    going_on {q} {out'} (line_accepted f z at put_is findings aims out_is fits) =
        let t = takes S its_line a f S' h z in
        let gs = t.found in
        let its : shown_findings f ≡ all_shown gs = ap shown_findings t.findings ∙ shown_accepted gs t.few in
        let count : f.count ≡ length gs = omega (arith, ap (λ (v : Findings). v.count) t.findings, t.few) in
        let both : all_shown g.found ++ shown_findings f ≡ all_shown (g.found ++ gs) =
        ap (λ (v : List ℕ). all_shown g.found ++ v) its ∙ sym (all_shown_append g.found gs)
        in
        let bytes : q.put ≡ length (all_shown (g.found ++ gs)) =
        put_is ∙ ap (λ (n : ℕ). n + length (shown_findings f)) g.bytes ∙ sym (length-append (all_shown g.found) (shown_findings f)) ∙ ap length both
        in
        let shown : out' ≡ put out 0 (all_shown (g.found ++ gs)) =
        out_is ∙ ap₂ (λ (d : List ℕ) (n : ℕ). put d n (shown_findings f)) g.shown (g.bytes ∙ sym (zero-add (length (all_shown g.found))))
        ∙ put_put out 0 (all_shown g.found) (shown_findings f) (omega (arith, g.fits, g.bytes)) ∙ ap (put out 0) both
        in
        let size : length out1 ≡ length out = g.as_long in
        let aims : Aims ended (length out) s q = subst (λ (n : ℕ). Aims ended n s q) size aims in
        let sum : w.at + (w.to - w.at) ≡ q.at = omega (arith, some, at) in
        let rest : length out - w.put - length (all_shown gs) ≡ length out - q.put = omega (arith, put_is, ap length its) in
        let same : run_of ended (length out) T s ≡ behind (g.found ++ gs) q.at (run_of ended (length out - q.put) S' (drop q.at s)) =
        stepped ∙ ap gone_on t.reply
        ∙ behind_both g.found gs w.at (w.to - w.at) (run_of ended (length out - w.put - length (all_shown gs)) (step_of S its_line).left (drop w.to s))
        ∙ λ i. behind (g.found ++ gs) (sum i) (run_of ended (rest i) (sym t.left i) (drop (sym at i) s))
        in
        record {
          found = g.found ++ gs;
          findings = omega (arith, findings, g.findings, count, length-append g.found gs);
          bytes = bytes;
          shown = shown;
          as_long = ap length shown ∙ length_put out 0 (all_shown (g.found ++ gs)) (omega (arith, bytes, fits, size));
          fits = omega (arith, fits, size);
          line = aims.line;
          same = λ _. same;
          done = λ h. same ∙ ap (behind (g.found ++ gs) q.at) (aims.none h S') ∙ behind_stops (g.found ++ gs) q.at S' q.stop;
        }

-- ---- the tables refuse the first line

pub started : {ended : Bool} {T : Tables} {s out : List ℕ} {w : Way} {size : ℕ} → length out ≡ size → (w.at ≡ 0) × (w.put ≡ 0) × (w.findings ≡ 0) × Aims ended size s w → Going ended T s out w T out
started {ended} {s = s} {w = w} n e = going_start e.0 e.1 e.2 (subst (λ (m : ℕ). Aims ended m s w) (sym n) e.3)

pub refused_at_once : {ended : Bool} {T : Tables} {s out : List ℕ} {w q : Way} {k : Refusal} {r : Passed} → passes (by_tables T) ≡ Err k → Going ended T s out w T out
    → w.at < w.to → AsFar w q → q.to ≡ q.at → q.stop ≡ Stop.Refused k → r ≡ record { taken = q.at; put = q.put; findings = q.findings; stop = q.stop }
    → leaves r T out ≡ piece_outcome ended T s out
refused_at_once {T = T} {s = s} {w = w} {k = k} h g some far to stop e =
    going_told e (going_on g some (by_its_tables T (take (w.to - w.at) (drop w.at s)) (passes (by_tables T)) (Err k) k refl h refl) (line_refused k refl far to stop refl)) (omega (arith, to))
