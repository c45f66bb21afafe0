-- The run over a piece of the input is a part of the run of the whole. Assumes nothing.
use Prim.Native.Nat.{ℕ, zero, suc, ◌+◌, ◌*◌, ◌-◌, ◌≤◌, ◌<◌}
use mathlib.Core.Path.{◌≡◌, refl, sym, ap, ap₂, subst, ◌∙◌}
use mathlib.Core.Bool.{Bool, true, false}
use mathlib.Core.List.{List, [], ◌∷◌, ◌++◌, append_assoc, append-nil}
use native.Mathlib.Nat.{add-zero, suc-mul}
use native.Mathlib.Omega.{arith}
use borrow.Author.Tests.{ltb-true}
use lib.Dec.{ltb}
use lib.ListN.{length, take, drop, length-append, length-drop}
use lib.Seq.{length-take-le, take_at, drop-drop}
use Rattle.words.specs.Choice.{if_true◌then◌else◌}
use Rattle.lines.specs.Line.{longest}
use Rattle.lines.specs.Numbered.{number_of, refusal_of}
use Rattle.history.specs.Replies.{Reply, accepted, not_accepted}
use Rattle.history.specs.Report.{lines_of}
use Rattle.history.specs.declared.Finding.{Finding}
use Rattle.answers.specs.Answer.{most_found}
use Rattle.report.specs.Shown.{most_shown}
use Rattle.tables.specs.Tables.{Tables}
use Rattle.tables.specs.Stepping.{step_of}
use Rattle.demands.specs.Calls.{ran, go_on_in, run_in}
use Rattle.demands.proofs.Foreign.{numbered}
use Rattle.pieces.specs.declared.Next.{Next}
use Rattle.pieces.specs.Pieces.{next_of, Behind, pieces_of}
use Rattle.pieces.proofs.Nexts.{line_next, more_next, end_next, by_pieces, pieces_next}
use Rattle.pieces.proofs.Runs.{run_line, run_end}
use Rattle.run.specs.declared.Passed.{Passed}
use Rattle.run.specs.declared.Stop.{Stop}
use Rattle.run.specs.Following.{Follows}
use Rattle.run.specs.Running.{all_shown, Run, stands, stops, behind, go_on, run_lines, run_of, Outcome, leaves, piece_outcome}
use Rattle.run.specs.Passing.{from_stop, Passes}
use Rattle.run.proofs.Answering.{accepted_few}
use Rattle.run.proofs.Following.{next_follows}

-- the number of the refusal that a number from 1 to 10 is told as
pub number_told : (k : ℕ) → 1 ≤ k → k ≤ 10 → number_of (refusal_of k) ≡ k
number_told zero low high = absurd (omega (arith, low))
number_told (suc zero) low high = refl
number_told (suc (suc zero)) low high = refl
number_told (suc (suc (suc zero))) low high = refl
number_told (suc (suc (suc (suc zero)))) low high = refl
number_told (suc (suc (suc (suc (suc zero))))) low high = refl
number_told (suc (suc (suc (suc (suc (suc zero)))))) low high = refl
number_told (suc (suc (suc (suc (suc (suc (suc zero))))))) low high = refl
number_told (suc (suc (suc (suc (suc (suc (suc (suc zero)))))))) low high = refl
number_told (suc (suc (suc (suc (suc (suc (suc (suc (suc zero))))))))) low high = refl
number_told (suc (suc (suc (suc (suc (suc (suc (suc (suc (suc zero)))))))))) low high = refl
number_told (suc (suc (suc (suc (suc (suc (suc (suc (suc (suc (suc n))))))))))) low high = absurd (omega (arith, high))

module _ (ended : Bool) where
  -- it stops before a line
  stopped : (room : ℕ) (T : Tables) (s : List ℕ) (stop : Stop)
      → ((before : List Finding) (next : List ℕ) → Behind ended next → run_in T before (lines_of (s ++ next)) ≡ from_stop stop T before (s ++ next))
      → (stop ≡ Stop.More → (ended ≡ false) × (length s ≤ longest)) → (stop ≡ Stop.Full → room < most_shown) → Passes ended room T s (stops T stop)
  stopped room T s stop same more full =
      record {
        same = λ before next h. same before next h ∙ ap (λ (fs : List Finding). from_stop stop T fs (s ++ next)) (sym (append-nil before));
        lines = 0;
        follows = λ n k. subst (Follows T) (sym (add-zero n)) k;
        within = omega arith;
        some = omega arith;
        covered = omega arith;
        few = omega arith;
        more = more;
        full = λ q h. absurd (omega (arith, full q, h));
      }

  -- it takes a line
  module _ (room : ℕ) (T : Tables) (s : List ℕ) (n : ℕ) (h : next_of ended s ≡ Next.Line n) where
    abbrev line : List ℕ
    line = take n s

    whole_run : (before : List Finding) (next : List ℕ) → Behind ended next → (r : Reply) → (step_of T line).reply ≡ r
        → run_in T before (lines_of (s ++ next)) ≡ go_on_in T before r (λ gs. run_in (step_of T line).left (before ++ gs) (lines_of (drop n s ++ next)))
    whole_run before next behind r q =
        run_line T before ended s next behind n h
        ∙ ap (λ (x : Reply). go_on_in T before x (λ gs. run_in (step_of T line).left (before ++ gs) (lines_of (drop n s ++ next)))) q

    refused : (k : ℕ) → (step_of T line).reply ≡ not_accepted k → Passes ended room T s (stops T (Stop.Refused (refusal_of k)))
    refused k q =
        let one = numbered T line k q in
        stopped room T s (Stop.Refused (refusal_of k)) (λ before next h. whole_run before next h (not_accepted k) q ∙ ap (ran T before) (sym (number_told k one.0 one.1)))
        (λ e. let z : ◌≡◌ {A = ℕ} 0 1 = cc in absurd (omega arith))
        (λ e. let z : ◌≡◌ {A = ℕ} 0 1 = cc in absurd (omega arith))

    taken : (gs : List Finding) → (step_of T line).reply ≡ accepted gs → (m : ℕ) (r : Run) → Passes ended m (step_of T line).left (drop n s) r
        → Passes ended room T s (behind gs (length line) r)
    taken gs q m r g =
        let there = line_next ended s n h in
        let long : length line ≡ n = length-take-le n s there.within in
        let past : drop r.taken (drop n s) ≡ drop (length line + r.taken) s = drop-drop r.taken n s ∙ ap (λ (k : ℕ). drop (k + r.taken) s) (sym long) in
        record {
          same = λ before next h.
              whole_run before next h (accepted gs) q ∙ g.same (before ++ gs) next h
              ∙ λ i. from_stop r.stop r.left (append_assoc before gs r.found i) (past i ++ next);
          lines = suc g.lines;
          follows = λ k f.
              let more : Follows r.left (suc k + g.lines) = g.follows (suc k) (next_follows T k line gs f q).follows in
              subst (Follows r.left) (omega arith) more;
          within = omega (arith, g.within, length-drop n s, there.within, long);
          some = omega (arith, g.some, there.some, long);
          covered = omega (arith, g.covered, there.short, long);
          few = omega (arith, g.few, length-append gs r.found, accepted_few T line gs q);
          more = λ e. let m = g.more e in (m.0, omega (arith, m.1, ap length past));
          full = λ e fits. omega arith;
        }

    one : ((m : ℕ) (U : Tables) → Passes ended m U (drop n s) (run_of ended m U (drop n s))) → Passes ended room T s (run_of ended room T s)
    unfolding run_of run_lines
    one rest =
        subst (λ (ps : List (List ℕ)). Passes ended room T s (run_lines ended room T ps)) (sym (pieces_next ended s (Next.Line n) h))
        (go (ltb room most_shown) refl (step_of T line).reply refl)
      where
        go : (t : Bool) → ltb room most_shown ≡ t → (r : Reply) → (step_of T line).reply ≡ r
            → Passes ended room T s
            (if_true t then stops T Stop.Full else go_on T r (λ gs. behind gs (length line) (run_of ended (room - length (all_shown gs)) (step_of T line).left (drop n s))))
        go true p r q =
            stopped room T s Stop.Full (λ before next h. refl) (λ e. let z : ◌≡◌ {A = ℕ} 0 1 = cc in absurd (omega arith)) (λ _. ltb-true room most_shown p)
        go false p (not_accepted k) q = refused k q
        go false p (accepted gs) q =
            taken gs q (room - length (all_shown gs)) (run_of ended (room - length (all_shown gs)) (step_of T line).left (drop n s))
            (rest (room - length (all_shown gs)) (step_of T line).left)

  -- no line is left
  none : (room : ℕ) (T : Tables) (s : List ℕ) (stop : Stop) → pieces_of ended s ≡ [] → (if_true ended then Stop.End else Stop.More) ≡ stop → Passes ended room T s (stops T stop)
      → Passes ended room T s (run_of ended room T s)
  unfolding run_of run_lines
  none room T s stop p q g =
      subst (λ (ps : List (List ℕ)). Passes ended room T s (run_lines ended room T ps)) (sym p) (subst (λ (x : Stop). Passes ended room T s (stops T x)) (sym q) g)

  abbrev last_stop : Bool → Stop
  last_stop b = if_true b then Stop.End else Stop.More

  pub passes : (s : List ℕ) (room : ℕ) (T : Tables) → Passes ended room T s (run_of ended room T s)
  passes =
      by_pieces ended (λ s. (room : ℕ) (T : Tables) → Passes ended room T s (run_of ended room T s))
      (λ s q room T.
      none room T s Stop.More (pieces_next ended s Next.More q) (ap last_stop (more_next ended s q).0)
      (stopped room T s Stop.More (λ before next h. refl) (λ _. more_next ended s q) (λ e. let z : ◌≡◌ {A = ℕ} 0 1 = cc in absurd (omega arith))))
      (λ s q room T.
      none room T s Stop.End (pieces_next ended s Next.End q) (ap last_stop (end_next ended s q).0)
      (stopped room T s Stop.End (λ before next h. run_end T before ended s next h q) (λ e. let z : ◌≡◌ {A = ℕ} 0 1 = cc in absurd (omega arith))
      (λ e. let z : ◌≡◌ {A = ℕ} 0 1 = cc in absurd (omega arith))))
      (λ s n q rest room T. one room T s n q rest)

-- ---- what a caller of the loop learns of it

pub record Learnt (ended : Bool) (T : Tables) (s out : List ℕ) (p : Passed) (T' : Tables) (out' : List ℕ) : Type 0 where
  pub found : List Finding
  pub passes : Passes ended (length out) T s (stands T' found p.taken p.stop)
  pub findings : p.findings ≡ length found
  pub bytes : p.put ≡ length (all_shown found)
  pub front : take p.put out' ≡ all_shown found
  pub fits : p.put ≤ length out

pub learnt : {ended : Bool} {T T' : Tables} {s out out' : List ℕ} {p : Passed} → length out' ≡ length out → leaves p T' out' ≡ piece_outcome ended T s out
    → Learnt ended T s out p T' out'
unfolding piece_outcome
learnt {ended} {T} {T'} {s} {out} {out'} {p} long e =
    let r = run_of ended (length out) T s in
    let bytes = all_shown r.found in
    let put_is : p.put ≡ length bytes = ap (λ (o : Outcome). o.reply.put) e in
    let out_is : out' ≡ bytes ++ drop (0 + length bytes) out = ap (λ (o : Outcome). o.out) e in
    let same : r ≡ stands T' r.found p.taken p.stop = λ i. stands (sym e i).left r.found (sym e i).reply.taken (sym e i).reply.stop in
    record {
      found = r.found;
      passes = subst (Passes ended (length out) T s) same (passes ended s (length out) T);
      findings = ap (λ (o : Outcome). o.reply.findings) e;
      bytes = put_is;
      front = ap₂ take put_is out_is ∙ take_at bytes (drop (0 + length bytes) out) (length bytes) refl;
      fits = omega (arith, put_is, long, ap length out_is ∙ length-append bytes (drop (0 + length bytes) out));
    }

-- without a line there are no bytes
pub few_bytes : {ended : Bool} {T T' : Tables} {s out out' : List ℕ} {p : Passed} {size : ℕ} (k : Learnt ended T s out p T' out') → length out ≤ size → p.put ≤ k.passes.lines * size
few_bytes {size = size} k short = subst (λ (n : ℕ). n ≤ k.passes.lines * size) (sym k.bytes) (go k.found k.passes.lines k.passes.few (omega (arith, k.bytes, k.fits, short)))
  where
    go : (fs : List Finding) (lines : ℕ) → length fs ≤ most_found * lines → length (all_shown fs) ≤ size → length (all_shown fs) ≤ lines * size
    go [] zero h n = omega arith
    go (f ∷ fs) zero h n = absurd (omega arith)
    go fs (suc lines) h n = subst (λ (m : ℕ). length (all_shown fs) ≤ m) (sym (suc-mul lines size)) (omega (arith, n))
