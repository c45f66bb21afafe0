-- The way through a trace, from one call of the loop to the next. Assumes nothing.
use Prim.Native.Nat.{ℕ, ◌+◌, ◌*◌, ◌-◌, ◌≤◌, ◌<◌}
use mathlib.Core.Path.{◌≡◌, refl, sym, ap, ap₂, ◌∙◌}
use mathlib.Core.Bool.{true, false≢true}
use mathlib.Core.List.{List, [], ◌++◌, append-nil}
use native.Mathlib.Omega.{arith}
use lib.ListN.{length, take, drop, length-append, length-drop}
use lib.Seq.{take_all, drop-drop}
use Rattle.numbers.specs.Writing.{put}
use Rattle.numbers.proofs.Put.{put_none}
use Rattle.history.specs.Replies.{most_lines}
use Rattle.history.specs.Report.{lines_of}
use Rattle.history.specs.declared.Finding.{Finding}
use Rattle.history.proofs.Stacks.{at_most_a_million}
use Rattle.book.specs.Threads.{lines_in}
use Rattle.tables.specs.Tables.{Tables}
use Rattle.demands.specs.Calls.{ran, run_in}
use Rattle.run.specs.declared.Passed.{Passed}
use Rattle.run.specs.declared.Stop.{Stop}
use Rattle.run.specs.Following.{Follows}
use Rattle.run.specs.Running.{all_shown, leaves, piece_outcome}
use Rattle.run.specs.Passing.{from_stop}
use Rattle.run.proofs.Going.{all_shown_append}
use Rattle.run.proofs.Passing.{Learnt, learnt, few_bytes}
use Rattle.trace.specs.declared.Run.{Run}
use Rattle.trace.specs.Whole.{run_over}
use Rattle.trace.specs.Running.{scratch_size, Few, number_in, SumsFit, PassesOn}
use Rattle.trace.proofs.Putting.{put_as_long, put_behind}

-- ---- why a call has stopped, where the trace ends behind its bytes

on_end : (stop : Stop) (T : Tables) (fs : List Finding) (unread : List ℕ) → (stop ≡ Stop.Full → ⊥) → (stop ≡ Stop.More → ⊥)
    → from_stop stop T fs unread ≡ ran T fs (number_in stop)
on_end (Stop.Refused k) T fs unread full more = refl
on_end Stop.Full T fs unread full more = absurd (full refl)
on_end Stop.More T fs unread full more = absurd (more refl)
on_end Stop.End T fs unread full more = refl

-- ---- the findings so far

-- of so many lines, put at the front where they have room, and the tables that are left
pub record Far (out : List ℕ) (r : Run) (T' : Tables) (out' : List ℕ) (found : List Finding) : Type 0 where
  pub lines : ℕ
  pub follows : Follows T' lines
  pub few : Few r lines
  pub findings : r.findings ≡ length found
  pub bytes : r.bytes ≡ length (all_shown found)
  pub shown : length (all_shown found) ≤ length out → out' ≡ put out 0 (all_shown found)
  pub as_long : length out' ≡ length out

-- before the byte `at` of the trace
pub record Going (T : Tables) (trace out : List ℕ) (r : Run) (T' : Tables) (out' : List ℕ) : Type 0 where
  pub found : List Finding
  pub far : Far out r T' out' found
  pub within : r.at ≤ length trace
  pub goes : run_over T trace ≡ run_in T' found (lines_of (drop r.at trace))

-- at its end
pub record Ended (T : Tables) (trace out : List ℕ) (r : Run) (stop : Stop) (T' : Tables) (out' : List ℕ) : Type 0 where
  pub found : List Finding
  pub far : Far out r T' out' found
  pub ends : run_over T trace ≡ ran T' found (number_in stop)

pub going_start : {T : Tables} {trace out : List ℕ} {r : Run} → Follows T 0 → r.at ≡ 0 → r.findings ≡ 0 → r.bytes ≡ 0 → Going T trace out r T out
unfolding run_over
going_start {T} {trace} {out} {r} k at f b =
    record {
      found = [];
      far = record {
        lines = 0;
        follows = k;
        few = record { findings = omega (arith, f); bytes = omega (arith, b) };
        findings = f;
        bytes = b;
        shown = λ _. sym (put_none out 0);
        as_long = refl;
      };
      within = omega (arith, at);
      goes = ap (λ (n : ℕ). run_in T [] (lines_of (drop n trace))) (sym at);
    }

most_of : {T : Tables} {n : ℕ} → Follows T n → n ≤ most_lines
most_of k = omega (arith, k.count, at_most_a_million k.room k.past k.accepts)

-- what the last line is made of
pub few_at_end : {T T' : Tables} {trace out out' : List ℕ} {r : Run} {stop : Stop} → Ended T trace out r stop T' out' → (lines_in T'.book ≤ most_lines) × Few r most_lines
few_at_end g =
    let k = g.far.follows in
    let most = most_of k in
    (omega (arith, most, k.count, k.tied.tables.lines), record { findings = omega (arith, most, g.far.few.findings); bytes = omega (arith, most, g.far.few.bytes) })

-- ---- one call of the loop

module _ {T S S' : Tables} {trace out out1 scratch' : List ℕ} {r : Run} {p : Passed} (scratch : List ℕ) (g : Going T trace out r S out1)
    (size : length scratch ≡ scratch_size) (kept : length scratch' ≡ length scratch)
    (e : leaves p S' scratch' ≡ piece_outcome true S (take (length trace - r.at) (drop r.at trace)) scratch) where
  abbrev unread : List ℕ
  unread = drop r.at trace

  known : Learnt true S unread scratch p S' scratch'
  known = learnt kept (e ∙ ap (λ (s : List ℕ). piece_outcome true S s scratch) (take_all (length trace - r.at) unread (omega (arith, length-drop r.at trace))))

  put_few : p.put ≤ scratch_size * known.passes.lines
  put_few = omega (arith, few_bytes {size = scratch_size} known (omega (arith, size)))

  following : Follows S' (g.far.lines + known.passes.lines)
  following = known.passes.follows g.far.lines g.far.follows

  taken_within : r.at + p.taken ≤ length trace
  taken_within = omega (arith, g.within, known.passes.within, length-drop r.at trace)

  pub sums_fit : SumsFit trace r p
  sums_fit =
      let all = most_of following in
      record {
        at = taken_within;
        findings = omega (arith, all, g.far.few.findings, known.findings, known.passes.few);
        bytes = omega (arith, all, g.far.few.bytes, put_few);
        put = omega (arith, known.fits, size);
      }

  module _ {q : Run} {out' : List ℕ} (on : PassesOn r p scratch' out1 q out') where
    stepped : run_over T trace ≡ from_stop p.stop S' (g.found ++ known.found) (drop p.taken unread)
    stepped =
        g.goes
        ∙ ap (λ (s : List ℕ). run_in S g.found (lines_of s)) (sym (append-nil unread))
        ∙ known.passes.same g.found [] (λ _. refl)
        ∙ ap (from_stop p.stop S' (g.found ++ known.found)) (append-nil (drop p.taken unread))

    far_on : Far out q S' out' (g.found ++ known.found)
    far_on =
        let its : take p.put scratch' ≡ all_shown known.found = known.front in
        let both : all_shown g.found ++ take p.put scratch' ≡ all_shown (g.found ++ known.found) =
        ap (λ (x : List ℕ). all_shown g.found ++ x) its ∙ sym (all_shown_append g.found known.found)
        in
        let long : length (all_shown (g.found ++ known.found)) ≡ r.bytes + p.put =
        ap length (all_shown_append g.found known.found) ∙ length-append (all_shown g.found) (all_shown known.found)
        ∙ ap₂ (λ (a b : ℕ). a + b) (sym g.far.bytes) (sym known.bytes)
        in
        record {
          lines = g.far.lines + known.passes.lines;
          follows = following;
          few = record {
            findings = omega (arith, on.findings, g.far.few.findings, known.findings, known.passes.few);
            bytes = omega (arith, on.bytes, g.far.few.bytes, put_few);
          };
          findings = omega (arith, on.findings, g.far.findings, known.findings, length-append g.found known.found);
          bytes = on.bytes ∙ sym long;
          shown = λ room.
              put_behind out out1 out' (all_shown g.found) (take p.put scratch') r.bytes g.far.as_long g.far.bytes g.far.shown on.shown
              (omega (arith, room, ap length both))
              ∙ ap (put out 0) both;
          as_long = ap length on.shown ∙ put_as_long out1 r.bytes (take p.put scratch') ∙ g.far.as_long;
        }

    pub going_on : p.stop ≡ Stop.Full → Going T trace out q S' out'
    going_on full =
        record {
          found = g.found ++ known.found;
          far = far_on;
          within = omega (arith, on.at, taken_within);
          goes =
              stepped
              ∙ ap (λ (x : Stop). from_stop x S' (g.found ++ known.found) (drop p.taken unread)) full
              ∙ ap (λ (s : List ℕ). run_in S' (g.found ++ known.found) (lines_of s)) (drop-drop p.taken r.at trace ∙ ap (λ (n : ℕ). drop n trace) (sym on.at));
        }

    pub ended_so : (p.stop ≡ Stop.Full → ⊥) → Ended T trace out q p.stop S' out'
    ended_so full =
        record {
          found = g.found ++ known.found;
          far = far_on;
          ends = stepped ∙ on_end p.stop S' (g.found ++ known.found) (drop p.taken unread) full (λ more. false≢true (sym (known.passes.more more).0));
        }

    -- a slice that is full took a line, so fewer bytes are left
    pub less : p.stop ≡ Stop.Full → length trace - q.at < length trace - r.at
    less full =
        let line = known.passes.full full (omega (arith, size)) in
        omega (arith, line, known.passes.some, taken_within, on.at)
