-- A turn of the program: what it leaves, and why the turns have an end. Assumes nothing.
use Prim.Native.Nat.{ℕ, zero, suc, ◌+◌, ◌*◌, ◌-◌, ◌≤◌, ◌<◌}
use mathlib.Core.Path.{◌≡◌, refl, sym, ap, subst, ◌∙◌}
use mathlib.Core.Bool.{Bool, true, false}
use mathlib.Core.List.{List, [], ◌++◌}
use native.Mathlib.Nat.{sub-zero}
use native.Mathlib.Omega.{arith}
use borrow.Author.Tests.{eq-eqb}
use Rattle.std.specs.Prelude.{Option, Some, None}
use lib.ListN.{length, take, drop, length-drop}
use lib.Seq.{length-take-le, take-add, drop-drop, drop_at}
use Rattle.lines.specs.Line.{longest}
use Rattle.lines.specs.declared.refusal.Refusal.{Refusal}
use Rattle.history.specs.Replies.{most_lines}
use Rattle.history.proofs.Stacks.{at_most_a_million}
use Rattle.answers.specs.Answer.{most_found}
use Rattle.tables.specs.Tables.{Tables}
use Rattle.tables.specs.Stepping.{start_of}
use Rattle.demands.specs.Calls.{Long}
use Rattle.run.specs.declared.Passed.{Passed}
use Rattle.run.specs.declared.Stop.TheVariants as Stop
use Rattle.run.specs.Following.{Follows}
use Rattle.run.specs.Running.{leaves, piece_outcome}
use Rattle.run.proofs.Following.{start_follows}
use Rattle.run.proofs.Passing.{Learnt, learnt, few_bytes}
use Rattle.program.specs.declared.Run.{Run}
use Rattle.program.specs.declared.streams.Streams.{Streams}
use Rattle.program.specs.Progress.{buffer_size, most_findings, most_leaked, Few, lines_accepted, one_if, come_by, most_come_by}
use Rattle.program.specs.Printing.{nothing_yet, with_read, with_printed}
use Rattle.program.specs.Running.{at_judged, number_in, Failed, unread_in, Fits, Reads, PassesOn, EndsSo, Turned, is_full, wants_more, is_refused, is_at_end, failed, Finished, Ends, with_last, without, Good, LeaksLeft}
use Rattle.program.proofs.Turning.{is_good, not_both, not_judged}
use Rattle.program.proofs.Judging.{Judged, AllJudged, due, judged_more, judged_full, judged_wants, judged_refused, judged_end, last_due, leaks_left}

-- ---- the lines accepted are those of the history

module _ {T : Tables} {n : ℕ} (k : Follows T n) where
  lines_are : lines_accepted T ≡ n
  unfolding lines_accepted
  lines_are = k.tied.tables.lines ∙ k.count

  in_step : Follows T (lines_accepted T)
  in_step = subst (Follows T) (sym lines_are) k

  few_of : n ≤ most_lines
  few_of = omega (arith, k.count, at_most_a_million k.room k.past k.accepts)

-- ---- a run that goes on

pub record Going (leaks : Bool) (T : Tables) (r : Run) (buf : List ℕ) : Type 0 where
  pub asked : r.streams.leaks ≡ leaks
  pub size : length buf ≡ buffer_size
  pub goes : r.stop ≡ None
  pub none_refused : r.refusal ≡ None
  pub follows : Follows T (lines_accepted T)
  pub findings : r.findings ≤ most_found * lines_accepted T
  pub printed : r.streams.printed ≤ buffer_size * lines_accepted T
  -- what was read was taken by lines, or is unread
  pub read : r.streams.read ≤ suc longest * lines_accepted T + (r.to - r.from)
  pub ordered : r.from ≤ r.to
  pub within : r.to ≤ buffer_size
  pub judged : Judged T r.streams r.findings (unread_in buf r)

judged_as : {T : Tables} {n m : ℕ} {s q : Streams} {b d : List ℕ} → q ≡ s → m ≡ n → d ≡ b → Judged T s n b → Judged T q m d
judged_as {T} {n} {m} {s} {q} {b} {d} es en eb j =
    subst (λ (x : Streams). Judged T x m d) (sym es) (subst (λ (x : ℕ). Judged T s x d) (sym en) (subst (Judged T s n) (sym eb) j))

pub going_start : {leaks : Bool} {S : Tables} {r : Run} {buf : List ℕ} (T : Tables) → Long T → S ≡ start_of T → length buf ≡ buffer_size → r.from ≡ 0 → r.to ≡ 0 → r.streams ≡ nothing_yet leaks
    → r.findings ≡ 0 → r.refusal ≡ None → r.stop ≡ None → Judged S (nothing_yet leaks) 0 [] → Going leaks S r buf
going_start {leaks} {S} {r} {buf} T long e size from to streams findings refusal stop judged =
    record {
      asked = ap (λ (x : Streams). x.leaks) streams;
      size = size;
      goes = stop;
      none_refused = refusal;
      follows = subst (λ (X : Tables). Follows X (lines_accepted X)) (sym e) (in_step (start_follows T long));
      findings = omega (arith, findings);
      printed = omega (arith, ap (λ (x : Streams). x.printed) streams);
      read = omega (arith, ap (λ (x : Streams). x.read) streams);
      ordered = omega (arith, from, to);
      within = omega (arith, to);
      judged = judged_as streams findings (λ i. take (to i - from i) (drop (from i) buf)) judged;
    }

come_by_most : {leaks : Bool} {T : Tables} {r : Run} {buf : List ℕ} → Going leaks T r buf → come_by T r ≤ most_come_by
come_by_most {leaks} {T} {r} g = omega (arith, few_of g.follows, g.within, one_most r.streams.ended)
  where
    one_most : (b : Bool) → one_if b ≤ 1
    one_most true = omega arith
    one_most false = omega arith

-- ---- the loop has passed a part of what is unread

pub record Passing (leaks : Bool) (T : Tables) (r : Run) (buf : List ℕ) (p : Passed) (S : Tables) (out' : List ℕ) : Type 0 where
  pub out : List ℕ
  pub ended : Bool
  pub going : Going leaks T r buf
  pub room : length out ≡ buffer_size
  pub kept : length out' ≡ length out
  pub told : ended ≡ r.streams.ended
  pub outcome : leaves p S out' ≡ piece_outcome ended T (unread_in buf r) out

module _ {leaks : Bool} {T S : Tables} {r : Run} {buf out' : List ℕ} {p : Passed} (u : Passing leaks T r buf p S out') where
  abbrev g : Going leaks T r buf
  g = u.going

  known : Learnt r.streams.ended T (unread_in buf r) u.out p S out'
  known = learnt u.kept (u.outcome ∙ ap (λ (b : Bool). piece_outcome b T (unread_in buf r) u.out) u.told)

  lines : ℕ
  lines = known.passes.lines

  long : length (unread_in buf r) ≡ r.to - r.from
  long = length-take-le (r.to - r.from) (drop r.from buf) (omega (arith, length-drop r.from buf, g.size, g.within))

  following : Follows S (lines_accepted T + lines)
  unfolding lines
  following = known.passes.follows (lines_accepted T) g.follows

  accepted : lines_accepted S ≡ lines_accepted T + lines
  accepted = lines_are following

  few_lines : lines_accepted S ≤ most_lines
  few_lines = omega (arith, few_of following, accepted)

  few_found : r.findings + p.findings ≤ most_found * lines_accepted S
  unfolding lines
  few_found = omega (arith, g.findings, known.findings, known.passes.few, accepted)

  few_printed : r.streams.printed + p.put ≤ buffer_size * lines_accepted S
  unfolding lines
  few_printed = omega (arith, g.printed, few_bytes {size = buffer_size} known (omega (arith, u.room)), accepted)

  taken_within : r.from + p.taken ≤ r.to
  taken_within = omega (arith, known.passes.within, long, g.ordered)

  covered : p.taken ≤ suc longest * lines
  unfolding lines
  covered = known.passes.covered

  few_unread : p.stop ≡ Stop.More → r.to - (r.from + p.taken) ≤ longest
  few_unread h = omega (arith, (known.passes.more h).1, length-drop p.taken (unread_in buf r), long)

  pub fits : (length buf ≡ buffer_size) × Fits r p out'
  fits = (
    g.size,
    record {
      goes = g.goes;
      taken = taken_within;
      within = g.within;
      few = few_unread;
      findings = omega (arith, few_found, few_lines);
      put = omega (arith, known.fits, u.kept);
      streams = record { read = omega (arith, g.read, few_lines, accepted, g.within); printed = omega (arith, few_printed, few_lines) };
      due = due g.judged known;
    },
  )

  part_then : drop p.taken (unread_in buf r) ≡ take (r.to - (r.from + p.taken)) (drop (r.from + p.taken) buf)
  part_then =
      let size : r.to - r.from ≡ p.taken + (r.to - (r.from + p.taken)) = omega (arith, taken_within) in
      let front = length-take-le p.taken (drop r.from buf) (omega (arith, length-drop r.from buf, g.size, g.within, taken_within)) in
      ap (λ (k : ℕ). drop p.taken (take k (drop r.from buf))) size
      ∙ ap (drop p.taken) (take-add p.taken (r.to - (r.from + p.taken)) (drop r.from buf))
      ∙ drop_at (take p.taken (drop r.from buf)) (take (r.to - (r.from + p.taken)) (drop p.taken (drop r.from buf))) p.taken front
      ∙ ap (take (r.to - (r.from + p.taken))) (drop-drop p.taken r.from buf)

  unread_then : {w : Run} → PassesOn r p w → unread_in buf w ≡ drop p.taken (unread_in buf r)
  unread_then on = (λ i. take (on.to i - on.from i) (drop (on.from i) buf)) ∙ sym part_then

  printed_then : {s : Streams} → s ≡ with_printed r.streams p.put true → s.printed ≤ buffer_size * lines_accepted S
  printed_then is = omega (arith, ap (λ (x : Streams). x.printed) is, few_printed)

  read_then : {w : Run} → PassesOn r p w → w.streams.read ≤ suc longest * lines_accepted S + (w.to - w.from)
  read_then on = omega (arith, ap (λ (x : Streams). x.read) on.streams, g.read, covered, accepted, taken_within, on.from, on.to)

  before_end : p.stop ≡ Stop.More → r.streams.ended ≡ false
  before_end h = (known.passes.more h).0

  -- ---- the turn goes on

  module _ {q : Run} {buf' : List ℕ} (goes : q.stop ≡ None) (same : length buf' ≡ length buf) where
    after_read : p.stop ≡ Stop.More → (w : Run) → PassesOn r p w → (n : ℕ) → Reads w buf q buf' n → Going leaks S q buf'
    after_read h w on n reads =
        let rest = w.to - w.from in
        let new = take n (drop rest buf') in
        let all : unread_in buf' q ≡ unread_in buf w ++ new =
        (λ i. take (reads.to i - reads.from i) (drop (reads.from i) buf'))
        ∙ ap (λ (k : ℕ). take k buf') (sub-zero (rest + n))
        ∙ take-add rest n buf'
        ∙ ap (λ (b : List ℕ). b ++ new) reads.kept
        in
        let long_new : length new ≡ n = length-take-le n (drop rest buf') (omega (arith, length-drop rest buf', same, g.size, reads.within, reads.to)) in
        let is : q.streams ≡ with_read (with_printed r.streams p.put true) (Some (length new)) =
        reads.streams ∙ (λ i. with_read (on.streams i) (Some (sym long_new i)))
        in
        record {
          asked = ap (λ (x : Streams). x.leaks) reads.streams ∙ ap (λ (x : Streams). x.leaks) on.streams ∙ g.asked;
          size = same ∙ g.size;
          goes = goes;
          none_refused = reads.refusal ∙ on.refusal ∙ g.none_refused;
          follows = in_step following;
          findings = omega (arith, reads.findings, on.findings, few_found);
          printed = omega (arith, ap (λ (x : Streams). x.printed) reads.streams, printed_then on.streams);
          read = omega (arith, ap (λ (x : Streams). x.read) reads.streams, read_then on, reads.from, reads.to);
          ordered = omega (arith, reads.from);
          within = reads.within;
          judged = judged_as is (reads.findings ∙ on.findings) (all ∙ ap (λ (b : List ℕ). b ++ new) (unread_then on))
              (judged_more new (before_end h) (judged_wants g.judged known h));
        }

    pub going_on : Turned r p buf q buf' → Going leaks S q buf'
    going_on (is_full h on is) =
        record {
          asked = ap (λ (x : Streams). x.leaks) on.streams ∙ g.asked;
          size = same ∙ g.size;
          goes = goes;
          none_refused = on.refusal ∙ g.none_refused;
          follows = in_step following;
          findings = omega (arith, on.findings, few_found);
          printed = printed_then on.streams;
          read = read_then on;
          ordered = omega (arith, on.from, on.to, taken_within);
          within = omega (arith, on.to, g.within);
          judged = judged_as on.streams on.findings (ap (λ (b : List ℕ). unread_in b q) is ∙ unread_then on) (judged_full g.judged known h);
        }
    going_on (wants_more h w on n reads) = after_read h w on n reads
    going_on (is_refused k h ends) = absurd (not_both ends.stop goes)
    going_on (is_at_end h ends) = absurd (not_both ends.stop goes)
    going_on (failed fails) = absurd (not_both fails.stop goes)

    more : Turned r p buf q buf' → come_by T r < come_by S q
    unfolding lines
    more (is_full h on is) =
        let line = known.passes.full h (omega (arith, u.room)) in
        omega (arith, line, covered, accepted, taken_within, on.from, on.to, ap (λ (x : Streams). one_if x.ended) on.streams)
    more (wants_more h w on n reads) = go n refl
      where
        go : (m : ℕ) → n ≡ m → come_by T r < come_by S q
        go zero z =
            omega (
              arith,
              covered,
              accepted,
              taken_within,
              on.from,
              on.to,
              reads.from,
              reads.to,
              z,
              ap one_if (before_end h),
              ap (λ (x : Streams). one_if x.ended) reads.streams ∙ ap one_if (eq-eqb n 0 z),
            )
        go (suc m) z = omega (arith, covered, accepted, taken_within, on.from, on.to, reads.from, reads.to, z, ap one_if (before_end h))
    more (is_refused k h ends) = absurd (not_both ends.stop goes)
    more (is_at_end h ends) = absurd (not_both ends.stop goes)
    more (failed fails) = absurd (not_both fails.stop goes)

    pub fewer_left : Turned r p buf q buf' → most_come_by - come_by S q < most_come_by - come_by T r
    fewer_left t = omega (arith, more t, come_by_most (going_on t))

  -- ---- or it is the last

  module _ {q : Run} {buf' : List ℕ} (stops : q.stop ≡ None → ⊥) (t : Turned r p buf q buf') where
    -- all is judged, and the last line and the leaks can be counted
    record Done : Type 0 where
      judged : AllJudged S q.streams q.findings (number_in q.refusal)
      findings : q.findings ≤ most_findings
      streams : Few q.streams (buffer_size + most_leaked)

    done_so : (k : Option Refusal) → EndsSo r p k q → AllJudged S (with_printed r.streams p.put true) (r.findings + p.findings) (number_in k) → Done
    done_so k so all =
        record {
          judged =
              subst (λ (s : Streams). AllJudged S s q.findings (number_in q.refusal)) (sym so.streams)
              (subst (λ (n : ℕ). AllJudged S (with_printed r.streams p.put true) n (number_in q.refusal)) (sym so.findings)
              (subst (λ (o : Option Refusal). AllJudged S (with_printed r.streams p.put true) (r.findings + p.findings) (number_in o)) (sym so.refusal) all));
          findings = omega (arith, so.findings, few_found, few_lines);
          streams = record { read = omega (arith, ap (λ (x : Streams). x.read) so.streams, g.read, few_lines, accepted, g.within); printed = omega (arith, printed_then so.streams, few_lines) };
        }

    done : q.stop ≡ at_judged → Done
    done one = go t
      where
        go : Turned r p buf q buf' → Done
        go (is_full h on is) = absurd (stops on.stop)
        go (wants_more h w on n reads) = absurd (stops (reads.stop ∙ on.stop))
        go (is_refused k h so) = done_so (Some k) so (judged_refused g.judged known k h)
        go (is_at_end h so) = done_so r.refusal so (subst (λ (o : Option Refusal). AllJudged S (with_printed r.streams p.put true) (r.findings + p.findings) (number_in o)) (sym g.none_refused) (judged_end g.judged known h))
        go (failed fails) = absurd (not_judged fails.stop one)

    pub finished : Finished S.book q
    finished =
        record {
          lines = omega (arith, few_of following, following.count, following.tied.tables.lines);
          last = λ one.
              let d = done one in
              record { findings = d.findings; streams = record { read = d.streams.read; printed = omega (arith, d.streams.printed) }; due = last_due d.judged };
        }

    pub still_asked : {s : Streams} → Ends S.book q s → s.leaks ≡ leaks
    still_asked {s} e = of_end e ∙ of_turn t
      where
        of_end : Ends S.book q s → s.leaks ≡ q.streams.leaks
        of_end (with_last one short h) = ap (λ (x : Streams). x.leaks) h.after
        of_end (without not is) = ap (λ (x : Streams). x.leaks) is

        of_turn : Turned r p buf q buf' → q.streams.leaks ≡ leaks
        of_turn (is_full h on is) = ap (λ (x : Streams). x.leaks) on.streams ∙ g.asked
        of_turn (wants_more h w on n reads) = ap (λ (x : Streams). x.leaks) reads.streams ∙ ap (λ (x : Streams). x.leaks) on.streams ∙ g.asked
        of_turn (is_refused k h so) = ap (λ (x : Streams). x.leaks) so.streams ∙ g.asked
        of_turn (is_at_end h so) = ap (λ (x : Streams). x.leaks) so.streams ∙ g.asked
        of_turn (failed fails) = fails.leaks ∙ g.asked

    pub leaks_then : {s : Streams} → Ends S.book q s → LeaksLeft s S
    unfolding LeaksLeft
    leaks_then (with_last one short h) =
        let d = done one in
        leaks_left d.judged h
        (record {
          read = omega (arith, ap (λ (x : Streams). x.read) h.after, d.streams.read);
          printed = omega (arith, ap (λ (x : Streams). x.printed) h.after, d.streams.printed, short);
        })
    leaks_then {s} (without not is) = λ ns size good. absurd (is_good (go t) (subst Good is good))
      where
        go : Turned r p buf q buf' → Failed q.streams
        go (is_full h on is) = absurd (stops on.stop)
        go (wants_more h w on n reads) = absurd (stops (reads.stop ∙ on.stop))
        go (is_refused k h so) = absurd (not so.stop)
        go (is_at_end h so) = absurd (not so.stop)
        go (failed fails) = fails.why
