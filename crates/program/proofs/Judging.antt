-- One part of the input after the other is judged as the run of the whole input says, and what is printed of it is what is due. Assumes nothing.
use Prim.Native.Nat.{ℕ, ◌+◌, ◌*◌}
use mathlib.Core.Path.{◌≡◌, refl, sym, ap, subst, ◌∙◌}
use mathlib.Core.Bool.{Bool, true, false, false≢true}
use mathlib.Core.List.{List, [], ◌∷◌, ◌++◌, append_assoc, append-nil}
use native.Mathlib.Omega.{arith}
use Rattle.std.specs.Prelude.{Some}
use lib.ListN.{length, take, drop, length-append}
use lib.Seq.{take_at, drop_at}
use Rattle.lines.specs.Numbered.{number_of}
use Rattle.lines.specs.declared.refusal.Refusal.{Refusal}
use Rattle.history.specs.Replies.{Reply, accepted, not_accepted}
use Rattle.history.specs.Report.{run, lines_of, end_line}
use Rattle.history.specs.Runs.{program_room}
use Rattle.history.specs.declared.Finding.{Finding}
use Rattle.book.specs.Threads.{lines_in, closed_in}
use Rattle.tables.specs.Tables.{Tables}
use Rattle.tables.specs.Stepping.{step_of, start_of}
use Rattle.tables.specs.Listing.{leak_numbers}
use Rattle.demands.specs.Calls.{Ran, ran, go_on_in, run_in, printed}
use Rattle.demands.specs.Tied.{AllTied}
use Rattle.run.specs.declared.Passed.{Passed}
use Rattle.run.specs.declared.Stop.{Stop}
use Rattle.run.specs.Running.{all_shown}
use Rattle.run.specs.Passing.{from_stop}
use Rattle.run.proofs.Going.{all_shown_append}
use Rattle.run.proofs.Passing.{Learnt}
use Rattle.pieces.specs.Pieces.{Behind}
use Rattle.program.specs.declared.streams.Streams.{Streams}
use Rattle.program.specs.Printing.{output, Due, nothing_yet, with_read, with_printed, HasPrinted}
use Rattle.program.specs.Progress.{most_leaks, most_leaked, Few}
use Rattle.program.specs.Listing.{listing_of}
use Rattle.program.specs.Running.{Left, LeaksLeft}
use Rattle.program.proofs.Records.{leaks_shown, Has, listed}
use Rattle.program.proofs.Lent.{lent, output_is, tied_lent}

-- what was read is judged but for the bytes that are unread: the run of the input goes on from these tables, and what it found so far was printed
pub record Judged (T : Tables) (s : Streams) (findings : ℕ) (unread : List ℕ) : Type 0 where
  pub input : List ℕ
  pub found : List Finding
  pub read : length input ≡ s.read
  pub count : length found ≡ findings
  pub printed : length (all_shown found) ≡ s.printed
  pub same : (next : List ℕ) → Behind s.ended next → run_in (start_of lent) [] (lines_of (input ++ next)) ≡ run_in T found (lines_of (unread ++ next))

-- the run of what was read ends so, whatever is read behind it
pub record AllJudged (T : Tables) (s : Streams) (findings refusal : ℕ) : Type 0 where
  pub input : List ℕ
  pub found : List Finding
  pub read : length input ≡ s.read
  pub count : length found ≡ findings
  pub printed : length (all_shown found) ≡ s.printed
  pub same : (next : List ℕ) → Behind s.ended next → run_in (start_of lent) [] (lines_of (input ++ next)) ≡ ran T found refusal

pub judged_start : {S : Tables} (leaks : Bool) → S ≡ start_of lent → Judged S (nothing_yet leaks) 0 []
judged_start leaks e = record { input = []; found = []; read = refl; count = refl; printed = refl; same = λ next _. ap (λ (X : Tables). run_in X [] (lines_of next)) (sym e) }

-- ---- more is read, or there is no more

pub judged_more : {T : Tables} {s : Streams} {n : ℕ} {unread : List ℕ} (more : List ℕ) → s.ended ≡ false → Judged T s n unread
    → Judged T (with_read s (Some (length more))) n (unread ++ more)
judged_more {T} {s} {n} {unread} more before_end j =
    record {
      input = j.input ++ more;
      found = j.found;
      read = length-append j.input more ∙ ap (λ (k : ℕ). k + length more) j.read;
      count = j.count;
      printed = j.printed;
      same = λ next behind.
          ap (λ (b : List ℕ). run_in (start_of lent) [] (lines_of b)) (append_assoc j.input more next)
          ∙ j.same (more ++ next) (λ h. absurd (false≢true (sym before_end ∙ h)))
          ∙ ap (λ (b : List ℕ). run_in T j.found (lines_of b)) (sym (append_assoc unread more next));
    }

-- ---- what a run has found stands first in what it finds

record Begins (fs all : List Finding) : Type 0 where
  rest : List Finding
  is : all ≡ fs ++ rest

begins_run : (lines : List (List ℕ)) (T : Tables) (fs : List Finding) → Begins fs (run_in T fs lines).found
unfolding run_in
begins_run [] T fs = record { rest = []; is = sym (append-nil fs) }
begins_run (bs ∷ lines) T fs = go (step_of T bs).reply (λ gs. begins_run lines (step_of T bs).left (fs ++ gs))
  where
    go : (r : Reply) → ((gs : List Finding) → Begins (fs ++ gs) (run_in (step_of T bs).left (fs ++ gs) lines).found)
        → Begins fs (go_on_in T fs r (λ gs. run_in (step_of T bs).left (fs ++ gs) lines)).found
    go (not_accepted k) on = record { rest = []; is = sym (append-nil fs) }
    go (accepted gs) on = record { rest = gs ++ (on gs).rest; is = (on gs).is ∙ append_assoc fs gs (on gs).rest }

begins : (stop : Stop) (T : Tables) (fs : List Finding) (unread : List ℕ) → Begins fs (from_stop stop T fs unread).found
begins (Stop.Refused k) T fs unread = record { rest = []; is = sym (append-nil fs) }
begins Stop.Full T fs unread = begins_run (lines_of unread) T fs
begins Stop.More T fs unread = begins_run (lines_of unread) T fs
begins Stop.End T fs unread = record { rest = []; is = sym (append-nil fs) }

-- the bytes between others
between : {n : ℕ} (a b c : List ℕ) → length a ≡ n → take (length b) (drop n (a ++ (b ++ c))) ≡ b
between {n} a b c e = ap (take (length b)) (drop_at a (b ++ c) n e) ∙ take_at b c (length b) refl

-- of the findings fs, then gs, the bytes of gs come after those of fs
shown_between : {n : ℕ} (fs gs : List Finding) (r : Ran) (tail : List ℕ) → length (all_shown fs) ≡ n → Begins (fs ++ gs) r.found
    → take (length (all_shown gs)) (drop n (printed r ++ tail)) ≡ all_shown gs
unfolding printed
shown_between {n} fs gs r tail e b =
    let end = end_line (closed_in r.left.book) (lines_in r.left.book) r.refusal (length r.found) in
    let last = end ++ tail in
    let parts : all_shown r.found ≡ all_shown fs ++ (all_shown gs ++ all_shown b.rest) =
    ap all_shown (b.is ∙ append_assoc fs gs b.rest) ∙ all_shown_append fs (gs ++ b.rest) ∙ ap (λ (x : List ℕ). all_shown fs ++ x) (all_shown_append gs b.rest)
    in
    ap (λ (x : List ℕ). take (length (all_shown gs)) (drop n x)) (append_assoc (all_shown r.found) end tail)
    ∙ ap (λ (x : List ℕ). take (length (all_shown gs)) (drop n (x ++ last))) parts
    ∙ ap (λ (x : List ℕ). take (length (all_shown gs)) (drop n x))
    (append_assoc (all_shown fs) (all_shown gs ++ all_shown b.rest) last ∙ ap (λ (x : List ℕ). all_shown fs ++ x) (append_assoc (all_shown gs) (all_shown b.rest) last))
    ∙ between (all_shown fs) (all_shown gs) (all_shown b.rest ++ last) e

-- ---- the loop has passed a part of it

module _ {T S : Tables} {s : Streams} {n : ℕ} {unread out out' : List ℕ} {p : Passed} (j : Judged T s n unread) (k : Learnt s.ended T unread out p S out') where
  all_found : List Finding
  all_found = j.found ++ k.found

  counted : length all_found ≡ n + p.findings
  unfolding all_found
  counted = length-append j.found k.found ∙ (λ i. j.count i + sym k.findings i)

  shown_so_far : length (all_shown all_found) ≡ s.printed + p.put
  unfolding all_found
  shown_so_far = ap length (all_shown_append j.found k.found) ∙ length-append (all_shown j.found) (all_shown k.found) ∙ (λ i. j.printed i + sym k.bytes i)

  run_on : (next : List ℕ) → Behind s.ended next
      → run_in (start_of lent) [] (lines_of (j.input ++ next)) ≡ from_stop p.stop S all_found (drop p.taken unread ++ next)
  unfolding all_found
  run_on next behind = j.same next behind ∙ k.passes.same j.found next behind

  -- what it has put comes next
  pub due : Due s (take p.put out')
  unfolding all_found Due
  due =
      record {
        input = j.input;
        read = j.read;
        says = λ next behind.
            let tail = leaks_shown s.leaks (run program_room [] (lines_of (j.input ++ next))).accepted in
            subst (λ (b : List ℕ). take (length b) (drop s.printed (output s.leaks (j.input ++ next))) ≡ b) (sym k.front)
            (ap (λ (b : List ℕ). take (length (all_shown k.found)) (drop s.printed b)) (output_is s.leaks (j.input ++ next) ∙ ap (λ (r : Ran). printed r ++ tail) (run_on next behind))
            ∙ shown_between j.found k.found (from_stop p.stop S all_found (drop p.taken unread ++ next)) tail j.printed
            (begins p.stop S all_found (drop p.taken unread ++ next)));
      }

  goes_on : (stop : Stop) → p.stop ≡ stop → ((fs : List Finding) (b : List ℕ) → from_stop stop S fs b ≡ run_in S fs (lines_of b))
      → Judged S (with_printed s p.put true) (n + p.findings) (drop p.taken unread)
  goes_on stop q on =
      record {
        input = j.input;
        found = all_found;
        read = j.read;
        count = counted;
        printed = shown_so_far;
        same = λ next behind.
            run_on next behind ∙ ap (λ (x : Stop). from_stop x S all_found (drop p.taken unread ++ next)) q ∙ on all_found (drop p.taken unread ++ next);
      }

  ends : (refusal : ℕ) (stop : Stop) → p.stop ≡ stop → ((fs : List Finding) (b : List ℕ) → from_stop stop S fs b ≡ ran S fs refusal)
      → AllJudged S (with_printed s p.put true) (n + p.findings) refusal
  ends refusal stop q on =
      record {
        input = j.input;
        found = all_found;
        read = j.read;
        count = counted;
        printed = shown_so_far;
        same = λ next behind.
            run_on next behind ∙ ap (λ (x : Stop). from_stop x S all_found (drop p.taken unread ++ next)) q ∙ on all_found (drop p.taken unread ++ next);
      }

  pub judged_full : p.stop ≡ Stop.Full → Judged S (with_printed s p.put true) (n + p.findings) (drop p.taken unread)
  judged_full q = goes_on Stop.Full q (λ fs b. refl)

  pub judged_wants : p.stop ≡ Stop.More → Judged S (with_printed s p.put true) (n + p.findings) (drop p.taken unread)
  judged_wants q = goes_on Stop.More q (λ fs b. refl)

  pub judged_refused : (refusal : Refusal) → p.stop ≡ Stop.Refused refusal → AllJudged S (with_printed s p.put true) (n + p.findings) (number_of refusal)
  judged_refused refusal q = ends (number_of refusal) (Stop.Refused refusal) q (λ fs b. refl)

  pub judged_end : p.stop ≡ Stop.End → AllJudged S (with_printed s p.put true) (n + p.findings) 0
  judged_end q = ends 0 Stop.End q (λ fs b. refl)

-- ---- the last line comes next, and then the leaks

module _ {T : Tables} {s : Streams} {n refusal : ℕ} (a : AllJudged T s n refusal) where
  line : List ℕ
  line = end_line (closed_in T.book) (lines_in T.book) refusal n

  tail : List ℕ → List ℕ
  tail next = leaks_shown s.leaks (run program_room [] (lines_of (a.input ++ next))).accepted

  in_parts : (next : List ℕ) → Behind s.ended next → output s.leaks (a.input ++ next) ≡ all_shown a.found ++ (line ++ tail next)
  unfolding printed line tail
  in_parts next behind =
      output_is s.leaks (a.input ++ next)
      ∙ ap (λ (r : Ran). printed r ++ tail next) (a.same next behind)
      ∙ ap (λ (k : ℕ). (all_shown a.found ++ end_line (closed_in T.book) (lines_in T.book) refusal k) ++ tail next) a.count
      ∙ append_assoc (all_shown a.found) line (tail next)

  pub last_due : Due s (end_line (closed_in T.book) (lines_in T.book) refusal n)
  unfolding Due line
  last_due =
      record {
        input = a.input;
        read = a.read;
        says = λ next behind.
            ap (λ (b : List ℕ). take (length line) (drop s.printed b)) (in_parts next behind) ∙ between (all_shown a.found) line (tail next) a.printed;
      }

  listed_as : (next : List ℕ) → Behind s.ended next → (ns : List ℕ) → length ns ≡ most_leaks * leak_numbers → Has (listing_of s.leaks T ns) (tail next)
  unfolding tail
  listed_as next behind ns size =
      let k = tied_lent (a.input ++ next) in
      let same : (run_in (start_of lent) [] (lines_of (a.input ++ next))).left ≡ T = ap (λ (r : Ran). r.left) (a.same next behind) in
      listed s.leaks T (run program_room [] (lines_of (a.input ++ next))).accepted
      (subst (λ (X : Tables). AllTied program_room X (run program_room [] (lines_of (a.input ++ next))).accepted) same k.tied) k.accepts ns size

  -- the last line is printed, and the leaks are what is left
  pub leaks_left : {q : Streams} → HasPrinted s (length (end_line (closed_in T.book) (lines_in T.book) refusal n)) q → Few q most_leaked → LeaksLeft q T
  unfolding LeaksLeft Left line
  leaks_left {q} p few =
      subst (λ (x : Streams). LeaksLeft x T) (sym p.after)
      (λ ns size _.
      let some = (listed_as [] (λ _. refl) ns size).few in
      record {
        within = omega (arith, some);
        few = record {
          read = omega (arith, few.read, ap (λ (x : Streams). x.read) p.after);
          printed = omega (arith, few.printed, ap (λ (x : Streams). x.printed) p.after, some);
        };
        left = record {
          input = a.input;
          read = a.read;
          says = λ next behind.
              let past_line : length (all_shown a.found ++ line) ≡ s.printed + length line =
              length-append (all_shown a.found) line ∙ ap (λ (k : ℕ). k + length line) a.printed
              in
              let whole : output s.leaks (a.input ++ next) ≡ (all_shown a.found ++ line) ++ tail next =
              in_parts next behind ∙ sym (append_assoc (all_shown a.found) line (tail next))
              in (
                ap (drop (s.printed + length line)) whole ∙ drop_at (all_shown a.found ++ line) (tail next) (s.printed + length line) past_line
                    ∙ sym (listed_as next behind ns size).shown,
                omega (arith, ap length whole ∙ length-append (all_shown a.found ++ line) (tail next), past_line),
              );
        };
      })
