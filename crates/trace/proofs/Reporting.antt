-- The report of a whole trace, measured and then printed. Assumes nothing.
use Prim.Native.Nat.{ℕ, ◌+◌, ◌≤◌, ◌<◌}
use mathlib.Core.Path.{◌≡◌, refl, sym, ap, subst, ◌∙◌}
use mathlib.Core.Bool.{true}
use Rattle.std.specs.Prelude.{Ok, Err}
use mathlib.Core.List.{List, ◌++◌}
use native.Mathlib.Omega.{arith}
use borrow.Author.Tests.{lt-ltb, le-ltb, le-leb, lt-leb}
use lib.ListN.{length, length-append}
use Rattle.numbers.specs.Writing.{put}
use Rattle.lines.specs.Line.{classes}
use Rattle.history.specs.Report.{end_line, report}
use Rattle.classes.specs.Supers.{is_short}
use Rattle.book.specs.Layout.{whole}
use Rattle.book.specs.Threads.{lines_in, closed_in}
use Rattle.tables.specs.Tables.{Tables}
use Rattle.tables.specs.Stepping.{start_of}
use Rattle.demands.specs.Calls.{room_of, Long, Alike, Ran, ran, printed, report_in}
use Rattle.demands.proofs.Foreign.{start_is}
use Rattle.demands.proofs.Runs.{reports_are}
use Rattle.run.specs.declared.Stop.{Stop}
use Rattle.run.specs.Following.{Follows}
use Rattle.run.specs.Running.{all_shown}
use Rattle.run.proofs.Following.{start_follows}
use Rattle.trace.specs.declared.Run.{Run}
use Rattle.trace.specs.declared.Unreported.TheVariants as Unreported
use Rattle.trace.specs.Whole.{run_over, run_of, leaves, whole_outcome}
use Rattle.trace.specs.Running.{put_fitting, number_in, Measured}
use Rattle.trace.proofs.Going.{Ended}
use Rattle.trace.proofs.Putting.{put_behind}

-- a slice as long as another is long enough where that is
pub as_long : {m n k : ℕ} → m ≡ n → k ≤ n → k ≤ m
as_long same enough = omega (arith, same, enough)

pub started : (T : Tables) {S : Tables} → Long T → S ≡ start_of T → Follows S 0
started T {S} enough e = subst (λ (X : Tables). Follows X 0) (sym e) (start_follows T enough)

-- ---- the end of the run, and the last line

module _ (T : Tables) {S0 S : Tables} {trace out out1 : List ℕ} {r : Run} {stop : Stop} (e : S0 ≡ start_of T) (g : Ended S0 trace out r stop S out1) where
  abbrev its_last : List ℕ
  its_last = end_line (closed_in S.book) (lines_in S.book) (number_in stop) r.findings

  run_is : run_of T trace ≡ ran S g.found (number_in stop)
  run_is = ap (λ (X : Tables). run_over X trace) (sym e) ∙ g.ends

  both_are : all_shown g.found ++ its_last ≡ report_in T trace
  unfolding report_in run_over printed
  both_are =
      ap (λ (n : ℕ). all_shown g.found ++ end_line (closed_in S.book) (lines_in S.book) (number_in stop) n) g.far.findings
      ∙ ap printed (sym run_is)

  pub measured : {w : ℕ} {out' : List ℕ} → (w ≡ r.bytes + length its_last) × (out' ≡ put_fitting out1 r.bytes its_last) → Measured T trace out w S out'
  measured {w} {out'} last =
      let long : w ≡ length (report_in T trace) =
      last.0 ∙ ap (λ (n : ℕ). n + length its_last) g.far.bytes ∙ sym (length-append (all_shown g.found) its_last) ∙ ap length both_are
      in
      record {
        long = long;
        left = sym (ap (λ (x : Ran). x.left) run_is);
        shown = λ room.
            put_behind out out1 out' (all_shown g.found) its_last r.bytes g.far.as_long g.far.bytes g.far.shown last.1 (omega (arith, room, long, ap length both_are))
            ∙ ap (put out 0) both_are;
      }

-- ---- the outcome

module _ (T : Tables) (trace out : List ℕ) where
  pub book_short : length T.book < whole → leaves (Err Unreported.ShortTables) T out ≡ whole_outcome T trace out
  unfolding whole_outcome
  book_short h = rw (lt-ltb (length T.book) whole h) refl

  pub classes_short : whole ≤ length T.book → is_short T.classes ≡ true → leaves (Err Unreported.ShortTables) T out ≡ whole_outcome T trace out
  unfolding whole_outcome
  classes_short l h = rw (le-ltb (length T.book) whole l, h) refl

  -- the report was measured
  module _ (enough : Long T) {S : Tables} {w : ℕ} {unused unused' : List ℕ} (first : Measured T trace unused w S unused') where
    its_length : w ≡ length (report (room_of T) trace)
    its_length = first.long ∙ ap length (reports_are T enough trace)

    pub out_short : length out < w → leaves (Err (Unreported.Needs w)) S out ≡ whole_outcome T trace out
    unfolding whole_outcome
    out_short h =
        rw (le-ltb (length T.book) whole enough.0, le-ltb (length T.classes) classes enough.1, lt-leb (0 + length (report (room_of T) trace)) (length out) (omega (arith, h, its_length)))
        (λ i. leaves (Err (Unreported.Needs (its_length i))) (first.left i) out)

    -- a second run from a start is the first again
    pub whole_printed : {S' : Tables} {out' : List ℕ} {n : ℕ} → w ≤ length out → Alike S T → Measured S trace out n S' out' → leaves (Ok w) S' out' ≡ whole_outcome T trace out
    unfolding whole_outcome report_in run_over
    whole_printed {S'} {out'} {n} h alike second =
        let again : run_of S trace ≡ run_of T trace = ap (λ (X : Tables). run_over X trace) (start_is S T alike) in
        let its : report_in S trace ≡ report (room_of T) trace = ap printed again ∙ reports_are T enough trace in
        rw (le-ltb (length T.book) whole enough.0, le-ltb (length T.classes) classes enough.1, le-leb (0 + length (report (room_of T) trace)) (length out) (omega (arith, h, its_length)))
        (λ i.
        leaves (Ok (its_length i)) ((second.left ∙ ap (λ (x : Ran). x.left) again) i)
        ((second.shown (omega (arith, h, second.long, its_length, ap length its)) ∙ ap (put out 0) its) i))
