-- The run of a whole input over lent tables prints the history's report, and leaves tables that are tied to the lines accepted. Assumes nothing.
use Prim.Native.Nat.{ℕ, suc}
use mathlib.Core.Path.{◌≡◌, refl, sym, ap, ap₂, subst, ◌∙◌}
use mathlib.Core.Bool.{Bool}
use mathlib.Core.List.{List, [], ◌∷◌, ◌++◌}
use lib.ListN.{length}
use Rattle.words.specs.Lists.{joined}
use Rattle.lines.specs.Line.{Line}
use Rattle.lines.specs.Reading.{Read, says, refused}
use Rattle.history.specs.Past.{History}
use Rattle.history.specs.Seen.{seen}
use Rattle.history.specs.Acceptance.{Room}
use Rattle.history.specs.Findings.{of_line, findings}
use Rattle.history.specs.Replies.{verdict}
use Rattle.history.specs.Report.{ended, go_on, run, lines_of, shown_finding, end_line, shown_end, shown, report}
use Rattle.history.specs.Accepted.{Accepted, at_start}
use Rattle.history.specs.declared.Finding.{Finding}
use Rattle.tables.specs.Tables.{Tables}
use Rattle.tables.specs.Stepping.{Stepped, start_of}
use Rattle.demands.specs.Tied.{AllTied}
use Rattle.demands.specs.Calls.{room_of, Long, ran, go_on_in, run_in, printed, report_in}
use Rattle.demands.proofs.Started.{started, items_started}
use Rattle.demands.proofs.Stepped.{with_line_in, answered, line_accepted, all_next, step_is}

-- what is printed at the end, from the tables, is what is shown of the history
printed_end : (room : Room) (T : Tables) (past : History) (k : ℕ) → AllTied room T past → printed (ran T (findings past) k) ≡ shown (ended past k)
unfolding printed shown shown_end
printed_end room T past k tied =
    ap₂
    (λ (n : ℕ) (over : Bool). joined (findings past) shown_finding ++ end_line over n k (length (findings past)))
    tied.tables.lines
    tied.tables.end_mark

-- from tied tables on
run_is : (room : Room) (lines : List (List ℕ)) (T : Tables) (past : History) → AllTied room T past → Accepted room past
    → printed (run_in T (findings past) lines) ≡ shown (run room past lines)
unfolding run_in run findings
run_is room [] T past tied so_far = printed_end room T past 0 tied
run_is room (bs ∷ lines) T past tied so_far =
    ap (λ (s : Stepped). printed (go_on_in T (findings past) s.reply (λ gs. run_in s.left (findings past ++ gs) lines))) (step_is room T past tied so_far bs)
    ∙ go (verdict room past bs) refl (λ e is. run_is room lines (with_line_in e past T) (e ∷ past) (all_next room T e past tied is) is)
  where
    go : (v : Read) → verdict room past bs ≡ v
        → ((e : Line) → Accepted room (e ∷ past) → printed (run_in (with_line_in e past T) (findings past ++ of_line (suc (length past)) e (seen past)) lines) ≡ shown (run room (e ∷ past) lines))
        → printed (go_on_in T (findings past) (answered past v T).reply (λ gs. run_in (answered past v T).left (findings past ++ gs) lines))
        ≡ shown (go_on past v (λ e. run room (e ∷ past) lines))
    go (refused k) is ih = printed_end room T past k tied
    go (says e) is ih = ih e (line_accepted room past bs e so_far is)

pub reports_are : (T : Tables) → Long T → (input : List ℕ) → report_in T input ≡ report (room_of T) input
unfolding report_in report findings
reports_are T long input =
    run_is (room_of T) (lines_of input) (start_of T) [] (record { tables = started T long; opened = items_started T }) at_start

-- ---- what is left

pub record LeftTied (room : Room) (T : Tables) (past : History) : Type 0 where
  pub tied : AllTied room T past
  pub accepts : Accepted room past

run_leaves : (room : Room) (lines : List (List ℕ)) (T : Tables) (past : History) (fs : List Finding) → AllTied room T past → Accepted room past
    → LeftTied room (run_in T fs lines).left (run room past lines).accepted
unfolding run_in run
run_leaves room [] T past fs tied so_far = record { tied = tied; accepts = so_far }
run_leaves room (bs ∷ lines) T past fs tied so_far =
    subst (λ (s : Stepped). LeftTied room (go_on_in T fs s.reply (λ gs. run_in s.left (fs ++ gs) lines)).left (run room past (bs ∷ lines)).accepted)
    (sym (step_is room T past tied so_far bs))
    (go (verdict room past bs) refl (λ e is. run_leaves room lines (with_line_in e past T) (e ∷ past) (fs ++ of_line (suc (length past)) e (seen past)) (all_next room T e past tied is) is))
  where
    go : (v : Read) → verdict room past bs ≡ v
        → ((e : Line) → Accepted room (e ∷ past)
        → LeftTied room (run_in (with_line_in e past T) (fs ++ of_line (suc (length past)) e (seen past)) lines).left (run room (e ∷ past) lines).accepted)
        → LeftTied room (go_on_in T fs (answered past v T).reply (λ gs. run_in (answered past v T).left (fs ++ gs) lines)).left
        (go_on past v (λ e. run room (e ∷ past) lines)).accepted
    go (refused k) is ih = record { tied = tied; accepts = so_far }
    go (says e) is ih = ih e (line_accepted room past bs e so_far is)

pub left_tied : (T : Tables) → Long T → (input : List ℕ)
    → LeftTied (room_of T) (run_in (start_of T) [] (lines_of input)).left (run (room_of T) [] (lines_of input)).accepted
left_tied T long input =
    run_leaves (room_of T) (lines_of input) (start_of T) [] [] (record { tables = started T long; opened = items_started T }) at_start
