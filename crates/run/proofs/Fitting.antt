-- Refusal 8 and line 1,000,001 by one thread: after an accepted line only the line's own thread is to be looked at again. Assumes nothing.
use Prim.Native.Nat.{ℕ, zero, suc, ◌≤◌, ◌<◌}
use mathlib.Core.Path.{◌≡◌, refl, sym, ap, subst, ◌∙◌}
use mathlib.Core.Bool.{Bool, true, false, ◌&&◌, or-false}
use mathlib.Core.List.{List}
use Rattle.std.specs.Prelude.{Result, Ok, Err, ⊤}
use native.Mathlib.Omega.{arith}
use borrow.Author.Tests.{leb-false, le-leb, lt-leb}
use lib.Dec.{leb, ltb}
use lib.ListN.{length, take}
use Rattle.words.specs.Choice.{if_true◌then◌else◌}
use Rattle.lines.specs.Line.{Line, N, X, C, R, A, D, Z, K, O, M, states, is_thread}
use Rattle.lines.specs.Reading.{Read, says, read}
use Rattle.lines.specs.Events.{result_in_line, event_of, slots_of}
use Rattle.lines.specs.Numbered.{refusal_of, passes}
use Rattle.lines.specs.declared.refusal.Refusal.{Refusal}
use Rattle.lines.specs.declared.Event.{Event}
use Rattle.history.specs.Past.{thread_of}
use Rattle.history.specs.Items.{top_of, asked}
use Rattle.history.specs.Replies.{Reply, accepted, not_accepted, most_lines}
use Rattle.classes.specs.Supers.{all_classes, is_short}
use Rattle.book.specs.Threads.{items_in, lines_in}
use Rattle.book.specs.Unfit.{overdone_in, unfit}
use Rattle.book.proofs.AllThreads.{or_left, or_right}
use Rattle.book.proofs.Fitness.{fit_long, fit_lines, fit_threads, unfit_but}
use Rattle.book.proofs.Elsewhere.{as_fit_elsewhere}
use Rattle.answers.specs.Answer.{Answer}
use Rattle.tables.specs.Tables.{Tables}
use Rattle.tables.specs.Weighing.{weighed_in}
use Rattle.tables.specs.Acting.{acted}
use Rattle.tables.specs.Stepping.{follow, next_line, on_read, unfit_tables, step_of}
use Rattle.demands.proofs.Next.{same_length}
use Rattle.events.specs.Outcome.{Outcome, leaves}
use Rattle.events.specs.Event.{read_as, thread_named}
use Rattle.judge.specs.Outcome.{step_outcome, by_tables}
use Rattle.events.proofs.Outcomes.{passed}
use Rattle.judge.proofs.Reading.{read_is}
use Rattle.judge.proofs.ByTables.{neither_told}
use Rattle.run.specs.Fit.{FitBut}
use Rattle.run.proofs.Touching.{line_touches, one_line_more}

-- ---- the whole test was made

fit_so : (T : Tables) (t : ℕ) → unfit_tables T ≡ false → FitBut T t
fit_so T t h =
    let fit : unfit T.book ≡ false = or_left (unfit T.book) (is_short T.classes) h in
    record {
      long = fit_long T.book fit;
      lines = fit_lines T.book fit;
      others = λ s x y n. fit_threads T.book s fit x y;
      classes = or_right (unfit T.book) (is_short T.classes) h;
    }

pub fit_start : (T : Tables) (t : ℕ) → by_tables T ≡ 0 → FitBut T t
unfolding by_tables
fit_start T t z = fit_so T t (neither_told (unfit_tables T) (leb most_lines (lines_in T.book)) z).0

-- ---- the test of one thread

pub fit_refusal : (T : Tables) (t : ℕ) → FitBut T t
    → by_tables T ≡ (if_true is_thread t && overdone_in T.book t then 8 else if_true leb most_lines (lines_in T.book) then 1 else 0)
unfolding by_tables
fit_refusal T t f = rw (unfit_but T.book t f.long f.lines f.others, f.classes, or-false (is_thread t && overdone_in T.book t))

module _ (T : Tables) (t k : ℕ) (o : Bool) (f : FitBut T t) (eo : o ≡ overdone_in T.book t) where
  by_one : (q : Bool) → (is_thread t && o) ≡ q → by_tables T ≡ (if_true q then 8 else if_true leb most_lines (lines_in T.book) then 1 else 0)
  by_one q h = fit_refusal T t f ∙ rw (← eo, h)

  pub overdone_told : (is_thread t && o) ≡ true → k ≡ 8 → k ≡ by_tables T
  overdone_told h q = q ∙ sym (by_one true h)

  module _ (n : ℕ) (en : n ≡ lines_in T.book) (h : (is_thread t && o) ≡ false) where
    pub full_told : most_lines ≤ n → k ≡ 1 → k ≡ by_tables T
    full_told l q = q ∙ sym (by_one false h ∙ rw (le-leb most_lines (lines_in T.book) (omega (arith, en, l))))

    pub fit_told : n < most_lines → k ≡ 0 → k ≡ by_tables T
    fit_told l q = q ∙ sym (by_one false h ∙ rw (lt-leb most_lines (lines_in T.book) (omega (arith, en, l))))

-- ---- a line since

module _ (T : Tables) (fit : unfit_tables T ≡ false) (few : lines_in T.book < most_lines) where
  fit_acted : (line : ℕ) (e : Line) (n : ℕ) (r : Reply) → FitBut (follow line e n r T).left (thread_of e)
  fit_acted line e n (not_accepted k) = fit_so T (thread_of e) fit
  fit_acted line e n (accepted fs) =
      let f = fit_so T (thread_of e) fit in
      let x = line_touches n T line e in
      record {
        long = omega (arith, x.as_long, f.long);
        lines = omega (arith, one_line_more n T line e, few);
        others = λ s a b o. as_fit_elsewhere x s a o ∙ f.others s a b o;
        classes = unfold acted in ap (λ (m : ℕ). ltb m all_classes) (same_length e T.classes) ∙ f.classes;
      }

  fit_line : (e : Line) → FitBut (on_read (says e) T).left (thread_of e)
  fit_line e =
      let is = items_in T.book (thread_of e) in
      fit_acted (next_line T) e (asked (top_of is)) (weighed_in (next_line T) e (top_of is) (length is) T)

  fit_event : (ev : Event) (hs : List ℕ) → FitBut (on_read (read_as ev hs) T).left (thread_named ev)
  fit_event (Event.Enter t env n) hs = fit_line (N t env (take n hs))
  fit_event (Event.Leave t r) hs = fit_line (X t r)
  fit_event (Event.Call t env f a b c n) hs = fit_line (C t env f a b c n)
  fit_event (Event.Return t f h s p) hs = fit_line (R t f (result_in_line f h s) p)
  fit_event (Event.Attach t env) hs = fit_line (A t env)
  fit_event (Event.Detach t) hs = fit_line (D t)
  fit_event (Event.Declare c s) hs = fit_line (states (K c s))
  fit_event (Event.State t h c) hs = fit_line (states (O t h c))
  fit_event (Event.Identify x sort c static final) hs = fit_line (states (M x sort c static final))
  fit_event Event.End hs = fit_line Z

module _ (T : Tables) (bs : List ℕ) (ev : Event) (hs : List ℕ) where
  -- a refused line leaves the tables; one that is accepted touches the thread that it names
  pub fit_step : read_as ev hs ≡ read bs → by_tables T ≡ 0 → FitBut (step_of T bs).left (thread_named ev)
  unfolding by_tables step_of
  fit_step r z =
      let h = neither_told (unfit_tables T) (leb most_lines (lines_in T.book)) z in
      rw (h.0, h.1) (subst (λ (x : Read). FitBut (on_read x T).left (thread_named ev)) r (fit_event T h.0 (leb-false most_lines (lines_in T.book) h.1) ev hs))

  -- as the code has it: the step's answer `a` and the tables S that it left
  pub fit_left : (S : Tables) (a : Answer) (t : ℕ) → by_tables T ≡ 0 → Ok ev ≡ event_of (read bs) → hs ≡ slots_of (read bs) → t ≡ thread_named ev
      → leaves a S ≡ step_outcome T bs → FitBut S t
  unfolding step_outcome
  fit_left S a t z er es et q =
      subst (λ (s : ℕ). FitBut S s) (sym et)
      (subst (λ (X : Tables). FitBut X (thread_named ev)) (sym (ap (λ (o : Outcome). o.left) q)) (fit_step (sym (read_is bs ev hs er es)) z))

-- ---- where the tables do not refuse the next line

pub few_lines : (T : Tables) (said : Result ⊤ Refusal) {u : ⊤} → said ≡ passes (by_tables T) → said ≡ Ok u → lines_in T.book < most_lines
unfolding by_tables
few_lines T said e z =
    leb-false most_lines (lines_in T.book) (neither_told (unfit_tables T) (leb most_lines (lines_in T.book)) (passed (by_tables T) e z)).1

pub not_refused : (k : ℕ) {said : Result ⊤ Refusal} → said ≡ passes k → ((x : Refusal) → said ≡ Err x → ⊥) → k ≡ 0
not_refused zero e n = refl
not_refused (suc k) e n = absurd (n (refusal_of (suc k)) e)
