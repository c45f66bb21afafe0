-- The step is done once its line is heard. Assumes nothing.
use Prim.Native.Nat.{ℕ}
use mathlib.Core.Path.{◌≡◌, sym, ap, ◌∙◌}
use mathlib.Core.Bool.{Bool, true, false, true≢false}
use mathlib.Core.List.{List}
use Rattle.std.specs.Prelude.{Result, Ok, Err, ⊤}
use lib.Dec.{leb}
use Rattle.lines.specs.Reading.{Read, says, refused, read}
use Rattle.lines.specs.Events.{event_of, slots_of}
use Rattle.lines.specs.Numbered.{passes}
use Rattle.lines.specs.declared.refusal.Refusal.{Refusal}
use Rattle.lines.specs.declared.Event.{Event}
use Rattle.history.specs.Replies.{most_lines}
use Rattle.book.specs.Threads.{lines_in}
use Rattle.answers.specs.Answer.{Answer, refused_with}
use Rattle.tables.specs.Tables.{Tables, tables}
use Rattle.tables.specs.declared.Lent.{Lent}
use Rattle.tables.specs.Lent.{tables_of}
use Rattle.tables.specs.Stepping.{on_read, unfit_tables, step_of}
use Rattle.events.specs.Outcome.{Outcome, leaves, outcome}
use Rattle.events.specs.Heard.{said_outcome}
use Rattle.judge.specs.Outcome.{step_outcome, by_tables}
use Rattle.events.proofs.Outcomes.{passed}
use Rattle.judge.proofs.Reading.{read_is}
use Rattle.judge.proofs.ByTables.{neither_told}

-- ---- the step

module _ (T : Tables) (bs : List ℕ) (said : Result ⊤ Refusal) {u : ⊤} (ek : said ≡ passes (by_tables T)) (z : said ≡ Ok u) where
  by_what_was_read : (o : Outcome) → o ≡ outcome (on_read (read bs) T) → o ≡ step_outcome T bs
  unfolding step_outcome step_of by_tables
  by_what_was_read o p =
      let h = neither_told (unfit_tables T) (leb most_lines (lines_in T.book)) (passed (by_tables T) ek z) in
      rw (h.0, h.1) p

  -- no event was read
  pub step_unread : (x : Answer) (k : Refusal) → Err k ≡ event_of (read bs) → x ≡ Err k → leaves x T ≡ step_outcome T bs
  step_unread x k e w = by_what_was_read (leaves x T) (ap (λ (a : Answer). leaves a T) w ∙ go (read bs) e)
    where
      go : (r : Read) → Err k ≡ event_of r → leaves (Err k) T ≡ outcome (on_read r T)
      go (refused j) h = ap (λ (a : Answer). leaves a T) (of_refusal h)
        where
          as_answer : Result Event Refusal → Answer
          as_answer (Ok v) = Err k
          as_answer (Err r) = Err r

          of_refusal : Err k ≡ event_of (refused j) → Err k ≡ refused_with j
          of_refusal q = ap as_answer q
      go (says e) h = absurd (true≢false (ap is_event (sym h)))
        where
          is_event : Result Event Refusal → Bool
          is_event (Ok v) = true
          is_event (Err r) = false

  -- an event was
  pub step_said : (ev : Event) (hs : List ℕ) → Ok ev ≡ event_of (read bs) → hs ≡ slots_of (read bs) → (o : Outcome) → o ≡ said_outcome ev hs T → o ≡ step_outcome T bs
  unfolding said_outcome
  step_said ev hs er es o p = by_what_was_read o (p ∙ sym (ap (λ (x : Read). outcome (on_read x T)) (read_is bs ev hs er es)))

-- what the lent tables are left as is what is left in the slices that were lent
pub left_in : {y : Answer} {rs ms ps ns b cs : List ℕ} {o : Outcome} (l : Lent) → rs ≡ l.rows.now → ms ≡ l.marks.now → ps ≡ l.pins.now → ns ≡ l.pinmarks.now → b ≡ l.book.now → cs ≡ l.classes.now
    → leaves y (tables_of l) ≡ o → leaves y (tables rs ms ps ns b cs) ≡ o
left_in {y} l r m p n b c q = (λ i. leaves y (tables (r i) (m i) (p i) (n i) (b i) (c i))) ∙ q
