-- What book and classes alone tell: 8, then line 1,000,001; and a start. Assumes nothing.
use Prim.Native.Nat.{ℕ, ◌<◌, ◌≤◌}
use mathlib.Core.Path.{◌≡◌, refl, sym, ap, ap₂, ◌∙◌}
use mathlib.Core.Bool.{Bool, true, false, ◌||◌}
use mathlib.Core.List.{List, []}
use native.Mathlib.Omega.{arith}
use borrow.Author.Tests.{le-leb, lt-leb, leb-false}
use lib.Dec.{leb}
use Rattle.std.specs.Prelude.{Result, Ok, Err, ⊤}
use Rattle.words.specs.Choice.{if_true◌then◌else◌}
use Rattle.lines.specs.Reading.{read}
use Rattle.lines.specs.Numbered.{passes}
use Rattle.lines.specs.declared.refusal.Refusal.{Refusal}
use Rattle.history.specs.Replies.{most_lines}
use Rattle.classes.specs.Supers.{is_short, classes_cleared}
use Rattle.book.specs.Threads.{lines_in}
use Rattle.book.specs.Moves.{cleared as book_cleared}
use Rattle.book.specs.Unfit.{unfit}
use Rattle.rows.specs.Table.{table, cleared as rows_cleared}
use Rattle.answers.specs.Answer.{Answer, refused_with}
use Rattle.tables.specs.Tables.{Tables, tables}
use Rattle.tables.specs.Stepping.{on_read, untouched, unfit_tables, step_of, start_of}
use Rattle.events.specs.Outcome.{leaves, outcome}
use Rattle.events.proofs.Outcomes.{stopped, passed}
use Rattle.judge.specs.Outcome.{step_outcome, by_tables}

module _ (T : Tables) (k : ℕ) (u s : Bool) (fit : u ≡ unfit T.book) (whole : s ≡ is_short T.classes) where
  told : (b : Bool) → (u || s) ≡ b → unfit_tables T ≡ b
  told b h = sym (ap₂ ◌||◌ fit whole) ∙ h

  pub unfit_told : (u || s) ≡ true → k ≡ 8 → k ≡ by_tables T
  unfolding by_tables
  unfit_told h q = rw (told true h) q

  module _ (n : ℕ) (lines : n ≡ lines_in T.book) (h : (u || s) ≡ false) where
    pub full_told : most_lines ≤ n → k ≡ 1 → k ≡ by_tables T
    unfolding by_tables
    full_told l q = rw (told false h, le-leb most_lines (lines_in T.book) (omega (arith, lines))) q

    pub fit_told : n < most_lines → k ≡ 0 → k ≡ by_tables T
    unfolding by_tables
    fit_told l q = rw (told false h, lt-leb most_lines (lines_in T.book) (omega (arith, lines, l))) q

pub neither_told : (a b : Bool) → ◌≡◌ {A = ℕ} (if_true a then 8 else if_true b then 1 else 0) 0 → (a ≡ false) × (b ≡ false)
neither_told true b h = absurd (omega (arith, h))
neither_told false true h = absurd (omega (arith, h))
neither_told false false h = (refl, refl)

pub fewer_lines : (b cs : List ℕ) (said : Result ⊤ Refusal) {u : ⊤} → said ≡ passes (by_tables (tables [] [] [] [] b cs)) → said ≡ Ok u → lines_in b < most_lines
unfolding by_tables
fewer_lines b cs said e z =
    leb-false most_lines (lines_in b) (neither_told (unfit_tables (tables [] [] [] [] b cs)) (leb most_lines (lines_in b)) (passed (by_tables (tables [] [] [] [] b cs)) e z)).1

module _ (T : Tables) (bs : List ℕ) where
  by_number : (k : ℕ) (a : Answer) → k ≡ by_tables T → (k ≡ 0 → ⊥) → a ≡ refused_with k → leaves a T ≡ step_outcome T bs
  unfolding by_tables step_outcome step_of
  by_number k a e z q = go (unfit_tables T) (leb most_lines (lines_in T.book)) e
    where
      go : (u o : Bool) → k ≡ (if_true u then 8 else if_true o then 1 else 0)
          → leaves a T ≡ outcome (if_true u then untouched 8 T else if_true o then untouched 1 T else on_read (read bs) T)
      go true o e = ap (λ (x : Answer). leaves x T) (q ∙ ap refused_with e)
      go false true e = ap (λ (x : Answer). leaves x T) (q ∙ ap refused_with e)
      go false false e = absurd (z e)

  pub by_its_tables : (said : Result ⊤ Refusal) (y : Answer) (k : Refusal) → said ≡ passes (by_tables T) → said ≡ Err k → y ≡ Err k → leaves y T ≡ step_outcome T bs
  by_its_tables said y k e h w = let q = stopped (by_tables T) e h in by_number (by_tables T) y refl q.0 (w ∙ sym q.1)

-- ---- a start

pub all_cleared : (rs ms ps ns b cs rs' ms' ps' ns' b' cs' : List ℕ) → table rs' ms' ≡ rows_cleared (table rs ms) → table ps' ns' ≡ rows_cleared (table ps ns) → b' ≡ book_cleared b
    → cs' ≡ classes_cleared cs → tables rs' ms' ps' ns' b' cs' ≡ start_of (tables rs ms ps ns b cs)
unfolding start_of
all_cleared rs ms ps ns b cs rs' ms' ps' ns' b' cs' r p e c = λ i. record { references = r i; pins = p i; book = e i; classes = c i }
