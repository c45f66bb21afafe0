-- One step over tied tables is the history's reply, and leaves tables tied to the history with the line, if it was accepted. Assumes nothing.
use Prim.Native.Nat.{ℕ, suc}
use mathlib.Core.Path.{◌≡◌, refl, sym, subst}
use mathlib.Core.Bool.{Bool, true, false}
use mathlib.Core.List.{List, [], ◌∷◌}
use lib.Dec.{eqb, leb}
use lib.ListN.{length}
use Rattle.words.specs.Choice.{if_true◌then◌else◌}
use Rattle.lines.specs.Line.{Line}
use Rattle.lines.specs.Reading.{Read, says, refused, read}
use Rattle.lines.proofs.RoundTrip.{read_allowed}
use Rattle.history.specs.Past.{History, thread_of}
use Rattle.history.specs.Items.{items, top_of, asked}
use Rattle.history.specs.Seen.{seen}
use Rattle.history.specs.Acceptance.{Room, refusal}
use Rattle.history.specs.Findings.{of_line}
use Rattle.history.specs.Replies.{accepted, not_accepted, most_lines, weighed, verdict, with_line, heard}
use Rattle.history.specs.Accepted.{Accepted, and_line}
use Rattle.history.specs.Verdicts.{Weighs, takes}
use Rattle.history.proofs.Replies.{verdict_is, heard_accepted}
use Rattle.history.proofs.Refusals.{refusal_is}
use Rattle.book.specs.Threads.{items_in}
use Rattle.tables.specs.Tables.{Tables}
use Rattle.tables.specs.Acting.{acted}
use Rattle.tables.specs.Stepping.{Stepped, stepped, untouched, with_items, follow, on_line, on_read, step_of, start_of}
use Rattle.demands.specs.Tied.{AllTied}
use Rattle.demands.specs.Calls.{room_of, Long, after}
use Rattle.demands.proofs.Weighed.{weighed_tied}
use Rattle.demands.proofs.Next.{next, items_untouched, next_items, rest_untouched}
use Rattle.demands.proofs.Started.{started, items_started, fit}

-- the tables with one accepted line more
abbrev pub with_line_in : Line → History → Tables → Tables
with_line_in e past T = with_items e (acted (suc (length past)) e (asked (top_of (items (thread_of e) past))) T)

-- what the history says of the line, done to the tables
abbrev pub answered : History → Read → Tables → Stepped
answered past (refused k) T = untouched k T
answered past (says e) T = stepped (accepted (of_line (suc (length past)) e (seen past))) (with_line_in e past T)

-- ---- an accepted line

pub line_accepted : (room : Room) (past : History) (bs : List ℕ) (e : Line) → Accepted room past → verdict room past bs ≡ says e → Accepted room (e ∷ past)
line_accepted room past bs e so_far is = go e ((verdict_is room past bs so_far (says e)).0 is)
  where
    go : (e : Line) → Weighs room past bs (says e) → Accepted room (e ∷ past)
    go _ (takes e few says_it given) = and_line e past few (read_allowed bs e says_it) ((refusal_is room e past so_far 0).1 given) so_far

-- ---- the tie, items and all

pub all_next : (room : Room) (T : Tables) (e : Line) (past : History) → AllTied room T past → Accepted room (e ∷ past) → AllTied room (with_line_in e past T) (e ∷ past)
all_next room T e past k accepts =
    let S = acted (suc (length past)) e (asked (top_of (items (thread_of e) past))) T in
    let tied = next room T e past k.tables accepts in
    let same = items_untouched room T e past k.tables k.opened accepts in
    record {
      tables = rest_untouched room S e past tied same accepts;
      opened = next_items room S.book e past tied.long same accepts;
    }

-- ---- one step

module _ (room : Room) (T : Tables) (past : History) (k : AllTied room T past) (so_far : Accepted room past) where
  on_line_is : (e : Line) → on_line e (items_in T.book (thread_of e)) T ≡ answered past (weighed room past (says e)) T
  on_line_is e =
      rw (k.tables.lines, k.opened.open_items (thread_of e), weighed_tied room T past k.tables so_far e (suc (length past)))
      (go (eqb (refusal room e past) 0))
    where
      go : (q : Bool) → follow (suc (length past)) e (asked (top_of (items (thread_of e) past))) (if_true q then accepted (of_line (suc (length past)) e (seen past)) else not_accepted (refusal room e past)) T
          ≡ answered past (if_true q then says e else refused (refusal room e past)) T
      go true = refl
      go false = refl

  on_read_is : (r : Read) → on_read r T ≡ answered past (weighed room past r) T
  on_read_is (refused j) = refl
  on_read_is (says e) = on_line_is e

  -- a step does what the history says
  pub step_is : (bs : List ℕ) → step_of T bs ≡ answered past (verdict room past bs) T
  unfolding step_of verdict
  step_is bs = rw (fit room T past k.tables k.opened so_far, k.tables.lines) (go (leb most_lines (length past)))
    where
      go : (q : Bool) → (if_true q then untouched 1 T else on_read (read bs) T) ≡ answered past (if_true q then refused 1 else weighed room past (read bs)) T
      go true = refl
      go false = on_read_is (read bs)

  pub step_tied : (bs : List ℕ) → AllTied room (step_of T bs).left (with_line past (verdict room past bs))
  step_tied bs = subst (λ (s : Stepped). AllTied room s.left (with_line past (verdict room past bs))) (sym (step_is bs)) (go (verdict room past bs) refl)
    where
      go : (v : Read) → verdict room past bs ≡ v → AllTied room (answered past v T).left (with_line past v)
      go (refused j) is = k
      go (says e) is = all_next room T e past k (line_accepted room past bs e so_far is)

-- after a start and any calls, refused ones among them, the tables are tied to the lines heard
pub follows : (T : Tables) → Long T → (calls : List (List ℕ)) → AllTied (room_of T) (after (start_of T) calls) (heard (room_of T) calls)
unfolding after heard
follows T long [] = record { tables = started T long; opened = items_started T }
follows T long (bs ∷ before) =
    step_tied (room_of T) (after (start_of T) before) (heard (room_of T) before) (follows T long before) (heard_accepted (room_of T) before) bs
