-- Replies: which number a lent line is given, that a refused line changes nothing, and what a whole run is by its replies. Assumes nothing.
use Prim.Native.Nat.{ℕ, suc, ◌≤◌, ◌<◌}
use mathlib.Core.Path.{◌≡◌, refl, sym, ap, ◌∙◌, subst}
use mathlib.Core.Logic.{◌↔◌, ◌≢◌}
use mathlib.Core.Bool.{Bool, true, false}
use mathlib.Core.List.{List, [], ◌∷◌, ◌++◌, Memᴰ, append-nil}
use native.Mathlib.Omega.{arith}
use lib.Dec.{eqb, leb}
use lib.ListN.{length}
use borrow.Author.Tests.{eqb-true, eqb-false, eq-eqb, ne_eqb, leb-true, leb-false, le-leb, lt-leb}
use Rattle.lines.specs.Line.{Line, Z}
use Rattle.lines.specs.Reading.{Read, says, refused, read}
use Rattle.lines.proofs.RoundTrip.{read_allowed}
use Rattle.lines.proofs.Refusals.{refused_by_number}
use Rattle.history.specs.Past.{History}
use Rattle.history.specs.Seen.{seen}
use Rattle.history.specs.Acceptance.{Room, refusal}
use Rattle.history.specs.Findings.{of_line, findings}
use Rattle.history.specs.Replies.{most_lines, weighed, verdict, accepted, not_accepted, reply_of, reply, with_line, heard}
use Rattle.history.specs.Report.{Run, go_on, run}
use Rattle.history.specs.declared.Finding.{Finding}
use Rattle.history.specs.Accepted.{Accepted, at_start, and_line}
use Rattle.history.specs.Refusals.{Given, four, five, six, nine, ten, seven, none}
use Rattle.history.specs.Verdicts.{Weighs, too_many, not_read, refuses, takes}
use Rattle.history.specs.Runs.{findings_in, told, Runs, no_more, stops, goes_on}
use Rattle.history.proofs.Refusals.{refusal_is}

module _ (room : Room) (past : History) (bs : List ℕ) where
  -- ---- what the line is

  -- line 1,000,001 is 1, whatever it holds
  pub over_a_million : 1000000 ≤ length past → verdict room past bs ≡ refused 1
  unfolding verdict
  over_a_million l = rw (le-leb most_lines (length past) l)

  in_time : length past < 1000000 → verdict room past bs ≡ weighed room past (read bs)
  unfolding verdict
  in_time l = rw (lt-leb most_lines (length past) l)

  -- 1, 2 and 3 of the reader come before 4
  pub read_first : (k : ℕ) → length past < 1000000 → read bs ≡ refused k → verdict room past bs ≡ refused k
  read_first k l h = in_time l ∙ ap (weighed room past) h

  pub refused_line : (e : Line) → length past < 1000000 → read bs ≡ says e → refusal room e past ≢ 0 → verdict room past bs ≡ refused (refusal room e past)
  refused_line e l h d = in_time l ∙ ap (weighed room past) h ∙ rw (ne_eqb (refusal room e past) 0 d)

  pub taken_line : (e : Line) → length past < 1000000 → read bs ≡ says e → refusal room e past ≡ 0 → verdict room past bs ≡ says e
  taken_line e l h z = in_time l ∙ ap (weighed room past) h ∙ rw (eq-eqb (refusal room e past) 0 z)

  weighs : Accepted room past → Weighs room past bs (verdict room past bs)
  weighs a = go (leb most_lines (length past)) refl
    where
      by_refusal : (e : Line) → length past < 1000000 → read bs ≡ says e → (q : Bool) → eqb (refusal room e past) 0 ≡ q → Weighs room past bs (verdict room past bs)
      by_refusal e l h true z =
          subst (Weighs room past bs) (sym (taken_line e l h (eqb-true _ _ z))) (takes e l h ((refusal_is room e past a 0).0 (eqb-true _ _ z)))
      by_refusal e l h false z =
          subst (Weighs room past bs) (sym (refused_line e l h (eqb-false _ _ z)))
          (refuses e (refusal room e past) l h (eqb-false _ _ z) ((refusal_is room e past a (refusal room e past)).0 refl))

      by_read : length past < 1000000 → (x : Read) → read bs ≡ x → Weighs room past bs (verdict room past bs)
      by_read l (refused k) h = subst (Weighs room past bs) (sym (read_first k l h)) (not_read k l h)
      by_read l (says e) h = by_refusal e l h (eqb (refusal room e past) 0) refl

      go : (q : Bool) → leb most_lines (length past) ≡ q → Weighs room past bs (verdict room past bs)
      go true f = subst (Weighs room past bs) (sym (over_a_million (leb-true _ _ f))) (too_many (leb-true _ _ f))
      go false f = by_read (leb-false _ _ f) (read bs) refl

  weighed_so : Accepted room past → (x : Read) → Weighs room past bs x → verdict room past bs ≡ x
  weighed_so a _ (too_many l) = over_a_million l
  weighed_so a _ (not_read k l h) = read_first k l h
  weighed_so a _ (refuses e k l h d g) =
      let is = (refusal_is room e past a k).1 g in
      refused_line e l h (λ z. d (sym is ∙ z)) ∙ rw is
  weighed_so a _ (takes e l h g) = taken_line e l h ((refusal_is room e past a 0).1 g)

  -- a lent line after accepted lines is what document 01 says, in its order
  pub verdict_is : Accepted room past → (x : Read) → (verdict room past bs ≡ x) ↔ Weighs room past bs x
  verdict_is a x = (λ h. subst (Weighs room past bs) h (weighs a), weighed_so a x)

  -- after Z everything that reads is 4
  pub after_Z : (e : Line) → Accepted room past → Memᴰ Z past → length past < 1000000 → read bs ≡ says e → verdict room past bs ≡ refused 4
  after_Z e a m l h = weighed_so a (refused 4) (refuses e 4 l h (λ z. omega (arith, z)) (four (λ s. s.before_Z m)))

-- ---- what was heard

-- whatever is called, the lines heard are accepted lines
pub heard_accepted : (room : Room) (calls : List (List ℕ)) → Accepted room (heard room calls)
unfolding heard
heard_accepted room [] = at_start
heard_accepted room (bs ∷ before) =
    go (verdict room (heard room before) bs) (weighs room (heard room before) bs (heard_accepted room before)) (heard_accepted room before)
  where
    go : (x : Read) → Weighs room (heard room before) bs x → Accepted room (heard room before) → Accepted room (with_line (heard room before) x)
    go _ (too_many l) a = a
    go _ (not_read k l h) a = a
    go _ (refuses e k l h d g) a = a
    go _ (takes e l h g) a = and_line e (heard room before) l (read_allowed bs e h) ((refusal_is room e (heard room before) a 0).1 g) a

accepted_not : (fs : List Finding) (k : ℕ) → accepted fs ≡ not_accepted k → ⊥
accepted_not fs k h = let z : ◌≡◌ {A = ℕ} 0 1 = cc in omega arith

-- a refused line changes nothing
pub refusal_changes_nothing : (room : Room) (before : List (List ℕ)) (bs : List ℕ) (k : ℕ) → reply room (heard room before) bs ≡ not_accepted k
    → heard room (bs ∷ before) ≡ heard room before
unfolding heard reply
refusal_changes_nothing room before bs k h = go (verdict room (heard room before) bs) h
  where
    go : (x : Read) → reply_of (heard room before) x ≡ not_accepted k → with_line (heard room before) x ≡ heard room before
    go (refused j) is = refl
    go (says e) is = absurd (accepted_not (of_line (suc (length (heard room before))) e (seen (heard room before))) k is)

abbrev Number : Read → Type 0
Number (says e) = Unit {0}
Number (refused k) = (1 ≤ k) × (k ≤ 10) × (k ≢ 8)

given_number : (room : Room) (past : History) (e : Line) (k : ℕ) → Given room past e k → (k ≤ 10) × (k ≢ 8)
given_number room past e _ (four s) = (omega arith, λ z. omega (arith, z))
given_number room past e _ (five s w) = (omega arith, λ z. omega (arith, z))
given_number room past e _ (six s w m) = (omega arith, λ z. omega (arith, z))
given_number room past e _ (nine s w m c) = (omega arith, λ z. omega (arith, z))
given_number room past e _ (ten s w m c d) = (omega arith, λ z. omega (arith, z))
given_number room past e _ (seven s w m c d x) = (omega arith, λ z. omega (arith, z))
given_number room past e _ (none s w m c d x) = (omega arith, λ z. omega (arith, z))

weighs_number : (room : Room) (past : History) (bs : List ℕ) (x : Read) → Weighs room past bs x → Number x
weighs_number room past bs _ (too_many l) = (omega arith, omega arith, λ z. omega (arith, z))
weighs_number room past bs _ (not_read k l h) = (omega (arith, refused_by_number bs k h), omega (arith, refused_by_number bs k h), λ z. omega (arith, z, refused_by_number bs k h))
weighs_number room past bs _ (refuses e k l h d g) = let (x, y) = given_number room past e k g in (omega arith, x, y)
weighs_number room past bs _ (takes e l h g) = tt

-- from a start a refusal is a number from 1 to 10: never 8, and never 0
pub refused_number : (room : Room) (calls : List (List ℕ)) (bs : List ℕ) (k : ℕ) → reply room (heard room calls) bs ≡ not_accepted k → (1 ≤ k) × (k ≤ 10) × (k ≢ 8)
unfolding reply
refused_number room calls bs k h =
    go (verdict room (heard room calls) bs) (weighs_number room (heard room calls) bs _ (weighs room (heard room calls) bs (heard_accepted room calls))) h
  where
    go : (x : Read) → Number x → reply_of (heard room calls) x ≡ not_accepted k → (1 ≤ k) × (k ≤ 10) × (k ≢ 8)
    go (refused j) n is = let same : j ≡ k = cc in subst (λ (m : ℕ). (1 ≤ m) × (m ≤ 10) × (m ≢ 8)) same n
    go (says e) n is = absurd (accepted_not (of_line (suc (length (heard room calls))) e (seen (heard room calls))) k is)

-- the findings replied to all calls are the findings of the lines heard
pub told_all : (room : Room) (calls : List (List ℕ)) → told room calls ≡ findings (heard room calls)
unfolding told heard findings reply
told_all room [] = refl
told_all room (bs ∷ before) = go (verdict room (heard room before) bs) (told_all room before)
  where
    go : (x : Read) → told room before ≡ findings (heard room before)
        → told room before ++ findings_in (reply_of (heard room before) x) ≡ findings (with_line (heard room before) x)
    go (refused k) ih = append-nil (told room before) ∙ ih
    go (says e) ih = ap (λ (fs : List Finding). fs ++ of_line (suc (length (heard room before))) e (seen (heard room before))) ih

-- ---- a whole run

replied : (room : Room) (past : History) (bs : List ℕ) (x : Read) → verdict room past bs ≡ x → reply room past bs ≡ reply_of past x
unfolding reply
replied room past bs x h = ap (reply_of past) h

heard_then : (room : Room) (calls : List (List ℕ)) (bs : List ℕ) (x : Read) → verdict room (heard room calls) bs ≡ x
    → heard room (bs ∷ calls) ≡ with_line (heard room calls) x
unfolding heard
heard_then room calls bs x h = ap (with_line (heard room calls)) h

-- a run is what the replies to its lines make of it
pub run_is : (room : Room) (calls lines : List (List ℕ)) → Runs room calls lines (run room (heard room calls) lines)
unfolding run
run_is room calls [] = no_more calls
run_is room calls (bs ∷ lines) = go (verdict room (heard room calls) bs) refl (run_is room (bs ∷ calls) lines)
  where
    go : (x : Read) → verdict room (heard room calls) bs ≡ x → Runs room (bs ∷ calls) lines (run room (heard room (bs ∷ calls)) lines)
        → Runs room calls (bs ∷ lines) (go_on (heard room calls) x (λ e. run room (e ∷ heard room calls) lines))
    go (refused k) h ih = stops calls lines bs k (replied room (heard room calls) bs (refused k) h)
    go (says e) h ih =
        goes_on calls lines bs (of_line (suc (length (heard room calls))) e (seen (heard room calls))) (run room (e ∷ heard room calls) lines) (replied room (heard room calls) bs (says e) h)
        (subst (λ (l : History). Runs room (bs ∷ calls) lines (run room l lines)) (heard_then room calls bs (says e) h) ih)

pub whole_run : (room : Room) (lines : List (List ℕ)) → Runs room [] lines (run room [] lines)
unfolding heard
whole_run room lines = run_is room [] lines

-- the accepted lines of a run are those heard of its calls, and its findings are what was replied to them
pub run_told : (room : Room) (calls lines : List (List ℕ)) (r : Run) → Runs room calls lines r
    → (all : List (List ℕ)) × (r.accepted ≡ heard room all) × (findings r.accepted ≡ told room all)
run_told room calls _ _ (no_more _) = (calls, refl, sym (told_all room calls))
run_told room calls _ _ (stops _ lines bs k h) = (calls, refl, sym (told_all room calls))
run_told room calls _ r (goes_on _ lines bs fs _ h k) = run_told room (bs ∷ calls) lines r k
