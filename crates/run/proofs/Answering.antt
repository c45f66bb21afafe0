-- What the code's answer to a line tells of the step: its findings where it was accepted, its number where not. Assumes nothing.
use Prim.Native.Nat.{ℕ, suc, ◌≤◌}
use mathlib.Core.Path.{◌≡◌, refl, sym, ap, subst, ◌∙◌}
use mathlib.Core.Bool.{Bool, true, false}
use mathlib.Core.List.{List}
use Rattle.std.specs.Prelude.{Option, Ok, Err, IfOk}
use native.Mathlib.Omega.{arith}
use lib.Dec.{eqb, leb}
use lib.ListN.{length}
use Rattle.words.specs.Choice.{if_true◌then◌else◌}
use Rattle.lines.specs.Line.{Line, N, X, C, R, A, D, Z, states}
use Rattle.lines.specs.Reading.{Read, says, refused, read}
use Rattle.lines.specs.Numbered.{refusal_of}
use Rattle.lines.specs.declared.refusal.Refusal.{Refusal}
use Rattle.history.specs.Past.{thread_of}
use Rattle.history.specs.Items.{Item, top_of, asked}
use Rattle.history.specs.Order.{most_findings}
use Rattle.history.specs.Findings.{of_line}
use Rattle.history.specs.Replies.{Reply, accepted, not_accepted, most_lines}
use Rattle.history.specs.declared.Finding.{Finding}
use Rattle.history.proofs.Most.{at_most}
use Rattle.book.specs.Threads.{items_in, lines_in}
use Rattle.answers.specs.declared.Findings.{Findings}
use Rattle.answers.specs.Answer.{Answer, most_found, findings_of, answered}
use Rattle.tables.specs.Tables.{Tables, seen_in}
use Rattle.tables.specs.Weighing.{refusal_in, weighed_in}
use Rattle.tables.specs.Stepping.{untouched, follow, on_read, unfit_tables, step_of}
use Rattle.demands.proofs.Foreign.{refusal_keeps}
use Rattle.events.specs.Outcome.{Outcome, leaves}
use Rattle.judge.specs.Outcome.{step_outcome}

-- ---- an accepted line has at most six findings

few_findings : (e : Line) → most_findings e ≤ most_found
few_findings (N t env hs) = omega arith
few_findings (X t r) = omega arith
few_findings (C t env f a b c n) = omega arith
few_findings (R t f r p) = omega arith
few_findings (A t env) = omega arith
few_findings (D t) = omega arith
few_findings Z = omega arith
few_findings (states s) = omega arith

module _ (T : Tables) (bs : List ℕ) where
  abbrev Proper : Reply → Type 0
  Proper (accepted fs) = length fs ≤ most_found
  Proper (not_accepted k) = Unit {0}

  weighed_proper : (line : ℕ) (e : Line) (top : Option Item) (many : ℕ) → Proper (weighed_in line e top many T)
  unfolding weighed_in
  weighed_proper line e top many = go (eqb (refusal_in e top many T) 0) refl
    where
      go : (o : Bool) → eqb (refusal_in e top many T) 0 ≡ o → Proper (if_true o then accepted (of_line line e (seen_in T)) else not_accepted (refusal_in e top many T))
      go true q = omega (arith, at_most line e (seen_in T), few_findings e)
      go false q = tt

  followed_proper : (line : ℕ) (e : Line) (n : ℕ) (r : Reply) → Proper r → Proper (follow line e n r T).reply
  followed_proper line e n (accepted fs) h = h
  followed_proper line e n (not_accepted k) h = h

  read_proper : (x : Read) → read bs ≡ x → Proper (on_read x T).reply
  read_proper (refused k) h = tt
  read_proper (says e) h =
      let is = items_in T.book (thread_of e) in
      followed_proper (suc (lines_in T.book)) e (asked (top_of is)) (weighed_in (suc (lines_in T.book)) e (top_of is) (length is) T)
      (weighed_proper (suc (lines_in T.book)) e (top_of is) (length is))

  proper : Proper (step_of T bs).reply
  unfolding step_of
  proper = go (unfit_tables T) (leb most_lines (lines_in T.book))
    where
      go : (u o : Bool) → Proper (if_true u then untouched 8 T else if_true o then untouched 1 T else on_read (read bs) T).reply
      go true o = tt
      go false true = tt
      go false false = read_proper (read bs) refl

  pub accepted_few : (fs : List Finding) → (step_of T bs).reply ≡ accepted fs → length fs ≤ most_found
  accepted_few fs q = subst Proper q proper

  -- ---- the answer

  -- the line was accepted
  pub record Takes (f : Findings) (S : Tables) : Type 0 where
    pub found : List Finding
    pub reply : (step_of T bs).reply ≡ accepted found
    pub findings : f ≡ findings_of found
    pub left : S ≡ (step_of T bs).left
    pub few : length found ≤ most_found

  pub takes : (a : Answer) (f : Findings) (S : Tables) → leaves a S ≡ step_outcome T bs → a ≡ Ok f → Takes f S
  unfolding step_outcome
  takes a f S h z = go (step_of T bs).reply refl
    where
      told : (r : Reply) → (step_of T bs).reply ≡ r → Ok f ≡ answered r
      told r q = sym z ∙ ap (λ (x : Outcome). x.answer) h ∙ ap answered q

      go : (r : Reply) → (step_of T bs).reply ≡ r → Takes f S
      go (accepted fs) q =
          let same : Ok f ≡ Ok (findings_of fs) = told (accepted fs) q in
          record { found = fs; reply = q; findings = cc; left = ap (λ (x : Outcome). x.left) h; few = accepted_few fs q }
      go (not_accepted k) q =
          let other : Ok f ≡ Err (refusal_of k) = told (not_accepted k) q in
          let never : ◌≡◌ {A = ℕ} 0 1 = cc in absurd (omega arith)

  -- the line was refused
  pub record Refuses (k : Refusal) (S : Tables) : Type 0 where
    pub number : ℕ
    pub reply : (step_of T bs).reply ≡ not_accepted number
    pub refusal : k ≡ refusal_of number
    pub left : S ≡ T

  pub refuses : (a : Answer) (k : Refusal) (S : Tables) → leaves a S ≡ step_outcome T bs → a ≡ Err k → Refuses k S
  unfolding step_outcome
  refuses a k S h z = go (step_of T bs).reply refl
    where
      told : (r : Reply) → (step_of T bs).reply ≡ r → Err k ≡ answered r
      told r q = sym z ∙ ap (λ (x : Outcome). x.answer) h ∙ ap answered q

      go : (r : Reply) → (step_of T bs).reply ≡ r → Refuses k S
      go (accepted fs) q =
          let other : Err k ≡ Ok (findings_of fs) = told (accepted fs) q in
          let never : ◌≡◌ {A = ℕ} 0 1 = cc in absurd (omega arith)
      go (not_accepted n) q =
          let same : Err k ≡ Err (refusal_of n) = told (not_accepted n) q in
          record { number = n; reply = q; refusal = cc; left = ap (λ (x : Outcome). x.left) h ∙ refusal_keeps T bs n q }

  -- either way
  pub few_counted : (a : Answer) (S : Tables) → leaves a S ≡ step_outcome T bs → IfOk a (λ f. f.count ≤ most_found)
  unfolding step_outcome findings_of
  few_counted a S h = subst (λ (x : Answer). IfOk x (λ f. f.count ≤ most_found)) (sym (ap (λ (x : Outcome). x.answer) h)) (go (step_of T bs).reply)
    where
      go : (r : Reply) → IfOk (answered r) (λ f. f.count ≤ most_found)
      go (accepted fs) = omega arith
      go (not_accepted k) = tt
