-- More room, the same run: where the smaller room gives no 7, both runs are equal. Assumes nothing.
use Prim.Native.Nat.{ℕ, ◌≤◌}
use mathlib.Core.Path.{◌≡◌, refl, sym, ◌∙◌}
use mathlib.Core.Logic.{◌≢◌}
use mathlib.Core.Bool.{Bool, true, false, ◌&&◌, false≢true}
use mathlib.Core.List.{List, [], ◌∷◌}
use native.Mathlib.Omega.{arith}
use lib.Dec.{leb}
use lib.ListN.{length}
use borrow.Author.Tests.{leb-true, le-leb}
use Rattle.words.specs.Choice.{if_true◌then◌else◌}
use Rattle.lines.specs.Line.{Line}
use Rattle.lines.specs.Reading.{Read, says, refused, read}
use Rattle.history.specs.Past.{History, thread_of}
use Rattle.history.specs.Items.{items}
use Rattle.history.specs.Identities.{identities}
use Rattle.history.specs.Seen.{Seen, seen}
use Rattle.history.specs.Acceptance.{Room, env_right, makes_anew, classes_right, names_alive, has_room, has_identity_room, has_item_room, everything, deepest, first_refusal, refusal}
use Rattle.history.specs.Replies.{most_lines, weighed, verdict}
use Rattle.history.specs.Report.{go_on, run}
use Rattle.history.specs.Runs.{Roomier}
use Rattle.history.proofs.Tests.{all_three, and_both}
use Rattle.history.proofs.Accepting.{in_step_of, has_room_of}

same_number : (step env anew classes alive less more : Bool) → (less ≡ true → more ≡ true) → first_refusal step env anew classes alive less ≢ 7
    → first_refusal step env anew classes alive more ≡ first_refusal step env anew classes alive less
same_number false env anew classes alive less more f h = refl
same_number true false anew classes alive less more f h = refl
same_number true true false classes alive less more f h = refl
same_number true true true false alive less more f h = refl
same_number true true true true false less more f h = refl
same_number true true true true true true true f h = refl
same_number true true true true true true false f h = absurd (false≢true (f refl))
same_number true true true true true false more f h = absurd (h refl)

module _ (a b : Room) (r : Roomier a b) where
  more_fits : (n m k : ℕ) → m ≤ k → leb n m ≡ true → leb n k ≡ true
  more_fits n m k l h = le-leb n k (omega (arith, leb-true n m h))

  has_more : (t : ℕ) (v : Seen) → has_room a t v ≡ true → has_room b t v ≡ true
  unfolding has_room
  has_more t v h =
      let (x, y, z) = all_three _ _ _ h in
      and_both (leb (v.handles everything) b.references && leb (v.buffers everything) b.pins) (leb (length (v.frames t)) deepest)
      (and_both (leb (v.handles everything) b.references) (leb (v.buffers everything) b.pins)
      (more_fits (v.handles everything) a.references b.references r.references x) (more_fits (v.buffers everything) a.pins b.pins r.pins y))
      z

  refusal_more : (e : Line) (past : History) → refusal a e past ≢ 7 → refusal b e past ≡ refusal a e past
  unfolding refusal
  refusal_more e past h =
      same_number (in_step_of e past) (env_right e (seen past)) (makes_anew e (seen past)) (classes_right e (seen past)) (names_alive e (seen past)) (has_room_of a e past) (has_room_of b e past)
      (λ k.
      let opens : Bool = has_item_room e (length (items (thread_of e) past)) in
      let (stated, rows, items_too) = all_three (has_identity_room a (e ∷ past)) (has_room a (thread_of e) (seen (e ∷ past))) opens k in
      and_both (has_identity_room b (e ∷ past) && has_room b (thread_of e) (seen (e ∷ past))) opens
      (and_both (has_identity_room b (e ∷ past)) (has_room b (thread_of e) (seen (e ∷ past)))
      (more_fits (length (identities (e ∷ past))) a.identities b.identities r.identities stated)
      (has_more (thread_of e) (seen (e ∷ past)) rows))
      items_too)
      h

  weighed_more : (past : History) (x : Read) → weighed a past x ≢ refused 7 → weighed b past x ≡ weighed a past x
  weighed_more past (refused k) h = refl
  weighed_more past (says e) h = rw (refusal_more e past (λ s. h (rw s)))

  verdict_more : (past : History) (bs : List ℕ) → verdict a past bs ≢ refused 7 → verdict b past bs ≡ verdict a past bs
  unfolding verdict
  verdict_more past bs h = go (leb most_lines (length past)) h
    where
      go : (q : Bool) → (if_true q then refused 1 else weighed a past (read bs)) ≢ refused 7
          → (if_true q then refused 1 else weighed b past (read bs)) ≡ (if_true q then refused 1 else weighed a past (read bs))
      go true k = refl
      go false k = weighed_more past (read bs) k

  -- more room, and no 7 from the smaller: equal runs
  pub run_more : (lines : List (List ℕ)) (past : History) → (run a past lines).refusal ≢ 7 → run b past lines ≡ run a past lines
  unfolding run
  run_more [] past h = refl
  run_more (bs ∷ rest) past h = go (verdict a past bs) refl h (λ e. run_more rest (e ∷ past))
    where
      go : (x : Read) → verdict a past bs ≡ x → (go_on past x (λ e. run a (e ∷ past) rest)).refusal ≢ 7
          → ((e : Line) → (run a (e ∷ past) rest).refusal ≢ 7 → run b (e ∷ past) rest ≡ run a (e ∷ past) rest)
          → go_on past (verdict b past bs) (λ e. run b (e ∷ past) rest) ≡ go_on past x (λ e. run a (e ∷ past) rest)
      go (refused k) v n ih = rw (verdict_more past bs (λ s. n (seven k (sym v ∙ s))) ∙ v)
        where
          seven : (k : ℕ) → refused k ≡ refused 7 → k ≡ 7
          seven k s = cc
      go (says e) v n ih = rw (verdict_more past bs (λ s. never e (sym v ∙ s)) ∙ v) (ih e n)
        where
          never : (e : Line) → says e ≡ refused 7 → ⊥
          never e s = let z : ◌≡◌ {A = ℕ} 0 1 = cc in omega arith
