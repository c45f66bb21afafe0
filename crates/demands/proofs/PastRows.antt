-- The rows of the past hold what is alive and what is outstanding. Assumes nothing.
use Prim.Native.Nat.{ℕ, suc, ◌+◌, ◌≤◌}
use mathlib.Core.Path.{◌≡◌, refl, sym, ap, ap₂, ◌∙◌, fun_ext}
use mathlib.Core.Bool.{Bool, true, false, not, ◌&&◌, ◌||◌, false≢true}
use mathlib.Core.List.{List, [], ◌∷◌, map, Memᴰ}
use Rattle.std.specs.Prelude.{Option}
use native.Mathlib.Omega.{arith}
use lib.Dec.{eqb, ltb}
use lib.ListN.{length}
use borrow.Author.Tests.{eqb-true}
use Rattle.words.specs.Choice.{one}
use Rattle.words.specs.Lists.{keep, count, but_first}
use Rattle.facts.specs.Table.{fact_of}
use Rattle.facts.specs.Named.{DeleteGlobalRef, DeleteLocalRef, DeleteWeakGlobalRef}
use Rattle.facts.specs.Results.{is_buffer_place}
use Rattle.lines.specs.Line.{Line, N, X, C, R, A, D, Z, states, kind}
use Rattle.rows.specs.Slots.{held, wipe, wipe_first}
use Rattle.history.specs.Past.{History, thread_of}
use Rattle.history.specs.Frames.{depth}
use Rattle.history.specs.Handles.{Alive, local, shared, makes, same_handle, is_local, is_shared, deletes, frame_gone, ends, living}
use Rattle.history.specs.Buffers.{Pin, ordinary, pin, same_pin, gets, releases, outstanding}
use Rattle.history.specs.Leaks.{Made, made_at, by_what}
use Rattle.history.specs.Acceptance.{Room}
use Rattle.history.specs.Accepted.{Accepted, at_start, and_line}
use Rattle.history.proofs.Tests.{and_right, all_three, of_three}
use Rattle.history.proofs.Counts.{count_cons, count_append, count_keep, count_le, but_first_is, count_but_first, count_map}
use Rattle.history.proofs.Living.{frame_stands}
use Rattle.history.proofs.Once.{alive_once}
use Rattle.history.proofs.Buffers.{same_pin_is}
use Rattle.demands.specs.PastRows.{put_or_add_all, reference_rows, pin_rows}
use Rattle.demands.proofs.Slots.{held_put_or_add_all, held_wipe, held_wipe_first}

-- ---- lists

module _ {A : Type 0} where
  pub members_fail : (f : A → Bool) (l : List A) → ((x : A) → Memᴰ x l → f x ≡ false) → count f l ≡ 0
  members_fail f [] h = refl
  members_fail f (x ∷ l) h =
      omega (arith, count_cons f x l, ap one (h x (Memᴰ.head refl)), members_fail f l (λ y m. h y (Memᴰ.tail m)))

  pub count_none : (l : List A) → count (λ x. false) l ≡ 0
  count_none l = members_fail (λ x. false) l (λ x m. refl)

-- ---- references

pub frames_stand : (past : History) → count (frame_gone past) (living past) ≡ 0
frames_stand past = members_fail (frame_gone past) (living past) (frame_stands past)

-- a line deletes one handle at most
pub one_deleted : (e : Line) (l : List Alive) → ((y : Alive) → count (same_handle y) l ≤ 1) → count (deletes e) l ≤ 1
unfolding deletes
one_deleted (N t env hs) l single = omega (arith, count_none l)
one_deleted (X t r) l single = omega (arith, count_none l)
one_deleted (C t env f a b c n) l single = go (eqb f DeleteLocalRef) refl
  where
    deleted : Alive → Bool
    deleted x =
        (eqb f DeleteLocalRef && eqb (kind a) 1 && is_local t a x)
        || (eqb f DeleteGlobalRef && eqb (kind a) 2 && is_shared a x) || (eqb f DeleteWeakGlobalRef && eqb (kind a) 3 && is_shared a x)

    go : (q : Bool) → eqb f DeleteLocalRef ≡ q → count deleted l ≤ 1
    go true e =
        omega (
          arith,
          single (local t 0 a),
          count_le deleted (is_local t a) (λ x h. of_three (eqb f DeleteLocalRef && eqb (kind a) 1 && is_local t a x) (eqb f DeleteGlobalRef && eqb (kind a) 2 && is_shared a x) (eqb f DeleteWeakGlobalRef && eqb (kind a) 3 && is_shared a x) h
              (λ y. (all_three (eqb f DeleteLocalRef) (eqb (kind a) 1) (is_local t a x) y).2)
              (λ y. absurd (false≢true (sym (ap (λ (k : ℕ). eqb k DeleteGlobalRef) (eqb-true f DeleteLocalRef e)) ∙ (all_three (eqb f DeleteGlobalRef) (eqb (kind a) 2) (is_shared a x) y).0)))
              (λ y. absurd (false≢true (sym (ap (λ (k : ℕ). eqb k DeleteWeakGlobalRef) (eqb-true f DeleteLocalRef e)) ∙ (all_three (eqb f DeleteWeakGlobalRef) (eqb (kind a) 3) (is_shared a x) y).0)))) l,
        )
    go false e =
        omega (
          arith,
          single (shared a),
          count_le deleted (is_shared a) (λ x h. of_three (eqb f DeleteLocalRef && eqb (kind a) 1 && is_local t a x) (eqb f DeleteGlobalRef && eqb (kind a) 2 && is_shared a x) (eqb f DeleteWeakGlobalRef && eqb (kind a) 3 && is_shared a x) h
              (λ y. absurd (false≢true (sym e ∙ (all_three (eqb f DeleteLocalRef) (eqb (kind a) 1) (is_local t a x) y).0)))
              (λ y. (all_three (eqb f DeleteGlobalRef) (eqb (kind a) 2) (is_shared a x) y).2)
              (λ y. (all_three (eqb f DeleteWeakGlobalRef) (eqb (kind a) 3) (is_shared a x) y).2)) l,
        )
one_deleted (R t f r p) l single = omega (arith, count_none l)
one_deleted (A t env) l single = omega (arith, count_none l)
one_deleted (D t) l single = omega (arith, count_none l)
one_deleted Z l single = omega (arith, count_none l)
one_deleted (states s) l single = omega (arith, count_none l)

-- what is left of a list without those that two tests take
both_taken : (d g test : Bool) → (not d && (not g && test)) ≡ (not (d || g) && test)
both_taken true g test = refl
both_taken false g test = refl

-- one line more
line_holds : (n : ℕ) (e : Line) (past : History) (rows : List (Option (Made Alive))) → ((f : Alive → Bool) → count (by_what f) (held rows) ≡ count f (living past))
    → count (deletes e) (living past) ≤ 1 → (test : Alive → Bool)
    → count (by_what test) (held (put_or_add_all (map (made_at n) (makes e (depth (thread_of e) past))) (wipe (by_what (frame_gone (e ∷ past))) (wipe_first (by_what (deletes e)) rows)))) ≡ count test (living (e ∷ past))
unfolding living ends
line_holds n e past rows same single test =
    held_put_or_add_all (by_what test) (map (made_at n) new) (wipe (by_what gone) (wipe_first (by_what (deletes e)) rows))
    ∙ ap₂ (λ (j k : ℕ). j + k) (count_map (by_what test) (made_at n) new) old
    ∙ sym (count_append test new (keep (λ (x : Alive). not (deletes e x || gone x)) (living past)))
  where
    new : List Alive
    new = makes e (depth (thread_of e) past)

    gone : Alive → Bool
    gone = frame_gone (e ∷ past)

    left : held (wipe (by_what gone) (wipe_first (by_what (deletes e)) rows)) ≡ keep (λ x. not (gone x.what)) (keep (λ x. not (deletes e x.what)) (held rows))
    left =
        held_wipe (by_what gone) (wipe_first (by_what (deletes e)) rows)
        ∙ ap (keep (λ x. not (gone x.what))) (held_wipe_first (by_what (deletes e)) rows ∙ but_first_is (by_what (deletes e)) (held rows) (omega (arith, same (deletes e))))

    old : count (by_what test) (held (wipe (by_what gone) (wipe_first (by_what (deletes e)) rows))) ≡ count test (keep (λ (x : Alive). not (deletes e x || gone x)) (living past))
    old =
        ap (count (by_what test)) left
        ∙ count_keep (by_what test) (λ x. not (gone x.what)) (keep (λ x. not (deletes e x.what)) (held rows))
        ∙ count_keep (λ x. not (gone x.what) && test x.what) (λ x. not (deletes e x.what)) (held rows)
        ∙ same (λ x. not (deletes e x) && (not (gone x) && test x))
        ∙ ap (λ (f : Alive → Bool). count f (living past)) (fun_ext λ x. both_taken (deletes e x) (gone x) (test x))
        ∙ sym (count_keep test (λ (x : Alive). not (deletes e x || gone x)) (living past))

holds_next : (room : Room) (past : History) → Accepted room past → ((test : Alive → Bool) → count (by_what test) (held (reference_rows past)) ≡ count test (living past))
    → (e : Line) (test : Alive → Bool) → count (by_what test) (held (reference_rows (e ∷ past))) ≡ count test (living (e ∷ past))
unfolding reference_rows
holds_next room past so_far same e test = line_holds (suc (length past)) e past (reference_rows past) same (one_deleted e (living past) (alive_once room past so_far)) test

-- the rows hold what is alive, whatever it is counted by
pub rows_hold : (room : Room) (past : History) → Accepted room past → (test : Alive → Bool) → count (by_what test) (held (reference_rows past)) ≡ count test (living past)
rows_hold room [] at_start test = unfold reference_rows living in refl
rows_hold room (e ∷ past) (and_line _ _ few fine no_refusal so_far) test = holds_next room past so_far (rows_hold room past so_far) e test

-- and would after any line more
pub rows_hold_next : (room : Room) (past : History) → Accepted room past → (e : Line) (test : Alive → Bool)
    → count (by_what test) (held (reference_rows (e ∷ past))) ≡ count test (living (e ∷ past))
rows_hold_next room past so_far = holds_next room past so_far (rows_hold room past so_far)

-- ---- pins

-- a line releases equal buffers only
released : (e : Line) → (y : Pin) × ((x : Pin) → releases e x ≡ true → x ≡ y)
unfolding releases
released (N t env hs) = (ordinary 0 0, λ x h. absurd (false≢true h))
released (X t r) = (ordinary 0 0, λ x h. absurd (false≢true h))
released (C t env f a b c n) =
    (pin t f b, λ x h. same_pin_is (pin t f b) x (and_right (is_buffer_place (fact_of f).b) (same_pin (pin t f b) x) h))
released (R t f r p) = (ordinary 0 0, λ x h. absurd (false≢true h))
released (A t env) = (ordinary 0 0, λ x h. absurd (false≢true h))
released (D t) = (ordinary 0 0, λ x h. absurd (false≢true h))
released Z = (ordinary 0 0, λ x h. absurd (false≢true h))
released (states s) = (ordinary 0 0, λ x h. absurd (false≢true h))

-- the rows hold what is outstanding, whatever it is counted by; of every history
pub pin_rows_hold : (past : History) (test : Pin → Bool) → count (by_what test) (held (pin_rows past)) ≡ count test (outstanding past)
unfolding pin_rows outstanding
pin_rows_hold [] test = refl
pin_rows_hold (e ∷ past) test =
    let (y, is) = released e in
    omega (
      arith,
      held_put_or_add_all (by_what test) (map (made_at (suc (length past))) (gets e)) (wipe_first (by_what (releases e)) (pin_rows past)),
      count_map (by_what test) (made_at (suc (length past))) (gets e),
      ap (count (by_what test)) (held_wipe_first (by_what (releases e)) (pin_rows past)),
      count_append test (gets e) (but_first (releases e) (outstanding past)),
      count_but_first (by_what test) (by_what (releases e)) (test y) (λ x h. ap test (is x.what h)) (held (pin_rows past)),
      count_but_first test (releases e) (test y) (λ x h. ap test (is x h)) (outstanding past),
      ap (λ (k : ℕ). one (ltb 0 k && test y)) (pin_rows_hold past (releases e)),
      pin_rows_hold past test,
    )
