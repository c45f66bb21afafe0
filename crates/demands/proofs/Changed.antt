-- What each kind of line does to the rows of the past. Assumes nothing.
use Prim.Native.Nat.{ℕ, suc, ◌≤◌}
use mathlib.Core.Path.{◌≡◌, refl, sym, ap, ◌∙◌, fun_ext}
use mathlib.Core.Bool.{Bool, true, false, ◌&&◌, ◌||◌, false≢true, and-true, and-false, or-false}
use mathlib.Core.List.{List, [], ◌∷◌, map}
use native.Mathlib.Omega.{arith}
use lib.Dec.{eqb, leb, ltb}
use lib.IntN.{ℤ}
use lib.ListN.{length}
use borrow.Author.Tests.{eqb-true, le-ltb, ltb-false}
use Rattle.words.specs.Choice.{if_true◌then◌else◌}
use Rattle.words.specs.Lists.{count, but_first}
use Rattle.facts.specs.Named.{PushLocalFrame, PopLocalFrame, DeleteGlobalRef, DeleteLocalRef, DeleteWeakGlobalRef}
use Rattle.lines.specs.Line.{Line, N, C, R, kind, is_zero}
use Rattle.rows.specs.Slots.{held, wipe, wipe_first}
use Rattle.rows.specs.References.{is_handle}
use Rattle.history.specs.Past.{History, thread_of, is_of}
use Rattle.history.specs.Frames.{Frame, entered, pushed, frames, frames_after, without_pushed, top_pushed, depth}
use Rattle.history.specs.Handles.{Alive, local, shared, makes, is_local, is_shared, deletes, frame_gone}
use Rattle.history.specs.Leaks.{Made, made_at, by_what}
use Rattle.history.specs.Acceptance.{Room}
use Rattle.history.specs.Accepted.{Accepted}
use Rattle.history.proofs.Tests.{or_neither, of_three, and_left, and_right}
use Rattle.history.proofs.Counts.{count_cons}
use Rattle.history.proofs.Threads.{own_depth, other_depth, thread_is}
use Rattle.tables.specs.Tables.{reference_of}
use Rattle.tables.specs.Acting.{is_delete, delete_owner}
use Rattle.demands.specs.PastRows.{put_or_add_all, reference_rows}
use Rattle.demands.proofs.Slots.{held_wipe_first, wipe_none, wipe_first_none, wipe_same}
use Rattle.demands.proofs.PastRows.{frames_stand, rows_hold}
use Rattle.demands.proofs.Encoding.{unplaced, handle_is_local, handle_is_shared, is_from}

pub but_first_less : {A : Type 0} (f g : A → Bool) (l : List A) → count f (but_first g l) ≤ count f l
but_first_less f g [] = omega arith
but_first_less f g (x ∷ l) = go (g x) (but_first_less f g l)
  where
    go : (b : Bool) → count f (but_first g l) ≤ count f l → count f (if_true b then l else x ∷ but_first g l) ≤ count f (x ∷ l)
    go true ih = omega (arith, count_cons f x l)
    go false ih = omega (arith, ih, count_cons f x l, count_cons f x (but_first g l))

-- ---- frames

-- only N, and R of 19 with status 0, add a frame; only X and C of 20 take any
pub frames_grow_N : (t env : ℕ) (hs : List ℕ) (fs : List Frame) → length fs ≤ length (frames_after (N t env hs) fs)
frames_grow_N t env hs fs = omega arith

pub frames_grow_R : (t f : ℕ) (r : ℤ) (p : ℕ) (fs : List Frame) → length fs ≤ length (frames_after (R t f r p) fs)
frames_grow_R t f r p fs = go (eqb f PushLocalFrame && is_zero r)
  where
    go : (b : Bool) → length fs ≤ length (if_true b then pushed ∷ fs else fs)
    go true = omega arith
    go false = omega arith

-- a C that pops nothing
pub unpopped : (f : ℕ) (fs : List Frame) → (eqb f PopLocalFrame && top_pushed fs) ≡ false → (if_true eqb f PopLocalFrame then without_pushed fs else fs) ≡ fs
unpopped f fs = go (eqb f PopLocalFrame) fs
  where
    go : (q : Bool) (fs : List Frame) → (q && top_pushed fs) ≡ false → (if_true q then without_pushed fs else fs) ≡ fs
    go true [] h = refl
    go true (entered ∷ fs) h = refl
    go true (pushed ∷ fs) h = absurd (false≢true (sym h))
    go false fs h = refl

-- and one that pops
pub popped : (f : ℕ) (fs : List Frame) → (eqb f PopLocalFrame && top_pushed fs) ≡ true → suc (length (if_true eqb f PopLocalFrame then without_pushed fs else fs)) ≡ length fs
popped f fs = go (eqb f PopLocalFrame) fs
  where
    go : (q : Bool) (fs : List Frame) → (q && top_pushed fs) ≡ true → suc (length (if_true q then without_pushed fs else fs)) ≡ length fs
    go true [] h = absurd (false≢true h)
    go true (entered ∷ fs) h = absurd (false≢true h)
    go true (pushed ∷ fs) h = refl
    go false fs h = absurd (false≢true h)

-- ---- what is deleted

module _ (t env f a b c : ℕ) (n : ℤ) where
  pub deletes_nothing : is_delete f a ≡ false → (x : Alive) → deletes (C t env f a b c n) x ≡ false
  unfolding deletes
  deletes_nothing h x =
      let (ab, z) = or_neither ((eqb f DeleteLocalRef && eqb (kind a) 1) || (eqb f DeleteGlobalRef && eqb (kind a) 2)) (eqb f DeleteWeakGlobalRef && eqb (kind a) 3) h in
      let (x, y) = or_neither (eqb f DeleteLocalRef && eqb (kind a) 1) (eqb f DeleteGlobalRef && eqb (kind a) 2) ab in
      rw (x, y, z)

  -- the row of what is deleted
  pub delete_is : eqb t 0 ≡ false → is_delete f a ≡ true → (line class : ℕ) (x : Alive) → unplaced x ≡ false → is_handle (delete_owner f t) a (reference_of line class x) ≡ deletes (C t env f a b c n) x
  unfolding deletes
  delete_is z h line class x there =
      of_three (eqb f DeleteLocalRef && eqb (kind a) 1) (eqb f DeleteGlobalRef && eqb (kind a) 2) (eqb f DeleteWeakGlobalRef && eqb (kind a) 3) h
      (λ k.
      rw (eqb-true f DeleteLocalRef (and_left (eqb f DeleteLocalRef) (eqb (kind a) 1) k), and_right (eqb f DeleteLocalRef) (eqb (kind a) 1) k)
      (handle_is_local t a z line class x ∙ sym (or-false (is_local t a x)) ∙ sym (or-false (is_local t a x || false))))
      (λ k.
      rw (eqb-true f DeleteGlobalRef (and_left (eqb f DeleteGlobalRef) (eqb (kind a) 2) k), and_right (eqb f DeleteGlobalRef) (eqb (kind a) 2) k)
      (handle_is_shared a line class x there ∙ sym (or-false (is_shared a x))))
      (λ k.
      rw (eqb-true f DeleteWeakGlobalRef (and_left (eqb f DeleteWeakGlobalRef) (eqb (kind a) 3) k), and_right (eqb f DeleteWeakGlobalRef) (eqb (kind a) 3) k)
      (handle_is_shared a line class x there))

  -- a delete pops nothing
  pub delete_unpopped : is_delete f a ≡ true → eqb f PopLocalFrame ≡ false
  delete_unpopped h =
      of_three (eqb f DeleteLocalRef && eqb (kind a) 1) (eqb f DeleteGlobalRef && eqb (kind a) 2) (eqb f DeleteWeakGlobalRef && eqb (kind a) 3) h
      (λ k. rw (eqb-true f DeleteLocalRef (and_left (eqb f DeleteLocalRef) (eqb (kind a) 1) k)))
      (λ k. rw (eqb-true f DeleteGlobalRef (and_left (eqb f DeleteGlobalRef) (eqb (kind a) 2) k)))
      (λ k. rw (eqb-true f DeleteWeakGlobalRef (and_left (eqb f DeleteWeakGlobalRef) (eqb (kind a) 3) k)))

-- ---- the rows after a line

module _ (room : Room) (past : History) (accepted : Accepted room past) (e : Line) where
  -- what the line makes, with its number
  abbrev new : List (Made Alive)
  new = map (made_at (suc (length past))) (makes e (depth (thread_of e) past))

  rows_stand : count (by_what (frame_gone past)) (held (reference_rows past)) ≡ 0
  rows_stand = rows_hold room past accepted (frame_gone past) ∙ frames_stand past

  -- a line that takes no frame
  module _ (grows : length (frames (thread_of e) past) ≤ length (frames_after e (frames (thread_of e) past))) where
    deeper : (t : ℕ) → depth t past ≤ depth t (e ∷ past)
    unfolding depth
    deeper t = go (is_of t e) refl
      where
        go : (q : Bool) → is_of t e ≡ q → length (frames t past) ≤ length (frames t (e ∷ past))
        go true o = omega (arith, own_depth t e past o, rw (thread_is t e o) at grows)
        go false o = omega (arith, other_depth t e past o)

    still_there : (x : Alive) → frame_gone past x ≡ false → frame_gone (e ∷ past) x ≡ false
    still_there (local t d h) k = le-ltb (depth t (e ∷ past)) d (omega (arith, deeper t, ltb-false (depth t past) d k))
    still_there (shared h) k = refl

    pub rows_deleted : reference_rows (e ∷ past) ≡ put_or_add_all new (wipe_first (by_what (deletes e)) (reference_rows past))
    unfolding reference_rows
    rows_deleted =
        let gone = by_what (frame_gone past) in
        let deleted = by_what (deletes e) in
        ap (put_or_add_all new)
        (wipe_same gone (by_what (frame_gone (e ∷ past))) (λ x. false) (λ x. still_there x.what) (wipe_first deleted (reference_rows past))
        (omega (arith, rows_stand, but_first_less gone deleted (held (reference_rows past)), ap (count gone) (held_wipe_first deleted (reference_rows past))))
        ∙ wipe_none (wipe_first deleted (reference_rows past)))

    -- and deletes nothing
    pub rows_added : ((x : Alive) → deletes e x ≡ false) → reference_rows (e ∷ past) ≡ put_or_add_all new (reference_rows past)
    rows_added none =
        rows_deleted
        ∙ ap (put_or_add_all new)
        (ap (λ (g : Made Alive → Bool). wipe_first g (reference_rows past)) (fun_ext (λ x. none x.what)) ∙ wipe_first_none (reference_rows past))

  -- a line of thread t that makes and deletes nothing
  gone_is : (t : ℕ) → ((s : ℕ) → is_of s e ≡ eqb s t) → (x : Alive) → frame_gone past x ≡ false → frame_gone (e ∷ past) x ≡ is_from t (suc (depth t (e ∷ past))) x
  gone_is t of (local s d h) k = go (eqb s t) refl
    where
      go : (q : Bool) → eqb s t ≡ q → ltb (depth s (e ∷ past)) d ≡ (leb (suc (depth t (e ∷ past))) d && q)
      go true o = rw (eqb-true s t o) (sym (and-true (ltb (depth t (e ∷ past)) d)))
      go false o = rw (other_depth s e past (of s ∙ o), k, and-false (leb (suc (depth t (e ∷ past))) d))
  gone_is t of (shared h) k = refl

  pub rows_left : (t : ℕ) → ((s : ℕ) → is_of s e ≡ eqb s t) → ((x : Alive) → deletes e x ≡ false) → makes e (depth (thread_of e) past) ≡ []
      → reference_rows (e ∷ past) ≡ wipe (by_what (is_from t (suc (depth t (e ∷ past))))) (reference_rows past)
  unfolding reference_rows
  rows_left t of none nothing =
      rw nothing
      (ap (λ (g : Made Alive → Bool). wipe (by_what (frame_gone (e ∷ past))) (wipe_first g (reference_rows past))) (fun_ext (λ x. none x.what))
      ∙ ap (wipe (by_what (frame_gone (e ∷ past)))) (wipe_first_none (reference_rows past))
      ∙ wipe_same (by_what (frame_gone past)) (by_what (frame_gone (e ∷ past))) (by_what (is_from t (suc (depth t (e ∷ past))))) (λ x. gone_is t of x.what) (reference_rows past) rows_stand)
