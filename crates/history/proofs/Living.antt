-- Alive is what document 01 says: an earlier line made it and no line since has ended it. Assumes nothing.
use Prim.Native.Nat.{ℕ, suc, ◌≤◌, ◌<◌}
use mathlib.Core.Path.{◌≡◌, refl, sym, ap, subst}
use mathlib.Core.Logic.{◌↔◌, ◌≢◌}
use mathlib.Core.Bool.{Bool, true, false, not, ◌&&◌, ◌||◌, false≢true}
use mathlib.Core.List.Memᴰ
use mathlib.Core.List.{List, [], ◌∷◌, ◌++◌, Memᴰ}
use native.Mathlib.Omega.{arith}
use lib.Dec.{eqb}
use lib.IntN.{pos, negsuc}
use lib.ListN.{length}
use borrow.Author.Tests.{eqb-true, eqb-false, ne_eqb, lt-ltb, le-ltb, ltb-true, ltb-false, not-true}
use Rattle.words.specs.Choice.{if_true◌then◌else◌}
use Rattle.words.specs.Lists.{keep, count}
use Rattle.facts.specs.Table.{fact_of}
use Rattle.facts.specs.Named.{PushLocalFrame, PopLocalFrame, DeleteGlobalRef, DeleteLocalRef, DeleteWeakGlobalRef}
use Rattle.facts.specs.declared.Result.{Result}
use Rattle.lines.specs.Line.{Line, N, X, C, R, A, D, Z, states, kind, is_zero}
use Rattle.history.specs.Past.{History, thread_of, is_of}
use Rattle.history.specs.Frames.{Frame, entered, pushed, frames, depth, without_pushed}
use Rattle.history.specs.Handles.{Alive, local, shared, makes, result_made, is_local, is_shared, deletes, ends, frame_gone, living}
use Rattle.history.specs.Seen.{seen, is_alive}
use Rattle.history.specs.Lives.{Makes, argument, local_result, global_result, weak_result, Ends, deletes_local, deletes_global, deletes_weak, pops, leaves, detaches, Spared, so_far, by_line, Lives, LocalLives}
use Rattle.history.proofs.Tests.{and_left, and_right, and_both, of_three, all_three, or_cases, or_right, or_neither, never_true, true_not_false, eqb_self, either}
use Rattle.history.proofs.Counts.{keep_member, member_kept, some_member, member_counts, map_member, member_map}
use Rattle.history.proofs.Threads.{own_depth, other_depth}

-- ---- what a line makes

module _ (past : History) where
  pub made_makes : (e : Line) (x : Alive) → Memᴰ x (makes e (depth (thread_of e) past)) → Makes past e x
  unfolding makes
  made_makes (N t env hs) x m =
      let (h, i, e) = map_member (local t (suc (depth t past))) hs m in
      rw e (argument t env h hs i)
  made_makes (X t r) x m = absurd (Memᴰ.not-nil m)
  made_makes (C t env f a b c n) x m = absurd (Memᴰ.not-nil m)
  made_makes (R t f (negsuc k) p) x m = absurd (Memᴰ.not-nil m)
  made_makes (R t f (pos h) p) x m = go (eqb h 0) refl (fact_of f).result refl m
    where
      go : (q : Bool) → eqb h 0 ≡ q → (k : Result) → (fact_of f).result ≡ k → Memᴰ x (if_true q then [] else result_made k t (depth t past) h)
          → Makes past (R t f (pos h) p) x
      go true z k is m = absurd (Memᴰ.not-nil m)
      go false z Result.Local is m = rw (Memᴰ.eq_of_singleton m) (local_result t f h p is (eqb-false _ _ z))
      go false z Result.Global is m = rw (Memᴰ.eq_of_singleton m) (global_result t f h p is (eqb-false _ _ z))
      go false z Result.Weak is m = rw (Memᴰ.eq_of_singleton m) (weak_result t f h p is (eqb-false _ _ z))
      go false z Result.Identity is m = absurd (Memᴰ.not-nil m)
      go false z Result.Buffer is m = absurd (Memᴰ.not-nil m)
      go false z Result.Status is m = absurd (Memᴰ.not-nil m)
      go false z Result.Nothing is m = absurd (Memᴰ.not-nil m)
  made_makes (A t env) x m = absurd (Memᴰ.not-nil m)
  made_makes (D t) x m = absurd (Memᴰ.not-nil m)
  made_makes Z x m = absurd (Memᴰ.not-nil m)
  made_makes (states s) x m = absurd (Memᴰ.not-nil m)

  pub result_makes : (t f h p : ℕ) (k : Result) → (fact_of f).result ≡ k → h ≢ 0 → makes (R t f (pos h) p) (depth t past) ≡ result_made k t (depth t past) h
  unfolding makes
  result_makes t f h p k is nz = rw (ne_eqb h 0 nz, is)

  pub makes_made : (e : Line) (x : Alive) → Makes past e x → Memᴰ x (makes e (depth (thread_of e) past))
  unfolding makes
  makes_made _ _ (argument t env h hs i) = member_map (local t (suc (depth t past))) hs i
  makes_made _ _ (local_result t f h p is nz) = rw (result_makes t f h p Result.Local is nz) (Memᴰ.head refl)
  makes_made _ _ (global_result t f h p is nz) = rw (result_makes t f h p Result.Global is nz) (Memᴰ.head refl)
  makes_made _ _ (weak_result t f h p is nz) = rw (result_makes t f h p Result.Weak is nz) (Memᴰ.head refl)

  -- ---- what a line ends

  -- a line after which a frame less is there: an X, a D, or a C of 20 over a pushed frame
  frame_left : (e : Line) (t d h : ℕ) → d ≤ depth t past → depth t (e ∷ past) < d → is_of t e ≡ true → Ends past e (local t d h)
  unfolding depth
  frame_left (N s env hs) t d h k l o = absurd (omega (arith, own_depth t (N s env hs) past o))
  frame_left (X s r) t d h k l o =
      rw (sym (eqb-true t s o)) (leaves t r d h (omega (arith, own_depth t (X s r) past o)))
  frame_left (C s env f a b c n) t d h k l o = go (eqb f PopLocalFrame) refl (frames t past) refl (own_depth t (C s env f a b c n) past o)
    where
      go : (q : Bool) → eqb f PopLocalFrame ≡ q → (fs : List Frame) → frames t past ≡ fs
          → length (frames t (C s env f a b c n ∷ past)) ≡ length (if_true q then without_pushed fs else fs) → Ends past (C s env f a b c n) (local t d h)
      go true z [] is m = absurd (omega (arith, ap length is))
      go true z (entered ∷ fs) is m = absurd (omega (arith, ap length is))
      go true z (pushed ∷ fs) is m =
          let there : d ≡ suc (length fs) = omega (arith, ap length is) in
          rw (sym (eqb-true t s o), eqb-true f PopLocalFrame z, there) (pops t env a b c h n fs is)
      go false z fs is m = absurd (omega (arith, ap length is))
  frame_left (R s f r p) t d h k l o = absurd (go (eqb f PushLocalFrame && is_zero r) (own_depth t (R s f r p) past o))
    where
      go : (q : Bool) → length (frames t (R s f r p ∷ past)) ≡ length (if_true q then pushed ∷ frames t past else frames t past) → ⊥
      go true m = omega arith
      go false m = omega arith
  frame_left (A s env) t d h k l o = absurd (omega (arith, own_depth t (A s env) past o))
  frame_left (D s) t d h k l o = rw (sym (eqb-true t s o)) (detaches t d h (omega arith))
  frame_left Z t d h k l o = absurd (false≢true o)
  frame_left (states s) t d h k l o = absurd (false≢true o)

  ended_local : (e : Line) (t d h : ℕ) → d ≤ depth t past → frame_gone (e ∷ past) (local t d h) ≡ true → Ends past e (local t d h)
  ended_local e t d h k g = go (is_of t e) refl
    where
      go : (q : Bool) → is_of t e ≡ q → Ends past e (local t d h)
      go true o = frame_left e t d h k (ltb-true (depth t (e ∷ past)) d g) o
      go false o = absurd (omega (arith, other_depth t e past o, ltb-true (depth t (e ∷ past)) d g))

  -- a C that deletes
  deleted : (e : Line) (x : Alive) → deletes e x ≡ true → Ends past e x
  unfolding deletes
  deleted (N t env hs) x h = absurd (false≢true h)
  deleted (X t r) x h = absurd (false≢true h)
  deleted (C t env f a b c n) (local s d g) h =
      of_three _ _ _ h
      (λ y.
      let (u, k, is) = all_three _ _ _ y in
      rw (eqb-true f DeleteLocalRef u, eqb-true s t (and_left (eqb s t) (eqb g a) is), eqb-true g a (and_right (eqb s t) (eqb g a) is))
      (deletes_local t env a b c d n (eqb-true _ _ k)))
      (λ y. absurd (false≢true (and_right (eqb f DeleteGlobalRef && eqb (kind a) 2) false y)))
      (λ y. absurd (false≢true (and_right (eqb f DeleteWeakGlobalRef && eqb (kind a) 3) false y)))
  deleted (C t env f a b c n) (shared g) h =
      of_three (eqb f DeleteLocalRef && eqb (kind a) 1 && false) (eqb f DeleteGlobalRef && eqb (kind a) 2 && eqb g a) (eqb f DeleteWeakGlobalRef && eqb (kind a) 3 && eqb g a) h
      (λ y. absurd (false≢true (and_right (eqb f DeleteLocalRef && eqb (kind a) 1) false y)))
      (λ y.
      let (u, k, is) = all_three _ _ _ y in
      rw (eqb-true f DeleteGlobalRef u, eqb-true g a is) (deletes_global t env a b c n (eqb-true (kind a) 2 k)))
      (λ y.
      let (u, k, is) = all_three _ _ _ y in
      rw (eqb-true f DeleteWeakGlobalRef u, eqb-true g a is) (deletes_weak t env a b c n (eqb-true (kind a) 3 k)))
  deleted (R t f r p) x h = absurd (false≢true h)
  deleted (A t env) x h = absurd (false≢true h)
  deleted (D t) x h = absurd (false≢true h)
  deleted Z x h = absurd (false≢true h)
  deleted (states s) x h = absurd (false≢true h)

  -- of a handle whose frame is there
  ended : (e : Line) (x : Alive) → frame_gone past x ≡ false → ends e past x ≡ true → Ends past e x
  unfolding ends
  ended e (local t d h) k g =
      either (or_cases (deletes e (local t d h)) (frame_gone (e ∷ past) (local t d h)) g) (deleted e (local t d h))
      (ended_local e t d h (ltb-false _ _ k))
  ended e (shared h) k g = either (or_cases _ _ g) (deleted e (shared h)) (λ y. absurd (false≢true y))

  pub ends_it : (e : Line) (x : Alive) → Ends past e x → ends e past x ≡ true
  unfolding ends deletes depth
  ends_it _ _ (deletes_local t env a b c d n k) = rw (k, eqb_self t, eqb_self a)
  ends_it _ _ (deletes_global t env a b c n k) = rw (k, eqb_self)
  ends_it _ _ (deletes_weak t env a b c n k) = rw (k, eqb_self)
  ends_it _ _ (pops t env a b c h n below is) =
      or_right (deletes (C t env PopLocalFrame a b c n) (local t (suc (length below)) h)) (frame_gone (C t env PopLocalFrame a b c n ∷ past) (local t (suc (length below)) h))
      (lt-ltb (depth t (C t env PopLocalFrame a b c n ∷ past)) (suc (length below))
      (omega (arith, own_depth t (C t env PopLocalFrame a b c n) past (eqb_self t), ap (λ (fs : List Frame). length (without_pushed fs)) is)))
  ends_it _ _ (detaches t d h l) = lt-ltb (depth t (D t ∷ past)) d (omega (arith, own_depth t (D t) past (eqb_self t)))
  ends_it _ _ (leaves t r d h k) = lt-ltb (depth t (X t r ∷ past)) d (omega (arith, own_depth t (X t r) past (eqb_self t)))

  -- ---- the frame of what is made is there

  there : (e : Line) (x : Alive) → Makes past e x → frame_gone (e ∷ past) x ≡ false
  unfolding depth
  there _ _ (argument t env h hs i) = le-ltb (depth t (N t env hs ∷ past)) (suc (depth t past)) (omega (arith, own_depth t (N t env hs) past (eqb_self t)))
  there _ _ (local_result t f h p is nz) =
      le-ltb (depth t (R t f (pos h) p ∷ past)) (depth t past) (go (eqb f PushLocalFrame && eqb h 0) (own_depth t (R t f (pos h) p) past (eqb_self t)))
    where
      go : (q : Bool) → length (frames t (R t f (pos h) p ∷ past)) ≡ length (if_true q then pushed ∷ frames t past else frames t past)
          → length (frames t past) ≤ length (frames t (R t f (pos h) p ∷ past))
      go true m = omega arith
      go false m = omega arith
  there _ _ (global_result t f h p is nz) = refl
  there _ _ (weak_result t f h p is nz) = refl

-- every local alive stands in a frame that is there
pub frame_stands : (past : History) (x : Alive) → Memᴰ x (living past) → frame_gone past x ≡ false
unfolding living ends
frame_stands [] x m = absurd (Memᴰ.not-nil m)
frame_stands (e ∷ past) x m =
    either (Memᴰ.append_cases (makes e (depth (thread_of e) past)) m)
    (λ h. there past e x (made_makes past e x h))
    (λ h. (or_neither (deletes e x) (frame_gone (e ∷ past) x) (not-true (deletes e x || frame_gone (e ∷ past) x) (keep_member (λ (y : Alive). not (ends e past y)) (living past) h).1)).1)

-- ---- alive

-- what a line did not make was alive before it
pub unless_made : (e : Line) (past : History) (x : Alive) → (Makes past e x → ⊥) → Memᴰ x (living (e ∷ past)) → Memᴰ x (living past)
unfolding living
unless_made e past x not_so m =
    either (Memᴰ.append_cases (makes e (depth (thread_of e) past)) m)
    (λ h. absurd (not_so (made_makes past e x h)))
    (λ h. (keep_member (λ (y : Alive). not (ends e past y)) (living past) h).0)

-- what a line does not end lives on
unfoldable pub lives_on : (e : Line) (past : History) (x : Alive) → ¬ Ends past e x → Lives x past → Lives x (e ∷ past)
lives_on e past x d k =
    record {
      newer = e ∷ k.newer;
      maker = k.maker;
      older = k.older;
      split = ap (λ (h : History). e ∷ h) k.split;
      made = k.made;
      spared = by_line e k.newer (subst (λ (h : History). ¬ Ends h e x) k.split d) k.spared;
    }

alive_lives : (past : History) (x : Alive) → Memᴰ x (living past) → Lives x past
unfolding living
alive_lives [] x m = absurd (Memᴰ.not-nil m)
alive_lives (e ∷ past) x m =
    either (Memᴰ.append_cases (makes e (depth (thread_of e) past)) m)
    (λ h. record { newer = []; maker = e; older = past; split = refl; made = made_makes past e x h; spared = so_far })
    (λ h.
    let (i, k) = keep_member (λ (y : Alive). not (ends e past y)) (living past) h in
    lives_on e past x (λ d. true_not_false _ (ends_it past e x d) (not-true _ k)) (alive_lives past x i))

lives_alive : (x : Alive) (e : Line) (older newer : History) → Makes older e x → Spared x (e ∷ older) newer
    → Memᴰ x (living (newer ++ (e ∷ older)))
unfolding living
lives_alive x e older _ m so_far =
    Memᴰ.append_left (keep (λ (y : Alive). not (ends e older y)) (living older)) (makes_made older e x m)
lives_alive x e older _ m (by_line n newer s k) = go (lives_alive x e older newer m k)
  where
    go : Memᴰ x (living (newer ++ (e ∷ older))) → Memᴰ x (living (n ∷ (newer ++ (e ∷ older))))
    go i =
        Memᴰ.append_right (makes n (depth (thread_of n) (newer ++ (e ∷ older))))
        (member_kept (λ (y : Alive). not (ends n (newer ++ (e ∷ older)) y)) (living (newer ++ (e ∷ older))) i
        (ap not (never_true (ends n (newer ++ (e ∷ older)) x) (λ d. s (ended (newer ++ (e ∷ older)) n x (frame_stands (newer ++ (e ∷ older)) x i) d)))))

-- alive: an earlier line made it and no line since has ended it
pub living_are : (past : History) (x : Alive) → Memᴰ x (living past) ↔ Lives x past
living_are past x = (alive_lives past x, λ k. rw k.split (lives_alive x k.maker k.older k.newer k.made k.spared))

-- a local, by its thread
pub local_alive : (past : History) (t h : ℕ) → (is_alive (is_local t h) (seen past) ≡ true) ↔ LocalLives t h past
unfolding seen
local_alive past t h = (
  λ e. of_member (some_member (is_local t h) (living past) (ltb-true _ _ e)),
  λ k.
      lt-ltb 0 (count (is_local t h) (living past))
      (member_counts (is_local t h) (living past) (local t k.frame h) ((living_are past (local t k.frame h)).1 k.lives) (and_both (eqb t t) (eqb h h) (eqb_self t) (eqb_self h))),
)
  where
    of_member : (x : Alive) × Memᴰ x (living past) × (is_local t h x ≡ true) → LocalLives t h past
    of_member (local s d g, m, is) =
        record {
          frame = d;
          lives =
              subst (λ (u : ℕ). Lives (local u d h) past) (eqb-true _ _ (and_left _ _ is))
              (subst (λ (u : ℕ). Lives (local s d u) past) (eqb-true g h (and_right (eqb s t) (eqb g h) is)) ((living_are past (local s d g)).0 m));
        }
    of_member (shared g, m, is) = absurd (false≢true is)

-- a global, a weak
pub shared_alive : (past : History) (h : ℕ) → (is_alive (is_shared h) (seen past) ≡ true) ↔ Lives (shared h) past
unfolding seen
shared_alive past h = (
  λ e. of_member (some_member (is_shared h) (living past) (ltb-true _ _ e)),
  λ k. lt-ltb 0 (count (is_shared h) (living past)) (member_counts (is_shared h) (living past) (shared h) ((living_are past (shared h)).1 k) (eqb_self h)),
)
  where
    of_member : (x : Alive) × Memᴰ x (living past) × (is_shared h x ≡ true) → Lives (shared h) past
    of_member (local s d g, m, is) = absurd (false≢true is)
    of_member (shared g, m, is) = subst (λ (u : ℕ). Lives (shared u) past) (eqb-true g h is) ((living_are past (shared g)).0 m)
