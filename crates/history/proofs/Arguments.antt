-- After an N, the locals alive in its frame are its handles. Assumes nothing.
use Prim.Native.Nat.{ℕ, suc, ◌<◌}
use mathlib.Core.Path.{◌≡◌, sym, ap, ◌∙◌}
use mathlib.Core.Bool.{true, not, false≢true}
use mathlib.Core.List.{List, ◌∷◌, map, Memᴰ}
use native.Mathlib.Omega.{arith}
use lib.Dec.{eqb}
use lib.ListN.{length}
use borrow.Author.Tests.{eqb-true, lt-ltb}
use Rattle.words.specs.Lists.{keep, count}
use Rattle.lines.specs.Line.{N}
use Rattle.history.specs.Past.{History}
use Rattle.history.specs.Frames.{depth}
use Rattle.history.specs.Handles.{Alive, local, shared, in_frame, makes, ends, living, alive_in}
use Rattle.history.proofs.Tests.{and_left, and_right, eqb_self}
use Rattle.history.proofs.Counts.{count_append, count_map, count_all, some_member, keep_member}
use Rattle.history.proofs.Living.{frame_stands}
use Rattle.history.proofs.Acts.{enter_frames}

module _ (t env : ℕ) (hs : List ℕ) (past : History) where
  one_deeper : depth t (N t env hs ∷ past) ≡ suc (depth t past)
  unfolding depth
  one_deeper = ap length (enter_frames t env hs past)

  -- no local stands in a frame that is not there yet
  too_low : (x : Alive) → Memᴰ x (living past) → in_frame t (suc (depth t past)) x ≡ true → ⊥
  too_low (local s d h) m k =
      let own = eqb-true s t (and_left (eqb s t) (eqb d (suc (depth t past))) k) in
      let deep = eqb-true d (suc (depth t past)) (and_right (eqb s t) (eqb d (suc (depth t past))) k) in
      false≢true (sym (frame_stands past (local s d h) m) ∙ lt-ltb (depth s past) d (omega (arith, deep, ap (λ (u : ℕ). depth u past) own)))
  too_low (shared h) m k = false≢true k

  before : List Alive
  before = keep (λ (x : Alive). not (ends (N t env hs) past x)) (living past)

  none_before : count (in_frame t (suc (depth t past))) before ≡ 0
  unfolding before
  none_before = omega (arith, some)
    where
      some : 0 < count (in_frame t (suc (depth t past))) before → ⊥
      some k =
          let (x, m, i) = some_member (in_frame t (suc (depth t past))) before k in
          too_low x (keep_member (λ (y : Alive). not (ends (N t env hs) past y)) (living past) m).0 i

  all_there : count (in_frame t (suc (depth t past))) (map (local t (suc (depth t past))) hs) ≡ length hs
  all_there =
      count_map (in_frame t (suc (depth t past))) (local t (suc (depth t past))) hs
      ∙ rw (eqb_self t, eqb_self (suc (depth t past))) (count_all hs)

  pub enter_alive : alive_in t (depth t (N t env hs ∷ past)) (N t env hs ∷ past) ≡ length hs
  unfolding alive_in living makes before
  enter_alive =
      ap (λ (d : ℕ). count (in_frame t d) (living (N t env hs ∷ past))) one_deeper
      ∙ count_append (in_frame t (suc (depth t past))) (map (local t (suc (depth t past))) hs) before
      ∙ omega (arith, all_there, none_before)
