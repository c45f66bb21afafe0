-- After an R that makes a local, its frame holds one more. Assumes nothing.
use Prim.Native.Nat.{ℕ, suc}
use mathlib.Core.Path.{◌≡◌, ap, ◌∙◌}
use mathlib.Core.Logic.{◌≢◌}
use mathlib.Core.Bool.{true, not, false≢true}
use mathlib.Core.List.{◌∷◌}
use native.Mathlib.Omega.{arith}
use lib.Dec.{eqb, ltb}
use lib.IntN.{pos}
use lib.ListN.{length}
use borrow.Author.Tests.{eqb-true, ne_eqb, le-ltb}
use Rattle.words.specs.Lists.{count}
use Rattle.facts.specs.Table.{fact_of}
use Rattle.facts.specs.declared.Result.{Result}
use Rattle.lines.specs.Line.{R}
use Rattle.history.specs.Past.{History}
use Rattle.history.specs.Frames.{depth}
use Rattle.history.specs.Handles.{Alive, local, shared, in_frame, deletes, ends, living, alive_in}
use Rattle.history.proofs.Tests.{and_left, and_right, eqb_self}
use Rattle.history.proofs.Counts.{count_kept}
use Rattle.history.proofs.Living.{result_makes}
use Rattle.history.proofs.Acts.{other_status_frames}

module _ (t f h p : ℕ) (past : History) (is : (fact_of f).result ≡ Result.Local) (nz : h ≢ 0) where
  pub same_depth : depth t (R t f (pos h) p ∷ past) ≡ depth t past
  unfolding depth
  same_depth = ap length (other_status_frames t f p (pos h) past (ne_eqb h 0 nz))

  -- nothing of the top frame ends
  stays : (y : Alive) → in_frame t (depth t past) y ≡ true → not (ends (R t f (pos h) p) past y) ≡ true
  unfolding ends deletes
  stays (local s d g) k =
      ap not
      (ap (λ (u : ℕ). ltb (depth u (R t f (pos h) p ∷ past)) d) (eqb-true _ _ (and_left _ _ k))
      ∙ le-ltb (depth t (R t f (pos h) p ∷ past)) d (omega (arith, same_depth, eqb-true d (depth t past) (and_right (eqb s t) (eqb d (depth t past)) k))))
  stays (shared g) k = absurd (false≢true k)

  pub one_more : alive_in t (depth t (R t f (pos h) p ∷ past)) (R t f (pos h) p ∷ past) ≡ suc (alive_in t (depth t past) past)
  unfolding alive_in living
  one_more =
      ap (λ (d : ℕ). count (in_frame t d) (living (R t f (pos h) p ∷ past))) same_depth
      ∙ rw (result_makes past t f h p Result.Local is nz, eqb_self t, eqb_self (depth t past))
      (ap suc (count_kept (in_frame t (depth t past)) (λ (y : Alive). not (ends (R t f (pos h) p) past y)) stays (living past)))
