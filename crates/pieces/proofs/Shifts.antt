-- Laws of the unread bytes moved to the front. Assumes nothing.
use mathlib.Core.Path.{◌≡◌, ap, sym, ◌∙◌}
use mathlib.Core.List.{List}
use Prim.Native.Nat.{ℕ, ◌-◌, ◌≤◌, ◌<◌}
use native.Mathlib.Omega.{arith}
use native.Mathlib.Nat.{zero-add}
use lib.Dec.{ltb}
use lib.ListN.{length, take, drop, length-drop}
use lib.Seq.{paste, take-paste}
use borrow.Author.Tests.{lt-ltb, le-ltb}
use Rattle.lines.proofs.Tests.{or_true}
use Rattle.pieces.specs.Shifted.{shifted}

module _ (d : List ℕ) (a e : ℕ) where
  pub shifted_past : length d < e → d ≡ shifted d a e
  unfolding shifted
  shifted_past h = rw (lt-ltb (length d) e h)

  pub shifted_back : e < a → d ≡ shifted d a e
  unfolding shifted
  shifted_back h = rw (lt-ltb e a h, or_true (ltb (length d) e))

  pub shifted_in : e ≤ length d → a ≤ e → paste d 0 (drop a d) (e - a) ≡ shifted d a e
  unfolding shifted
  shifted_in h l = rw (le-ltb (length d) e h, le-ltb e a l, zero-add)

  -- the unread bytes stand at the front
  pub shifted_front : e ≤ length d → a ≤ e → take (e - a) (shifted d a e) ≡ take (e - a) (drop a d)
  shifted_front h l =
      let n = length-drop a d in
      ap (take (e - a)) (sym (shifted_in h l))
      ∙ ap (λ k. take k (paste d 0 (drop a d) (e - a))) (sym (zero-add (e - a)))
      ∙ take-paste d 0 (drop a d) (e - a) (omega arith) (omega arith)
