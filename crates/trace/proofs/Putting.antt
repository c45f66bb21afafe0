-- Bytes put at a place where there is room. Assumes nothing.
use Prim.Native.Nat.{ℕ, ◌+◌, ◌-◌, ◌≤◌, ◌<◌}
use mathlib.Core.Path.{◌≡◌, refl, sym, ap, ap₂, ◌∙◌}
use mathlib.Core.List.{List, ◌++◌}
use native.Mathlib.Decide.{dec_lt}
use native.Mathlib.Nat.{zero-add}
use native.Mathlib.Omega.{arith}
use borrow.Author.Tests.{le-leb, lt-leb}
use lib.ListN.{length, take, length-append}
use lib.Seq.{drop-drop, length-take-le}
use borrow.Rule.Slice.PartMut.{put_mid}
use Rattle.std.specs.Prelude.{Option}
use Rattle.numbers.specs.Writing.{put}
use Rattle.numbers.proofs.Put.{length_put, put_put}
use Rattle.run.proofs.Putting.{Last}
use Rattle.trace.specs.Running.{put_fitting}

module _ (d : List ℕ) (at : ℕ) (bs : List ℕ) where
  pub put_there : at + length bs ≤ length d → put_fitting d at bs ≡ put d at bs
  unfolding put_fitting
  put_there h = rw (le-leb (at + length bs) (length d) h) refl

  put_nowhere : length d < at + length bs → put_fitting d at bs ≡ d
  unfolding put_fitting
  put_nowhere h = rw (lt-leb (at + length bs) (length d) h) refl

  pub put_as_long : length (put_fitting d at bs) ≡ length d
  put_as_long = go (dec_lt (length d) (at + length bs))
    where
      go : Dec (length d < at + length bs) → length (put_fitting d at bs) ≡ length d
      go (yes h) = ap length (put_nowhere h)
      go (no h) = let k : at + length bs ≤ length d = omega (arith, h) in ap length (put_there k) ∙ length_put d at bs k

-- ---- the first n bytes of s

module _ (d : List ℕ) (at : ℕ) (s : List ℕ) (n : ℕ) (all : n ≤ length s) where
  long : length (take n s) ≡ n
  long = length-take-le n s all

  pub front_nowhere : length d < at + n → d ≡ put_fitting d at (take n s)
  front_nowhere h = sym (put_nowhere d at (take n s) (omega (arith, h, long)))

  pub front_there : {bs : List ℕ} → at + n ≤ length d → bs ≡ take n s → put_mid at ((at + n) - at) d bs ≡ put_fitting d at (take n s)
  front_there h e =
      let size : (at + n) - at ≡ length (take n s) = omega (arith, long) in
      (λ i. take at d ++ (e i ++ drop-drop (size i) at d i))
      ∙ sym (put_there d at (take n s) (omega (arith, h, long)))

-- ---- behind what was put at the front

pub put_behind : (out out1 out' xs ys : List ℕ) (n : ℕ) → length out1 ≡ length out → n ≡ length xs → (length xs ≤ length out → out1 ≡ put out 0 xs)
    → out' ≡ put_fitting out1 n ys → length (xs ++ ys) ≤ length out → out' ≡ put out 0 (xs ++ ys)
put_behind out out1 out' xs ys n l e h p fits =
    let room : length xs + length ys ≤ length out = omega (arith, fits, length-append xs ys) in
    p
    ∙ put_there out1 n ys (omega (arith, l, e, room))
    ∙ ap₂ (λ (d : List ℕ) (k : ℕ). put d k ys) (h (omega (arith, room))) (e ∙ sym (zero-add (length xs)))
    ∙ put_put out 0 xs ys (omega (arith, room))

-- ---- the last line

pub last_there : {d bs d' : List ℕ} {at w : ℕ} {r : Option ℕ} → Last d at bs w r d' → (at + w ≡ at + length bs) × (d' ≡ put_fitting d at bs)
unfolding put_fitting
last_there {at = at} last = (ap (λ (n : ℕ). at + n) last.width, last.puts.left)
