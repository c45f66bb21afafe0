-- Bytes put where there is room for them. Assumes nothing.
use Prim.Native.Nat.{ℕ, ◌+◌, ◌≤◌}
use mathlib.Core.Path.{◌≡◌, ◌∙◌, subst}
use mathlib.Core.Bool.{Bool}
use mathlib.Core.List.{List}
use Rattle.std.specs.Prelude.{Option}
use native.Mathlib.Omega.{arith}
use lib.ListN.{length}
use borrow.Author.Tests.{le-leb}
use Rattle.numbers.specs.Writing.{put, Puts}
use Rattle.history.specs.Report.{end_line}

pub put_there : {d bs d' : List ℕ} {at : ℕ} {r : Option ℕ} → Puts d at bs r d' → at + length bs ≤ length d → d' ≡ put d at bs
put_there {d} {bs} {d'} {at} p h = p.left ∙ rw (le-leb (at + length bs) (length d) h)

-- the last line of a report, `w` bytes of it put
pub record Last (d : List ℕ) (at : ℕ) (bs : List ℕ) (w : ℕ) (r : Option ℕ) (d' : List ℕ) : Type 0 where
  pub width : w ≡ length bs
  pub short : w ≤ 75
  pub puts : Puts d at bs r d'

-- of what was read in the book, and the refusal's number
pub last_put : {o told : Bool} {n lines refusal k w at : ℕ} {d d' : List ℕ} {r : Option ℕ} (f : ℕ) → told ≡ o → lines ≡ n → refusal ≡ k → (w ≡ length (end_line told lines refusal f)) × (w ≤ 75)
    → Puts d at (end_line told lines refusal f) r d' → Last d at (end_line o n k f) w r d'
last_put {o} {told} {n} {lines} {refusal} {k} {w} {at} {d} {d'} {r} f eo en ek size p =
    let same : end_line told lines refusal f ≡ end_line o n k f = λ i. end_line (eo i) (en i) (ek i) f in
    subst (λ (bs : List ℕ). Last d at bs w r d') same (record { width = size.0; short = size.1; puts = p })

pub last_fits : {d bs d' : List ℕ} {w : ℕ} {r : Option ℕ} → Last d 0 bs w r d' → 75 ≤ length d → d' ≡ put d 0 bs
last_fits last room = put_there last.puts (omega (arith, last.width, last.short, room))
