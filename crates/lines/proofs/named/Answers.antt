-- `lines::named` meets its contract. The loop keeps that the slots hold the handles so far. Assumes nothing.
use mathlib.Core.Path.{◌≡◌, ap, ◌∙◌}
use mathlib.Core.List.{List}
use Prim.Native.Nat.{ℕ, ◌+◌, ◌-◌, ◌<◌}
use native.Mathlib.Omega.{arith}
use lib.ListN.{get_or, set, take, length-set}
use Rattle.lines.specs.Events.{padded}
use Rattle.lines.specs.Sizes.{named}
use Rattle.lines.proofs.SlotLaws.{named_few, named_more, named_all, named_at, slot_put, slots_put}
use Rattle.lines.proofs.named.Goals as goal

pub loop-i-preserved : goal.loop-i-preserved
loop-i-preserved c =
    let j = c.loop-i.invariant in
    let a = c.args in
    let i = c.loop-i.i in
    let low = c.loop-i.auto.i in
    let test = c.loop-i-test.true in
    let high = c.requires.1 in
    let e : i - 2 + 2 ≡ i = omega arith in
    let l : i - 2 < 8 = omega arith in
    let k : i - 2 + 2 < a.n = omega arith in
    let m : i + 1 - 2 ≡ i - 2 + 1 = omega arith in (
      j.0,
      simp length-set j.1,
      omega arith,
      ap (λ (h : List ℕ). set h (i - 2) (get_or a.v i 0)) j.3
          ∙ slot_put (named a.n a.v) (i - 2) (named_more a.n a.v j.0 (i - 2) l k) (named_few a.n a.v j.0)
          (ap (λ (p : ℕ). get_or a.v p 0) (let s : i ≡ i - 2 + 2 = omega arith in s) ∙ named_at a.n a.v j.0 (i - 2) l k)
          ∙ ap (λ (p : ℕ). padded (take p (named a.n a.v))) (let s : i - 2 + 1 ≡ i + 1 - 2 = omega arith in s),
    )

pub returns : goal.returns
returns c =
    let j = c.loop-i.invariant in
    let a = c.args in
    let i = c.loop-i.i in
    let test = c.loop-i-test.false in
    let low = c.loop-i.auto.i in
    j.3 ∙ slots_put (named a.n a.v) (i - 2) (named_all a.n a.v j.0 (i - 2) (omega arith))
