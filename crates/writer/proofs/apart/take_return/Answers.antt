-- `writer::apart::take_return` meets its contract. Assumes nothing.
use mathlib.Core.Path.{ap, ap₂, sym, ◌∙◌}
use mathlib.Core.Bool.{Bool, false, ◌&&◌}
use mathlib.Core.List.{[], ◌∷◌}
use Prim.Native.Nat.{ℕ}
use lib.Dec.{eqb}
use lib.IntN.{nat_abs}
use mir.Syntax.{w32}
use mir.Facts.{to_z-of_z}
use Rattle.numbers.specs.Signed.{is_negative}
use Rattle.writer.specs.Apart.{taken, apart_return}
use Rattle.writer.proofs.Taking.{zero_size}
use Rattle.writer.proofs.apart.take_return.Goals as goal

pub returns-then-gives_status : goal.returns-then-gives_status
returns-then-gives_status c =
    unfold apart_return in let a = c.args in
    let z = to_z-of_z {w = w32} c.ranges.status in
    rw (sym c.gives_status.ensures ∙ c.if-gives_status.true)
    (c.then_some.ensures ∙ ap₂ (λ (m : Bool) (n : ℕ). taken 82 4 m (a.thread ∷ a.function ∷ n ∷ a.pending ∷ 0 ∷ 0 ∷ 0 ∷ 0 ∷ 0 ∷ 0 ∷ []) (eqb a.res 0 && a.empty))
    (c.is_negative.ensures ∙ ap is_negative z) (c.size_of-size.ensures ∙ ap nat_abs z))

pub returns : goal.returns
returns c =
    unfold apart_return in let a = c.args in
    let z = to_z-of_z {w = w32} c.ranges.status in
    rw (sym c.gives_status.ensures ∙ c.if-gives_status.false)
    (c.then_some-2.ensures ∙ ap (λ (b : Bool). taken 82 4 false (a.thread ∷ a.function ∷ a.res ∷ a.pending ∷ 0 ∷ 0 ∷ 0 ∷ 0 ∷ 0 ∷ 0 ∷ []) (b && a.empty))
    (ap (λ (n : ℕ). eqb n 0) (c.size_of.ensures ∙ ap nat_abs z) ∙ zero_size a.status))
