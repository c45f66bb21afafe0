-- `writer::apart::take_apart` meets its contract. Assumes nothing.
use mathlib.Core.Path.{ap, ap₂, sym, ◌∙◌}
use mathlib.Core.Bool.{Bool, false}
use mathlib.Core.List.{List, ◌∷◌}
use Prim.Native.Nat.{ℕ, ◌+◌}
use Rattle.lines.specs.declared.Event.{Event}
use Rattle.writer.specs.Apart.{taken, apart}
use Rattle.writer.proofs.Taking.{slot_list}
use borrow.Author.Rules.{rules}
use Rattle.writer.proofs.apart.take_apart.Goals as goal

pub returns-in-Enter : goal.returns-in-Enter
returns-in-Enter c =
    let a = c.args in
    let n = c.in-Enter.count in
    c.then_some.ensures
    ∙ ap₂ (λ (hs : List ℕ) (b : Bool). taken 78 (n + 2) false (c.in-Enter.thread ∷ c.in-Enter.env ∷ hs) b) (slot_list a.h (search rules)) c.are_named.ensures
    ∙ sym (ap (λ (x : Event). apart x a.h) c.in-Enter.is)
