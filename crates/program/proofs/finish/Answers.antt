-- `program::finish` meets its contract. Assumes nothing.
use Prim.Native.Nat.{ℕ}
use mathlib.Core.Path.{refl, ap, subst, ◌∙◌}
use native.Mathlib.Omega.{arith}
use Rattle.std.specs.Prelude.{Some}
use Rattle.program.specs.declared.Why.{Why}
use Rattle.program.specs.Printing.{HasPrinted}
use Rattle.program.specs.Running.{last_line, with_last, without}
use Rattle.program.proofs.Finishing.{printable}
use Rattle.program.proofs.Turning.{not_judged}
use Rattle.program.proofs.finish.Goals as goal

pub returns-in-Failed : goal.returns-in-Failed
returns-in-Failed c = (without (not_judged (c.requires.0 ∙ ap (λ (w : Why). Some w) c.in-Failed.is)) refl, c.requires.2)

pub put_last-n-requires : goal.put_last-n-requires
put_last-n-requires c = let pre = c.requires.1 in (pre.lines, (pre.last (c.requires.0 ∙ ap (λ (w : Why). Some w) c.in-Judged.is)).findings)

pub print-requires : goal.print-requires
print-requires c =
    let last = c.requires.1.last (c.requires.0 ∙ ap (λ (w : Why). Some w) c.in-Judged.is) in
    let there = c.put_last-n.ensures in
    printable _ (last_line c.args.book.now c.args.run) there.0 there.2 _ c.requires.2 last.due (record { read = last.streams.read; printed = omega (arith, last.streams.printed, there.1) })

pub returns-in-Judged : goal.returns-in-Judged
returns-in-Judged c =
    let there = c.put_last-n.ensures in (
      with_last (c.requires.0 ∙ ap (λ (w : Why). Some w) c.in-Judged.is) (omega (arith, there.0, there.1)) (subst (λ (n : ℕ). HasPrinted c.args.run.streams n c.print.result) there.0 c.print.ensures.0),
      c.print.ensures.1,
    )
