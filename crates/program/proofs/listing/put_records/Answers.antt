-- `program::listing::put_records` meets its contract. The loop keeps that what stands there with the records to come is all of them put. Assumes nothing.
use Prim.Native.Nat.{◌*◌, ◌-◌, ◌≤◌}
use mathlib.Core.Path.{refl, sym, ap, ◌∙◌}
use native.Mathlib.Omega.{arith}
use lib.ListN.{length}
use Rattle.numbers.specs.Writing.{put}
use Rattle.numbers.proofs.Put.{put_none}
use Rattle.report.specs.Shown.{longest_leak}
use Rattle.report.proofs.Parts.{length_parts, put_on}
use Rattle.program.proofs.Records.{shown_next, shown_none}
use Rattle.program.proofs.listing.put_records.Goals as goal

pub loop-i-init : goal.loop-i-init
loop-i-init c = (omega arith, omega arith, refl, refl)

pub put_record-at-requires : goal.put_record-at-requires
put_record-at-requires c = let l = c.loop-i.invariant in (omega (arith, c.requires.2, l.0, l.3), omega (arith, c.requires.1))

pub loop-i-preserved : goal.loop-i-preserved
loop-i-preserved c =
    let l = c.loop-i in
    let f = c.put_record-at in
    let parts = shown_next c.args.records.now l.i c.args.to (omega arith) in (
      omega (arith, f.ensures.1, l.invariant.0),
      omega (arith, length_parts parts, f.ensures.0.past, l.invariant.1),
      put_on parts f.ensures.0 ∙ l.invariant.2,
      f.auto.out ∙ l.invariant.3,
    )

pub returns : goal.returns
returns c =
    let l = c.loop-i in
    let none = shown_none c.args.records.now l.i c.args.to (omega arith) in
    let a = c.args in
    let short : l.at ≤ longest_leak * (a.to - a.from) = omega (arith, l.invariant.0) in (
      record {
        fits = omega (arith, l.invariant.1, ap length none, short, c.requires.2);
        past = omega (arith, l.invariant.1, ap length none);
        left = sym (put_none l.out l.at) ∙ ap (put l.out l.at) (sym none) ∙ l.invariant.2;
      },
      short,
    )
