-- `program::print_leaks` meets its contract. The loop keeps that the records to come are what is left to be printed. Assumes nothing.
use Prim.Native.Nat.{ℕ, ◌*◌, ◌-◌}
use mathlib.Core.Path.{◌≡◌, refl, sym, ap, subst, ◌∙◌}
use native.Mathlib.Nat.{sub-zero}
use native.Mathlib.Omega.{arith}
use lib.ListN.{length}
use borrow.Author.Rules.{rules}
use Rattle.std.specs.Prelude.{min}
use Rattle.tables.specs.Listing.{leak_numbers}
use Rattle.program.specs.declared.streams.Streams.{Streams}
use Rattle.program.specs.Progress.{buffer_size, most_leaks}
use Rattle.program.specs.Listing.{shown_from}
use Rattle.program.specs.Running.{RecordsLeft}
use Rattle.program.proofs.Finishing.{printable, good, left_from, piece_due, piece_few, rest_left, all_printed, failed_reported}
use Rattle.program.proofs.print_leaks.Goals as goal

pub loop-from-init : goal.loop-from-init
loop-from-init c =
    let none : ◌≡◌ {A = ℕ} 0 (min 0 c.args.count) = omega arith in
    (c.requires.0, refl, λ g. subst (λ (d : ℕ). RecordsLeft c.args.before c.args.records.now d (c.args.count - d)) none (subst (λ (n : ℕ). RecordsLeft c.args.before c.args.records.now 0 n) (sym (sub-zero c.args.count)) (c.requires.1 g)))

pub returns-then-has_failed : goal.returns-then-has_failed
returns-then-has_failed c = (c.loop-from.invariant.1, failed_reported c.loop-from.streams c.has_failed.ensures c.if-has_failed.true)

pub put_records-n-requires : goal.put_records-n-requires
put_records-n-requires c =
    let here = left_from c.loop-from.streams c.args.records.now c.loop-from.from c.args.count (omega arith) (c.loop-from.invariant.2 (good c.loop-from.streams c.has_failed.ensures c.if-has_failed.false)) in
    let piece = c.piece_end-to.ensures.fits in
    let long : length c.args.records.now ≡ most_leaks * leak_numbers = search rules in
    let wide : length c.loop-from.out ≡ buffer_size = search rules in
    (omega (arith, piece.0), omega (arith, piece.1, here.within, long), omega (arith, piece.2, wide))

pub print-streams-requires : goal.print-streams-requires
print-streams-requires c =
    let there = c.put_records-n.ensures in
    let size : c.put_records-n.result ≡ length (shown_from c.args.records.now c.loop-from.from (c.piece_end-to.result - c.loop-from.from)) = omega (arith, there.0.past) in
    let here = left_from c.loop-from.streams c.args.records.now c.loop-from.from c.args.count (omega arith) (c.loop-from.invariant.2 (good c.loop-from.streams c.has_failed.ensures c.if-has_failed.false)) in
    printable _ (shown_from c.args.records.now c.loop-from.from (c.piece_end-to.result - c.loop-from.from)) size there.0.left _ c.loop-from.invariant.0
    (piece_due here c.piece_end-to.ensures.fits size there.1) (piece_few here c.piece_end-to.ensures.fits size there.1)

pub loop-from-smaller : goal.loop-from-smaller
loop-from-smaller c = omega arith

pub loop-from-preserved : goal.loop-from-preserved
loop-from-preserved c =
    let there = c.put_records-n.ensures in
    let size : c.put_records-n.result ≡ length (shown_from c.args.records.now c.loop-from.from (c.piece_end-to.result - c.loop-from.from)) = omega (arith, there.0.past) in
    let here = left_from c.loop-from.streams c.args.records.now c.loop-from.from c.args.count (omega arith) (c.loop-from.invariant.2 (good c.loop-from.streams c.has_failed.ensures c.if-has_failed.false)) in
    (c.print-streams.ensures.1, ap (λ (x : Streams). x.leaks) c.print-streams.ensures.0.after ∙ c.loop-from.invariant.1, λ g. subst (λ (d : ℕ). RecordsLeft c.print-streams.result c.args.records.now d (c.args.count - d)) c.piece_end-to.ensures.last (rest_left here c.piece_end-to.ensures.fits size there.1 c.print-streams.ensures.0))

pub returns : goal.returns
returns c = (c.loop-from.invariant.1, all_printed (omega arith) c.loop-from.invariant.2)

pub returns-else-has_failed : goal.returns-else-has_failed
returns-else-has_failed c =
    let there = c.put_records-n.ensures in
    let size : c.put_records-n.result ≡ length (shown_from c.args.records.now c.loop-from.from (c.piece_end-to.result - c.loop-from.from)) = omega (arith, there.0.past) in
    let here = left_from c.loop-from.streams c.args.records.now c.loop-from.from c.args.count (omega arith) (c.loop-from.invariant.2 (good c.loop-from.streams c.has_failed.ensures c.if-has_failed.false)) in
    (ap (λ (x : Streams). x.leaks) c.print-streams.ensures.0.after ∙ c.loop-from.invariant.1, all_printed (omega (arith, c.piece_end-to.ensures.last)) (λ g. rest_left here c.piece_end-to.ensures.fits size there.1 c.print-streams.ensures.0))
