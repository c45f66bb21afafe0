-- `trace::report_into` meets its contract. Assumes nothing.
use mathlib.Core.Path.{refl, sym, ◌∙◌}
use native.Mathlib.Omega.{arith}
use Rattle.trace.proofs.Going.{going_start, few_at_end, sums_fit, going_on, ended_so, less}
use Rattle.trace.proofs.Reporting.{started, measured}
use Rattle.trace.proofs.report_into.Goals as goal

pub loop-book-init : goal.loop-book-init
loop-book-init c = (
  record { reference_rows = refl; reference_marks = refl; pin_rows = refl; pin_marks = refl; books = refl; class_tables = refl },
  refl,
  going_start (started _ c.requires c.start.ensures) refl refl refl,
)

pub slice_bounds-run_lines-count : goal.slice_bounds-run_lines-count
slice_bounds-run_lines-count c = omega (arith, c.loop-book.invariant.2.within)

pub slice_bounds-run_lines-start : goal.slice_bounds-run_lines-start
slice_bounds-run_lines-start c = omega (arith, c.loop-book.invariant.2.within)

pub slice_bounds-run_lines-end-in-loop-book : goal.slice_bounds-run_lines-end-in-loop-book
slice_bounds-run_lines-end-in-loop-book c = sym c.loop-book.invariant.1

pub with_passed-so_far-requires : goal.with_passed-so_far-requires
with_passed-so_far-requires c =
    let inv = c.loop-book.invariant in
    sums_fit _ inv.2 inv.1 c.run_lines-passed.auto.out c.run_lines-passed.ensures

pub loop-book-smaller : goal.loop-book-smaller
loop-book-smaller c =
    let inv = c.loop-book.invariant in
    less _ inv.2 inv.1 c.run_lines-passed.auto.out c.run_lines-passed.ensures c.with_passed-so_far.ensures c.in-Full.is

pub loop-book-preserved : goal.loop-book-preserved
loop-book-preserved c =
    let inv = c.loop-book.invariant in (
      record {
        reference_rows = c.run_lines-passed.auto.rows ∙ inv.0.reference_rows;
        reference_marks = c.run_lines-passed.auto.marks ∙ inv.0.reference_marks;
        pin_rows = c.run_lines-passed.auto.pins ∙ inv.0.pin_rows;
        pin_marks = c.run_lines-passed.auto.pinmarks ∙ inv.0.pin_marks;
        books = c.run_lines-passed.auto.book ∙ inv.0.books;
        class_tables = c.run_lines-passed.auto.classes ∙ inv.0.class_tables;
      },
      c.run_lines-passed.auto.out ∙ inv.1,
      going_on _ inv.2 inv.1 c.run_lines-passed.auto.out c.run_lines-passed.ensures c.with_passed-so_far.ensures c.in-Full.is,
    )

pub put_last-requires : goal.put_last-requires
put_last-requires c = let inv = c.loop-book.invariant in few_at_end (ended_so _ inv.2 inv.1 c.run_lines-passed.auto.out c.run_lines-passed.ensures c.with_passed-so_far.ensures c.in_default.not-Full)

pub returns-in_default : goal.returns-in_default
returns-in_default c = let inv = c.loop-book.invariant in measured _ c.start.ensures (ended_so _ inv.2 inv.1 c.run_lines-passed.auto.out c.run_lines-passed.ensures c.with_passed-so_far.ensures c.in_default.not-Full) c.put_last.ensures
