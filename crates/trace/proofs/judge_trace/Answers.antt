-- `trace::judge_trace` meets its contract. Assumes nothing.
use mathlib.Core.Path.{sym, ◌∙◌}
use native.Mathlib.Omega.{arith}
use Rattle.trace.proofs.Reporting.{as_long, book_short, classes_short, out_short, whole_printed}
use borrow.Author.Tests.{ltb-false}
use Rattle.trace.proofs.judge_trace.Goals as goal

pub returns-then-book-lt-WHOLE : goal.returns-then-book-lt-WHOLE
returns-then-book-lt-WHOLE c = book_short _ _ _ c.if-book-lt-WHOLE.true

pub returns-then-is_short : goal.returns-then-is_short
returns-then-is_short c = classes_short _ _ _ (omega (arith, c.if-book-lt-WHOLE.false)) (sym c.is_short.ensures ∙ c.if-is_short.true)

pub report_into-w-requires : goal.report_into-w-requires
report_into-w-requires c = (omega (arith, c.if-book-lt-WHOLE.false), ltb-false _ _ (sym c.is_short.ensures ∙ c.if-is_short.false))

pub returns-then-out-w : goal.returns-then-out-w
returns-then-out-w c = out_short _ _ _ (omega (arith, c.if-book-lt-WHOLE.false), ltb-false _ _ (sym c.is_short.ensures ∙ c.if-is_short.false)) c.report_into-w.ensures c.if-out-w.true

pub report_into-requires : goal.report_into-requires
report_into-requires c = (omega (arith, c.if-book-lt-WHOLE.false, c.report_into-w.auto.book), as_long c.report_into-w.auto.classes (ltb-false _ _ (sym c.is_short.ensures ∙ c.if-is_short.false)))

pub returns : goal.returns
returns c =
    whole_printed _ _ _ (omega (arith, c.if-book-lt-WHOLE.false), ltb-false _ _ (sym c.is_short.ensures ∙ c.if-is_short.false)) c.report_into-w.ensures (omega (arith, c.if-out-w.false))
    (record {
      reference_rows = c.report_into-w.auto.rows;
      reference_marks = c.report_into-w.auto.marks;
      pin_rows = c.report_into-w.auto.pins;
      pin_marks = c.report_into-w.auto.pinmarks;
      books = c.report_into-w.auto.book;
      class_tables = c.report_into-w.auto.classes;
    })
    c.report_into.ensures
