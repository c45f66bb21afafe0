-- `tables::kept::end_guided` meets its contract; the invariant: the rows of the words before w that pass are ended. Assumes nothing.
use mathlib.Core.Path.{refl, ◌∙◌}
use native.Mathlib.Omega.{arith}
use Rattle.rows.specs.References.{from_frame, references}
use Rattle.rows.specs.Table.{room}
use Rattle.rows.proofs.TableLaws.{ended_last}
use Rattle.guide.specs.Masks.{word_bit, mark_bit}
use Rattle.tables.proofs.Ending.{words_unshown, marks_unshown, word_first, word_next, last_cleared}
use Rattle.tables.proofs.Shown.{unshown_still}
use Rattle.tables.proofs.kept.end_guided.Goals as goal

pub next_shown-w-requires : goal.next_shown-w-requires
next_shown-w-requires c = unfold room in (omega arith, omega arith)

pub loop-w-init : goal.loop-w-init
loop-w-init c = (c.next_shown-w.ensures.1, refl, refl, refl, λ guides. (word_first _ _ _ _ _ (words_unshown _ _ _ _ guides _ c.words_from-shown.ensures) c.room-n.ensures _ c.next_shown-w.ensures.1 c.next_shown-w.ensures.2, guides))

pub end_shown-requires : goal.end_shown-requires
end_shown-requires c = (unfold room in omega arith, omega arith)

pub next_shown-w-requires-in-loop-w : goal.next_shown-w-requires-in-loop-w
next_shown-w-requires-in-loop-w c = (omega arith, unfold room in omega arith)

pub loop-w-preserved : goal.loop-w-preserved
loop-w-preserved c =
    let inv = c.loop-w.invariant in (
      c.next_shown-w-in-loop-w.ensures.1,
      c.end_shown.auto.rows ∙ inv.1,
      c.end_shown.auto.marks ∙ inv.2,
      c.end_shown.auto.guide ∙ inv.3,
      λ guides. (
        word_next _ _ _ _ _ (words_unshown _ _ _ _ guides _ c.words_from-shown.ensures) c.room-n.ensures _ _ _ _ (inv.4 guides).0 (c.end_shown.ensures.left (unshown_still _ _ mark_bit _ _ _ _ _ (marks_unshown _ _ _ _ guides _ c.marks_from-own.ensures) (inv.4 guides).0) (unshown_still _ _ word_bit _ _ _ _ _ (words_unshown _ _ _ _ guides _ c.words_from-shown.ensures) (inv.4 guides).0)) (omega arith) c.next_shown-w-in-loop-w.ensures.0 c.next_shown-w-in-loop-w.ensures.1 c.next_shown-w-in-loop-w.ensures.2,
        c.end_shown.ensures.guided (inv.4 guides).1,
      ),
    )

pub end_shown-requires-2 : goal.end_shown-requires-2
end_shown-requires-2 c = (unfold room in omega arith, omega arith)

pub returns-then-t-le16 : goal.returns-then-t-le16
returns-then-t-le16 c = let inv = c.loop-w.invariant in record { left = λ guides. ended_last references (from_frame _ _) _ _ _ _ _ c.room-n.ensures inv.0 c.loop-w-test.false (inv.4 guides).0 (c.end_shown-2.ensures.left (unshown_still _ _ mark_bit _ _ _ _ _ (marks_unshown _ _ _ _ guides _ c.marks_from-own.ensures) (inv.4 guides).0) (unshown_still _ _ word_bit _ _ _ _ _ (words_unshown _ _ _ _ guides _ c.words_from-shown.ensures) (inv.4 guides).0)); guided = λ guides. last_cleared _ _ _ _ _ _ _ _ _ c.room-n.ensures inv.0 c.loop-w-test.false (inv.4 guides).0 (c.end_shown-2.ensures.left (unshown_still _ _ mark_bit _ _ _ _ _ (marks_unshown _ _ _ _ guides _ c.marks_from-own.ensures) (inv.4 guides).0) (unshown_still _ _ word_bit _ _ _ _ _ (words_unshown _ _ _ _ guides _ c.words_from-shown.ensures) (inv.4 guides).0)) (c.end_shown-2.ensures.guided (inv.4 guides).1) c.if-t-le16.true c.clear_from.ensures }

pub returns-else-t-le16 : goal.returns-else-t-le16
returns-else-t-le16 c = let inv = c.loop-w.invariant in record { left = λ guides. ended_last references (from_frame _ _) _ _ _ _ _ c.room-n.ensures inv.0 c.loop-w-test.false (inv.4 guides).0 (c.end_shown-2.ensures.left (unshown_still _ _ mark_bit _ _ _ _ _ (marks_unshown _ _ _ _ guides _ c.marks_from-own.ensures) (inv.4 guides).0) (unshown_still _ _ word_bit _ _ _ _ _ (words_unshown _ _ _ _ guides _ c.words_from-shown.ensures) (inv.4 guides).0)); guided = λ guides. c.end_shown-2.ensures.guided (inv.4 guides).1 }
