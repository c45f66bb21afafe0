-- That the promises of the guides of lent rows are tight. Assumes nothing.
use Prim.Native.Nat.{ℕ}
use mathlib.Core.Path.{◌≡◌}
use mathlib.Core.List.{List}
use Rattle.guide.proofs as guide
use Rattle.guide.specs.contracts as of_guide
use Rattle.tight.specs.Tight.{Given, given, Tight}
use Rattle.tight.proofs.Shapes.{by, by_reply, by_slice}

-- rows and marks are lent to be read, and what is left in the guide is said
by_guide : {Reply A B Rest : Type 0} {G : List ℕ} (x y : Given Reply (A × (B × (List ℕ × Rest)))) → x.left.1.1.0 ≡ G → y.left.1.1.0 ≡ G
    → x ≡ given x.reply (x.left.0, (x.left.1.0, (y.left.1.1.0, x.left.1.1.1)))
by_guide x y = by (λ s. given x.reply (x.left.0, (x.left.1.0, (s, x.left.1.1.1))))

pub references_find_tight : Tight of_guide.references.find.ended guide.references.find.Reads.Asked guide.references.find.Reads.Learnt
references_find_tight κs args = (tt, by_reply)

pub references_note_tight : Tight of_guide.references.note.ended guide.references.note.Reads.Asked guide.references.note.Reads.Learnt
references_note_tight κs args = (tt, by_guide)

pub references_forget_tight : Tight of_guide.references.forget.ended guide.references.forget.Reads.Asked guide.references.forget.Reads.Learnt
references_forget_tight κs args = (tt, by_guide)

pub references_held_tight : Tight of_guide.references.held.ended guide.references.held.Reads.Asked guide.references.held.Reads.Learnt
references_held_tight κs args = (tt, by_reply)

pub references_words_from_tight : Tight of_guide.references.words_from.ended guide.references.words_from.Reads.Asked guide.references.words_from.Reads.Learnt
references_words_from_tight κs args = (tt, by_reply)

pub references_marks_from_tight : Tight of_guide.references.marks_from.ended guide.references.marks_from.Reads.Asked guide.references.marks_from.Reads.Learnt
references_marks_from_tight κs args = (tt, by_reply)

pub references_clear_from_tight : Tight of_guide.references.clear_from.ended guide.references.clear_from.Reads.Asked guide.references.clear_from.Reads.Learnt
references_clear_from_tight κs args = (tt, by_slice)

pub references_used_tight : Tight of_guide.references.used.ended guide.references.used.Reads.Asked guide.references.used.Reads.Learnt
references_used_tight κs args = (tt, by_reply)

pub references_raise_tight : Tight of_guide.references.raise.ended guide.references.raise.Reads.Asked guide.references.raise.Reads.Learnt
references_raise_tight κs args = (tt, by_slice)

pub references_lowest_free_tight : Tight of_guide.references.lowest_free.ended guide.references.lowest_free.Reads.Asked guide.references.lowest_free.Reads.Learnt
references_lowest_free_tight κs args = (tt, by_reply)

pub references_fill_tight : Tight of_guide.references.fill.ended guide.references.fill.Reads.Asked guide.references.fill.Reads.Learnt
references_fill_tight κs args = (tt, by_guide)

pub pins_find_tight : Tight of_guide.pins.find.ended guide.pins.find.Reads.Asked guide.pins.find.Reads.Learnt
pins_find_tight κs args = (tt, by_reply)

pub pins_note_tight : Tight of_guide.pins.note.ended guide.pins.note.Reads.Asked guide.pins.note.Reads.Learnt
pins_note_tight κs args = (tt, by_guide)

pub pins_forget_tight : Tight of_guide.pins.forget.ended guide.pins.forget.Reads.Asked guide.pins.forget.Reads.Learnt
pins_forget_tight κs args = (tt, by_guide)

pub pins_held_tight : Tight of_guide.pins.held.ended guide.pins.held.Reads.Asked guide.pins.held.Reads.Learnt
pins_held_tight κs args = (tt, by_reply)

pub pins_fill_tight : Tight of_guide.pins.fill.ended guide.pins.fill.Reads.Asked guide.pins.fill.Reads.Learnt
pins_fill_tight κs args = (tt, by_guide)
