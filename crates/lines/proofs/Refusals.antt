-- The reader refuses by 1, 2 or 3 and by no other number. Assumes nothing.
use mathlib.Core.Path.{◌≡◌, subst}
use mathlib.Core.Bool.{Bool, true, false, not, ◌||◌}
use mathlib.Core.List.{List, [], ◌∷◌}
use Rattle.std.specs.Prelude.{Option, None, Some}
use Prim.Native.Nat.{ℕ, suc, ◌-◌, ◌≤◌}
use native.Mathlib.Omega.{arith}
use lib.Dec.{eqb, ltb}
use lib.IntN.{ℤ}
use lib.ListN.{length, get_or, take}
use Rattle.words.specs.Choice.{if_true◌then◌else◌, within}
use Rattle.words.specs.Lists.{any}
use Rattle.words.specs.Text.{line_feed}
use Rattle.numbers.specs.Signed.{is_negative}
use Rattle.lines.specs.Line.{is_allowed, longest}
use Rattle.lines.specs.Forms.{Form, form_of}
use Rattle.lines.specs.Reading.{Read, says, refused, fields, numbers, without, in_form, line_of, if_numbers, of_fields, read}

abbrev Low : Read → Type 0
Low (says e) = Unit
Low (refused k) = (1 ≤ k) × (k ≤ 3)

if_low : (t : Bool) (x y : Read) → Low x → Low y → Low (if_true t then x else y)
if_low true x y a b = a
if_low false x y a b = b

two : Low (refused 2)
two = (omega arith, omega arith)

three : Low (refused 3)
three = (omega arith, omega arith)

form_low : (f : Form) (ns : List ℤ) → Low (in_form f ns)
form_low f ns =
    if_low (not (within f.least f.most (length ns))) (refused 2) _ two
    (if_low (any is_negative (without f.signed ns)) (refused 3) _ three
    (if_low (is_allowed (f.line ns)) (says (f.line ns)) (refused 3) tt three))

numbers_low : (b : ℕ) (o : Option (List ℤ)) → Low (if_numbers b o)
unfolding line_of
numbers_low b None = two
numbers_low b (Some ns) = form_low (form_of b) ns

of_low : (ws : List (List ℕ)) → Low (of_fields ws)
unfolding of_fields
of_low [] = two
of_low ([] ∷ ws) = two
of_low ((b ∷ []) ∷ ws) = numbers_low b (numbers ws)
of_low ((b ∷ x ∷ xs) ∷ ws) = two

read_low : (bs : List ℕ) → Low (read bs)
unfolding read
read_low bs =
    if_low (eqb (length bs) 0 || ltb (suc longest) (length bs) || not (eqb (get_or bs (length bs - 1) 0) line_feed))
    (refused 1) (of_fields (fields (take (length bs - 1) bs))) (omega arith, omega arith) (of_low (fields (take (length bs - 1) bs)))

pub refused_by_number : (bs : List ℕ) (k : ℕ) → read bs ≡ refused k → (1 ≤ k) × (k ≤ 3)
refused_by_number bs k h = subst Low h (read_low bs)
