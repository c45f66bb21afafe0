-- From what a promise says of two outcomes of a call, to that they are one: a law for each shape of promise. Assumes nothing.
-- Where a parameter is not lent to be written it leaves nothing, here x's: so the right-hand side of a law is y itself at each function that cites the law.
use Prim.Native.Nat.{ℕ}
use mathlib.Core.Path.{◌≡◌, refl, sym, ap, ap₂, ◌∙◌}
use mathlib.Core.List.{List, [], ◌∷◌}
use native.Mathlib.Omega.{arith}
use lib.ListN.{length}
use Rattle.std.specs.Prelude.{Option}
use Rattle.numbers.specs.Writing.{Puts}
use Rattle.rows.specs.Table.{Table, table}
use Rattle.tables.specs.Tables.{Tables, tables}
use Rattle.tables.specs.declared.Lent.{Lent}
use Rattle.tables.specs.Lent.{tables_of, Same, Unguided}
use Rattle.answers.specs.Answer.{Answer}
use Rattle.events.specs.Outcome.{Outcome, leaves}
use Rattle.tight.specs.Tight.{Given, given, held_of}

-- a whole that is made of one part
pub by : {Part Whole : Type 0} (make : Part → Whole) {v a b : Part} → a ≡ v → b ≡ v → make a ≡ make b
by make p q = ap make (p ∙ sym q)

-- and of two
pub by_two : {A B Whole : Type 0} (make : A → B → Whole) {v a c : A} {w b d : B} → (a ≡ v) × (b ≡ w) → (c ≡ v) × (d ≡ w) → make a b ≡ make c d
by_two make p q = ap₂ make (p.0 ∙ sym q.0) (p.1 ∙ sym q.1)

-- ---- the reply is said

pub by_reply : {Reply Left : Type 0} {v : Reply} (x y : Given Reply Left) → x.reply ≡ v → y.reply ≡ v → x ≡ given y.reply x.left
by_reply x y = by (λ r. given r x.left)

-- and something besides, as that it is not large
pub by_reply_first : {Reply Left : Type 0} {v : Reply} (x y : Given Reply Left) {P Q : Type 0} → (x.reply ≡ v) × P → (y.reply ≡ v) × Q → x ≡ given y.reply x.left
by_reply_first x y p q = by_reply x y p.0 q.0

-- ---- what is left in the first slice is said

pub by_slice : {Reply Slice Rest : Type 0} {w : Slice} (x y : Given Reply (Slice × Rest)) → x.left.0 ≡ w → y.left.0 ≡ w
    → x ≡ given x.reply (y.left.0, x.left.1)
by_slice x y = by (λ s. given x.reply (s, x.left.1))

pub by_reply_and_slice : {Reply Slice Rest : Type 0} {v : Reply} {w : Slice} (x y : Given Reply (Slice × Rest))
    → (x.reply ≡ v) × (x.left.0 ≡ w) → (y.reply ≡ v) × (y.left.0 ≡ w) → x ≡ given y.reply (y.left.0, x.left.1)
by_reply_and_slice x y = by_two (λ r s. given r (s, x.left.1))

pub by_puts : {Rest : Type 0} {d bytes : List ℕ} {at : ℕ} (x y : Given (Option ℕ) (List ℕ × Rest))
    → Puts d at bytes x.reply x.left.0 → Puts d at bytes y.reply y.left.0 → x ≡ given y.reply (y.left.0, x.left.1)
by_puts x y p q = by_reply_and_slice x y (p.reply, p.left) (q.reply, q.left)

-- ---- what is left in rows and marks is said

abbrev pub with_table : {Rest : Type 0} → Table → Rest → List ℕ × (List ℕ × Rest)
with_table t rest = (t.rows, (t.marks, rest))

abbrev pub with_rows_and_book : {Rest : Type 0} → Tables → Rest → List ℕ × (List ℕ × (List ℕ × (List ℕ × (List ℕ × Rest))))
with_rows_and_book T rest = with_table T.references (with_table T.pins (T.book, rest))

abbrev pub with_tables : {Rest : Type 0} → Tables → Rest → List ℕ × (List ℕ × (List ℕ × (List ℕ × (List ℕ × (List ℕ × Rest)))))
with_tables T rest = with_rows_and_book T (T.classes, rest)

pub by_table : {Reply Rest : Type 0} {t : Table} (x y : Given Reply (List ℕ × (List ℕ × Rest)))
    → table x.left.0 x.left.1.0 ≡ t → table y.left.0 y.left.1.0 ≡ t
    → x ≡ given x.reply (y.left.0, (y.left.1.0, x.left.1.1))
by_table x y = by (λ (t : Table). given x.reply (with_table t x.left.1.1))

pub by_reply_and_table : {Reply Rest : Type 0} {v : Reply} {t : Table} (x y : Given Reply (List ℕ × (List ℕ × Rest)))
    → (x.reply ≡ v) × (table x.left.0 x.left.1.0 ≡ t) → (y.reply ≡ v) × (table y.left.0 y.left.1.0 ≡ t)
    → x ≡ given y.reply (y.left.0, (y.left.1.0, x.left.1.1))
by_reply_and_table x y = by_two (λ r (t : Table). given r (with_table t x.left.1.1))

-- ---- what is left in all six lent slices is said

pub by_tables : {Reply Rest : Type 0} {T : Tables} (x y : Given Reply (List ℕ × (List ℕ × (List ℕ × (List ℕ × (List ℕ × (List ℕ × Rest)))))))
    → tables x.left.0 x.left.1.0 x.left.1.1.0 x.left.1.1.1.0 x.left.1.1.1.1.0 x.left.1.1.1.1.1.0 ≡ T
    → tables y.left.0 y.left.1.0 y.left.1.1.0 y.left.1.1.1.0 y.left.1.1.1.1.0 y.left.1.1.1.1.1.0 ≡ T
    → x ≡ given x.reply (y.left.0, (y.left.1.0, (y.left.1.1.0, (y.left.1.1.1.0, (y.left.1.1.1.1.0, (y.left.1.1.1.1.1.0, x.left.1.1.1.1.1.1))))))
by_tables x y = by (λ (T : Tables). given x.reply (with_tables T x.left.1.1.1.1.1.1))

-- ---- what the lent tables hold is said, where they travel as one

pub by_lent : {Reply Rest : Type 0} {T : Tables} (x y : Given Reply (Lent × Rest)) → tables_of x.left.0 ≡ T → tables_of y.left.0 ≡ T
    → given x.reply (tables_of x.left.0) ≡ given x.reply (tables_of y.left.0)
by_lent x y = by (given x.reply)

-- where there are no guides, all that they hold is said
no_words : (g h : List ℕ) → length g ≡ length h → length h ≡ 0 → g ≡ []
no_words [] h e z = refl
no_words (w ∷ g) h e z = absurd (omega (arith, e, z))

pub by_held : {Reply Rest : Type 0} {l : Lent} (x y : Given Reply (Lent × Rest)) → Same x.left.0 l → Same y.left.0 l → Unguided l
    → given x.reply (tables_of x.left.0) ≡ given y.reply (tables_of y.left.0)
    → given x.reply (held_of x.left.0) ≡ given y.reply (held_of y.left.0)
by_held {Reply} {Rest} {l} x y s t u e =
    ap₂ (λ (g h : List ℕ). given x.reply (record { tables = tables_of x.left.0; guide = g; pinguide = h })) (no_words _ _ s.guide_length u.references) (no_words _ _ s.pinguide_length u.pins)
    ∙ ap (λ (z : Given Reply Tables). given z.reply (record { tables = z.left; guide = []; pinguide = [] })) e
    ∙ sym (ap₂ (λ (g h : List ℕ). given y.reply (record { tables = tables_of y.left.0; guide = g; pinguide = h })) (no_words _ _ t.guide_length u.references) (no_words _ _ t.pinguide_length u.pins))

pub by_outcome : {Rest : Type 0} {o : Outcome} (x y : Given Answer (Lent × Rest)) → leaves x.reply (tables_of x.left.0) ≡ o → leaves y.reply (tables_of y.left.0) ≡ o
    → given x.reply (tables_of x.left.0) ≡ given y.reply (tables_of y.left.0)
by_outcome x y = by (λ (o : Outcome). given o.answer o.left)
