-- `lines::heads::take_field` meets its contract. Assumes nothing.
use mathlib.Core.Path.{sym}
use Rattle.lines.specs.Gathered.{gathered_as}
use Rattle.numbers.specs.declared.Field.TheVariants as Field
use Rattle.lines.proofs.Gathering.{takes, taken_none}
use Rattle.lines.proofs.heads.take_field.Goals as goal

pub returns-then-at-ge-MOST_FIELDS : goal.returns-then-at-ge-MOST_FIELDS
returns-then-at-ge-MOST_FIELDS c =
    let a = c.args in
    sym (taken_none a.signed (gathered_as a.t a.values.now) a.f c.if-at-ge-MOST_FIELDS.true)

pub returns-in-Plus : goal.returns-in-Plus
returns-in-Plus c =
    let a = c.args in
    takes a.signed (gathered_as a.t a.values.now) (Field.Plus _) c.if-at-ge-MOST_FIELDS.false c.in-Plus.is

pub returns-in-Minus : goal.returns-in-Minus
returns-in-Minus c =
    let a = c.args in
    takes a.signed (gathered_as a.t a.values.now) (Field.Minus _) c.if-at-ge-MOST_FIELDS.false c.in-Minus.is

pub returns-in-Out : goal.returns-in-Out
returns-in-Out c =
    let a = c.args in
    takes a.signed (gathered_as a.t a.values.now) Field.Out c.if-at-ge-MOST_FIELDS.false c.in-Out.is

pub returns-in-Bad : goal.returns-in-Bad
returns-in-Bad c =
    let a = c.args in
    takes a.signed (gathered_as a.t a.values.now) Field.Bad c.if-at-ge-MOST_FIELDS.false c.in-Bad.is
