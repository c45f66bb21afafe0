-- The reader's own bookkeeping: numbers as the code gathers them, and the line that they are; the law `made_numbers` (proofs/GatheredLaws.antt) ties it to Reading.antt. Assumes nothing.
use Rattle.std.specs.Prelude.{ℕ, suc, ◌+◌, ◌-◌, ◌≡◌, Bool, true, false, not, ◌&&◌, ◌||◌, List, [], ◌∷◌, eqb, leb, ltb, length, get_or, set, drop, replicate, Result, Ok, Err}
use Rattle.words.specs.Choice.{if_true◌then◌else◌}
use Rattle.words.specs.Text.{tab}
use Rattle.numbers.specs.Decimal.{number}
use Rattle.numbers.specs.Reading.{bounded}
use Rattle.numbers.specs.declared.Field.{Field}
use Rattle.lines.specs.Line.{Line, largest}
use Rattle.lines.specs.Forms.{most_fields, numbers_of}
use Rattle.lines.specs.Reading.{Read, says, refused, fields}
use Rattle.lines.specs.Sizes.{right_count, line_in}
use Rattle.lines.specs.Numbered.{number_of}
use Rattle.lines.specs.declared.refusal.Refusal.{Refusal}
use Rattle.lines.specs.declared.heads.Tally.{Tally}
use Rattle.lines.specs.declared.heads.Head.{Head}

-- the fields from a place on, none past the end
abbrev pub fields_from : List ℕ → ℕ → List (List ℕ)
fields_from s at = if_true leb at (length s) then fields (drop at s) else []

-- the first field has one byte
abbrev pub letter_alone : List ℕ → Bool
letter_alone s = if_true leb 2 (length s) then eqb (get_or s 1 0) tab else eqb (length s) 1

-- ---- gathering

abbrev pub tally : ℕ → Bool → Bool → Tally
tally n o m = record { count = n; out = o; minus = m }

-- one field is no number, or there are too many
abbrev pub wrong : Tally
wrong = tally (suc most_fields) false false

-- what is gathered: the tally, and the sizes in ten slots
pub record Gathered : Type 0 where
  pub tally : Tally
  pub values : List ℕ

abbrev pub gathered_as : Tally → List ℕ → Gathered
gathered_as t vs = record { tally = t; values = vs }

abbrev pub with_value : Gathered → ℕ → List ℕ
with_value g n = set g.values g.tally.count n

-- one field more; only that at place k may be negative
abbrev pub and_field : ℕ → Gathered → Field → Gathered
and_field k g (Field.Plus n) = gathered_as (tally (g.tally.count + 1) g.tally.out g.tally.minus) (with_value g n)
and_field k g (Field.Minus n) = gathered_as (tally (g.tally.count + 1) (g.tally.out || not (eqb g.tally.count k)) true) (with_value g n)
and_field k g Field.Out = gathered_as (tally (g.tally.count + 1) true g.tally.minus) g.values
and_field k g Field.Bad = gathered_as wrong g.values

unfoldable pub taken : ℕ → Gathered → Field → Gathered
taken k g x = if_true ltb g.tally.count most_fields then and_field k g x else gathered_as wrong g.values

unfoldable pub gathered : ℕ → Gathered → List (List ℕ) → Gathered
gathered k g [] = g
gathered k g (w ∷ ws) = gathered k (taken k g (bounded largest (number w))) ws

abbrev pub no_values : List ℕ
no_values = 0 ∷ 0 ∷ 0 ∷ 0 ∷ 0 ∷ 0 ∷ 0 ∷ 0 ∷ 0 ∷ 0 ∷ []

abbrev pub nothing_yet : Tally
nothing_yet = tally 0 false false

-- ---- the line that they are

-- 3 where one is out of range, but 2 first where the count is wrong
unfoldable pub made : ℕ → Tally → List ℕ → Read
made letter t vs = if_true t.out && right_count letter t.count then refused 3 else line_in letter t.count t.minus vs

abbrev pub said : Result Head Refusal → List ℕ → Read
said (Ok h) vs = line_in h.letter h.count h.minus vs
said (Err k) vs = refused (number_of k)

-- what is read of a line: what it says, and that no size stands past those of a line's numbers
pub record Headed (x : Read) (h : Result Head Refusal) (vs : List ℕ) : Type 0 where
  pub read : said h vs ≡ x
  pub rest : (e : Line) → x ≡ says e → drop (length (numbers_of e)) vs ≡ replicate (most_fields - length (numbers_of e)) 0
