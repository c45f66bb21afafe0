-- Numbers as the code has them: their sizes, and whether the one that may be below zero is. Assumes nothing.
use Rattle.std.specs.Prelude.{ℕ, suc, Bool, List, [], ◌∷◌, map, eqb, ℤ, take, drop}
use Rattle.words.specs.Choice.{if_true◌then◌else◌, within}
use Rattle.numbers.specs.Signed.{signed}
use Rattle.lines.specs.Forms.{Form, no_place, form_of}
use Rattle.lines.specs.Reading.{Read, refused, line_of}
use Rattle.lines.specs.Events.{padded}
use Rattle.lines.specs.Apart.{as_told}
use Rattle.lines.specs.declared.forms.Counts.{Counts}
use Rattle.lines.specs.declared.Event.{Event}

-- how many numbers a form has, and which may be below zero
abbrev pub counts_of : Form → Counts
counts_of f = record { least = f.least; most = f.most; signed = f.signed }

-- sizes as numbers, from place i on; that at place k is below zero
unfoldable pub signed_at : ℕ → ℕ → List ℕ → List ℤ
signed_at i k [] = []
signed_at i k (v ∷ vs) = signed (eqb i k) v ∷ signed_at (suc i) k vs

-- the place of the number that is below zero
abbrev pub minus_place : ℕ → Bool → ℕ
minus_place letter minus = if_true minus then (form_of letter).signed else no_place

abbrev pub numbers_in : ℕ → Bool → List ℕ → List ℤ
numbers_in letter minus vs = signed_at 0 (minus_place letter minus) vs

abbrev pub right_count : ℕ → ℕ → Bool
right_count letter n = within (form_of letter).least (form_of letter).most n

-- the line of a letter and n numbers, which stand at the front
unfoldable pub line_in : ℕ → ℕ → Bool → List ℕ → Read
line_in letter n minus vs = if_true right_count letter n then line_of letter (numbers_in letter minus (take n vs)) else refused 2

-- the handles that N names, after thread and env
abbrev pub named : ℕ → List ℕ → List ℕ
named n vs = drop 2 (take n vs)

-- the slots beside an event of n numbers
abbrev pub slots_in : Event → ℕ → List ℕ → List ℕ
slots_in (Event.Enter t env k) n vs = padded (named n vs)
slots_in (Event.Leave t r) n vs = padded []
slots_in (Event.Call t env f a b c k) n vs = padded []
slots_in (Event.Return t f r s p) n vs = padded []
slots_in (Event.Attach t env) n vs = padded []
slots_in (Event.Detach t) n vs = padded []
slots_in (Event.Declare c s) n vs = padded []
slots_in (Event.State t h c) n vs = padded []
slots_in (Event.Identify x sort c static final) n vs = padded []
slots_in Event.End n vs = padded []

-- sizes as they are told to C, all of them
abbrev pub sizes_told : ℕ → Bool → List ℕ → List ℕ
sizes_told letter minus vs = map as_told (numbers_in letter minus vs)
