-- What C and Rust are told of a piece of a trace: a number, the tables left, the bytes left, and the numbers of how far it came. Assumes nothing.
use Rattle.std.specs.Prelude.{ℕ, zero, suc, Bool, not, List, [], ◌∷◌, eqb, leb, ltb, ℤ, pos, negsuc, neg_ℤ, length, Option, None, Some}
use Rattle.words.specs.Choice.{if_true◌then◌else◌}
use Rattle.lines.specs.Numbered.{number_of, refusal_of}
use Rattle.tables.specs.Tables.{Tables}
use Rattle.run.specs.declared.Passed.{Passed}
use Rattle.run.specs.declared.Stop.{Stop}
use Rattle.run.specs.Running.{Outcome, piece_outcome}
use Rattle.exported.specs.Told.{over}

pub record ToldPiece : Type 0 where
  pub number : ℤ
  pub left : Tables
  pub out : List ℕ
  pub far : List ℕ

abbrev pub tells_piece : ℤ → Tables → List ℕ → List ℕ → ToldPiece
tells_piece n T bs ns = record { number = n; left = T; out = bs; far = ns }

-- why it stopped; below zero the number given instead of the line that it stopped before
abbrev pub stop_told : Stop → ℤ
stop_told Stop.More = pos 0
stop_told Stop.Full = pos 1
stop_told Stop.End = pos 2
stop_told (Stop.Refused k) = neg_ℤ (pos (number_of k))

-- the bytes of the piece that were taken, the bytes of findings that were put, and how many findings these are
abbrev pub far_of : Passed → List ℕ
far_of p = p.taken ∷ p.put ∷ p.findings ∷ []

abbrev pub far_numbers : ℕ
far_numbers = 3

-- told where there is no room for them
abbrev pub short_far : ℤ
short_far = neg_ℤ (pos 101)

-- any other number than 0
abbrev pub is_ended : ℕ → Bool
is_ended n = not (eqb n 0)

unfoldable pub far_put : Passed → List ℕ → List ℕ
far_put p ns = over (far_of p) ns

-- of what the run over a piece answers and leaves
unfoldable pub pieced : Outcome → List ℕ → ToldPiece
pieced o ns = tells_piece (stop_told o.reply.stop) o.left o.out (far_put o.reply ns)

-- of a piece over these tables; where there is no room for the three numbers, nothing is touched
unfoldable pub piece_told : ℕ → Tables → List ℕ → List ℕ → List ℕ → ToldPiece
piece_told ended T piece out ns = if_true ltb (length ns) far_numbers then tells_piece short_far T out ns else pieced (piece_outcome (is_ended ended) T piece out) ns

-- why it stopped, from the number told where there is room for them; none where a number tells no reason
unfoldable pub stop_of : ℤ → Option Stop
stop_of (pos zero) = Some Stop.More
stop_of (pos (suc zero)) = Some Stop.Full
stop_of (pos (suc (suc n))) = Some Stop.End
stop_of (negsuc k) = if_true leb k 9 then Some (Stop.Refused (refusal_of (suc k))) else None
