-- What is told of a piece of a trace. Assumes nothing.
use Prim.Native.Nat.{ℕ, ◌≤◌, ◌<◌}
use mathlib.Core.Path.{◌≡◌, refl, ap, ◌∙◌}
use mathlib.Core.List.{List, [], ◌∷◌}
use native.Mathlib.Omega.{arith}
use lib.IntN.{ℤ}
use lib.ListN.{length, set}
use borrow.Author.Tests.{lt-ltb, le-ltb}
use Rattle.tables.specs.Tables.{Tables}
use Rattle.run.specs.declared.Passed.{Passed}
use Rattle.run.specs.Running.{Outcome, leaves, piece_outcome}
use Rattle.exported.specs.Pieced.{tells_piece, stop_told, far_numbers, short_far, is_ended, far_put, pieced, piece_told}

-- ---- the three numbers

pub put_three : (p : Passed) (ns : List ℕ) → far_numbers ≤ length ns → set (set (set ns 0 p.taken) 1 p.put) 2 p.findings ≡ far_put p ns
unfolding far_put
put_three p [] h = absurd (omega arith)
put_three p (x ∷ []) h = absurd (omega arith)
put_three p (x ∷ y ∷ []) h = absurd (omega arith)
put_three p (x ∷ y ∷ z ∷ ns) h = refl

-- ---- all of it

pub short_told : (ended : ℕ) (T : Tables) (piece out ns : List ℕ) → length ns < far_numbers → tells_piece short_far T out ns ≡ piece_told ended T piece out ns
unfolding piece_told
short_told ended T piece out ns h = rw (lt-ltb (length ns) far_numbers h) refl

pub whole_told : {p : Passed} {T' : Tables} {out' ns' : List ℕ} {n : ℤ} (ended : ℕ) (T : Tables) (piece out ns : List ℕ) → leaves p T' out' ≡ piece_outcome (is_ended ended) T piece out
    → far_numbers ≤ length ns → ns' ≡ far_put p ns → n ≡ stop_told p.stop → tells_piece n T' out' ns' ≡ piece_told ended T piece out ns
unfolding piece_told pieced
whole_told {T' = T'} {out' = out'} ended T piece out ns run room far n =
    rw (le-ltb (length ns) far_numbers room) ((λ i. tells_piece (n i) T' out' (far i)) ∙ ap (λ (o : Outcome). pieced o ns) run)
