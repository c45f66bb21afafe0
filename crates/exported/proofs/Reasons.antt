-- That the number told of a piece tells why the run over it stopped. Assumes nothing.
use Prim.Native.Nat.{ℕ, suc, ◌≤◌, ◌<◌}
use mathlib.Core.Path.{◌≡◌, refl, sym, ap, ◌∙◌}
use mathlib.Core.List.{List}
use native.Mathlib.Decide.{dec_lt}
use native.Mathlib.Omega.{arith}
use lib.IntN.{ℤ, pos, negsuc}
use Rattle.std.specs.Prelude.{Some}
use lib.ListN.{length}
use borrow.Author.Tests.{le-ltb}
use Rattle.lines.specs.declared.refusal.Refusal.TheVariants as Refusal
use Rattle.tables.specs.Tables.{Tables}
use Rattle.run.specs.declared.Stop.{Stop}
use Rattle.run.specs.Running.{piece_outcome}
use Rattle.exported.specs.Pieced.{stop_told, far_numbers, short_far, is_ended, pieced, piece_told, stop_of}

stop_back : (s : Stop) → stop_of (stop_told s) ≡ Some s
unfolding stop_of
stop_back (Stop.Refused Refusal.Length) = refl
stop_back (Stop.Refused Refusal.Form) = refl
stop_back (Stop.Refused Refusal.Range) = refl
stop_back (Stop.Refused Refusal.OutOfStep) = refl
stop_back (Stop.Refused Refusal.WrongEnv) = refl
stop_back (Stop.Refused Refusal.AlreadyAlive) = refl
stop_back (Stop.Refused Refusal.NoRoom) = refl
stop_back (Stop.Refused Refusal.Unfit) = refl
stop_back (Stop.Refused Refusal.WrongClass) = refl
stop_back (Stop.Refused Refusal.NotAlive) = refl
stop_back Stop.Full = refl
stop_back Stop.More = refl
stop_back Stop.End = refl

-- how far a number is below zero
abbrev below : ℤ → ℕ
below (pos n) = 0
below (negsuc n) = suc n

-- a refusal is one of 1 to 10
few_below : (s : Stop) → below (stop_told s) ≤ 10
few_below (Stop.Refused Refusal.Length) = omega arith
few_below (Stop.Refused Refusal.Form) = omega arith
few_below (Stop.Refused Refusal.Range) = omega arith
few_below (Stop.Refused Refusal.OutOfStep) = omega arith
few_below (Stop.Refused Refusal.WrongEnv) = omega arith
few_below (Stop.Refused Refusal.AlreadyAlive) = omega arith
few_below (Stop.Refused Refusal.NoRoom) = omega arith
few_below (Stop.Refused Refusal.Unfit) = omega arith
few_below (Stop.Refused Refusal.WrongClass) = omega arith
few_below (Stop.Refused Refusal.NotAlive) = omega arith
few_below Stop.Full = omega arith
few_below Stop.More = omega arith
few_below Stop.End = omega arith

not_short : (s : Stop) → stop_told s ≡ short_far → ⊥
not_short s e = omega (arith, few_below s, ap below e)

module _ (ended : ℕ) (T : Tables) (piece out ns : List ℕ) where
  abbrev its_stop : Stop
  its_stop = (piece_outcome (is_ended ended) T piece out).reply.stop

  number_is : far_numbers ≤ length ns → (piece_told ended T piece out ns).number ≡ stop_told its_stop
  unfolding piece_told pieced
  number_is room = rw (le-ltb (length ns) far_numbers room) refl

  pub reason_told : far_numbers ≤ length ns → stop_of (piece_told ended T piece out ns).number ≡ Some its_stop
  reason_told room = ap stop_of (number_is room) ∙ stop_back its_stop

  pub short_alone : (piece_told ended T piece out ns).number ≡ short_far → length ns < far_numbers
  short_alone e = go (dec_lt (length ns) far_numbers)
    where
      go : Dec (length ns < far_numbers) → length ns < far_numbers
      go (yes h) = h
      go (no h) = let room : far_numbers ≤ length ns = omega (arith, h) in absurd (not_short its_stop (sym (number_is room) ∙ e))
