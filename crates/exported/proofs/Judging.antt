-- What is told of a whole trace, and that its three answers are told apart. Assumes nothing.
use Prim.Native.Nat.{ℕ, ◌+◌, ◌≤◌, ◌<◌}
use mathlib.Core.Path.{◌≡◌, refl, ap, ◌∙◌}
use mathlib.Core.List.{List, []}
use Rattle.std.specs.Prelude.{Result}
use native.Mathlib.Omega.{arith}
use native.Mathlib.Decide.{dec_lt}
use borrow.Author.Tests.{lt-ltb, le-ltb, le-leb, lt-leb}
use lib.ListN.{length, length-append}
use Rattle.words.specs.Lists.{joined}
use Rattle.history.specs.Acceptance.{Room}
use Rattle.history.specs.Findings.{findings}
use Rattle.history.specs.Report.{run, lines_of, shown_finding, shown_end, shown, report}
use Rattle.lines.specs.Line.{classes}
use Rattle.book.specs.Layout.{whole}
use Rattle.tables.specs.Tables.{Tables}
use Rattle.demands.specs.Calls.{room_of, Long}
use Rattle.trace.specs.declared.Unreported.{Unreported}
use Rattle.trace.specs.Whole.{Outcome, leaves, whole_outcome}
use Rattle.exported.specs.Judged.{judges, length_told, judged, Apart}

pub judging_told : {r : Result ℕ Unreported} {T : Tables} {bs : List ℕ} {o : Outcome} {n : ℕ} → leaves r T bs ≡ o → n ≡ length_told r → judges n T bs ≡ judged o
unfolding judged
judging_told {r} {T} {bs} {o} {n} e h = ap (λ (m : ℕ). judges m T bs) h ∙ ap judged e

-- each report has its `end` line
some_bytes : (room : Room) (trace : List ℕ) → 0 < length (report room trace)
unfolding report shown shown_end
some_bytes room trace =
    let past = (run room [] (lines_of trace)).accepted in
    omega (arith, length-append (joined (findings past) shown_finding) (shown_end (run room [] (lines_of trace))))

module _ (T : Tables) (trace out : List ℕ) where
  abbrev long : ℕ
  long = length (report (room_of T) trace)

  abbrev ToldApart : Type 0
  ToldApart = Apart (whole_outcome T trace out).reply (length_told (whole_outcome T trace out).reply) (length out)

  told_written : Long T → long ≤ length out → ToldApart
  unfolding whole_outcome Apart
  told_written (b, k) h =
      rw (le-ltb (length T.book) whole b, le-ltb (length T.classes) classes k, le-leb (0 + long) (length out) (omega (arith, h))) (some_bytes (room_of T) trace, h)

  told_needed : Long T → length out < long → ToldApart
  unfolding whole_outcome Apart
  told_needed (b, k) h = rw (le-ltb (length T.book) whole b, le-ltb (length T.classes) classes k, lt-leb (0 + long) (length out) (omega (arith, h))) h

  short_book : length T.book < whole → ToldApart
  unfolding whole_outcome Apart
  short_book h = rw (lt-ltb (length T.book) whole h) refl

  short_classes : whole ≤ length T.book → length T.classes < classes → ToldApart
  unfolding whole_outcome Apart
  short_classes b h = rw (le-ltb (length T.book) whole b, lt-ltb (length T.classes) classes h) refl

  pub told_apart : ToldApart
  told_apart = go (dec_lt (length T.book) whole) (dec_lt (length T.classes) classes) (dec_lt (length out) long)
    where
      go : Dec (length T.book < whole) → Dec (length T.classes < classes) → Dec (length out < long) → ToldApart
      go (yes b) k o = short_book b
      go (no b) (yes k) o = short_classes (omega (arith, b)) k
      go (no b) (no k) (yes h) = told_needed (omega (arith, b), omega (arith, k)) h
      go (no b) (no k) (no h) = told_written (omega (arith, b), omega (arith, k)) (omega (arith, h))
