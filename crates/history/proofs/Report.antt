-- What is printed: a line for each finding, then the end line, whose last number is how many were printed. Assumes nothing.
use Prim.Native.Nat.{ℕ, zero, suc, ◌+◌, ◌/◌, ◌%◌}
use mathlib.Core.Path.{◌≡◌, refl, ◌∙◌}
use mathlib.Core.Logic.{◌≢◌}
use mathlib.Core.Bool.{Bool, true, false, not}
use mathlib.Core.List.{List, [], ◌∷◌, ◌++◌, append_assoc, Memᴰ}
use native.Mathlib.Omega.{arith}
use lib.Dec.{eqb, ltb}
use lib.ListN.{length}
use borrow.Author.Tests.{ne_eqb}
use Rattle.words.specs.Choice.{if_true◌then◌else◌}
use Rattle.words.specs.Lists.{count, joined}
use Rattle.words.specs.Text.{bytes, tab, line_feed}
use Rattle.numbers.specs.Decimal.{zero_digit, digits_in, digits}
use Rattle.lines.specs.Line.{Z}
use Rattle.history.specs.Past.{closed}
use Rattle.history.specs.Findings.{findings}
use Rattle.history.specs.Report.{Run, field_then, last_field, shown_finding, end_word, shown_end, shown}
use Rattle.history.specs.declared.Finding.{Finding}
use Rattle.history.proofs.Tests.{never_true}
use Rattle.history.proofs.Counts.{count_append}
use Rattle.history.proofs.Turns.{closed_is}

abbrev ends_line : ℕ → Bool
ends_line b = eqb b line_feed

no_digit : (n : ℕ) → ends_line (zero_digit + n) ≡ false
no_digit n = ne_eqb (zero_digit + n) line_feed (λ e. omega (arith, e))

one_digit : (n : ℕ) → count ends_line ((zero_digit + n) ∷ []) ≡ 0
one_digit n = rw (no_digit n)

-- digits end no line
digits_in_line : (steps n : ℕ) → count ends_line (digits_in steps n) ≡ 0
unfolding digits_in
digits_in_line zero n = one_digit n
digits_in_line (suc steps) n = go (ltb n 10) (digits_in_line steps (n / 10))
  where
    go : (q : Bool) → count ends_line (digits_in steps (n / 10)) ≡ 0
        → count ends_line (elim q [ true ↦ (zero_digit + n) ∷ [] | false ↦ digits_in steps (n / 10) ++ ((zero_digit + n % 10) ∷ []) ]) ≡ 0
    go true ih = one_digit n
    go false ih = omega (arith, count_append ends_line (digits_in steps (n / 10)) ((zero_digit + n % 10) ∷ []), one_digit (n % 10))

digits_no_end : (n : ℕ) → count ends_line (digits n) ≡ 0
unfolding digits
digits_no_end n = digits_in_line n n

field_no_end : (n : ℕ) (rest : List ℕ) → count ends_line (field_then n rest) ≡ count ends_line rest
field_no_end n rest = omega (arith, count_append ends_line (digits n) (tab ∷ rest), digits_no_end n)

last_ends : (n : ℕ) → count ends_line (last_field n) ≡ 1
last_ends n = omega (arith, count_append ends_line (digits n) (line_feed ∷ []), digits_no_end n)

finding_line : (f : Finding) → count ends_line (shown_finding f) ≡ 1
finding_line f =
    field_no_end f.line (field_then f.rule (field_then f.place (last_field f.thing)))
    ∙ field_no_end f.rule (field_then f.place (last_field f.thing))
    ∙ field_no_end f.place (last_field f.thing)
    ∙ last_ends f.thing

findings_lines : (fs : List Finding) → count ends_line (joined fs shown_finding) ≡ length fs
findings_lines [] = refl
findings_lines (f ∷ fs) = omega (arith, count_append ends_line (shown_finding f) (joined fs shown_finding), finding_line f, findings_lines fs)

word_no_end : (r : Run) → count ends_line (end_word r) ≡ 0
word_no_end r = go (not (eqb r.refusal 0)) (closed r.accepted)
  where
    go : (a b : Bool) → count ends_line (if_true a then bytes "refused" else if_true b then bytes "closed" else bytes "open") ≡ 0
    go true b = refl
    go false true = refl
    go false false = refl

-- all that is printed but the last number
before_last : Run → List ℕ
before_last r = joined (findings r.accepted) shown_finding ++ (bytes "end" ++ (tab ∷ (end_word r ++ (tab ∷ field_then (length r.accepted) (field_then r.refusal [])))))

before_last_lines : (r : Run) → count ends_line (before_last r) ≡ length (findings r.accepted)
unfolding before_last
before_last_lines r =
    let numbers : List ℕ = field_then (length r.accepted) (field_then r.refusal []) in
    omega (
      arith,
      count_append ends_line (joined (findings r.accepted) shown_finding) (bytes "end" ++ (tab ∷ (end_word r ++ (tab ∷ numbers)))),
      findings_lines (findings r.accepted),
      count_append ends_line (end_word r) (tab ∷ numbers),
      word_no_end r,
      field_no_end (length r.accepted) (field_then r.refusal []),
      field_no_end r.refusal [],
    )

-- what is printed ends with a number, and as many lines were printed before it
pub end_counts : (r : Run) → (printed : List ℕ) × (n : ℕ) × (shown r ≡ printed ++ last_field n) × (count (λ b. eqb b line_feed) printed ≡ n)
unfolding shown shown_end before_last
end_counts r = (before_last r, length (findings r.accepted), simp append_assoc, before_last_lines r)

-- ---- the word

-- `refused` whenever a line was refused, after Z too
pub refused_word : (r : Run) → r.refusal ≢ 0 → end_word r ≡ bytes "refused"
refused_word r d = rw (ne_eqb r.refusal 0 d)

-- `closed` after Z, and else `open`
pub closed_word : (r : Run) → r.refusal ≡ 0 → Memᴰ Z r.accepted → end_word r ≡ bytes "closed"
closed_word r z m = rw (z, (closed_is r.accepted).1 m)

pub open_word : (r : Run) → r.refusal ≡ 0 → ¬ Memᴰ Z r.accepted → end_word r ≡ bytes "open"
open_word r z h = rw (z, never_true (closed r.accepted) (λ c. h ((closed_is r.accepted).0 c)))
