-- A line that was weighed: refused, it changes nothing; accepted, it acts. Assumes nothing.
use Prim.Native.Nat.{ℕ, zero, suc}
use mathlib.Core.Path.{◌≡◌, refl, sym, ap, ap₂, ◌∙◌}
use mathlib.Core.List.{List}
use mathlib.Core.Bool.{Bool, true, false, true≢false}
use Rattle.std.specs.Prelude.{Option, Result, Ok, Err, ⊤}
use native.Mathlib.Omega.{arith}
use borrow.Author.Tests.{eq-eqb, ne_eqb}
use Rattle.lines.specs.Line.{Line}
use Rattle.std.specs.Result.{IsErrAnd}
use Rattle.std.proofs.lemmas.Result.{err_from_is_err_and}
use Rattle.lines.specs.Numbered.{passes}
use Rattle.lines.specs.declared.refusal.Refusal.{Refusal}
use Rattle.history.specs.Items.{Item, asked}
use Rattle.history.specs.Findings.{of_line}
use Rattle.history.specs.declared.Finding.{Finding}
use Rattle.answers.specs.Answer.{Answer, refused_with, answer_of}
use Rattle.tables.specs.Tables.{Tables, seen_in}
use Rattle.tables.specs.Weighing.{refusal_in, weighed_in}
use Rattle.tables.specs.Acting.{acted}
use Rattle.events.specs.Outcome.{leaves, line_outcome}

abbrev passing : Result ⊤ Refusal → Bool
passing (Ok u) = true
passing (Err q) = false

-- a number that does not pass is that of a refusal
pub stopped : (k : ℕ) {r : Result ⊤ Refusal} {x : Refusal} → r ≡ passes k → r ≡ Err x → (k ≡ 0 → ⊥) × (refused_with k ≡ Err x)
stopped zero {r} {x} e h = absurd (true≢false (ap passing (sym e ∙ h)))
stopped (suc k) {r} {x} e h = (λ z. absurd (omega (arith, z)), ap refusing (sym e ∙ h))
  where
    refusing : Result ⊤ Refusal → Answer
    refusing (Ok u) = refused_with 0
    refusing (Err q) = Err q

-- and one that passes is 0
pub passed : (k : ℕ) {r : Result ⊤ Refusal} {u : ⊤} → r ≡ passes k → r ≡ Ok u → k ≡ 0
passed zero e h = refl
passed (suc k) e h = absurd (true≢false (ap passing (sym h ∙ e)))

-- what a `?` gives back is the refusal that it met
pub given_back : (y : Answer) {k : Refusal} → IsErrAnd y (λ x. x ≡ k) → y ≡ Err k
given_back y e = let p = err_from_is_err_and y e in p.1 ∙ ap (λ (x : Refusal). Err x) p.2

module _ (line : ℕ) (e : Line) (top : Option Item) (many : ℕ) (T : Tables) (y : Answer) where
  pub stays : (k : ℕ) → k ≡ refusal_in e top many T → (k ≡ 0 → ⊥) → y ≡ refused_with k → leaves y T ≡ line_outcome line e top many T
  unfolding line_outcome weighed_in
  stays k ek z ey =
      rw (ne_eqb (refusal_in e top many T) 0 (λ q. z (ek ∙ q))) (ap (λ (a : Answer). leaves a T) (ey ∙ ap refused_with ek))

  pub goes : (fs : List Finding) (S : Tables) → refusal_in e top many T ≡ 0 → y ≡ answer_of fs → fs ≡ of_line line e (seen_in T) → S ≡ acted line e (asked top) T
      → leaves y S ≡ line_outcome line e top many T
  unfolding line_outcome weighed_in
  goes fs S z ey ef es = rw (eq-eqb (refusal_in e top many T) 0 z) (ap₂ leaves (ey ∙ ap answer_of ef) es)
