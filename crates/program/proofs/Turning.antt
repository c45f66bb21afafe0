-- A turn: what it prints, and the run after it. Assumes nothing.
use Prim.Native.Nat.{ℕ, ◌+◌}
use mathlib.Core.Path.{◌≡◌, refl, sym, ap, subst, ◌∙◌}
use mathlib.Core.Bool.{Bool, true, false, false≢true, or-true}
use mathlib.Core.List.{List}
use native.Mathlib.Omega.{arith}
use Rattle.std.specs.Prelude.{Option, Some, None}
use Rattle.std.specs.Option.{is_some}
use Rattle.lines.specs.declared.refusal.Refusal.{Refusal}
use Rattle.run.specs.declared.Passed.{Passed}
use Rattle.run.specs.declared.Stop.TheVariants as Stop
use Rattle.program.specs.declared.Run.{Run}
use Rattle.program.specs.declared.Why.{Why}
use Rattle.program.specs.declared.streams.Streams.{Streams}
use Rattle.program.specs.Progress.{Few}
use Rattle.program.specs.Printing.{Newest, with_printed, HasPrinted}
use Rattle.program.specs.Running.{at_judged, at_failure, Failed, not_read, not_written, Good, Fails, Unread, Fits, PassesOn, EndsSo}

pub not_wrote : {r q : Run} {s : Streams} {n : ℕ} {b : Bool} → HasPrinted r.streams n s → q.stop ≡ at_failure → q.streams ≡ s → b ≡ s.unwritable → b ≡ true → Fails r q
not_wrote h stop is e t =
    record {
      stop = stop;
      why = not_written (ap (λ (x : Streams). x.unwritable) is ∙ sym e ∙ t);
      leaks = ap (λ (x : Streams). x.leaks) is ∙ ap (λ (x : Streams). x.leaks) h.after;
    }

pub wrote : {q : Streams} {b : Bool} (s : Streams) (n : ℕ) → HasPrinted s n q → b ≡ q.unwritable → b ≡ false → q ≡ with_printed s n true
wrote {q} s n h e good = go h.answer h.after
  where
    go : (written : Bool) → q ≡ with_printed s n written → q ≡ with_printed s n true
    go true a = a
    go false a = absurd (false≢true (sym good ∙ e ∙ ap (λ (x : Streams). x.unwritable) a ∙ or-true s.unwritable))

module _ {r : Run} {p : Passed} {out : List ℕ} {s : Streams} (f : Fits r p out) (is : s ≡ with_printed r.streams p.put true) where
  pub passed : PassesOn r p (record { from = r.from + p.taken; to = r.to; streams = s; findings = r.findings + p.findings; refusal = r.refusal; stop = r.stop })
  passed = record { from = refl; to = refl; streams = is; findings = refl; refusal = refl; stop = f.goes }

  few_then : Few s 0
  few_then = record { read = omega (arith, ap (λ (x : Streams). x.read) is, f.streams.read); printed = omega (arith, ap (λ (x : Streams). x.printed) is, f.streams.printed) }

  pub few_unread : p.stop ≡ Stop.More
      → Unread (record { from = r.from + p.taken; to = r.to; streams = s; findings = r.findings + p.findings; refusal = r.refusal; stop = r.stop })
  few_unread more = record { ordered = f.taken; few = f.few more; within = f.within; streams = few_then }

  pub ended : {q : Run} {refusal : Option Refusal} → (q.stop ≡ at_judged) × (q.streams ≡ s) × (q.findings ≡ r.findings + p.findings) × (q.refusal ≡ refusal)
      → EndsSo r p refusal q
  ended q = record { stop = q.0; streams = q.1 ∙ is; findings = q.2; refusal = q.3 }

-- the streams of the run that is left are the last
pub still_newest : {s q : Streams} {moved : ℕ} → q ≡ s → Newest s moved → Newest q moved
still_newest {moved = moved} is n = subst (λ (x : Streams). Newest x moved) (sym is) n

-- a run that stops does not go on
pub not_both : {o : Option Why} {why : Why} → o ≡ Some why → o ≡ None → ⊥
not_both some none = false≢true (sym (ap is_some none) ∙ ap is_some some)

abbrev is_judged : Option Why → Bool
is_judged (Some Why.Judged) = true
is_judged (Some Why.Failed) = false
is_judged None = false

-- one where a call failed is not judged
pub not_judged : {o : Option Why} → o ≡ at_failure → o ≡ at_judged → ⊥
not_judged failed judged = false≢true (sym (ap is_judged failed) ∙ ap is_judged judged)

-- no call has failed where none has
pub is_good : {s : Streams} → Failed s → Good s → ⊥
is_good (not_read h) good = false≢true (sym good.0 ∙ h)
is_good (not_written h) good = false≢true (sym good.1 ∙ h)
