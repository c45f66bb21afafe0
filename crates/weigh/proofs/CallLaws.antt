-- What the code's tests of C and X say. Assumes nothing.
use Prim.Native.Nat.{ℕ, ◌≤◌, ◌<◌}
use mathlib.Core.Path.{◌≡◌, refl, sym, ap, ◌∙◌}
use mathlib.Core.Bool.{Bool, true, false, not, ◌&&◌, ◌||◌, false≢true}
use Rattle.std.specs.Prelude.{Option}
use borrow.Author.Tests.{le-leb, lt-leb}
use lib.Dec.{eqb}
use Rattle.facts.specs.Table.{is_allowed_pending, is_allowed_critical}
use Rattle.facts.specs.Named.{PopLocalFrame, MonitorExit}
use Rattle.history.specs.Items.{Item, native_or_attached}
use Rattle.history.specs.Acceptance.{deepest}
use Rattle.history.specs.Breaches.{place_rule}
use Rattle.answers.specs.declared.Findings.{Findings}
use Rattle.answers.specs.declared.Judged.{Judged}
use Rattle.answers.specs.Answer.{findings_of}
use Rattle.answers.specs.Listed.{listed}
use Rattle.sight.specs.declared.call.CallSight.{CallSight}
use Rattle.weigh.specs.Call.{call_refusal, judged_call}

-- ---- in step

pub open_and : (closed x y : Bool) → x ≡ y → (not closed && x) ≡ (not closed && y)
open_and closed x y e = ap (λ (z : Bool). not closed && z) e

-- after Z, or another item on top
pub not_in : (closed x : Bool) → (closed || not x) ≡ true → (not closed && x) ≡ false
not_in true x e = refl
not_in false true e = absurd (false≢true e)
not_in false false e = refl

pub is_in : (closed x : Bool) → (closed || not x) ≡ false → (not closed && x) ≡ true
is_in true x e = absurd (false≢true (sym e))
is_in false true e = refl
is_in false false e = absurd (false≢true (sym e))

module _ (closed : Bool) (top : Option Item) (many : ℕ) (x : Bool) (e : x ≡ native_or_attached top) where
  step_is : (b : Bool) → (not closed && x) ≡ b → (not closed && native_or_attached top) ≡ b
  step_is b q = sym (open_and closed x (native_or_attached top) e) ∙ q

  pub call_4 : (closed || not x) ≡ true → 4 ≡ call_refusal closed top many
  unfolding call_refusal
  call_4 n = rw (step_is false (not_in closed x n)) refl

  pub call_7 : (closed || not x) ≡ false → deepest ≤ many → 7 ≡ call_refusal closed top many
  unfolding call_refusal
  call_7 n h = rw (step_is true (is_in closed x n), le-leb deepest many h) refl

  pub call_0 : (closed || not x) ≡ false → many < deepest → 0 ≡ call_refusal closed top many
  unfolding call_refusal
  call_0 n h = rw (step_is true (is_in closed x n), lt-leb deepest many h) refl

-- ---- what is judged

pub call_judged : (line env f a b c : ℕ) (s : CallSight) (p3 c3 : Bool) (r1 r2 r3 : Option ℕ) → p3 ≡ (eqb s.pending 1 && not (is_allowed_pending f)) → c3 ≡ (s.critical && not (is_allowed_critical f))
    → r1 ≡ place_rule s.pa a s.a.there s.a.fits → r2 ≡ place_rule s.pb b s.b.there s.b.fits → r3 ≡ place_rule s.pc c s.c.there s.c.fits
    → record {
      line = line;
      foreign = not (eqb env s.env);
      env = env;
      pending = p3;
      critical = c3;
      unheld = eqb f MonitorExit && eqb s.monitors 0;
      unpushed = eqb f PopLocalFrame && not s.pushed;
      rule1 = r1;
      a = a;
      rule2 = r2;
      b = b;
      rule3 = r3;
      c = c;
    } ≡ judged_call line env f a b c s
unfolding judged_call
call_judged line env f a b c s p3 c3 r1 r2 r3 e3 ec k1 k2 k3 i =
    record {
      line = line;
      foreign = not (eqb env s.env);
      env = env;
      pending = e3 i;
      critical = ec i;
      unheld = eqb f MonitorExit && eqb s.monitors 0;
      unpushed = eqb f PopLocalFrame && not s.pushed;
      rule1 = k1 i;
      a = a;
      rule2 = k2 i;
      b = b;
      rule3 = k3 i;
      c = c;
    }

pub judged_found : (x j : Judged) (r : Findings) → j ≡ x → r ≡ findings_of (listed j) → r ≡ findings_of (listed x)
judged_found x j r e k = k ∙ ap (λ (y : Judged). findings_of (listed y)) e
