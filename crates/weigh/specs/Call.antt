-- What is answered to C, from what it was told. Assumes nothing.
use Rattle.std.specs.Prelude.{ℕ, Bool, not, ◌&&◌, eqb, leb, Option}
use Rattle.words.specs.Choice.{if_true◌then◌else◌}
use Rattle.facts.specs.Table.{is_allowed_pending, is_allowed_critical}
use Rattle.facts.specs.Named.{PopLocalFrame, MonitorExit}
use Rattle.history.specs.Items.{Item, native_or_attached}
use Rattle.history.specs.Acceptance.{deepest}
use Rattle.history.specs.Breaches.{place_rule}
use Rattle.answers.specs.declared.Judged.{Judged}
use Rattle.sight.specs.declared.call.CallSight.{CallSight}

-- 0, 4 or 7
unfoldable pub call_refusal : Bool → Option Item → ℕ → ℕ
call_refusal closed top many = if_true not closed && native_or_attached top then (if_true leb deepest many then 7 else 0) else 4

-- what is judged of line number `line`
unfoldable pub judged_call : ℕ → ℕ → ℕ → ℕ → ℕ → ℕ → CallSight → Judged
judged_call line env f a b c s =
    record {
      line = line;
      foreign = not (eqb env s.env);
      env = env;
      pending = eqb s.pending 1 && not (is_allowed_pending f);
      critical = s.critical && not (is_allowed_critical f);
      unheld = eqb f MonitorExit && eqb s.monitors 0;
      unpushed = eqb f PopLocalFrame && not s.pushed;
      rule1 = place_rule s.pa a s.a.there s.a.fits;
      a = a;
      rule2 = place_rule s.pb b s.b.there s.b.fits;
      b = b;
      rule3 = place_rule s.pc c s.c.there s.c.fits;
      c = c;
    }
