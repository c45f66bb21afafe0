-- What is answered to X, from what it was told. Assumes nothing.
use Rattle.std.specs.Prelude.{ℕ, Bool, false, not, ◌&&◌, Option, None}
use Rattle.words.specs.Choice.{if_true◌then◌else◌}
use Rattle.facts.specs.declared.Place.TheVariants as Place
use Rattle.history.specs.Items.{Item, is_native}
use Rattle.history.specs.Breaches.{place_rule}
use Rattle.answers.specs.declared.Judged.{Judged}
use Rattle.sight.specs.declared.leave.LeaveSight.{LeaveSight}

-- 0 or 4
unfoldable pub leave_refusal : Bool → Option Item → ℕ
leave_refusal closed top = if_true not closed && is_native top then 0 else 4

-- what is judged of line number `line`
unfoldable pub judged_leave : ℕ → ℕ → LeaveSight → Judged
judged_leave line r s =
    record {
      line = line;
      foreign = false;
      env = 0;
      pending = false;
      critical = s.critical;
      unheld = false;
      unpushed = false;
      rule1 = place_rule Place.HandleOrNull r s.result.there s.result.fits;
      a = r;
      rule2 = None;
      b = 0;
      rule3 = None;
      c = 0;
    }
