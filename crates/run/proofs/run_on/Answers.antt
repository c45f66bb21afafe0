-- `run::run_on` meets its contract. The loop keeps what was judged before its place. Assumes nothing.
use native.Mathlib.Omega.{arith}
use Rattle.run.proofs.Going.{going_start, going_told, roomy}
use Rattle.run.proofs.Guided.{same_self, guided_on}
use Rattle.run.proofs.Fitting.{fit_start}
use Rattle.run.proofs.run_on.Goals as goal

pub loop-way-init : goal.loop-way-init
loop-way-init c =
    record {
      same = same_self _;
      led = c.requires.0;
      going = going_start c.start-way.ensures.0 c.start-way.ensures.1 c.start-way.ensures.2 c.start-way.ensures.3;
      fit = fit_start _ _ c.requires.1;
    }

pub heard-way-requires : goal.heard-way-requires
heard-way-requires c = roomy c.loop-way.invariant.going c.loop-way-test.true c.step-answer.ensures.outcome

pub loop-way-preserved : goal.loop-way-preserved
loop-way-preserved c =
    let step = c.step-answer.ensures in guided_on c.loop-way.invariant c.loop-way-test.true step.outcome step.same step.led step.fit c.heard-way.ensures

pub returns : goal.returns
returns c = record { outcome = going_told c.how_far.ensures c.loop-way.invariant.going (omega (arith, c.loop-way-test.false)); same = c.loop-way.invariant.same }
