-- `guide::listing::find` meets its contract; the invariant: the places before s are full, and `best` is the lowest row that they name. Assumes nothing.
use mathlib.Core.Path.{refl, ap}
use mathlib.Core.Bool.{not}
use Rattle.std.proofs.Common.{arith, rules, ◌-◌, ◌<◌}
use Rattle.guide.proofs.NamedLaws.{found_scanned, at_first_place, found_open, looks_on, found_none}
use Rattle.guide.proofs.Steps.{last_of_two, word_of_two}
use Rattle.guide.proofs.listing.find.Goals as goal

pub returns-then-is_empty : goal.returns-then-is_empty
returns-then-is_empty g c = λ p e. found_scanned g.R.Listed.layout p _ _ _ _ _ refl (search rules)

pub loop-s-init : goal.loop-s-init
loop-s-init g c = (omega arith, λ p e. at_first_place refl refl c.room-best.ensures)

pub returns-then-not-is_full : goal.returns-then-not-is_full
returns-then-not-is_full g c = λ p e. let left : 0 < 2 - c.loop-s.s-index = omega arith in
    found_open g.R.Listed.layout p _ _ _ _ _ _ _ _ _ _ _ (word_of_two _ c.args.a c.args.b c.loop-s.s-index _ c.loop-s-test.true c.word_at-w.ensures) (c.named_row.ensures p e) c.min-best.ensures c.is_full.ensures (c.loop-s.invariant.1 p e) left (ap not c.if-not-is_full.true)

pub loop-s-preserved : goal.loop-s-preserved
loop-s-preserved g c = (
  omega arith,
  λ p e. let left : 0 < 2 - c.loop-s.s-index = omega arith in
      looks_on g.R.Listed.layout p _ _ _ _ _ _ _ _ _ _ _ (word_of_two _ c.args.a c.args.b c.loop-s.s-index _ c.loop-s-test.true c.word_at-w.ensures) (c.named_row.ensures p e) c.min-best.ensures c.is_full.ensures _ _ (c.loop-s.invariant.1 p e) left (ap not c.if-not-is_full.false) (last_of_two _ _ c.loop-s.s-index) (omega arith),
)

pub returns : goal.returns
returns g c = λ p e. found_none g.R.Listed.layout p _ _ _ _ _ _ _ _ (c.loop-s.invariant.1 p e) (omega arith) refl
