-- After accepted lines no local and no critical buffer is of thread 0, which stands for none in a row. Assumes nothing.
use mathlib.Core.Path.{◌≡◌, refl, ◌∙◌}
use mathlib.Core.Bool.{Bool, not, ◌&&◌}
use mathlib.Core.List.{[], ◌∷◌}
use native.Mathlib.Omega.{arith}
use Rattle.words.specs.Lists.{keep, count, but_first}
use Rattle.rows.specs.Slots.{held}
use Rattle.history.specs.Past.{History, thread_of}
use Rattle.history.specs.Frames.{depth}
use Rattle.history.specs.Handles.{Alive, makes, ends, living}
use Rattle.history.specs.Buffers.{gets, releases, outstanding}
use Rattle.history.specs.Leaks.{by_what}
use Rattle.history.specs.Acceptance.{Room}
use Rattle.history.specs.Accepted.{Accepted, at_start, and_line}
use Rattle.history.proofs.Tests.{and_right}
use Rattle.history.proofs.Counts.{count_append, count_keep, count_le}
use Rattle.demands.specs.PastRows.{reference_rows, pin_rows}
use Rattle.demands.proofs.PastRows.{members_fail, rows_hold, pin_rows_hold}
use Rattle.demands.proofs.Changed.{but_first_less}
use Rattle.demands.proofs.Encoding.{unplaced, unowned}
use Rattle.demands.proofs.Allowed.{makes_placed, gets_owned}

living_placed : (room : Room) (past : History) → Accepted room past → count unplaced (living past) ≡ 0
unfolding living
living_placed room [] at_start = refl
living_placed room (e ∷ past) (and_line _ _ few fine no_refusal so_far) =
    let new = makes e (depth (thread_of e) past) in
    let left : Alive → Bool = λ x. not (ends e past x) in
    omega (
      arith,
      count_append unplaced new (keep left (living past)),
      members_fail unplaced new (makes_placed past e fine),
      count_keep unplaced left (living past),
      count_le (λ x. left x && unplaced x) unplaced (λ x h. and_right (left x) (unplaced x) h) (living past),
      living_placed room past so_far,
    )

pub rows_placed : (room : Room) (past : History) → Accepted room past → count (by_what unplaced) (held (reference_rows past)) ≡ 0
rows_placed room past so_far = rows_hold room past so_far unplaced ∙ living_placed room past so_far

outstanding_owned : (room : Room) (past : History) → Accepted room past → count unowned (outstanding past) ≡ 0
unfolding outstanding
outstanding_owned room [] at_start = refl
outstanding_owned room (e ∷ past) (and_line _ _ few fine no_refusal so_far) =
    omega (
      arith,
      count_append unowned (gets e) (but_first (releases e) (outstanding past)),
      members_fail unowned (gets e) (gets_owned e fine),
      but_first_less unowned (releases e) (outstanding past),
      outstanding_owned room past so_far,
    )

pub pins_owned : (room : Room) (past : History) → Accepted room past → count (by_what unowned) (held (pin_rows past)) ≡ 0
pins_owned room past so_far = pin_rows_hold past unowned ∙ outstanding_owned room past so_far
