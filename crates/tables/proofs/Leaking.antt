-- How many leaks stand in lent tables at most. Assumes nothing.
use Prim.Native.Nat.{◌+◌, ◌≤◌}
use mathlib.Core.List.{List, [], ◌∷◌, map}
use Rattle.std.specs.Prelude.{Option, None, Some}
use native.Mathlib.Omega.{arith}
use lib.ListN.{length, length-map}
use Rattle.rows.specs.Slots.{held}
use Rattle.rows.specs.Table.{Layout, Table, most, room}
use Rattle.rows.specs.View.{view}
use Rattle.rows.specs.References.{references}
use Rattle.rows.specs.Pins.{pins}
use Rattle.rows.proofs.ViewLaws.{length_view}
use Rattle.history.specs.Handles.{global_or_weak}
use Rattle.history.specs.Leaks.{by_what}
use Rattle.history.proofs.Counts.{count_length}
use Rattle.history.proofs.LeakOrder.{length_leaks}
use Rattle.tables.specs.Tables.{Tables}
use Rattle.tables.specs.Listing.{made_alive, made_pin, leaks_in}

pub held_within : {A : Type 0} (s : List (Option A)) → length (held s) ≤ length s
held_within [] = omega arith
held_within (None ∷ s) = omega (arith, held_within s)
held_within (Some x ∷ s) = omega (arith, held_within s)

few_held : {A : Type 0} (L : Layout A) (T : Table) → length (held (view L T)) ≤ most
unfolding room
few_held L T = omega (arith, held_within (view L T), length_view L T)

-- no more than two tables have rows
pub leaks_within : (T : Tables) → length (leaks_in T) ≤ most + most
unfolding leaks_in
leaks_within T =
    let ps = held (view pins T.pins) in
    let hs = held (view references T.references) in
    omega (
      arith,
      length_leaks (map made_pin ps) (map made_alive hs),
      length-map ps made_pin,
      length-map hs made_alive,
      count_length (by_what global_or_weak) (map made_alive hs),
      few_held pins T.pins,
      few_held references T.references,
    )
