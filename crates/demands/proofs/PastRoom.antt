-- The rows of the past within the room: after accepted lines they never exceed it, and a line fits exactly when the history says so. Assumes nothing.
use Prim.Native.Nat.{ℕ, suc, ◌+◌, ◌≤◌}
use mathlib.Core.Path.{◌≡◌, refl, sym, ap, ◌∙◌, fun_ext}
use mathlib.Core.Bool.{Bool, true, false}
use mathlib.Core.List.{List, [], ◌∷◌, map}
use Rattle.std.specs.Prelude.{Option}
use native.Mathlib.Omega.{arith}
use lib.Dec.{leb}
use lib.ListN.{length, length-map}
use borrow.Author.Tests.{leb-true, le-leb}
use Rattle.words.specs.Lists.{count}
use Rattle.lines.specs.Line.{Line, N, X, C, R, A, D, Z, states}
use Rattle.rows.specs.Slots.{held, wipe, wipe_first}
use Rattle.history.specs.Past.{History, thread_of}
use Rattle.history.specs.Frames.{frames, depth}
use Rattle.history.specs.Handles.{Alive, makes, deletes, frame_gone, living}
use Rattle.history.specs.Buffers.{Pin, gets, releases, outstanding}
use Rattle.history.specs.Seen.{seen}
use Rattle.history.specs.Leaks.{Made, made_at, by_what}
use Rattle.history.specs.Acceptance.{Room, everything, deepest, has_room, has_identity_room, has_item_room}
use Rattle.history.specs.Items.{items}
use Rattle.history.specs.Accepted.{Accepted, at_start, and_line}
use Rattle.history.proofs.Tests.{all_three}
use Rattle.history.proofs.Counts.{count_all}
use Rattle.history.proofs.Accepting.{passed, has_room_of}
use Rattle.tables.proofs.Leaking.{held_within}
use Rattle.demands.specs.PastRows.{put_or_add_all, reference_rows, pin_rows}
use Rattle.demands.proofs.Slots.{held_put_or_add_all, short_put_all, length_wipe, length_wipe_first, wipe_first_none}
use Rattle.demands.proofs.PastRows.{rows_hold_next, pin_rows_hold}
use Rattle.demands.proofs.Changed.{frames_grow_N, frames_grow_R, rows_added}

-- ---- what an accepted line has passed

pub record Roomy (room : Room) (e : Line) (past : History) : Type 0 where
  pub handles : count everything (living (e ∷ past)) ≤ room.references
  pub buffers : count everything (outstanding (e ∷ past)) ≤ room.pins
  pub frames_few : length (frames (thread_of e) (e ∷ past)) ≤ deepest
  pub items_few : has_item_room e (length (items (thread_of e) past)) ≡ true

pub roomy : (room : Room) (e : Line) (past : History) → has_room_of room e past ≡ true → Roomy room e past
unfolding has_room seen
roomy room e past h =
    let (stated, fits, opens) =
    all_three (has_identity_room room (e ∷ past)) (has_room room (thread_of e) (seen (e ∷ past))) (has_item_room e (length (items (thread_of e) past))) h in
    let (a, b, c) =
    all_three (leb (count everything (living (e ∷ past))) room.references) (leb (count everything (outstanding (e ∷ past))) room.pins)
    (leb (length (frames (thread_of e) (e ∷ past))) deepest) fits in
    record {
      handles = leb-true _ _ a;
      buffers = leb-true _ _ b;
      frames_few = leb-true _ _ c;
      items_few = opens;
    }

-- ---- references

pub rows_short : (room : Room) (past : History) → Accepted room past → length (reference_rows past) ≤ room.references
unfolding reference_rows
rows_short room [] at_start = omega arith
rows_short room (e ∷ past) (and_line _ _ few fine no_refusal so_far) =
    let made = makes e (depth (thread_of e) past) in
    let new = map (made_at (suc (length past))) made in
    let old = wipe (by_what (frame_gone (e ∷ past))) (wipe_first (by_what (deletes e)) (reference_rows past)) in
    short_put_all room.references new old
    (omega (
      arith,
      (roomy room e past (passed room e past no_refusal).rooms).handles,
      rows_hold_next room past so_far e everything,
      held_put_or_add_all everything new old,
      count_all new,
      length-map made (made_at (suc (length past))),
      count_all (held old),
    ))
    (omega (arith, length_wipe (by_what (frame_gone (e ∷ past))) (wipe_first (by_what (deletes e)) (reference_rows past)), length_wipe_first (by_what (deletes e)) (reference_rows past), rows_short room past so_far))

both_hold : (a b c d : ℕ) → a ≤ b → c ≤ d → leb a b ≡ leb c d
both_hold a b c d h k = le-leb a b h ∙ sym (le-leb c d k)

module _ (room : Room) (past : History) (so_far : Accepted room past) where
  held_short : length (held (reference_rows past)) ≤ room.references
  held_short = omega (arith, held_within (reference_rows past), rows_short room past so_far)

  module _ (e : Line) where
    -- a line that ends nothing
    all_fit : reference_rows (e ∷ past) ≡ put_or_add_all (map (made_at (suc (length past))) (makes e (depth (thread_of e) past))) (reference_rows past)
        → leb (length (makes e (depth (thread_of e) past)) + length (held (reference_rows past))) room.references ≡ leb (count everything (living (e ∷ past))) room.references
    all_fit same =
        let made = makes e (depth (thread_of e) past) in
        let new = map (made_at (suc (length past))) made in
        ap (λ (k : ℕ). leb k room.references)
        (omega (
          arith,
          rows_hold_next room past so_far e everything,
          ap (λ (s : List (Option (Made Alive))). count everything (held s)) same,
          held_put_or_add_all everything new (reference_rows past),
          count_all new,
          length-map made (made_at (suc (length past))),
          count_all (held (reference_rows past)),
        ))

    -- a line that makes nothing
    none_more : makes e (depth (thread_of e) past) ≡ []
        → leb (length (makes e (depth (thread_of e) past)) + length (held (reference_rows past))) room.references ≡ leb (count everything (living (e ∷ past))) room.references
    unfolding reference_rows
    none_more nothing =
        let new = map (made_at (suc (length past))) (makes e (depth (thread_of e) past)) in
        let old = wipe (by_what (frame_gone (e ∷ past))) (wipe_first (by_what (deletes e)) (reference_rows past)) in
        both_hold (length (makes e (depth (thread_of e) past)) + length (held (reference_rows past))) room.references (count everything (living (e ∷ past))) room.references
        (omega (arith, ap length nothing, held_short))
        (omega (
          arith,
          rows_hold_next room past so_far e everything,
          held_put_or_add_all everything new old,
          ap (λ (l : List Alive). count everything (map (made_at (suc (length past))) l)) nothing,
          count_all (held old),
          held_within old,
          length_wipe (by_what (frame_gone (e ∷ past))) (wipe_first (by_what (deletes e)) (reference_rows past)),
          length_wipe_first (by_what (deletes e)) (reference_rows past),
          rows_short room past so_far,
        ))

  -- rows free for all that a line makes are what the history has room for
  pub references_left : (e : Line)
      → leb (length (makes e (depth (thread_of e) past)) + length (held (reference_rows past))) room.references ≡ leb (count everything (living (e ∷ past))) room.references
  unfolding deletes
  references_left (N t env hs) = all_fit (N t env hs) (rows_added room past so_far (N t env hs) (frames_grow_N t env hs (frames t past)) (λ x. refl))
  references_left (X t r) = none_more (X t r) (unfold makes in refl)
  references_left (C t env f a b c n) = none_more (C t env f a b c n) (unfold makes in refl)
  references_left (R t f r p) = all_fit (R t f r p) (rows_added room past so_far (R t f r p) (frames_grow_R t f r p (frames t past)) (λ x. refl))
  references_left (A t env) = none_more (A t env) (unfold makes in refl)
  references_left (D t) = none_more (D t) (unfold makes in refl)
  references_left Z = none_more Z (unfold makes in refl)
  references_left (states s) = none_more (states s) (unfold makes in refl)

-- ---- pins

pin_count : (e : Line) (past : History) → count everything (outstanding (e ∷ past)) ≡ length (gets e) + length (held (wipe_first (by_what (releases e)) (pin_rows past)))
unfolding pin_rows
pin_count e past =
    let new = map (made_at (suc (length past))) (gets e) in
    let old = wipe_first (by_what (releases e)) (pin_rows past) in
    omega (arith, pin_rows_hold (e ∷ past) everything, held_put_or_add_all everything new old, count_all new, length-map (gets e) (made_at (suc (length past))), count_all (held old))

pub pins_short : (room : Room) (past : History) → Accepted room past → length (pin_rows past) ≤ room.pins
unfolding pin_rows
pins_short room [] at_start = omega arith
pins_short room (e ∷ past) (and_line _ _ few fine no_refusal so_far) =
    let number = made_at (suc (length past)) in
    short_put_all room.pins (map number (gets e)) (wipe_first (by_what (releases e)) (pin_rows past))
    (omega (arith, (roomy room e past (passed room e past no_refusal).rooms).buffers, pin_count e past, length-map (gets e) number))
    (omega (arith, length_wipe_first (by_what (releases e)) (pin_rows past), pins_short room past so_far))

module _ (room : Room) (past : History) (so_far : Accepted room past) where
  module _ (e : Line) where
    all_pins_fit : ((x : Pin) → releases e x ≡ false)
        → leb (length (gets e) + length (held (pin_rows past))) room.pins ≡ leb (count everything (outstanding (e ∷ past))) room.pins
    all_pins_fit none =
        ap (λ (k : ℕ). leb k room.pins)
        (omega (
          arith,
          pin_count e past,
          ap (λ (g : Made Pin → Bool). length (held (wipe_first g (pin_rows past)))) (fun_ext (λ x. none x.what)),
          ap (λ (s : List (Option (Made Pin))). length (held s)) (wipe_first_none (pin_rows past)),
        ))

    no_more_pins : gets e ≡ [] → leb (length (gets e) + length (held (pin_rows past))) room.pins ≡ leb (count everything (outstanding (e ∷ past))) room.pins
    no_more_pins nothing =
        both_hold (length (gets e) + length (held (pin_rows past))) room.pins (count everything (outstanding (e ∷ past))) room.pins
        (omega (arith, ap length nothing, held_within (pin_rows past), pins_short room past so_far))
        (omega (
          arith,
          ap length nothing,
          pin_count e past,
          held_within (wipe_first (by_what (releases e)) (pin_rows past)),
          length_wipe_first (by_what (releases e)) (pin_rows past),
          pins_short room past so_far,
        ))

  pub pins_left : (e : Line) → leb (length (gets e) + length (held (pin_rows past))) room.pins ≡ leb (count everything (outstanding (e ∷ past))) room.pins
  unfolding releases
  pins_left (N t env hs) = all_pins_fit (N t env hs) (λ x. refl)
  pins_left (X t r) = all_pins_fit (X t r) (λ x. refl)
  pins_left (C t env f a b c n) = no_more_pins (C t env f a b c n) (unfold gets in refl)
  pins_left (R t f r p) = all_pins_fit (R t f r p) (λ x. refl)
  pins_left (A t env) = all_pins_fit (A t env) (λ x. refl)
  pins_left (D t) = all_pins_fit (D t) (λ x. refl)
  pins_left Z = all_pins_fit Z (λ x. refl)
  pins_left (states s) = all_pins_fit (states s) (λ x. refl)
