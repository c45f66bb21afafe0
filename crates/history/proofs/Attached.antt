-- What A opens D closes, however much was between; what D ends. Assumes nothing.
use Prim.Native.Nat.{ℕ}
use mathlib.Core.Path.{◌≡◌, refl, sym, ap, ◌∙◌}
use mathlib.Core.Bool.{true, not, false≢true}
use mathlib.Core.List.{List, [], ◌∷◌, ◌++◌, tail}
use native.Mathlib.Omega.{arith}
use lib.ListN.{length}
use borrow.Author.Tests.{ltb-false}
use Rattle.lines.specs.Line.{A, D}
use Rattle.history.specs.Past.{History, closed}
use Rattle.history.specs.Items.{Item, attached, items, top_of, is_empty}
use Rattle.history.specs.Frames.{entered, frames, depth}
use Rattle.history.specs.Handles.{local, makes}
use Rattle.history.specs.Capacities.{capacities}
use Rattle.history.specs.Thread.{pending, monitors}
use Rattle.history.specs.Acceptance.{Room, in_step}
use Rattle.history.specs.Accepted.{Accepted, and_line}
use Rattle.history.specs.Whole.{Whole}
use Rattle.history.specs.Lives.{Lives}
use Rattle.history.proofs.Tests.{and_right, eqb_self}
use Rattle.history.proofs.Threads.{own_items, own_frames, own_capacities, own_pending, own_monitors, own_depth}
use Rattle.history.proofs.Capacities.{capacities_fit}
use Rattle.history.proofs.Calls.{same_items}
use Rattle.history.proofs.Living.{unless_made, frame_stands, living_are}
use Rattle.history.proofs.Once.{local_placed}
use Rattle.history.proofs.Stacks.{unframed}
use Rattle.history.proofs.Accepting.{passed}

-- ---- A

module _ (t env : ℕ) (past : History) where
  -- A opens an attached item
  pub attach_items : items t (A t env ∷ past) ≡ attached ∷ items t past
  attach_items = own_items t (A t env) past (eqb_self t)

  -- with a frame
  pub attach_frames : frames t (A t env ∷ past) ≡ entered ∷ frames t past
  attach_frames = own_frames t (A t env) past (eqb_self t)

  -- of capacity 16
  pub attach_capacities : capacities t (A t env ∷ past) ≡ 16 ∷ capacities t past
  attach_capacities = own_capacities t (A t env) past (eqb_self t)

  -- pending becomes 0
  pub attach_pending : pending t (A t env ∷ past) ≡ 0
  attach_pending = own_pending t (A t env) past (eqb_self t)

-- ---- D

nothing_in : (cs : List ℕ) → length cs ≡ 0 → cs ≡ []
nothing_in [] h = refl
nothing_in (c ∷ cs) h = absurd (omega (arith, h))

no_capacity : (t : ℕ) (past : History) → frames t past ≡ [] → capacities t past ≡ []
unfolding depth
no_capacity t past none = nothing_in (capacities t past) (capacities_fit past t ∙ ap length none)

module _ (t : ℕ) (past : History) where
  -- D closes the item
  pub detach_items : items t (D t ∷ past) ≡ tail (items t past)
  detach_items = own_items t (D t) past (eqb_self t)

  -- ends the thread's frames, and their capacities go with them
  pub detach_frames : (frames t (D t ∷ past) ≡ []) × (capacities t (D t ∷ past) ≡ [])
  detach_frames = (ended, no_capacity t (D t ∷ past) ended)
    where
      ended : frames t (D t ∷ past) ≡ []
      ended = own_frames t (D t) past (eqb_self t)

  -- its monitors become 0
  pub detach_monitors : monitors t (D t ∷ past) ≡ 0
  detach_monitors = own_monitors t (D t) past (eqb_self t)

-- and none of its locals lives
pub detach_locals : (room : Room) (past : History) → Accepted room past → (t d h : ℕ) → ¬ Lives (local t d h) (D t ∷ past)
unfolding makes
detach_locals room past a t d h k =
    let alive = unless_made (D t) past (local t d h) (λ m. elim m [ ]) ((living_are (D t ∷ past) (local t d h)).1 k) in
    let placed = (local_placed room past a t d h ((living_are past (local t d h)).0 alive)).0 in
    let there = ltb-false (depth t (D t ∷ past)) d (frame_stands (D t ∷ past) (local t d h) ((living_are (D t ∷ past) (local t d h)).1 k)) in
    absurd (omega (arith, placed, there, own_depth t (D t) past (eqb_self t)))

-- ---- A and its D

-- A comes where the thread has nothing open
nothing_open : (room : Room) (t env : ℕ) (past : History) → Accepted room (A t env ∷ past) → (items t past ≡ []) × (frames t past ≡ [])
unfolding in_step
nothing_open room t env past (and_line _ _ n a r k) =
    let none = is_none (items t past) (and_right (not (closed past)) (is_empty (top_of (items t past))) (passed room (A t env) past r).step) in
    (none, unframed room past k t none)
  where
    is_none : (is : List Item) → is_empty (top_of is) ≡ true → is ≡ []
    is_none [] h = refl
    is_none (i ∷ is) h = absurd (false≢true h)

pub attached_closes : (room : Room) (t env : ℕ) (inside past : History) → Whole t inside → Accepted room (A t env ∷ past)
    → let after : History = D t ∷ (inside ++ (A t env ∷ past)) in
    (items t after ≡ items t past) × (frames t after ≡ frames t past) × (capacities t after ≡ capacities t past) × (items t past ≡ []) × (frames t past ≡ [])
attached_closes room t env inside past w a =
    let before : History = inside ++ (A t env ∷ past) in
    let (unopened, bare) = nothing_open room t env past a in
    let ended = detach_frames t before in (
      detach_items t before ∙ ap tail (same_items t inside (A t env ∷ past) w ∙ attach_items t env past),
      ended.0 ∙ sym bare,
      ended.1 ∙ sym (no_capacity t past bare),
      unopened,
      bare,
    )
