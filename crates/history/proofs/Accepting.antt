-- What an accepted line has passed: the six tests, one after another. Assumes nothing.
use Prim.Native.Nat.{ℕ}
use mathlib.Core.Path.{◌≡◌, refl}
use mathlib.Core.Bool.{Bool, true, false, ◌&&◌}
use mathlib.Core.List.{[], ◌∷◌, ◌++◌}
use native.Mathlib.Omega.{arith}
use lib.ListN.{length}
use Rattle.lines.specs.Line.{Line, is_allowed}
use Rattle.history.specs.Past.{History, thread_of, closed}
use Rattle.history.specs.Items.{items, top_of}
use Rattle.history.specs.Seen.{seen}
use Rattle.history.specs.Acceptance.{Room, in_step, env_right, makes_anew, classes_right, names_alive, has_room, has_identity_room, has_item_room, first_refusal, refusal}
use Rattle.history.specs.Accepted.{Accepted, and_line}

-- the tests of `refusal`
abbrev pub in_step_of : Line → History → Bool
in_step_of e past = in_step e (top_of (items (thread_of e) past)) (closed past)

abbrev pub has_room_of : Room → Line → History → Bool
has_room_of room e past = has_identity_room room (e ∷ past) && has_room room (thread_of e) (seen (e ∷ past)) && has_item_room e (length (items (thread_of e) past))

-- which number they give
data Tested : Bool → Bool → Bool → Bool → Bool → Bool → ℕ → Type 0 where
  at_4 : (env anew classes alive room : Bool) → Tested false env anew classes alive room 4
  at_5 : (anew classes alive room : Bool) → Tested true false anew classes alive room 5
  at_6 : (classes alive room : Bool) → Tested true true false classes alive room 6
  at_9 : (alive room : Bool) → Tested true true true false alive room 9
  at_10 : (room : Bool) → Tested true true true true false room 10
  at_7 : Tested true true true true true false 7
  at_0 : Tested true true true true true true 0

tested : (step env anew classes alive room : Bool) → Tested step env anew classes alive room (first_refusal step env anew classes alive room)
tested false env anew classes alive room = at_4 env anew classes alive room
tested true false anew classes alive room = at_5 anew classes alive room
tested true true false classes alive room = at_6 classes alive room
tested true true true false alive room = at_9 alive room
tested true true true true false room = at_10 room
tested true true true true true false = at_7
tested true true true true true true = at_0

-- what a line has passed that was given no number
pub record Passed (room : Room) (e : Line) (past : History) : Type 0 where
  pub step : in_step_of e past ≡ true
  pub env : env_right e (seen past) ≡ true
  pub anew : makes_anew e (seen past) ≡ true
  pub classes : classes_right e (seen past) ≡ true
  pub alive : names_alive e (seen past) ≡ true
  pub rooms : has_room_of room e past ≡ true

-- an accepted line has passed all six
pub passed : (room : Room) (e : Line) (past : History) → refusal room e past ≡ 0 → Passed room e past
unfolding refusal
passed room e past h =
    go (in_step_of e past) refl (env_right e (seen past)) refl (makes_anew e (seen past)) refl (classes_right e (seen past)) refl
    (names_alive e (seen past)) refl (has_room_of room e past) refl
    (tested (in_step_of e past) (env_right e (seen past)) (makes_anew e (seen past)) (classes_right e (seen past)) (names_alive e (seen past)) (has_room_of room e past)) h
  where
    go : (a : Bool) → in_step_of e past ≡ a → (b : Bool) → env_right e (seen past) ≡ b → (c : Bool) → makes_anew e (seen past) ≡ c
        → (d : Bool) → classes_right e (seen past) ≡ d → (f : Bool) → names_alive e (seen past) ≡ f → (g : Bool) → has_room_of room e past ≡ g
        → {n : ℕ} → Tested a b c d f g n → n ≡ 0 → Passed room e past
    go _ ea _ eb _ ec _ ed _ ef _ eg (at_4 env anew classes alive room) h = absurd (omega (arith, h))
    go _ ea _ eb _ ec _ ed _ ef _ eg (at_5 anew classes alive room) h = absurd (omega (arith, h))
    go _ ea _ eb _ ec _ ed _ ef _ eg (at_6 classes alive room) h = absurd (omega (arith, h))
    go _ ea _ eb _ ec _ ed _ ef _ eg (at_9 alive room) h = absurd (omega (arith, h))
    go _ ea _ eb _ ec _ ed _ ef _ eg (at_10 room) h = absurd (omega (arith, h))
    go _ ea _ eb _ ec _ ed _ ef _ eg at_7 h = absurd (omega (arith, h))
    go _ ea _ eb _ ec _ ed _ ef _ eg at_0 h = record { step = ea; env = eb; anew = ec; classes = ed; alive = ef; rooms = eg }

-- ---- the newest of accepted lines, and those before it

module _ (room : Room) (e : Line) (past : History) where
  pub allowed : Accepted room (e ∷ past) → is_allowed e ≡ true
  allowed (and_line _ _ n a r k) = a

  pub not_refused : Accepted room (e ∷ past) → refusal room e past ≡ 0
  not_refused (and_line _ _ n a r k) = r

  pub before : Accepted room (e ∷ past) → Accepted room past
  before (and_line _ _ n a r k) = k

-- an accepted trace's earlier part is accepted
pub accepted_before : (room : Room) (newer past : History) → Accepted room (newer ++ past) → Accepted room past
accepted_before room [] past a = a
accepted_before room (e ∷ newer) past a = accepted_before room newer past (before room e (newer ++ past) a)
