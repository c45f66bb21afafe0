-- A thread's own lines, and the lines of others, which change nothing of it. Assumes nothing.
use Prim.Native.Nat.{ℕ, ◌-◌}
use mathlib.Core.Path.{◌≡◌, sym, ap}
use mathlib.Core.Bool.{Bool, true, false, false≢true}
use mathlib.Core.List.{[], ◌∷◌}
use lib.ListN.{length}
use borrow.Author.Tests.{eqb-true}
use Rattle.words.specs.Choice.{if_true◌then◌else◌}
use Rattle.lines.specs.Line.{Line, N, X, C, R, A, D, Z, states}
use Rattle.history.specs.Past.{History, thread_of, is_of, through}
use Rattle.history.specs.Items.{items, items_after, top_of, asked}
use Rattle.history.specs.Frames.{frames, frames_after, depth}
use Rattle.history.specs.Handles.{alive_in}
use Rattle.history.specs.Capacities.{capacities, capacities_after}
use Rattle.history.specs.Thread.{pending, pending_after, monitors, monitors_after, env_of, env_after}

module _ {A : Type 0} (after : Line → A → A) (x : A) (t : ℕ) (e : Line) (past : History) where
  through_own : is_of t e ≡ true → through after x t (e ∷ past) ≡ after e (through after x t past)
  unfolding through
  through_own h = ap (λ (q : Bool). if_true q then after e (through after x t past) else through after x t past) h

  through_other : is_of t e ≡ false → through after x t (e ∷ past) ≡ through after x t past
  unfolding through
  through_other h = ap (λ (q : Bool). if_true q then after e (through after x t past) else through after x t past) h

module _ (t : ℕ) (e : Line) (past : History) where
  pub own_items : is_of t e ≡ true → items t (e ∷ past) ≡ items_after e (items t past)
  unfolding items
  own_items h = through_own items_after [] t e past h

  pub other_items : is_of t e ≡ false → items t (e ∷ past) ≡ items t past
  unfolding items
  other_items h = through_other items_after [] t e past h

  pub own_frames : is_of t e ≡ true → frames t (e ∷ past) ≡ frames_after e (frames t past)
  unfolding frames
  own_frames h = through_own frames_after [] t e past h

  pub other_frames : is_of t e ≡ false → frames t (e ∷ past) ≡ frames t past
  unfolding frames
  other_frames h = through_other frames_after [] t e past h

  pub own_depth : is_of t e ≡ true → depth t (e ∷ past) ≡ length (frames_after e (frames t past))
  unfolding depth
  own_depth h = ap length (own_frames h)

  pub other_depth : is_of t e ≡ false → depth t (e ∷ past) ≡ depth t past
  unfolding depth
  other_depth h = ap length (other_frames h)

  pub own_capacities : is_of t e ≡ true → capacities t (e ∷ past)
      ≡ capacities_after e (record { gone = depth t past - depth t (e ∷ past); held = alive_in t (depth t past) past; asked = asked (top_of (items t past)) }) (capacities t past)
  unfolding capacities
  own_capacities h = rw h

  pub other_capacities : is_of t e ≡ false → capacities t (e ∷ past) ≡ capacities t past
  unfolding capacities
  other_capacities h = rw h

  pub own_pending : is_of t e ≡ true → pending t (e ∷ past) ≡ pending_after e (pending t past)
  unfolding pending
  own_pending h = through_own pending_after 0 t e past h

  pub other_pending : is_of t e ≡ false → pending t (e ∷ past) ≡ pending t past
  unfolding pending
  other_pending h = through_other pending_after 0 t e past h

  pub own_monitors : is_of t e ≡ true → monitors t (e ∷ past) ≡ monitors_after e (monitors t past)
  unfolding monitors
  own_monitors h = through_own monitors_after 0 t e past h

  pub other_monitors : is_of t e ≡ false → monitors t (e ∷ past) ≡ monitors t past
  unfolding monitors
  other_monitors h = through_other monitors_after 0 t e past h

  pub own_env : is_of t e ≡ true → env_of t (e ∷ past) ≡ env_after e (env_of t past)
  unfolding env_of
  own_env h = through_own env_after 0 t e past h

  pub other_env_of : is_of t e ≡ false → env_of t (e ∷ past) ≡ env_of t past
  unfolding env_of
  other_env_of h = through_other env_after 0 t e past h

-- a line of the thread names it
pub thread_is : (t : ℕ) (e : Line) → is_of t e ≡ true → thread_of e ≡ t
thread_is t (N s env hs) o = sym (eqb-true _ _ o)
thread_is t (X s r) o = sym (eqb-true _ _ o)
thread_is t (C s env f a b c n) o = sym (eqb-true _ _ o)
thread_is t (R s f r p) o = sym (eqb-true _ _ o)
thread_is t (A s env) o = sym (eqb-true _ _ o)
thread_is t (D s) o = sym (eqb-true _ _ o)
thread_is t Z o = absurd (false≢true o)
thread_is t (states s) o = absurd (false≢true o)
