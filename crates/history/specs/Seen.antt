-- All that a judgement of the next line looks at, but the open items. Assumes nothing.
use Rattle.std.specs.Prelude.{ℕ, Bool, false, List, eqb, ltb}
use Rattle.words.specs.Choice.{if_true◌then◌else◌}
use Rattle.words.specs.Lists.{count, sum, of_first}
use Rattle.lines.specs.Line.{kind}
use Rattle.history.specs.Past.{History, closed}
use Rattle.history.specs.Frames.{Frame, frames}
use Rattle.history.specs.Handles.{Alive, is_local, is_shared, living}
use Rattle.history.specs.Statements.{names, class_stated}
use Rattle.history.specs.Classes.{super_of}
use Rattle.history.specs.Identities.{identity_of}
use Rattle.history.specs.Capacities.{capacities}
use Rattle.history.specs.Buffers.{Pin, outstanding}
use Rattle.history.specs.Thread.{all_threads, pending, monitors, env_of}
use Rattle.history.specs.declared.Identity.{Identity}

pub record Seen : Type 0 where
  -- of each thread
  pub frames : ℕ → List Frame
  pub capacities : ℕ → List ℕ
  pub pending : ℕ → ℕ
  pub monitors : ℕ → ℕ
  pub env : ℕ → ℕ
  -- of all threads
  pub all_monitors : ℕ
  -- how many handles alive, and how many buffers outstanding, pass a test
  pub handles : (Alive → Bool) → ℕ
  pub buffers : (Pin → Bool) → ℕ
  -- the class stated of the handle alive that a thread names so, 0 where none is
  pub class : ℕ → ℕ → ℕ
  -- the super declared of a class, 0 where none is
  pub super : ℕ → ℕ
  -- what is stated of an identity
  pub identity : ℕ → Identity
  -- Z was one of the lines
  pub closed : Bool

unfoldable pub seen : History → Seen
seen past =
    record {
      frames = λ t. frames t past;
      capacities = λ t. capacities t past;
      pending = λ t. pending t past;
      monitors = λ t. monitors t past;
      env = λ t. env_of t past;
      all_monitors = sum (λ t. monitors t past) all_threads;
      handles = λ test. count test (living past);
      buffers = λ test. count test (outstanding past);
      class = λ t h. of_first (names t h) (class_stated past) (living past);
      super = super_of past;
      identity = identity_of past;
      closed = closed past;
    }

-- some handle alive, some buffer outstanding, passes the test
abbrev pub is_alive : (Alive → Bool) → Seen → Bool
is_alive test v = ltb 0 (v.handles test)

abbrev pub is_outstanding : (Pin → Bool) → Seen → Bool
is_outstanding test v = ltb 0 (v.buffers test)

-- a local in this thread; null and identities are no handles
unfoldable pub handle_alive : ℕ → ℕ → Seen → Bool
handle_alive t h v =
    if_true eqb (kind h) 0 then false
    else if_true eqb (kind h) 1 then is_alive (is_local t h) v
    else is_alive (is_shared h) v
