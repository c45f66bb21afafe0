-- Nothing of a thread has changed. Assumes nothing.
use Rattle.std.specs.Prelude.{ℕ, ◌≡◌, ◌↔◌}
use Rattle.words.specs.Lists.{count}
use Rattle.history.specs.Past.{History}
use Rattle.history.specs.Items.{items}
use Rattle.history.specs.Frames.{frames}
use Rattle.history.specs.Handles.{local}
use Rattle.history.specs.Capacities.{capacities}
use Rattle.history.specs.Buffers.{critical, same_pin, outstanding}
use Rattle.history.specs.Thread.{pending, monitors, env_of}
use Rattle.history.specs.Lives.{Lives}

pub record SameFor (t : ℕ) (past after : History) : Type 0 where
  pub same_items : items t after ≡ items t past
  pub same_frames : frames t after ≡ frames t past
  pub same_capacities : capacities t after ≡ capacities t past
  pub same_pending : pending t after ≡ pending t past
  pub same_monitors : monitors t after ≡ monitors t past
  pub same_env : env_of t after ≡ env_of t past
  -- its locals
  pub same_locals : (d h : ℕ) → Lives (local t d h) after ↔ Lives (local t d h) past
  -- its critical buffers, each as often
  pub same_critical : (k b : ℕ) → count (same_pin (critical t k b)) (outstanding after) ≡ count (same_pin (critical t k b)) (outstanding past)
