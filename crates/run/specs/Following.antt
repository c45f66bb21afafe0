-- The lent tables on the way through an input: they follow a history of accepted lines. Assumes nothing.
use Rattle.std.specs.Prelude.{ℕ, ◌≡◌, length}
use Rattle.history.specs.Past.{History}
use Rattle.history.specs.Acceptance.{Room}
use Rattle.history.specs.Accepted.{Accepted}
use Rattle.tables.specs.Tables.{Tables}
use Rattle.demands.specs.Tied.{AllTied}

-- of n lines
pub record Follows (T : Tables) (n : ℕ) : Type 0 where
  pub room : Room
  pub past : History
  pub tied : AllTied room T past
  pub accepts : Accepted room past
  pub count : length past ≡ n
