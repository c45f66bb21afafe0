-- The functions of a buffer family: get / release. Assumes nothing.
use Rattle.std.specs.Prelude.{ℕ, Bool, eqb}
use Rattle.facts.specs.Table.{Pair, ◌released_by◌}

abbrev pub is_get : ℕ → Pair → Bool
is_get f (get released_by release) = eqb f get

abbrev pub is_release : ℕ → Pair → Bool
is_release f (get released_by release) = eqb f release
