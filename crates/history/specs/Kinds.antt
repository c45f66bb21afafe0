-- The handles alive by their kind: the remainder by 4 is 1 for a local, 2 for a global, 3 for a weak. Assumes nothing.
use Rattle.std.specs.Prelude.{ℕ, Bool, eqb}
use Rattle.lines.specs.Line.{kind}
use Rattle.history.specs.Handles.{Alive, local, shared}

abbrev pub handle_of : Alive → ℕ
handle_of (local t d h) = h
handle_of (shared h) = h

abbrev pub of_kind : ℕ → Alive → Bool
of_kind k x = eqb (kind (handle_of x)) k
