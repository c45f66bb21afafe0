-- Accepted lines: each was allowed by itself, and was given no refusal when it came. Assumes nothing.
use Rattle.std.specs.Prelude.{◌<◌, ◌≡◌, true, [], ◌∷◌, length}
use Rattle.lines.specs.Line.{Line, is_allowed}
use Rattle.history.specs.Past.{History}
use Rattle.history.specs.Acceptance.{Room, refusal}

pub data Accepted (room : Room) : History → Type 0 where
  at_start : Accepted room []
  and_line : (e : Line) (past : History) → length past < 1000000 → is_allowed e ≡ true → refusal room e past ≡ 0 → Accepted room past
      → Accepted room (e ∷ past)
