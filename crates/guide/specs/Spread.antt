-- A value, which is a handle or a buffer, spread over a guide's places. Assumes nothing.
use Rattle.std.specs.Prelude.{ℕ, ◌+◌, ◌*◌, ◌/◌, ◌%◌}

-- what tells it apart beside the value is a number below this
abbrev pub most_beside : ℕ
most_beside = 512

-- any spread will do; this one takes in all of the value, both halves of its 64 bits
unfoldable pub spread : ℕ → ℕ → ℕ
spread v beside = v % 4294967296 * 2654435769 + v / 4294967296 * 1597334677 + beside * 2246822519
