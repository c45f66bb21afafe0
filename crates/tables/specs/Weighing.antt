-- What is answered to a line that was read, over lent tables: the same rules as over the history, on what is seen in the tables. Assumes nothing.
use Rattle.std.specs.Prelude.{ℕ, ◌+◌, Bool, true, ◌&&◌, eqb, leb, ltb, length, Option}
use Rattle.words.specs.Choice.{if_true◌then◌else◌}
use Rattle.lines.specs.Line.{Line, if_M◌then◌else◌}
use Rattle.rows.specs.Table.{room, alive}
use Rattle.rows.specs.References.{references}
use Rattle.rows.specs.Pins.{pins}
use Rattle.history.specs.Past.{thread_of}
use Rattle.history.specs.Items.{Item}
use Rattle.history.specs.Frames.{frames_after}
use Rattle.history.specs.Buffers.{gets}
use Rattle.history.specs.Acceptance.{in_step, env_right, made_by, makes_anew, classes_right, names_alive, has_item_room, first_refusal, deepest}
use Rattle.history.specs.Findings.{of_line}
use Rattle.history.specs.Replies.{Reply, accepted, not_accepted}
use Rattle.classes.specs.Identities.{identity_room, place_of}
use Rattle.tables.specs.Tables.{Tables, seen_in}

-- there are rows free for all that the line makes, and its thread has frames left
unfoldable pub rows_left : Line → Tables → Bool
rows_left e T =
    leb (length (made_by e (seen_in T)) + alive references T.references) (room references T.references)
    && leb (length (gets e) + alive pins T.pins) (room pins T.pins)
    && leb (length (frames_after e ((seen_in T).frames (thread_of e)))) deepest

-- the identity that M states stands there already, or a place is free for it
unfoldable pub place_left : Line → Tables → Bool
place_left e T = if_M e then (λ x sort c static final. ltb (place_of T.classes x) (identity_room T.classes)) else true

-- 0, or the number 4 to 7, 9 or 10; the line's thread has `many` items open and `top` on top
unfoldable pub refusal_in : Line → Option Item → ℕ → Tables → ℕ
refusal_in e top many T =
    first_refusal
    (in_step e top (seen_in T).closed)
    (env_right e (seen_in T))
    (makes_anew e (seen_in T))
    (classes_right e (seen_in T))
    (names_alive e (seen_in T))
    (place_left e T && rows_left e T && has_item_room e many)

-- line number `line`
unfoldable pub weighed_in : ℕ → Line → Option Item → ℕ → Tables → Reply
weighed_in line e top many T =
    if_true eqb (refusal_in e top many T) 0 then accepted (of_line line e (seen_in T)) else not_accepted (refusal_in e top many T)
