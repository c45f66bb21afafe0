-- What stands at a place of C or X, as it is told: whether it is there, its row, and whether its stated class is right there; an identity, whether it is
-- stated as it is wanted, and may be taken. Assumes nothing.
use Rattle.std.specs.Prelude.{ℕ, Bool, true, false, eqb}
use Rattle.words.specs.Choice.{if_true◌then◌else◌}
use Rattle.facts.specs.Table.{family}
use Rattle.facts.specs.Results.{is_handle_place, is_buffer_place, is_identity_place}
use Rattle.facts.specs.declared.Place.{Place}
use Rattle.lines.specs.Line.{kind}
use Rattle.rows.specs.Table.{Table, found}
use Rattle.rows.specs.References.{references, is_handle}
use Rattle.rows.specs.Pins.{pins, is_buffer}
use Rattle.history.specs.Handles.{is_local, is_shared}
use Rattle.history.specs.Buffers.{pin, same_pin}
use Rattle.history.specs.Seen.{is_alive, is_outstanding, handle_alive}
use Rattle.history.specs.Classes.{class_fits}
use Rattle.history.specs.Breaches.{is_wanted, may_take, is_there}
use Rattle.tables.specs.Tables.{Tables, seen_in}
use Rattle.tables.specs.Acting.{pin_owner}
use Rattle.sight.specs.declared.spot.Spot.{Spot}

abbrev pub spot : Bool → ℕ → Bool → Spot
spot there row fits = record { there = there; row = row; fits = fits }

-- not looked up
abbrev pub nowhere : Spot
nowhere = spot false 0 true

-- ---- a handle

abbrev pub row_of_handle : Table → ℕ → ℕ → ℕ
row_of_handle R t h = found references (is_handle t h) R

unfoldable pub local_spot : Tables → ℕ → ℕ → Spot
local_spot T t h = spot (is_alive (is_local t h) (seen_in T)) (row_of_handle T.references t h) true

unfoldable pub shared_spot : Tables → ℕ → Spot
shared_spot T h = spot (is_alive (is_shared h) (seen_in T)) (row_of_handle T.references 0 h) true

unfoldable pub handle_row : Table → ℕ → ℕ → ℕ
handle_row R t h =
    if_true eqb (kind h) 0 then 0
    else if_true eqb (kind h) 1 then row_of_handle R t h
    else row_of_handle R 0 h

-- where class `fixed` is fixed, or none
abbrev pub class_here : ℕ → Tables → ℕ → ℕ → Bool
class_here fixed T t h = class_fits (seen_in T).super fixed ((seen_in T).class t h)

unfoldable pub handle_spot : ℕ → Tables → ℕ → ℕ → Spot
handle_spot fixed T t h = spot (handle_alive t h (seen_in T)) (handle_row T.references t h) (class_here fixed T t h)

-- ---- a buffer

abbrev pub buffer_row : Table → ℕ → ℕ → ℕ → ℕ
buffer_row P t f b = found pins (is_buffer (pin_owner f t) (family f) b) P

unfoldable pub buffer_spot : Tables → ℕ → ℕ → ℕ → Spot
buffer_spot T t f b = spot (is_outstanding (same_pin (pin t f b)) (seen_in T)) (buffer_row T.pins t f b) true

-- ---- an identity, handed to function f

unfoldable pub identity_spot : Tables → ℕ → ℕ → Spot
identity_spot T f x = spot (is_wanted f ((seen_in T).identity x)) 0 (may_take f ((seen_in T).identity x))

-- ---- the value h at a place of function f, called by thread t

unfoldable pub place_row : Place → Tables → ℕ → ℕ → ℕ → ℕ
place_row p T t f h =
    if_true is_handle_place p then handle_row T.references t h
    else if_true is_buffer_place p then buffer_row T.pins t f h
    else 0

unfoldable pub place_fits : ℕ → Place → Tables → ℕ → ℕ → ℕ → Bool
place_fits fixed p T t f h =
    if_true is_handle_place p then class_here fixed T t h
    else if_true is_identity_place p then may_take f ((seen_in T).identity h)
    else true

unfoldable pub place_spot : ℕ → Place → Tables → ℕ → ℕ → ℕ → Spot
place_spot fixed p T t f h = spot (is_there p t f h (seen_in T)) (place_row p T t f h) (place_fits fixed p T t f h)
