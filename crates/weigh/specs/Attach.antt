-- Whether A is in turn; else it is answered as N is, with no handles. Assumes nothing.
use Rattle.std.specs.Prelude.{Bool, not, ◌&&◌, Option}
use Rattle.history.specs.Items.{Item, is_empty}

abbrev pub attach_turn : Bool → Option Item → Bool
attach_turn closed top = not closed && is_empty top
