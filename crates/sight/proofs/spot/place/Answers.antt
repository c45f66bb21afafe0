-- `sight::spot::place` meets its contract. Assumes nothing.
use mathlib.Core.Path.{sym, ◌∙◌}
use Rattle.sight.proofs.SpotLaws.{handle_place_at, buffer_place_at, identity_place_at, no_place_at}
use Rattle.sight.proofs.spot.place.Goals as goal

pub returns-then-is_handle_place : goal.returns-then-is_handle_place
returns-then-is_handle_place c = λ led b. handle_place_at _ _ _ _ _ _ _ (sym c.is_handle_place.ensures ∙ c.if-is_handle_place.true) (c.judged.ensures led.0 _ b)

pub returns-then-is_buffer_place : goal.returns-then-is_buffer_place
returns-then-is_buffer_place c = λ led b. buffer_place_at _ _ _ _ _ _ _ (sym c.is_handle_place.ensures ∙ c.if-is_handle_place.false) (sym c.is_buffer_place.ensures ∙ c.if-is_buffer_place.true) (c.buffer.ensures led.1 _ b _)

pub returns-then-is_identity_place : goal.returns-then-is_identity_place
returns-then-is_identity_place c = λ led b. identity_place_at _ _ _ _ _ _ _ (sym c.is_handle_place.ensures ∙ c.if-is_handle_place.false) (sym c.is_buffer_place.ensures ∙ c.if-is_buffer_place.false) (sym c.is_identity_place.ensures ∙ c.if-is_identity_place.true) (c.identity.ensures _ _ b)

pub returns : goal.returns
returns c = λ led b. no_place_at _ _ _ _ _ _ _ (sym c.is_handle_place.ensures ∙ c.if-is_handle_place.false) (sym c.is_buffer_place.ensures ∙ c.if-is_buffer_place.false) (sym c.is_identity_place.ensures ∙ c.if-is_identity_place.false) c.nowhere.ensures
