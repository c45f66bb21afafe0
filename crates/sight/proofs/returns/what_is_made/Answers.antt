-- `sight::returns::what_is_made` meets its contract. Assumes nothing.
use mathlib.Core.Path.{sym, ◌∙◌}
use Rattle.sight.proofs.ReturnLaws.{null_made, made_handle, made_buffer, made_nothing}
use Rattle.sight.proofs.returns.what_is_made.Goals as goal

pub returns-then-h-eq0 : goal.returns-then-h-eq0
returns-then-h-eq0 c = λ led. null_made _ _ _ _ _ _ c.if-h-eq0.true c.nothing_made.ensures

pub returns-then-is_handle_result : goal.returns-then-is_handle_result
returns-then-is_handle_result c = λ led. made_handle _ _ _ _ _ _ _ c.if-h-eq0.false (sym c.is_handle_result.ensures ∙ c.if-is_handle_result.true) c.is_local_result.ensures (c.handle_made.ensures led)

pub returns-then-is_buffer_result : goal.returns-then-is_buffer_result
returns-then-is_buffer_result c = λ led. made_buffer _ _ _ _ _ _ c.if-h-eq0.false (sym c.is_handle_result.ensures ∙ c.if-is_handle_result.false) (sym c.is_buffer_result.ensures ∙ c.if-is_buffer_result.true) c.buffer_made.ensures

pub returns : goal.returns
returns c = λ led. made_nothing _ _ _ _ _ _ c.if-h-eq0.false (sym c.is_handle_result.ensures ∙ c.if-is_handle_result.false) (sym c.is_buffer_result.ensures ∙ c.if-is_buffer_result.false) c.nothing_made-2.ensures
