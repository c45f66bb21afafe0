-- `events::items::move_by` meets its contract. Assumes nothing.
use mir.Syntax.{w32}
use borrow.Author.Rules.{rules}
use mathlib.Core.Path.{refl}
use mir.Facts.{to_z-of_z}
use Rattle.events.proofs.Moving.{native_opened, native_closed, call_opened, call_closed, attached_opened, attached_closed, none_declared, none_stated, none_identified, none_at_end}
use Rattle.events.proofs.items.move_by.Goals as goal

pub returns-in-Enter : goal.returns-in-Enter
returns-in-Enter c = native_opened _ _ _ c.in-Enter.is c.push_item.ensures

pub returns-in-Leave : goal.returns-in-Leave
returns-in-Leave c = native_closed _ _ _ c.in-Leave.is c.pop_item.ensures

pub returns-in-Call : goal.returns-in-Call
returns-in-Call c = call_opened _ _ _ _ (to_z-of_z {w = w32} {z = c.in-Call.n} (search rules)) c.in-Call.is c.above_zero.ensures c.push_item-in-Call.ensures

pub returns-in-Return : goal.returns-in-Return
returns-in-Return c = call_closed _ _ _ c.in-Return.is c.pop_item-in-Return.ensures

pub returns-in-Attach : goal.returns-in-Attach
returns-in-Attach c = attached_opened _ _ _ c.in-Attach.is c.push_item-in-Attach.ensures

pub returns-in-Detach : goal.returns-in-Detach
returns-in-Detach c = attached_closed _ _ _ c.in-Detach.is c.pop_item-in-Detach.ensures

pub returns-in-Declare : goal.returns-in-Declare
returns-in-Declare c = none_declared _ _ _ c.in-Declare.is refl

pub returns-in-State : goal.returns-in-State
returns-in-State c = none_stated _ _ _ c.in-State.is refl

pub returns-in-Identify : goal.returns-in-Identify
returns-in-Identify c = none_identified _ _ _ c.in-Identify.is refl

pub returns-in-End : goal.returns-in-End
returns-in-End c = none_at_end _ _ _ c.in-End.is refl
