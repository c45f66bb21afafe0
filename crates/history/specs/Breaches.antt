-- The breaches of a line, by rule and place. Everything is judged before the line acts, except overflow and Z. Assumes nothing.
use Rattle.std.specs.Prelude.{ℕ, suc, Bool, true, false, not, ◌&&◌, List, [], ◌∷◌, eqb, ltb, length, Option, None, Some}
use Rattle.words.specs.Choice.{if_true◌then◌else◌}
use Rattle.facts.specs.Table.{fact_of, is_allowed_pending, is_allowed_critical}
use Rattle.facts.specs.Named.{PopLocalFrame, MonitorExit}
use Rattle.facts.specs.Results.{is_local_result, is_handle_place, is_buffer_place, is_identity_place}
use Rattle.facts.specs.Classes.{no_class, class_a, class_b}
use Rattle.facts.specs.Identities.{wanted_of, suits, writes_field}
use Rattle.facts.specs.declared.Place.{Place}
use Rattle.lines.specs.Line.{Line, if_X◌then◌else◌, if_C◌then◌else◌, if_R◌then◌else◌, if_D◌then◌else◌, if_Z◌then◌else◌, kind, above_zero}
use Rattle.history.specs.Past.{thread_of}
use Rattle.history.specs.Frames.{top_pushed}
use Rattle.history.specs.Handles.{in_frame, global_or_weak}
use Rattle.history.specs.Buffers.{pin, same_pin, critical_of}
use Rattle.history.specs.Classes.{class_fits}
use Rattle.history.specs.Seen.{Seen, is_outstanding, handle_alive}
use Rattle.history.specs.Acceptance.{everything}
use Rattle.history.specs.declared.Identity.{Identity}

abbrev pub when : Bool → ℕ → Option ℕ
when true n = Some n
when false n = None

-- ---- the places a b c: the rule that a value breaks, the first that fits; `there` tells whether what it names is alive or outstanding, or
-- stated as it is wanted, `fits` whether its stated class is right there, or it is no final field that is written

-- wrong kind: 4; local not alive in this thread: 11; global or weak not alive: 10; a live handle of a wrong class: 4
unfoldable pub handle_rule : ℕ → Bool → Bool → Option ℕ
handle_rule h there fits =
    if_true eqb (kind h) 0 then Some 4
    else if_true there then when (not fits) 4
    else if_true eqb (kind h) 1 then Some 11
    else Some 10

-- another kind under l g w: 4
unfoldable pub kind_rule : ℕ → ℕ → Bool → Bool → Option ℕ
kind_rule k h there fits = if_true eqb h 0 then None else if_true eqb (kind h) k then handle_rule h there fits else Some 4

-- an identity that is not stated, or of another sort or flag: 5; a final field written: 6
abbrev pub identity_rule : Bool → Bool → Option ℕ
identity_rule there fits = if_true there then when (not fits) 6 else Some 5

-- null where r, i or b stands: 7; buffer not outstanding in its family (and thread, if critical): 8
unfoldable pub place_rule : Place → ℕ → Bool → Bool → Option ℕ
place_rule Place.Unused h there fits = None
place_rule Place.Handle h there fits = if_true eqb h 0 then Some 7 else handle_rule h there fits
place_rule Place.HandleOrNull h there fits = if_true eqb h 0 then None else handle_rule h there fits
place_rule Place.LocalOrNull h there fits = kind_rule 1 h there fits
place_rule Place.GlobalOrNull h there fits = kind_rule 2 h there fits
place_rule Place.WeakOrNull h there fits = kind_rule 3 h there fits
place_rule Place.Identity h there fits = if_true eqb h 0 then Some 7 else if_true eqb (kind h) 0 then identity_rule there fits else Some 4
place_rule Place.Buffer h there fits = if_true eqb h 0 then Some 7 else when (not there) 8

-- what is stated of an identity is what function f wants
abbrev pub is_wanted : ℕ → Identity → Bool
is_wanted f x = suits (wanted_of f) x.sort x.isstatic

-- function f does not write a final field
abbrev pub may_take : ℕ → Identity → Bool
may_take f x = not (writes_field f && eqb x.isfinal 1)

-- the value at a place of function f, called by thread t
unfoldable pub is_there : Place → ℕ → ℕ → ℕ → Seen → Bool
is_there p t f h v =
    if_true is_handle_place p then handle_alive t h v
    else if_true is_buffer_place p then is_outstanding (same_pin (pin t f h)) v
    else if_true is_identity_place p then is_wanted f (v.identity h)
    else false

-- where a class is fixed: what is stated of the handle is that class, or below it, or nothing
abbrev pub fits_here : ℕ → Place → ℕ → ℕ → ℕ → Seen → Bool
fits_here fixed p t f h v = if_true is_identity_place p then may_take f (v.identity h) else class_fits v.super fixed (v.class t h)

-- where class `fixed` is fixed, or none
abbrev pub rule_here : ℕ → Place → ℕ → ℕ → ℕ → Seen → Option ℕ
rule_here fixed p t f h v = place_rule p h (is_there p t f h v) (fits_here fixed p t f h v)

-- places 1 to 3 are a b c; X's result is place 1 of kind `o`
abbrev pub place_at : Line → ℕ → Place
place_at e p =
    if_X e then (λ t r. if_true eqb p 1 then Place.HandleOrNull else Place.Unused)
    else if_C e then
    (λ t env f a b c n.
    if_true eqb p 1 then (fact_of f).a
    else if_true eqb p 2 then (fact_of f).b
    else if_true eqb p 3 then (fact_of f).c
    else Place.Unused)
    else Place.Unused

-- the class fixed for the place
abbrev pub class_at : Line → ℕ → ℕ
class_at e p =
    if_C e then (λ t env f a b c n. if_true eqb p 1 then class_a f else if_true eqb p 2 then class_b f else no_class) else no_class

abbrev pub value_at : Line → ℕ → ℕ
value_at e p =
    if_X e then (λ t r. r)
    else if_C e then (λ t env f a b c n. if_true eqb p 1 then a else if_true eqb p 2 then b else c)
    else 0

abbrev pub function_of : Line → ℕ
function_of e = if_C e then (λ t env f a b c n. f) else 0

unfoldable pub rule_at : Line → Seen → ℕ → Option ℕ
rule_at e v p = rule_here (class_at e p) (place_at e p) (thread_of e) (function_of e) (value_at e p) v

-- ---- place 0: the whole line breaks the rule, with what thing

unfoldable pub in_critical : ℕ → Seen → Bool
in_critical t v = is_outstanding (critical_of t) v

-- more than the top frame's capacity
abbrev pub exceeds : List ℕ → ℕ → Bool
exceeds [] k = false
exceeds (c ∷ cs) k = ltb c k

-- the local made leaves more alive in its frame than the capacity
unfoldable pub overflows : ℕ → ℕ → ℕ → Seen → Bool
overflows t f h v =
    is_local_result (fact_of f).result
    && not (eqb h 0)
    && exceeds (v.capacities t) (suc (v.handles (in_frame t (length (v.frames t)))))

-- 1 when env is not the thread's; 2 when pending and not allowed; 3 when the thread has a critical buffer outstanding and the function is not 222-225;
-- 9 for 218 with no monitors; 11 for 20 when the top frame was not pushed
unfoldable pub call_rule : ℕ → ℕ → ℕ → Seen → ℕ → Option ℕ
call_rule t env f v rule =
    if_true eqb rule 1 then when (not (eqb env (v.env t))) env
    else if_true eqb rule 2 then when (eqb (v.pending t) 1 && not (is_allowed_pending f)) 0
    else if_true eqb rule 3 then when (in_critical t v && not (is_allowed_critical f)) 0
    else if_true eqb rule 9 then when (eqb f MonitorExit && eqb (v.monitors t) 0) 0
    else if_true eqb rule 11 then when (eqb f PopLocalFrame && not (top_pushed (v.frames t))) 0
    else None

-- a count, if above zero
abbrev pub some_of : ℕ → Option ℕ
some_of k = when (ltb 0 k) k

-- On Z: 8 buffers outstanding, 9 monitors of all threads, 10 globals and weaks alive
unfoldable pub end_rule : Seen → ℕ → Option ℕ
end_rule v rule =
    if_true eqb rule 8 then some_of (v.buffers everything)
    else if_true eqb rule 9 then some_of v.all_monitors
    else if_true eqb rule 10 then some_of (v.handles global_or_weak)
    else None

-- on D: 3 as on X; 9 with monitors of the thread
unfoldable pub detach_rule : ℕ → Seen → ℕ → Option ℕ
detach_rule t v rule =
    if_true eqb rule 3 then when (in_critical t v) 0
    else if_true eqb rule 9 then some_of (v.monitors t)
    else None

-- On X: 3 with a critical buffer of that thread outstanding. On R: 11 for overflow
unfoldable pub line_rule : Line → Seen → ℕ → Option ℕ
line_rule e v rule =
    if_C e then (λ t env f a b c n. call_rule t env f v rule)
    else if_X e then (λ t r. when (eqb rule 3 && in_critical t v) 0)
    else if_R e then (λ t f r p. when (eqb rule 11 && overflows t f (above_zero r) v) (above_zero r))
    else if_D e then (λ t. detach_rule t v rule)
    else if_Z e then end_rule v rule
    else None

-- ---- the thing of a breach of this rule at this place

abbrev pub is_rule : ℕ → Option ℕ → Bool
is_rule rule None = false
is_rule rule (Some r) = eqb rule r

unfoldable pub breach : Line → Seen → ℕ → ℕ → Option ℕ
breach e v rule place = if_true eqb place 0 then line_rule e v rule else when (is_rule rule (rule_at e v place)) (value_at e place)
