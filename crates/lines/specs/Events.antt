-- The code's events and the lines that they are; what the reader and the writer answer and leave. Assumes nothing.
use Rattle.std.specs.Prelude.{ℕ, ◌-◌, Bool, true, false, not, ◌&&◌, List, [], ◌++◌, eqb, leb, ltb, ℤ, pos, length, take, drop, replicate, Result, Ok, Err}
use Rattle.words.specs.Choice.{if_true◌then◌else◌}
use Rattle.words.specs.Lists.{any}
use Rattle.facts.specs.Table.{fact_of}
use Rattle.facts.specs.declared.Result.{Result as Given}
use Rattle.lines.specs.Line.{K, O, M, Line, N, X, C, R, A, D, Z, states, if_N◌then◌else◌, is_allowed, is_zero, above_zero, most_handles}
use Rattle.lines.specs.Reading.{Read, says, refused}
use Rattle.lines.specs.Writing.{written}
use Rattle.lines.specs.declared.Event.{Event}
use Rattle.lines.specs.declared.refusal.Refusal.{Refusal}
use Rattle.lines.specs.Numbered.{refusal_of}

abbrev pub is_status : Given → Bool
is_status Given.Status = true
is_status Given.Local = false
is_status Given.Global = false
is_status Given.Weak = false
is_status Given.Identity = false
is_status Given.Buffer = false
is_status Given.Nothing = false

abbrev pub gives_status : ℕ → Bool
gives_status f = is_status (fact_of f).result

-- the result in R's line, of the event's result h and status s: one of them is 0
abbrev pub result_in_line : ℕ → ℕ → ℤ → ℤ
result_in_line f h s = if_true gives_status f then s else pos h

-- ---- what the reader answers, and the eight slots beside it

-- the event that a line is
abbrev pub event_in : Line → Event
event_in (N t env hs) = Event.Enter t env (length hs)
event_in (X t r) = Event.Leave t r
event_in (C t env f a b c n) = Event.Call t env f a b c n
event_in (R t f r p) = if_true gives_status f then Event.Return t f 0 r p else Event.Return t f (above_zero r) (pos 0) p
event_in (A t env) = Event.Attach t env
event_in (D t) = Event.Detach t
event_in Z = Event.End
event_in (states (K c s)) = Event.Declare c s
event_in (states (O t h c)) = Event.State t h c
event_in (states (M x sort c static final)) = Event.Identify x sort c static final

abbrev pub event_of : Read → Result Event Refusal
event_of (refused k) = Err (refusal_of k)
event_of (says e) = Ok (event_in e)

abbrev pub padded : List ℕ → List ℕ
padded hs = hs ++ replicate (most_handles - length hs) 0

abbrev pub slots_of : Read → List ℕ
slots_of (refused k) = padded []
slots_of (says e) = padded (if_N e then (λ t env hs. hs) else [])

-- ---- what the writer answers and leaves

abbrev pub not_zero : ℕ → Bool
not_zero h = not (eqb h 0)

-- the line of an event: 3 for a bad one, also one with over eight handles, or a nonzero handle slot past its count
abbrev pub with_slots : ℕ → List ℕ → Line → Read
with_slots n hs e = if_true leb n most_handles && not (any not_zero (drop n hs)) && is_allowed e then says e else refused 3

abbrev pub meant_in : Event → List ℕ → Read
meant_in (Event.Enter t env n) hs = with_slots n hs (N t env (take n hs))
meant_in (Event.Leave t r) hs = with_slots 0 hs (X t r)
meant_in (Event.Call t env f a b c n) hs = with_slots 0 hs (C t env f a b c n)
meant_in (Event.Return t f r s p) hs =
    if_true gives_status f then (if_true eqb r 0 then with_slots 0 hs (R t f s p) else refused 3)
    else (if_true is_zero s then with_slots 0 hs (R t f (pos r) p) else refused 3)
meant_in (Event.Attach t env) hs = with_slots 0 hs (A t env)
meant_in (Event.Detach t) hs = with_slots 0 hs (D t)
meant_in (Event.Declare c s) hs = with_slots 0 hs (states (K c s))
meant_in (Event.State t h c) hs = with_slots 0 hs (states (O t h c))
meant_in (Event.Identify x sort c static final) hs = with_slots 0 hs (states (M x sort c static final))
meant_in Event.End hs = with_slots 0 hs Z

-- what the reader refused is no line
abbrev pub meant : Result Event Refusal → List ℕ → Read
meant (Ok e) hs = meant_in e hs
meant (Err k) hs = refused 3

-- 3, then 7 if the buffer is short
abbrev pub wrote : Read → List ℕ → Result ℕ Refusal
wrote (refused k) d = Err (refusal_of k)
wrote (says e) d = if_true ltb (length d) (length (written e)) then Err Refusal.NoRoom else Ok (length (written e))

-- bytes past a written line stay
abbrev pub left : Read → List ℕ → List ℕ
left (refused k) d = d
left (says e) d = if_true ltb (length d) (length (written e)) then d else written e ++ drop (length (written e)) d
