-- What the reader answers stands for the line that was read. Assumes nothing.
use Prim.Native.Nat.{ℕ, ◌≤◌}
use mathlib.Core.Path.{◌≡◌, refl, sym, ap, ap₂, subst, ◌∙◌}
use mathlib.Core.Bool.{Bool, true, false, not, ◌&&◌, true≢false}
use mathlib.Core.List.{List}
use Rattle.std.specs.Prelude.{Result, Ok, Err}
use native.Mathlib.Omega.{arith}
use borrow.Author.Tests.{leb-true}
use lib.Dec.{eqb, leb}
use lib.IntN.{pos}
use lib.ListN.{length, take, drop}
use Rattle.words.specs.Choice.{if_true◌then◌else◌}
use Rattle.words.specs.Lists.{any}
use Rattle.lines.specs.Line.{Line, N, X, C, R, A, D, Z, K, O, M, states, is_allowed, is_zero, most_handles, is_thread, is_env, is_argument, above_zero}
use Rattle.lines.specs.Reading.{Read, says, refused, read}
use Rattle.lines.specs.Events.{gives_status, event_in, event_of, slots_of, not_zero, with_slots, meant_in}
use Rattle.lines.specs.declared.refusal.Refusal.{Refusal}
use Rattle.lines.specs.declared.Event.{Event}
use Rattle.lines.proofs.Tests.{all4}
use Rattle.lines.proofs.Numbered.{never}
use Rattle.lines.proofs.RoundTrip.{read_exactly}
use Rattle.lines.proofs.Meant.{meant_read}
use Rattle.events.specs.Event.{read_as, slots_named}

only_said : (ok : Bool) (x e : Line) → (if_true ok then says x else refused 3) ≡ says e → says x ≡ says e
only_said true x e h = h
only_said false x e h = absurd (never h)

slots_said : (n : ℕ) (hs : List ℕ) (x e : Line) → with_slots n hs x ≡ says e → says x ≡ says e
slots_said n hs x e = only_said (leb n most_handles && not (any not_zero (drop n hs)) && is_allowed x) x e

as_meant : (ev : Event) (hs : List ℕ) (e : Line) → meant_in ev hs ≡ says e → read_as ev hs ≡ says e
as_meant (Event.Enter t env n) hs e h = slots_said n hs (N t env (take n hs)) e h
as_meant (Event.Leave t r) hs e h = slots_said 0 hs (X t r) e h
as_meant (Event.Call t env f a b c n) hs e h = slots_said 0 hs (C t env f a b c n) e h
as_meant (Event.Return t f h s p) hs e m = go (gives_status f) m
  where
    if_right : (ok : Bool) (x : Line) → (if_true ok then with_slots 0 hs x else refused 3) ≡ says e → says x ≡ says e
    if_right true x k = slots_said 0 hs x e k
    if_right false x k = absurd (never k)

    go : (status : Bool)
        → (if_true status then (if_true eqb h 0 then with_slots 0 hs (R t f s p) else refused 3) else (if_true is_zero s then with_slots 0 hs (R t f (pos h) p) else refused 3)) ≡ says e
        → says (R t f (if_true status then s else pos h) p) ≡ says e
    go true k = if_right (eqb h 0) (R t f s p) k
    go false k = if_right (is_zero s) (R t f (pos h) p) k
as_meant (Event.Attach t env) hs e h = slots_said 0 hs (A t env) e h
as_meant (Event.Detach t) hs e h = slots_said 0 hs (D t) e h
as_meant (Event.Declare c s) hs e h = slots_said 0 hs (states (K c s)) e h
as_meant (Event.State t v c) hs e h = slots_said 0 hs (states (O t v c)) e h
as_meant (Event.Identify x sort c static final) hs e h = slots_said 0 hs (states (M x sort c static final)) e h
as_meant Event.End hs e h = slots_said 0 hs Z e h

abbrev is_ok : Result Event Refusal → Bool
is_ok (Ok v) = true
is_ok (Err k) = false

-- an event is that of a line
line_of : (ev : Event) (x : Read) → Ok ev ≡ event_of x → (e : Line) × (x ≡ says e) × (ev ≡ event_in e)
line_of ev (refused k) h = absurd (true≢false (ap is_ok h))
line_of ev (says e) h = (e, refl, ap (λ (r : Result Event Refusal). or_else r) h)
  where
    or_else : Result Event Refusal → Event
    or_else (Ok v) = v
    or_else (Err k) = ev

as_read : (bs : List ℕ) (e : Line) → read bs ≡ says e → read_as (event_in e) (slots_of (says e)) ≡ says e
as_read bs e h = as_meant (event_in e) (slots_of (says e)) e (meant_read e ((read_exactly bs e).0 h).0)

-- what the reader's event and slots stand for is what was read
pub read_is : (bs : List ℕ) (ev : Event) (hs : List ℕ) → Ok ev ≡ event_of (read bs) → hs ≡ slots_of (read bs) → read bs ≡ read_as ev hs
read_is bs ev hs e s =
    let l = line_of ev (read bs) e in
    l.1 ∙ sym (ap₂ read_as l.2 (s ∙ ap slots_of l.1) ∙ as_read bs l.0 l.1)

-- ---- N's handles are at most eight

few_read : (bs : List ℕ) (e : Line) → read bs ≡ says e → slots_named (event_in e) ≤ most_handles
few_read bs (N t env hs) h =
    leb-true (length hs) most_handles
    (all4 (is_thread t) (is_env env) (leb (length hs) most_handles) (not (any (λ (g : ℕ). not (is_argument g)) hs)) ((read_exactly bs (N t env hs)).0 h).0).2
few_read bs (X t r) h = omega arith
few_read bs (C t env f a b c n) h = omega arith
few_read bs (R t f r p) h = go (gives_status f)
  where
    go : (s : Bool) → slots_named (if_true s then Event.Return t f 0 r p else Event.Return t f (above_zero r) (pos 0) p) ≤ most_handles
    go true = omega arith
    go false = omega arith
few_read bs (A t env) h = omega arith
few_read bs (D t) h = omega arith
few_read bs Z h = omega arith
few_read bs (states (K c s)) h = omega arith
few_read bs (states (O t v c)) h = omega arith
few_read bs (states (M x sort c static final)) h = omega arith

pub few_slots : (bs : List ℕ) (ev : Event) → Ok ev ≡ event_of (read bs) → slots_named ev ≤ most_handles
few_slots bs ev r =
    let l = line_of ev (read bs) r in
    subst (λ (v : Event). slots_named v ≤ most_handles) (sym l.2) (few_read bs l.0 l.1)
