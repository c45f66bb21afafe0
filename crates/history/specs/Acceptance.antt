-- Which line is accepted after a history: the numbers 4 to 7, 9 and 10. Assumes nothing.
use Rattle.std.specs.Prelude.{ℕ, Bool, true, false, not, ◌&&◌, ◌||◌, List, [], ◌∷◌, eqb, leb, ltb, length, Option}
use Rattle.words.specs.Choice.{if_true◌then◌else◌}
use Rattle.words.specs.Lists.{any}
use Rattle.lines.specs.Line.{Line, if_opens◌then◌else◌, if_N◌then◌else◌, if_X◌then◌else◌, if_C◌then◌else◌, if_R◌then◌else◌, if_A◌then◌else◌, if_D◌then◌else◌, if_K◌then◌else◌, if_O◌then◌else◌, if_M◌then◌else◌}
use Rattle.history.specs.Past.{History, thread_of, closed}
use Rattle.history.specs.Items.{Item, items, top_of, is_empty, is_native, is_attached, native_or_attached, is_call, is_call_of}
use Rattle.history.specs.Handles.{Alive, makes, same_handle}
use Rattle.history.specs.Thread.{all_threads}
use Rattle.history.specs.Classes.{is_known}
use Rattle.history.specs.Identities.{identities}
use Rattle.history.specs.Seen.{Seen, seen, is_alive, handle_alive}

-- ---- 4: out of step

-- N is allowed when the stack is empty or its top is an open call; X when the top is a native, C also when it is an attached item; R when the top is
-- an open call of the same function; A when the stack is empty, D when the top is an attached item. Statements are in step anywhere. Nothing is
-- allowed after Z.
unfoldable pub in_step : Line → Option Item → Bool → Bool
in_step e top over =
    not over
    && (if_N e then (λ t env hs. is_empty top || is_call top)
    else if_X e then (λ t r. is_native top)
    else if_C e then (λ t env f a b c n. native_or_attached top)
    else if_R e then (λ t f r p. is_call_of f top)
    else if_A e then (λ t env. is_empty top)
    else if_D e then (λ t. is_attached top)
    else true)

-- ---- 5: the env of N or A breaks the env rule

-- a thread's env is that of its first N or A; no two threads share one
unfoldable pub env_right : Line → Seen → Bool
env_right e v =
    if_opens e then
    (λ t env hs.
    (eqb (v.env t) 0 || eqb (v.env t) env) && not (any (λ (s : ℕ). not (eqb s t) && eqb (v.env s) env) all_threads))
    else true

-- ---- 6: it makes a handle already alive (a local: in that thread), or N names one twice

unfoldable pub made_by : Line → Seen → List Alive
made_by e v = makes e (length (v.frames (thread_of e)))

abbrev pub twice : List Alive → Bool
twice [] = false
twice (x ∷ xs) = any (same_handle x) xs || twice xs

unfoldable pub makes_anew : Line → Seen → Bool
makes_anew e v = not (any (λ (x : Alive). is_alive (same_handle x) v) (made_by e v)) && not (twice (made_by e v))

-- ---- 9: K of a class declared or reserved; a super, a stated class or an identity's that is neither

unfoldable pub classes_right : Line → Seen → Bool
classes_right e v =
    if_K e then (λ c s. not (is_known v.super c) && is_known v.super s)
    else if_O e then (λ t h c. is_known v.super c)
    else if_M e then (λ x sort c static final. is_known v.super c)
    else true

-- ---- 10: O on a handle not alive

unfoldable pub names_alive : Line → Seen → Bool
names_alive e v = if_O e then (λ t h c. handle_alive t h v) else true

-- ---- 7: after it the alive handles, the outstanding buffers, the identities stated, or a thread's items or frames would exceed room

-- the rows lent, and the places for identities
pub record Room : Type 0 where
  pub references : ℕ
  pub pins : ℕ
  pub identities : ℕ

-- each thread has at most 64 open items and 64 frames
abbrev pub deepest : ℕ
deepest = 64

abbrev pub everything {ℓ} : {A : Type ℓ} → A → Bool
everything x = true

-- after the line, whose thread is t
unfoldable pub has_room : Room → ℕ → Seen → Bool
has_room room t after =
    leb (after.handles everything) room.references
    && leb (after.buffers everything) room.pins
    && leb (length (after.frames t)) deepest

-- of a known identity there is one more M, and no identity more
abbrev pub has_identity_room : Room → History → Bool
has_identity_room room past = leb (length (identities past)) room.identities

-- only N, A and C open an item; before the line `n` are open
abbrev pub has_item_room : Line → ℕ → Bool
has_item_room e n =
    if_opens e then (λ t env hs. ltb n deepest)
    else if_C e then (λ t env f a b c m. ltb n deepest)
    else true

-- ---- tested in this order; 0 for a line that is accepted

abbrev pub first_refusal : Bool → Bool → Bool → Bool → Bool → Bool → ℕ
first_refusal step env anew classes alive room =
    if_true not step then 4
    else if_true not env then 5
    else if_true not anew then 6
    else if_true not classes then 9
    else if_true not alive then 10
    else if_true not room then 7
    else 0

unfoldable pub refusal : Room → Line → History → ℕ
refusal room e past =
    first_refusal
    (in_step e (top_of (items (thread_of e) past)) (closed past))
    (env_right e (seen past))
    (makes_anew e (seen past))
    (classes_right e (seen past))
    (names_alive e (seen past))
    (has_identity_room room (e ∷ past) && has_room room (thread_of e) (seen (e ∷ past)) && has_item_room e (length (items (thread_of e) past)))
