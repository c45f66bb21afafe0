-- The tests of step, env and handles made are what document 01 says of them, for every history. Assumes nothing.
use Prim.Native.Nat.{ℕ, suc}
use mathlib.Core.Path.{◌≡◌, refl, sym, ap, ◌∙◌, subst}
use mathlib.Core.Logic.{◌≢◌, ◌↔◌}
use mathlib.Core.Bool.{Bool, true, false, not, ◌&&◌, ◌||◌, false≢true, and-false}
use mathlib.Core.List.{List, [], ◌∷◌, map, Memᴰ}
use Rattle.std.specs.Prelude.{Option}
use lib.Dec.{eqb}
use borrow.Author.Tests.{eqb-true, eqb-false, eq-eqb, ne_eqb, not-true}
use Rattle.words.specs.Choice.{if_true◌then◌else◌}
use Rattle.words.specs.Lists.{any}
use Rattle.facts.specs.Table.{fact_of}
use Rattle.facts.specs.declared.Result.{Result}
use Rattle.lines.specs.Line.{Line, N, X, C, R, A, D, Z, states, above_zero}
use Rattle.history.specs.Past.{History, thread_of, closed}
use Rattle.history.specs.Items.{Item, in_native, in_call, attached, items, top_of}
use Rattle.history.specs.Frames.{depth}
use Rattle.history.specs.Handles.{Alive, local, shared, makes, result_made, is_local, same_handle}
use Rattle.history.specs.Thread.{all_threads, env_of}
use Rattle.history.specs.Seen.{seen, is_alive}
use Rattle.history.specs.Acceptance.{in_step, env_right, made_by, twice, makes_anew}
use Rattle.history.specs.Lives.{Makes}
use Rattle.history.specs.Refusals.{InTurn, first_native, inner_native, native_leaves, native_calls, call_returns, thread_attaches, thread_detaches, attached_calls, run_ends, anywhere, InStep, Brings, by_N, by_A, WrongEnv, another_env, shared_env, Twice, here, further, MadeAgain, local_again, shared_again, named_twice}
use Rattle.history.proofs.Tests.{and_left, and_right, and_both, or_cases, or_left, or_right, never_true, true_not_false, either, eqb_self}
use Rattle.history.proofs.Counts.{some_any, any_member, map_member, member_map}
use Rattle.history.proofs.Living.{made_makes, makes_made, local_alive, shared_alive}
use Rattle.history.proofs.Accepting.{in_step_of}

-- ---- nothing is allowed after Z

abbrev is_end : Line → Bool
is_end (N t env hs) = false
is_end (X t r) = false
is_end (C t env f a b c n) = false
is_end (R t f r p) = false
is_end (A t env) = false
is_end (D t) = false
is_end Z = true
is_end (states s) = false

end_is : (e : Line) → is_end e ≡ true → Z ≡ e
end_is (N t env hs) h = absurd (false≢true h)
end_is (X t r) h = absurd (false≢true h)
end_is (C t env f a b c n) h = absurd (false≢true h)
end_is (R t f r p) h = absurd (false≢true h)
end_is (A t env) h = absurd (false≢true h)
end_is (D t) h = absurd (false≢true h)
end_is Z h = refl
end_is (states s) h = absurd (false≢true h)

closed_any : (past : History) → closed past ≡ any is_end past
unfolding closed
closed_any [] = refl
closed_any (N t env hs ∷ past) = closed_any past
closed_any (X t r ∷ past) = closed_any past
closed_any (C t env f a b c n ∷ past) = closed_any past
closed_any (R t f r p ∷ past) = closed_any past
closed_any (A t env ∷ past) = closed_any past
closed_any (D t ∷ past) = closed_any past
closed_any (Z ∷ past) = refl
closed_any (states s ∷ past) = closed_any past

pub closed_is : (past : History) → (closed past ≡ true) ↔ Memᴰ Z past
closed_is past = (
  λ h. of_end (some_any is_end past (sym (closed_any past) ∙ h)),
  λ m. closed_any past ∙ any_member is_end past Z m refl,
)
  where
    of_end : (e : Line) × Memᴰ e past × (is_end e ≡ true) → Memᴰ Z past
    of_end (e, m, h) = subst (λ (x : Line). Memᴰ x past) (sym (end_is e h)) m

-- ---- step order

in_turn : (past : History) (e : Line) → in_step e (top_of (items (thread_of e) past)) false ≡ true → InTurn past e
unfolding in_step
in_turn past (N t env hs) h = go (items t past) refl h
  where
    go : (is : List Item) → items t past ≡ is → in_step (N t env hs) (top_of is) false ≡ true → InTurn past (N t env hs)
    go [] e k = first_native t env hs e
    go (in_native ∷ is) e k = absurd (false≢true k)
    go (in_call f n ∷ is) e k = inner_native t env f n hs is e
    go (attached ∷ is) e k = absurd (false≢true k)
in_turn past (X t r) h = go (items t past) refl h
  where
    go : (is : List Item) → items t past ≡ is → in_step (X t r) (top_of is) false ≡ true → InTurn past (X t r)
    go [] e k = absurd (false≢true k)
    go (in_native ∷ is) e k = native_leaves t r is e
    go (in_call f n ∷ is) e k = absurd (false≢true k)
    go (attached ∷ is) e k = absurd (false≢true k)
in_turn past (C t env f a b c n) h = go (items t past) refl h
  where
    go : (is : List Item) → items t past ≡ is → in_step (C t env f a b c n) (top_of is) false ≡ true → InTurn past (C t env f a b c n)
    go [] e k = absurd (false≢true k)
    go (in_native ∷ is) e k = native_calls t env f a b c n is e
    go (in_call g m ∷ is) e k = absurd (false≢true k)
    go (attached ∷ is) e k = attached_calls t env f a b c n is e
in_turn past (R t f r p) h = go (items t past) refl h
  where
    go : (is : List Item) → items t past ≡ is → in_step (R t f r p) (top_of is) false ≡ true → InTurn past (R t f r p)
    go [] e k = absurd (false≢true k)
    go (in_native ∷ is) e k = absurd (false≢true k)
    go (in_call g n ∷ is) e k = call_returns t f n p r is (e ∙ rw (eqb-true f g k))
    go (attached ∷ is) e k = absurd (false≢true k)
in_turn past (A t env) h = go (items t past) refl h
  where
    go : (is : List Item) → items t past ≡ is → in_step (A t env) (top_of is) false ≡ true → InTurn past (A t env)
    go [] e k = thread_attaches t env e
    go (i ∷ is) e k = absurd (false≢true k)
in_turn past (D t) h = go (items t past) refl h
  where
    go : (is : List Item) → items t past ≡ is → in_step (D t) (top_of is) false ≡ true → InTurn past (D t)
    go [] e k = absurd (false≢true k)
    go (in_native ∷ is) e k = absurd (false≢true k)
    go (in_call f n ∷ is) e k = absurd (false≢true k)
    go (attached ∷ is) e k = thread_detaches t is e
in_turn past Z h = run_ends
in_turn past (states s) h = anywhere s

turn_in : (past : History) (e : Line) → InTurn past e → in_step e (top_of (items (thread_of e) past)) false ≡ true
unfolding in_step
turn_in past _ (first_native t env hs is) = rw is
turn_in past _ (inner_native t env f n hs below is) = rw is
turn_in past _ (native_leaves t r below is) = rw is
turn_in past _ (native_calls t env f a b c n below is) = rw is
turn_in past _ (call_returns t f n p r below is) = rw is (eqb_self f)
turn_in past _ (thread_attaches t env is) = rw is
turn_in past _ (thread_detaches t below is) = rw is
turn_in past _ (attached_calls t env f a b c n below is) = rw is
turn_in past _ run_ends = refl
turn_in past _ (anywhere s) = refl

over_no : (e : Line) (top : Option Item) → in_step e top true ≡ false
unfolding in_step
over_no e top = refl

-- in step, as document 01 has it
pub in_step_is : (past : History) (e : Line) → (in_step_of e past ≡ true) ↔ InStep past e
in_step_is past e = (go (closed past) refl, back)
  where
    go : (over : Bool) → closed past ≡ over → in_step e (top_of (items (thread_of e) past)) over ≡ true → InStep past e
    go true c h = true_not_false _ h (over_no e (top_of (items (thread_of e) past)))
    go false c h = record { before_Z = λ m. true_not_false (closed past) ((closed_is past).1 m) c; turn = in_turn past e h }

    back : InStep past e → in_step_of e past ≡ true
    back k = rw (never_true (closed past) (λ c. k.before_Z ((closed_is past).0 c))) (turn_in past e k.turn)

-- ---- envs

-- the thread has no other env, and no other thread has this one
abbrev env_test : ℕ → ℕ → History → Bool
env_test t env past =
    (eqb ((seen past).env t) 0 || eqb ((seen past).env t) env) && not (any (λ (s : ℕ). not (eqb s t) && eqb ((seen past).env s) env) all_threads)

-- a line that brings an env, and its test
brought : (past : History) (e : Line) (t env : ℕ) → Brings t env e → (env_test t env past ≡ false) ↔ WrongEnv past e
unfolding seen
brought past e t env brings = (λ h. go (eqb (env_of t past) 0) refl (eqb (env_of t past) env) refl (any shares all_threads) refl h, back brings)
  where
    shares : ℕ → Bool
    shares s = not (eqb s t) && eqb (env_of s past) env

    go : (a : Bool) → eqb (env_of t past) 0 ≡ a → (b : Bool) → eqb (env_of t past) env ≡ b → (c : Bool) → any shares all_threads ≡ c
        → ((a || b) && not c) ≡ false → WrongEnv past e
    go a ea b eb true ec h =
        let (s, m, k) = some_any shares all_threads ec in
        let other = and_left (not (eqb s t)) (eqb (env_of s past) env) k in
        let same = and_right (not (eqb s t)) (eqb (env_of s past) env) k in
        shared_env e t env s brings m (eqb-false s t (not-true _ other)) (eqb-true _ _ same)
    go true ea b eb false ec h = absurd (false≢true (sym h))
    go false ea true eb false ec h = absurd (false≢true (sym h))
    go false ea false eb false ec h = another_env e t env brings (eqb-false _ _ ea) (eqb-false _ _ eb)

    differs : env_of t past ≢ 0 → env_of t past ≢ env → env_test t env past ≡ false
    differs nz ne = rw (ne_eqb (env_of t past) 0 nz, ne_eqb (env_of t past) env ne)

    shared_with : (s : ℕ) → Memᴰ s all_threads → s ≢ t → env_of s past ≡ env → env_test t env past ≡ false
    shared_with s m ne is =
        let that = and_both (not (eqb s t)) (eqb (env_of s past) env) (ap not (ne_eqb s t ne)) (eq-eqb (env_of s past) env is) in
        rw (any_member shares all_threads s m that) (and-false (eqb (env_of t past) 0 || eqb (env_of t past) env))

    back : {e : Line} → Brings t env e → WrongEnv past e → env_test t env past ≡ false
    back (by_N hs) (another_env _ _ _ (by_N _) nz ne) = differs nz ne
    back (by_N hs) (shared_env _ _ _ s (by_N _) m ne is) = shared_with s m ne is
    back by_A (another_env _ _ _ by_A nz ne) = differs nz ne
    back by_A (shared_env _ _ _ s by_A m ne is) = shared_with s m ne is

unbrought : (past : History) (e : Line) → ((t env : ℕ) → ¬ Brings t env e) → (true ≡ false) ↔ WrongEnv past e
unbrought past e never = (λ h. absurd (false≢true (sym h)), go)
  where
    go : WrongEnv past e → true ≡ false
    go (another_env _ t env b nz ne) = absurd (never t env b)
    go (shared_env _ t env s b m ne is) = absurd (never t env b)

pub env_is : (past : History) (e : Line) → (env_right e (seen past) ≡ false) ↔ WrongEnv past e
unfolding env_right
env_is past (N t env hs) = brought past (N t env hs) t env (by_N hs)
env_is past (X t r) = unbrought past (X t r) (λ t env b. elim b [ ])
env_is past (C t env f a b c n) = unbrought past (C t env f a b c n) (λ t env b. elim b [ ])
env_is past (R t f r p) = unbrought past (R t f r p) (λ t env b. elim b [ ])
env_is past (A t env) = brought past (A t env) t env by_A
env_is past (D t) = unbrought past (D t) (λ t env b. elim b [ ])
env_is past Z = unbrought past Z (λ t env b. elim b [ ])
env_is past (states s) = unbrought past (states s) (λ t env b. elim b [ ])

-- ---- handles made

twice_is : (t d : ℕ) (hs : List ℕ) → twice (map (local t d) hs) ≡ true → Twice hs
twice_is t d [] h = absurd (false≢true h)
twice_is t d (g ∷ hs) h =
    either (or_cases _ _ h)
    (λ k. first (some_any (is_local t g) (map (local t d) hs) k))
    (λ k. further g hs (twice_is t d hs k))
  where
    first : (x : Alive) × Memᴰ x (map (local t d) hs) × (is_local t g x ≡ true) → Twice (g ∷ hs)
    first (x, m, k) =
        let (y, i, e) = map_member (local t d) hs m in
        here g hs (subst (λ (z : ℕ). Memᴰ z hs) (eqb-true y g (and_right (eqb t t) (eqb y g) (sym (ap (is_local t g) e) ∙ k))) i)

is_twice : (t d : ℕ) (hs : List ℕ) → Twice hs → twice (map (local t d) hs) ≡ true
is_twice t d _ (here h hs m) =
    or_left (any (is_local t h) (map (local t d) hs)) (twice (map (local t d) hs))
    (any_member (is_local t h) (map (local t d) hs) (local t d h) (member_map (local t d) hs m) (and_both (eqb t t) (eqb h h) (eqb_self t) (eqb_self h)))
is_twice t d _ (further h hs k) = or_right (any (is_local t h) (map (local t d) hs)) (twice (map (local t d) hs)) (is_twice t d hs k)

-- only N makes more than one
one_result : (b : Bool) (k : Result) (t d h : ℕ) → twice (if_true b then [] else result_made k t d h) ≡ false
one_result true k t d h = refl
one_result false Result.Local t d h = refl
one_result false Result.Global t d h = refl
one_result false Result.Weak t d h = refl
one_result false Result.Identity t d h = refl
one_result false Result.Buffer t d h = refl
one_result false Result.Status t d h = refl
one_result false Result.Nothing t d h = refl

made_twice : (past : History) (e : Line) → twice (makes e (depth (thread_of e) past)) ≡ true → MadeAgain past e
unfolding makes
made_twice past (N t env hs) h = named_twice t env hs (twice_is t (suc (depth t past)) hs h)
made_twice past (X t r) h = absurd (false≢true h)
made_twice past (C t env f a b c n) h = absurd (false≢true h)
made_twice past (R t f r p) h = true_not_false _ h (one_result (eqb (above_zero r) 0) (fact_of f).result t (depth t past) (above_zero r))
made_twice past (A t env) h = absurd (false≢true h)
made_twice past (D t) h = absurd (false≢true h)
made_twice past Z h = absurd (false≢true h)
made_twice past (states s) h = absurd (false≢true h)

named : (past : History) (t env : ℕ) (hs : List ℕ) → Twice hs → twice (makes (N t env hs) (depth t past)) ≡ true
unfolding makes
named past t env hs k = is_twice t (suc (depth t past)) hs k

made_alive : (past : History) (e : Line) (x : Alive) → Makes past e x → is_alive (same_handle x) (seen past) ≡ true → MadeAgain past e
made_alive past e (local t d h) m a = local_again e t d h m ((local_alive past t h).0 a)
made_alive past e (shared h) m a = shared_again e h m ((shared_alive past h).0 a)

pub anew_is : (past : History) (e : Line) → (makes_anew e (seen past) ≡ false) ↔ MadeAgain past e
unfolding makes_anew made_by depth seen
anew_is past e = (λ h. go (any alive made) refl (twice made) refl h, back e)
  where
    made : List Alive
    made = makes e (depth (thread_of e) past)

    alive : Alive → Bool
    alive x = is_alive (same_handle x) (seen past)

    go : (a : Bool) → any alive made ≡ a → (b : Bool) → twice made ≡ b → (not a && not b) ≡ false → MadeAgain past e
    go true ea b eb h = let (x, m, k) = some_any alive made ea in made_alive past e x (made_makes past e x m) k
    go false ea true eb h = made_twice past e eb
    go false ea false eb h = absurd (false≢true (sym h))

    alive_no : (e : Line) (x : Alive) → Makes past e x → is_alive (same_handle x) (seen past) ≡ true → makes_anew e (seen past) ≡ false
    alive_no e x m a =
        ap (λ (q : Bool). not q && not (twice (makes e (depth (thread_of e) past))))
        (any_member (λ (y : Alive). is_alive (same_handle y) (seen past)) (makes e (depth (thread_of e) past)) x (makes_made past e x m) a)

    back : (e : Line) → MadeAgain past e → makes_anew e (seen past) ≡ false
    back _ (local_again e t d h m l) = alive_no e (local t d h) m ((local_alive past t h).1 l)
    back _ (shared_again e h m l) = alive_no e (shared h) m ((shared_alive past h).1 l)
    back _ (named_twice t env hs k) = rw (named past t env hs k) (and-false (not (any (λ (y : Alive). is_alive (same_handle y) (seen past)) (makes (N t env hs) (depth t past)))))
