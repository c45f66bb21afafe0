-- After accepted lines: a handle is alive once at most, and is of its kind; a local stands in a frame that is there. Assumes nothing.
use Prim.Native.Nat.{ℕ, suc, ◌≤◌, ◌<◌}
use mathlib.Core.Path.{◌≡◌, refl, sym, ap, ◌∙◌, subst}
use mathlib.Core.Logic.{◌⊎◌, inl, inr, ◌≢◌}
use mathlib.Core.Bool.{Bool, true, false, not, ◌&&◌, false≢true}
use mathlib.Core.List.{List, [], ◌∷◌, ◌++◌, Memᴰ}
use native.Mathlib.Omega.{arith}
use lib.Dec.{eqb, leb}
use lib.IntN.{ℤ, pos}
use lib.ListN.{length}
use borrow.Author.Tests.{eqb-true, ltb-false, not-true}
use Rattle.words.specs.Choice.{if_true◌then◌else◌}
use Rattle.words.specs.Lists.{any, keep, count}
use Rattle.facts.specs.Table.{fact_of, is_function}
use Rattle.facts.specs.declared.Result.{Result}
use Rattle.lines.specs.Line.{Line, N, R, kind, most_handles, is_thread, is_env, is_allowed, is_argument, is_value, is_made, result_allows, value_allows}
use Rattle.history.specs.Past.{History, thread_of, closed}
use Rattle.history.specs.Items.{Item, items, top_of, is_call_of}
use Rattle.history.specs.Frames.{depth}
use Rattle.history.specs.Handles.{Alive, local, shared, makes, same_handle, ends, living}
use Rattle.history.specs.Seen.{seen, is_alive}
use Rattle.history.specs.Acceptance.{Room, in_step, made_by, twice, makes_anew}
use Rattle.history.specs.Lives.{Makes, argument, local_result, global_result, weak_result, Lives}
use Rattle.history.specs.Accepted.{Accepted, at_start, and_line}
use Rattle.history.proofs.Tests.{and_left, and_right, or_cases, or_neither, either, true_not_false}
use Rattle.history.proofs.Counts.{count_append, count_keep, count_le, none_counts, any_member, all_pass, some_member}
use Rattle.history.proofs.Living.{frame_stands, living_are}
use Rattle.history.proofs.Accepting.{passed, allowed, not_refused, before, accepted_before}
use Rattle.history.proofs.Stacks.{framed_items}

-- ---- once

-- two that are the same handle are looked for alike
same_test : (x y : Alive) → same_handle x y ≡ true → same_handle y ≡ same_handle x
same_test (local t d h) (local s e g) k =
    rw (eqb-true s t (and_left (eqb s t) (eqb g h) k), eqb-true g h (and_right (eqb s t) (eqb g h) k))
same_test (local t d h) (shared g) k = absurd (false≢true k)
same_test (shared h) (local s e g) k = absurd (false≢true k)
same_test (shared h) (shared g) k = rw (eqb-true g h k)

not_twice : (x : Alive) (l : List Alive) → twice l ≡ false → count (same_handle x) l ≤ 1
not_twice x [] h = omega arith
not_twice x (y ∷ l) h = go (same_handle x y) refl (not_twice x l (or_neither (any (same_handle y) l) (twice l) h).1)
  where
    go : (q : Bool) → same_handle x y ≡ q → count (same_handle x) l ≤ 1 → (if_true q then suc (count (same_handle x) l) else count (same_handle x) l) ≤ 1
    go true e ih =
        let none_left : count (same_handle x) l ≡ 0 = ap (λ (f : Alive → Bool). count f l) (sym (same_test x y e)) ∙ none_counts (same_handle y) l (or_neither (any (same_handle y) l) (twice l) h).0 in
        omega arith
    go false e ih = ih

-- what is made anew was not alive
pub made_anew : (e : Line) (past : History) → makes_anew e (seen past) ≡ true → (x : Alive)
    → (count (same_handle x) (makes e (depth (thread_of e) past)) ≤ 1)
    × (0 < count (same_handle x) (makes e (depth (thread_of e) past)) → count (same_handle x) (living past) ≡ 0)
unfolding makes_anew made_by depth seen
made_anew e past h x = (
  not_twice x made (not-true (twice made) (and_right (not (any alive made)) (not (twice made)) h)),
  λ k. fresh (some_member (same_handle x) made k),
)
  where
    made : List Alive
    made = makes e (depth (thread_of e) past)

    alive : Alive → Bool
    alive y = is_alive (same_handle y) (seen past)

    fresh : (y : Alive) × Memᴰ y made × (same_handle x y ≡ true) → count (same_handle x) (living past) ≡ 0
    fresh (y, m, s) = go (alive y) refl
      where
        go : (q : Bool) → alive y ≡ q → count (same_handle x) (living past) ≡ 0
        go true a = true_not_false _ (any_member alive made y m a) (not-true _ (and_left _ _ h))
        go false a = ap (λ (f : Alive → Bool). count f (living past)) (sym (same_test x y s)) ∙ omega (arith, ltb-false 0 (count (same_handle y) (living past)) a)

-- a handle is alive once at most
pub alive_once : (room : Room) (past : History) → Accepted room past → (x : Alive) → count (same_handle x) (living past) ≤ 1
unfolding living
alive_once room _ at_start x = omega arith
alive_once room _ (and_line e past n a r k) x = go (count (same_handle x) made) refl (alive_once room past k x)
  where
    made : List Alive
    made = makes e (depth (thread_of e) past)

    kept : List Alive
    kept = keep (λ (y : Alive). not (ends e past y)) (living past)

    fewer : count (same_handle x) kept ≤ count (same_handle x) (living past)
    fewer =
        omega (
          arith,
          count_keep (same_handle x) (λ (y : Alive). not (ends e past y)) (living past),
          count_le (λ (y : Alive). not (ends e past y) && same_handle x y) (same_handle x) (λ y. and_right (not (ends e past y)) (same_handle x y)) (living past),
        )

    anew : (count (same_handle x) made ≤ 1) × (0 < count (same_handle x) made → count (same_handle x) (living past) ≡ 0)
    anew = made_anew e past (passed room e past r).anew x

    go : (n : ℕ) → count (same_handle x) made ≡ n → count (same_handle x) (living past) ≤ 1 → count (same_handle x) (made ++ kept) ≤ 1
    go ℕ.zero z ih = omega (arith, count_append (same_handle x) made kept, fewer)
    go (suc m) z ih = omega (arith, count_append (same_handle x) made kept, fewer, anew.0, anew.1 (omega (arith, z)))

-- ---- kinds and frames

-- an R's result is of its kind
result_kind : (t f h p k : ℕ) (res : Result) → (fact_of f).result ≡ res → h ≢ 0 → result_allows res ≡ value_allows (is_made k)
    → is_allowed (R t f (pos h) p) ≡ true → kind h ≡ k
result_kind t f h p k res is nz test a =
    let allowed = and_right (is_thread t && is_function f) (result_allows (fact_of f).result (pos h)) (and_left (is_thread t && is_function f && result_allows (fact_of f).result (pos h)) (leb p 1) a) in
    let made : value_allows (is_made k) (pos h) ≡ true = sym (ap (λ (g : ℤ → Bool). g (pos h)) test) ∙ sym (ap (λ (x : Result). result_allows x (pos h)) is) ∙ allowed in
    either (or_cases (eqb h 0) (eqb (kind h) k) (and_right (is_value h) (is_made k h) made)) (λ z. absurd (nz (eqb-true h 0 z))) (eqb-true (kind h) k)

abbrev Placed : Alive → Type 0
Placed (local t d h) = (1 ≤ d) × (kind h ≡ 1)
Placed (shared h) = (kind h ≡ 2) ⊎ (kind h ≡ 3)

-- an R has a call open, so its thread has a frame
returned_frame : (room : Room) (t f p : ℕ) (r : ℤ) (past : History) → Accepted room (R t f r p ∷ past) → 1 ≤ depth t past
unfolding in_step
returned_frame room t f p r past a = framed_items room past (before room (R t f r p) past a) t (go (items t past) (passed room (R t f r p) past (not_refused room (R t f r p) past a)).step)
  where
    go : (is : List Item) → (not (closed past) && is_call_of f (top_of is)) ≡ true → 0 < length is
    go [] h = absurd (false≢true (and_right (not (closed past)) false h))
    go (i ∷ is) h = omega arith

made_placed : (room : Room) (e : Line) (past : History) (x : Alive) → Accepted room (e ∷ past) → Makes past e x → Placed x
made_placed room _ past _ a (argument t env h hs i) =
    let every = not-true (any (λ g. not (is_argument g)) hs) (and_right (is_thread t && is_env env && leb (length hs) most_handles) (not (any (λ g. not (is_argument g)) hs)) (allowed room (N t env hs) past a)) in
    (omega arith, eqb-true _ _ (and_left _ _ (all_pass is_argument hs h every i)))
made_placed room _ past _ a (local_result t f h p is nz) =
    (returned_frame room t f p (pos h) past a, result_kind t f h p 1 Result.Local is nz refl (allowed room (R t f (pos h) p) past a))
made_placed room _ past _ a (global_result t f h p is nz) = inl (result_kind t f h p 2 Result.Global is nz refl (allowed room (R t f (pos h) p) past a))
made_placed room _ past _ a (weak_result t f h p is nz) = inr (result_kind t f h p 3 Result.Weak is nz refl (allowed room (R t f (pos h) p) past a))

placed : (room : Room) (past : History) → Accepted room past → (x : Alive) → Lives x past → Placed x
placed room past a x k =
    made_placed room k.maker k.older x (accepted_before room k.newer (k.maker ∷ k.older) (subst (Accepted room) k.split a)) k.made

-- every local alive is of local kind and stands in a frame that is there
pub local_placed : (room : Room) (past : History) → Accepted room past → (t d h : ℕ) → Lives (local t d h) past → (1 ≤ d) × (d ≤ depth t past) × (kind h ≡ 1)
local_placed room past a t d h k =
    let (low, is) = placed room past a (local t d h) k in
    (low, ltb-false _ _ (frame_stands past (local t d h) ((living_are past (local t d h)).1 k)), is)

-- every other handle alive is global or weak by its kind
pub shared_kind : (room : Room) (past : History) → Accepted room past → (h : ℕ) → Lives (shared h) past → (kind h ≡ 2) ⊎ (kind h ≡ 3)
shared_kind room past a h k = placed room past a (shared h) k
