-- Whole calls: they leave a thread's open items as they were, and an X leaves its frames and locals as they were before its N. Assumes nothing.
use Prim.Native.Nat.{ℕ, ◌+◌, ◌≤◌, ◌<◌, max}
use mathlib.Core.Path.{◌≡◌, refl, ap, ◌∙◌}
use mathlib.Core.Bool.{Bool, true, false, ◌&&◌}
use mathlib.Core.List.{List, [], ◌∷◌, ◌++◌, tail, append_assoc, Memᴰ}
use native.Mathlib.Omega.{arith}
use lib.Dec.{eqb}
use lib.IntN.{ℤ, pos}
use lib.ListN.{length}
use borrow.Author.Tests.{ltb-false}
use Rattle.words.specs.Choice.{if_true◌then◌else◌}
use Rattle.facts.specs.Named.{PushLocalFrame, PopLocalFrame, EnsureLocalCapacity}
use Rattle.lines.specs.Line.{Line, N, X, C, R, is_zero, above_zero}
use Rattle.history.specs.Past.{History}
use Rattle.history.specs.Items.{Item, in_call, items, top_of, asked}
use Rattle.history.specs.Frames.{Frame, entered, pushed, frames, without_native, without_pushed, depth}
use Rattle.history.specs.Handles.{Alive, local, shared, living, alive_in}
use Rattle.history.specs.Capacities.{capacities}
use Rattle.history.specs.Lives.{Makes, argument, local_result, global_result, weak_result, Lives}
use Rattle.history.specs.Whole.{Whole, nothing_yet, another, native_call, function_call}
use Rattle.history.proofs.Tests.{eqb_self}
use Rattle.history.proofs.Threads.{own_items, other_items, own_frames, other_frames}
use Rattle.history.proofs.Living.{frame_stands, unless_made, living_are}
use Rattle.history.proofs.Acts.{push_capacities, ensure_capacities}
use Rattle.history.proofs.Capacities.{native_less}
use Rattle.history.proofs.Others.{alive_beside}

-- whole calls leave the open items as they were
pub same_items : (t : ℕ) (inside past : History) → Whole t inside → items t (inside ++ past) ≡ items t past
same_items t _ past nothing_yet = refl
same_items t _ past (another e inside o w) = other_items t e (inside ++ past) o ∙ same_items t inside past w
same_items t _ past (native_call env r hs inside before w v) =
    rw (append_assoc inside (N t env hs ∷ before) past)
    (own_items t (X t r) (inside ++ (N t env hs ∷ (before ++ past))) (eqb_self t)
    ∙ ap tail (same_items t inside (N t env hs ∷ (before ++ past)) w ∙ own_items t (N t env hs) (before ++ past) (eqb_self t))
    ∙ same_items t before past v)
same_items t _ past (function_call env f a b c p n r inside before w v) =
    rw (append_assoc inside (C t env f a b c n ∷ before) past)
    (own_items t (R t f r p) (inside ++ (C t env f a b c n ∷ (before ++ past))) (eqb_self t)
    ∙ ap tail (same_items t inside (C t env f a b c n ∷ (before ++ past)) w ∙ own_items t (C t env f a b c n) (before ++ past) (eqb_self t))
    ∙ same_items t before past v)

-- the top item at an R is that of the matching C, however much was nested between
pub matching_call : (t env f a b c : ℕ) (n : ℤ) (inside past : History) → Whole t inside
    → items t (inside ++ (C t env f a b c n ∷ past)) ≡ in_call f (above_zero n) ∷ items t past
matching_call t env f a b c n inside past w =
    same_items t inside (C t env f a b c n ∷ past) w ∙ own_items t (C t env f a b c n) past (eqb_self t)

-- so a push has the capacity max(n,0) of its own C
pub matching_push : (t env a b c p : ℕ) (n : ℤ) (inside past : History) → Whole t inside
    → capacities t (R t PushLocalFrame (pos 0) p ∷ (inside ++ (C t env PushLocalFrame a b c n ∷ past)))
    ≡ above_zero n ∷ capacities t (inside ++ (C t env PushLocalFrame a b c n ∷ past))
matching_push t env a b c p n inside past w =
    push_capacities t p (inside ++ (C t env PushLocalFrame a b c n ∷ past))
    ∙ ap (λ (is : List Item). asked (top_of is) ∷ capacities t (inside ++ (C t env PushLocalFrame a b c n ∷ past))) (matching_call t env PushLocalFrame a b c n inside past w)

-- and 26 raises by the max(n,0) of its own
pub matching_ensure : (t env a b c p : ℕ) (n : ℤ) (inside past : History) → Whole t inside → (old : ℕ) (lower : List ℕ)
    → let before : History = inside ++ (C t env EnsureLocalCapacity a b c n ∷ past) in
    capacities t before ≡ old ∷ lower → capacities t (R t EnsureLocalCapacity (pos 0) p ∷ before) ≡ max old (alive_in t (depth t before) before + above_zero n) ∷ lower
matching_ensure t env a b c p n inside past w old lower is =
    let before : History = inside ++ (C t env EnsureLocalCapacity a b c n ∷ past) in
    ensure_capacities t p before old lower is
    ∙ ap (λ (is : List Item). max old (alive_in t (depth t before) before + asked (top_of is)) ∷ lower) (matching_call t env EnsureLocalCapacity a b c n inside past w)

-- ---- frames

left_popped : (b : Bool) (fs : List Frame) → without_native (if_true b then without_pushed fs else fs) ≡ without_native fs
left_popped true [] = refl
left_popped true (entered ∷ fs) = refl
left_popped true (pushed ∷ fs) = refl
left_popped false fs = refl

left_pushed : (b : Bool) (fs : List Frame) → without_native (if_true b then pushed ∷ fs else fs) ≡ without_native fs
left_pushed true fs = refl
left_pushed false fs = refl

-- a call may push frames over the native's, or take such away
left_called : (t env f a b c : ℕ) (n : ℤ) (past : History) → without_native (frames t (C t env f a b c n ∷ past)) ≡ without_native (frames t past)
left_called t env f a b c n past = ap without_native (own_frames t (C t env f a b c n) past (eqb_self t)) ∙ left_popped (eqb f PopLocalFrame) (frames t past)

left_returned : (t f p : ℕ) (r : ℤ) (past : History) → without_native (frames t (R t f r p ∷ past)) ≡ without_native (frames t past)
left_returned t f p r past = ap without_native (own_frames t (R t f r p) past (eqb_self t)) ∙ left_pushed (eqb f PushLocalFrame && is_zero r) (frames t past)

-- whole calls leave the frames below the native's as they were
same_left : (t : ℕ) (inside past : History) → Whole t inside → without_native (frames t (inside ++ past)) ≡ without_native (frames t past)
same_left t _ past nothing_yet = refl
same_left t _ past (another e inside o w) = ap without_native (other_frames t e (inside ++ past) o) ∙ same_left t inside past w
same_left t _ past (native_call env r hs inside before w v) =
    rw (append_assoc inside (N t env hs ∷ before) past)
    (ap without_native
    (own_frames t (X t r) (inside ++ (N t env hs ∷ (before ++ past))) (eqb_self t)
    ∙ same_left t inside (N t env hs ∷ (before ++ past)) w
    ∙ ap without_native (own_frames t (N t env hs) (before ++ past) (eqb_self t)))
    ∙ same_left t before past v)
same_left t _ past (function_call env f a b c p n r inside before w v) =
    rw (append_assoc inside (C t env f a b c n ∷ before) past)
    (left_returned t f p r (inside ++ (C t env f a b c n ∷ (before ++ past)))
    ∙ same_left t inside (C t env f a b c n ∷ (before ++ past)) w
    ∙ left_called t env f a b c n (before ++ past)
    ∙ same_left t before past v)

-- X ends all frames of that native, pushed frames included, and closes it: the thread's stacks are as before its N
pub native_closes : (t r env : ℕ) (hs : List ℕ) (inside past : History) → Whole t inside
    → (frames t (X t r ∷ (inside ++ (N t env hs ∷ past))) ≡ frames t past) × (items t (X t r ∷ (inside ++ (N t env hs ∷ past))) ≡ items t past)
native_closes t r env hs inside past w = (
  own_frames t (X t r) (inside ++ (N t env hs ∷ past)) (eqb_self t)
      ∙ same_left t inside (N t env hs ∷ past) w ∙ ap without_native (own_frames t (N t env hs) past (eqb_self t)),
  own_items t (X t r) (inside ++ (N t env hs ∷ past)) (eqb_self t) ∙ ap tail (same_items t inside (N t env hs ∷ past) w ∙ own_items t (N t env hs) past (eqb_self t)),
)

-- ---- locals

pub below_top : (fs : List Frame) → 1 ≤ length fs → length (without_native fs) < length fs
below_top [] h = absurd (omega (arith, h))
below_top (entered ∷ fs) h = omega arith
below_top (pushed ∷ fs) h = omega (arith, native_less fs)

abbrev Above : History → Alive → Type 0
Above past (local t d h) = 1 ≤ d → length (without_native (frames t past)) < d
Above past (shared h) = Unit {0}

-- what a line makes stands above the frames below the native's
made_above : (e : Line) (past : History) (x : Alive) → Makes past e x → Above past x
unfolding depth
made_above _ past _ (argument t env h hs i) = λ l. omega (arith, native_less (frames t past))
made_above _ past _ (local_result t f h p is nz) = below_top (frames t past)
made_above _ past _ (global_result t f h p is nz) = tt
made_above _ past _ (weak_result t f h p is nz) = tt

-- so a local below was alive before the line
alive_before : (t d h : ℕ) (e : Line) (past : History) → 1 ≤ d → d ≤ length (without_native (frames t past))
    → Memᴰ (local t d h) (living (e ∷ past)) → Memᴰ (local t d h) (living past)
alive_before t d h e past l k = unless_made e past (local t d h) (λ m. omega (arith, made_above e past (local t d h) m l))

entered_length : (t env : ℕ) (hs : List ℕ) (past : History) → length (without_native (frames t (N t env hs ∷ past))) ≡ length (frames t past)
entered_length t env hs past = ap (λ (fs : List Frame). length (without_native fs)) (own_frames t (N t env hs) past (eqb_self t))

below : (t d h : ℕ) (inside past : History) → Whole t inside → 1 ≤ d → d ≤ length (without_native (frames t past))
    → Memᴰ (local t d h) (living (inside ++ past)) → Memᴰ (local t d h) (living past)
below t d h _ past nothing_yet l k m = m
below t d h _ past (another e inside o w) l k m = below t d h inside past w l k (alive_beside t d h e (inside ++ past) o m)
below t d h _ past (native_call env r hs inside before w v) l k m =
    let entry : History = N t env hs ∷ (before ++ past) in
    let low : d ≤ length (without_native (frames t (before ++ past))) = omega (arith, ap length (same_left t before past v)) in
    let mid : d ≤ length (without_native (frames t entry)) = omega (arith, native_less (frames t (before ++ past)), entered_length t env hs (before ++ past)) in
    let high : d ≤ length (without_native (frames t (inside ++ entry))) = omega (arith, ap length (same_left t inside entry w)) in
    below t d h before past v l k
    (alive_before t d h (N t env hs) (before ++ past) l low
    (below t d h inside entry w l mid
    (alive_before t d h (X t r) (inside ++ entry) l high
    (rw (append_assoc inside (N t env hs ∷ before) past) at m))))
below t d h _ past (function_call env f a b c p n r inside before w v) l k m =
    let entry : History = C t env f a b c n ∷ (before ++ past) in
    let low : d ≤ length (without_native (frames t (before ++ past))) = omega (arith, ap length (same_left t before past v)) in
    let mid : d ≤ length (without_native (frames t entry)) = omega (arith, ap length (left_called t env f a b c n (before ++ past))) in
    let high : d ≤ length (without_native (frames t (inside ++ entry))) = omega (arith, ap length (same_left t inside entry w)) in
    below t d h before past v l k
    (alive_before t d h (C t env f a b c n) (before ++ past) l low
    (below t d h inside entry w l mid
    (alive_before t d h (R t f r p) (inside ++ entry) l high
    (rw (append_assoc inside (C t env f a b c n ∷ before) past) at m))))

-- N's own handles stand in the frame that it opens
abbrev Over : History → Alive → Type 0
Over past (local t d h) = depth t past < d
Over past (shared h) = Unit {0}

entered_over : (t env : ℕ) (hs : List ℕ) (past : History) (x : Alive) → Makes past (N t env hs) x → Over past x
entered_over t env hs past _ (argument _ _ h _ i) = omega arith

entered_before : (t env d h : ℕ) (hs : List ℕ) (past : History) → d ≤ depth t past
    → Memᴰ (local t d h) (living (N t env hs ∷ past)) → Memᴰ (local t d h) (living past)
entered_before t env d h hs past k = unless_made (N t env hs) past (local t d h) (λ m. omega (arith, entered_over t env hs past (local t d h) m))

-- X ends all locals of that native: what is alive in the thread after it was alive before its N
pub nothing_of_it_lives : (t r env d h : ℕ) (hs : List ℕ) (inside past : History) → Whole t inside → 1 ≤ d
    → Lives (local t d h) (X t r ∷ (inside ++ (N t env hs ∷ past))) → Lives (local t d h) past
unfolding depth
nothing_of_it_lives t r env d h hs inside past w l k =
    let entry : History = N t env hs ∷ past in
    let m = (living_are (X t r ∷ (inside ++ entry)) (local t d h)).1 k in
    let there = ltb-false (depth t (X t r ∷ (inside ++ entry))) d (frame_stands (X t r ∷ (inside ++ entry)) (local t d h) m) in
    let low : d ≤ length (frames t past) = omega (arith, there, ap length (native_closes t r env hs inside past w).0) in
    let mid : d ≤ length (without_native (frames t entry)) = omega (arith, entered_length t env hs past) in
    let high : d ≤ length (without_native (frames t (inside ++ entry))) = omega (arith, ap length (same_left t inside entry w)) in
    (living_are past (local t d h)).0 (entered_before t env d h hs past low (below t d h inside entry w l mid (alive_before t d h (X t r) (inside ++ entry) l high m)))
