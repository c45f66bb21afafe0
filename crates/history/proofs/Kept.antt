-- Whole calls leave the capacities below a native's frames as they were; after its X they are those before its N. Assumes nothing.
use Prim.Native.Nat.{ℕ, suc, ◌+◌, ◌-◌, max}
use mathlib.Core.Path.{◌≡◌, refl, sym, ap, ◌∙◌}
use mathlib.Core.Bool.{Bool, true, false, not, ◌&&◌}
use mathlib.Core.List.{List, [], ◌∷◌, ◌++◌, append_assoc}
use native.Mathlib.Omega.{arith}
use lib.Dec.{eqb}
use lib.IntN.{ℤ}
use lib.ListN.{length, drop}
use Rattle.words.specs.Choice.{if_true◌then◌else◌}
use Rattle.facts.specs.Named.{PushLocalFrame, PopLocalFrame, EnsureLocalCapacity}
use Rattle.lines.specs.Line.{Line, N, X, C, R, is_zero}
use Rattle.history.specs.Past.{History, is_of}
use Rattle.history.specs.Items.{items, top_of, asked}
use Rattle.history.specs.Frames.{Frame, entered, pushed, frames, depth, without_native, without_pushed}
use Rattle.history.specs.Handles.{alive_in}
use Rattle.history.specs.Capacities.{native_capacity, raised, capacities}
use Rattle.history.specs.Whole.{Whole, nothing_yet, another, native_call, function_call}
use Rattle.history.proofs.Tests.{eqb_self}
use Rattle.history.proofs.Threads.{own_frames, other_frames, own_capacities, other_capacities}
use Rattle.history.proofs.Acts.{enter_frames, enter_capacities, leave_frames}
use Rattle.history.proofs.Capacities.{native_less, nothing_dropped, one_dropped, capacities_fit}
use Rattle.history.proofs.Calls.{below_top, native_closes}

-- the capacities of the frames that X leaves
lower : List Frame → List ℕ → List ℕ
lower fs cs = drop (length fs - length (without_native fs)) cs

lower_entered : (c : ℕ) (fs : List Frame) (cs : List ℕ) → lower (entered ∷ fs) (c ∷ cs) ≡ cs
unfolding lower
lower_entered c fs cs = ap (λ (k : ℕ). drop k (c ∷ cs)) one_less
  where
    one_less : suc (length fs) - length fs ≡ 1
    one_less = omega arith

lower_pushed : (c : ℕ) (fs : List Frame) (cs : List ℕ) → lower (pushed ∷ fs) (c ∷ cs) ≡ lower fs cs
unfolding lower
lower_pushed c fs cs = ap (λ (k : ℕ). drop k (c ∷ cs)) one_more
  where
    one_more : suc (length fs) - length (without_native fs) ≡ suc (length fs - length (without_native fs))
    one_more = omega (arith, native_less fs)

lower_raised : (k : ℕ) (fs : List Frame) (cs : List ℕ) → length cs ≡ length fs → lower fs (raised k cs) ≡ lower fs cs
unfolding lower
lower_raised k fs [] h = refl
lower_raised k fs (c ∷ cs) h = ap (λ (n : ℕ). drop n (max c k ∷ cs)) some_gone ∙ sym (ap (λ (n : ℕ). drop n (c ∷ cs)) some_gone)
  where
    some_gone : length fs - length (without_native fs) ≡ suc (length fs - length (without_native fs) - 1)
    some_gone = omega (arith, below_top fs (omega (arith, h)))

called : (b : Bool) (fs : List Frame) (cs : List ℕ) → length cs ≡ length fs
    → lower (if_true b then without_pushed fs else fs) (drop (length fs - length (if_true b then without_pushed fs else fs)) cs) ≡ lower fs cs
called true [] cs h = ap (lower []) (nothing_dropped 0 cs)
called true (entered ∷ fs) cs h = ap (lower (entered ∷ fs)) (nothing_dropped (suc (length fs)) cs)
called true (pushed ∷ fs) [] h = absurd (omega (arith, h))
called true (pushed ∷ fs) (c ∷ cs) h = ap (lower fs) (one_dropped (length fs) (c ∷ cs)) ∙ sym (lower_pushed c fs cs)
called false fs cs h = ap (lower fs) (nothing_dropped (length fs) cs)

returned : (z q u : Bool) (held n : ℕ) (fs : List Frame) (cs : List ℕ) → length cs ≡ length fs
    → lower (if_true q && z then pushed ∷ fs else fs) (if_true not z then cs else if_true q then n ∷ cs else if_true u then raised (held + n) cs else cs) ≡ lower fs cs
returned false true u held n fs cs h = refl
returned false false u held n fs cs h = refl
returned true true u held n fs cs h = lower_pushed n fs cs
returned true false true held n fs cs h = lower_raised (held + n) fs cs h
returned true false false held n fs cs h = refl

lower_of : ℕ → History → List ℕ
lower_of t past = lower (frames t past) (capacities t past)

lower_called : (t env f a b c : ℕ) (n : ℤ) (past : History) → lower_of t (C t env f a b c n ∷ past) ≡ lower_of t past
unfolding lower_of depth
lower_called t env f a b c n past =
    rw (own_capacities t (C t env f a b c n) past (eqb_self t), own_frames t (C t env f a b c n) past (eqb_self t))
    (called (eqb f PopLocalFrame) (frames t past) (capacities t past) (capacities_fit past t))

lower_returned : (t f p : ℕ) (r : ℤ) (past : History) → lower_of t (R t f r p ∷ past) ≡ lower_of t past
unfolding lower_of depth
lower_returned t f p r past =
    rw (own_capacities t (R t f r p) past (eqb_self t), own_frames t (R t f r p) past (eqb_self t))
    (returned (is_zero r) (eqb f PushLocalFrame) (eqb f EnsureLocalCapacity) (alive_in t (depth t past) past) (asked (top_of (items t past))) (frames t past) (capacities t past) (capacities_fit past t))

entered_lower : (t env : ℕ) (hs : List ℕ) (past : History) → lower_of t (N t env hs ∷ past) ≡ capacities t past
unfolding lower_of
entered_lower t env hs past = rw (enter_frames t env hs past, enter_capacities t env hs past) (lower_entered (native_capacity hs) (frames t past) (capacities t past))

left_lower : (t r : ℕ) (past : History) → capacities t (X t r ∷ past) ≡ lower_of t past
unfolding lower_of lower depth
left_lower t r past = own_capacities t (X t r) past (eqb_self t) ∙ rw (leave_frames t r past)

lower_beside : (t : ℕ) (e : Line) (past : History) → is_of t e ≡ false → lower_of t (e ∷ past) ≡ lower_of t past
unfolding lower_of
lower_beside t e past o = rw (other_frames t e past o, other_capacities t e past o)

-- frames and capacities that are the same have the same below
lower_same : (t : ℕ) (after past : History) → frames t after ≡ frames t past → capacities t after ≡ capacities t past → lower_of t after ≡ lower_of t past
unfolding lower_of
lower_same t after past f c = rw (f, c)

-- whole calls leave them as they were
same_lower : (t : ℕ) (inside past : History) → Whole t inside → lower_of t (inside ++ past) ≡ lower_of t past
same_lower t _ past nothing_yet = refl
same_lower t _ past (another e inside o w) = lower_beside t e (inside ++ past) o ∙ same_lower t inside past w
same_lower t _ past (native_call env r hs inside before w v) =
    rw (append_assoc inside (N t env hs ∷ before) past)
    (lower_same t (X t r ∷ (inside ++ (N t env hs ∷ (before ++ past)))) (before ++ past) (native_closes t r env hs inside (before ++ past) w).0
    (left_lower t r (inside ++ (N t env hs ∷ (before ++ past))) ∙ same_lower t inside (N t env hs ∷ (before ++ past)) w ∙ entered_lower t env hs (before ++ past))
    ∙ same_lower t before past v)
same_lower t _ past (function_call env f a b c p n r inside before w v) =
    rw (append_assoc inside (C t env f a b c n ∷ before) past)
    (lower_returned t f p r (inside ++ (C t env f a b c n ∷ (before ++ past)))
    ∙ same_lower t inside (C t env f a b c n ∷ (before ++ past)) w
    ∙ lower_called t env f a b c n (before ++ past)
    ∙ same_lower t before past v)

-- after X the thread's capacities are those before its N
pub capacities_close : (t r env : ℕ) (hs : List ℕ) (inside past : History) → Whole t inside → capacities t (X t r ∷ (inside ++ (N t env hs ∷ past))) ≡ capacities t past
capacities_close t r env hs inside past w =
    left_lower t r (inside ++ (N t env hs ∷ past)) ∙ same_lower t inside (N t env hs ∷ past) w ∙ entered_lower t env hs past
