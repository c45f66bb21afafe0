-- There is a capacity for each frame, after every history. Assumes nothing.
use Prim.Native.Nat.{ℕ, suc, ◌+◌, ◌-◌, ◌≤◌}
use mathlib.Core.Path.{◌≡◌, refl, ap, ◌∙◌}
use mathlib.Core.Bool.{Bool, true, false, not, ◌&&◌}
use mathlib.Core.List.{List, [], ◌∷◌, tail}
use native.Mathlib.Nat.{sub_self}
use native.Mathlib.Omega.{arith}
use lib.Dec.{eqb}
use lib.ListN.{length, drop, length-drop}
use Rattle.words.specs.Choice.{if_true◌then◌else◌}
use Rattle.facts.specs.Named.{PushLocalFrame, PopLocalFrame, EnsureLocalCapacity}
use Rattle.lines.specs.Line.{Line, N, X, C, R, A, D, Z, states, is_zero}
use Rattle.history.specs.Past.{History, is_of, through}
use Rattle.history.specs.Items.{items, top_of, asked}
use Rattle.history.specs.Frames.{Frame, entered, pushed, frames, frames_after, depth, without_native, without_pushed}
use Rattle.history.specs.Handles.{alive_in}
use Rattle.history.specs.Capacities.{raised, capacities_after, capacities}
use Rattle.history.proofs.Threads.{own_frames, other_frames, own_capacities, other_capacities}

pub native_less : (fs : List Frame) → length (without_native fs) ≤ length fs
native_less [] = omega arith
native_less (entered ∷ fs) = omega arith
native_less (pushed ∷ fs) = omega (arith, native_less fs)

pushed_less : (fs : List Frame) → length (without_pushed fs) ≤ length fs
pushed_less [] = omega arith
pushed_less (entered ∷ fs) = omega arith
pushed_less (pushed ∷ fs) = omega arith

dropped : (n m : ℕ) (cs : List ℕ) → length cs ≡ n → m ≤ n → length (drop (n - m) cs) ≡ m
dropped n m cs h k = omega (arith, length-drop (n - m) cs, h)

-- the capacities left where no frame goes, and where one goes
pub nothing_dropped : (n : ℕ) (cs : List ℕ) → drop (n - n) cs ≡ cs
nothing_dropped n cs = rw sub_self

pub one_dropped : (n : ℕ) (cs : List ℕ) → drop (suc n - n) cs ≡ tail cs
one_dropped n cs = ap (λ (k : ℕ). drop k cs) one ∙ go cs
  where
    one : suc n - n ≡ 1
    one = omega arith

    go : (cs : List ℕ) → drop 1 cs ≡ tail cs
    go [] = refl
    go (c ∷ cs) = refl

raised_length : (k : ℕ) (cs : List ℕ) → length (raised k cs) ≡ length cs
raised_length k [] = refl
raised_length k (c ∷ cs) = refl

fit_line : (e : Line) (held n : ℕ) (fs : List Frame) (cs : List ℕ) → length cs ≡ length fs
    → length (capacities_after e (record { gone = length fs - length (frames_after e fs); held = held; asked = n }) cs) ≡ length (frames_after e fs)
fit_line (N s env hs) held n fs cs h = ap suc h
fit_line (X s r) held n fs cs h = dropped (length fs) (length (without_native fs)) cs h (native_less fs)
fit_line (C s env f a b c m) held n fs cs h = go (eqb f PopLocalFrame)
  where
    go : (q : Bool) → length (drop (length fs - length (if_true q then without_pushed fs else fs)) cs) ≡ length (if_true q then without_pushed fs else fs)
    go true = dropped (length fs) (length (without_pushed fs)) cs h (pushed_less fs)
    go false = dropped (length fs) (length fs) cs h (omega arith)
fit_line (R s f r p) held n fs cs h = go (is_zero r) (eqb f PushLocalFrame) (eqb f EnsureLocalCapacity)
  where
    go : (z q u : Bool) → length (if_true not z then cs else if_true q then n ∷ cs else if_true u then raised (held + n) cs else cs) ≡ length (if_true q && z then pushed ∷ fs else fs)
    go false true u = h
    go false false u = h
    go true true u = ap suc h
    go true false true = raised_length (held + n) cs ∙ h
    go true false false = h
fit_line (A s env) held n fs cs h = ap suc h
fit_line (D s) held n fs cs h = dropped (length fs) 0 cs h (omega arith)
fit_line Z held n fs cs h = dropped (length fs) (length fs) cs h (omega arith)
fit_line (states s) held n fs cs h = dropped (length fs) (length fs) cs h (omega arith)

-- a capacity for each frame
pub capacities_fit : (past : History) (t : ℕ) → length (capacities t past) ≡ depth t past
unfolding capacities depth frames through
capacities_fit [] t = refl
capacities_fit (e ∷ past) t = go (is_of t e) refl (capacities_fit past t)
  where
    go : (q : Bool) → is_of t e ≡ q → length (capacities t past) ≡ length (frames t past) → length (capacities t (e ∷ past)) ≡ length (frames t (e ∷ past))
    go true o h =
        rw (own_capacities t e past o, own_frames t e past o)
        (fit_line e (alive_in t (depth t past) past) (asked (top_of (items t past))) (frames t past) (capacities t past) h)
    go false o h = rw (other_capacities t e past o, other_frames t e past o) h
