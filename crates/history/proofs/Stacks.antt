-- After accepted lines a thread's open items and frames fit one another: natives and calls by turns, an attached item alone at the bottom, a frame for each of them. Assumes nothing.
use Prim.Native.Nat.{ℕ, suc, pred, ◌≤◌, ◌<◌}
use mathlib.Core.Path.{◌≡◌, refl, sym, ap, ◌∙◌, subst}
use mathlib.Core.Bool.{Bool, true, false, not, ◌&&◌, ◌||◌, false≢true}
use mathlib.Core.List.{List, [], ◌∷◌, ◌++◌}
use Rattle.std.specs.Prelude.{Option, None, Some}
use native.Mathlib.Omega.{arith}
use lib.Dec.{eqb, ltb}
use borrow.Author.Tests.{lt-ltb, ltb-true}
use lib.ListN.{length}
use Rattle.words.specs.Choice.{if_true◌then◌else◌}
use Rattle.words.specs.Lists.{count}
use Rattle.facts.specs.Named.{PushLocalFrame, PopLocalFrame, MonitorEnter, MonitorExit}
use Rattle.lines.specs.Line.{Line, N, X, C, R, A, D, Z, states, is_zero}
use Rattle.history.specs.Past.{History, is_of, through, closed}
use Rattle.history.specs.Items.{Item, in_native, in_call, attached, items, items_after, top_of, is_empty, native_or_attached, is_call}
use Rattle.history.specs.Frames.{Frame, entered, pushed, frames, frames_after, without_native, without_pushed, depth}
use Rattle.history.specs.Thread.{monitors, monitors_after}
use Rattle.history.specs.Acceptance.{Room, in_step}
use Rattle.history.specs.Accepted.{Accepted, at_start, and_line}
use Rattle.history.proofs.Tests.{and_left, and_right, and_both}
use Rattle.history.proofs.Counts.{count_length}
use Rattle.history.proofs.Threads.{own_items, other_items, own_frames, other_frames, own_monitors, other_monitors, thread_is}
use Rattle.history.proofs.Accepting.{passed}

abbrev native_item : Item → Bool
native_item i = native_or_attached (Some i)

abbrev native_frame : Frame → Bool
native_frame entered = true
native_frame pushed = false

-- natives and calls by turns, a native or an attached item at the bottom
abbrev by_turns : List Item → Bool
by_turns [] = true
by_turns (in_native ∷ is) = not (native_or_attached (top_of is)) && by_turns is
by_turns (in_call f n ∷ is) = native_or_attached (top_of is) && by_turns is
by_turns (attached ∷ is) = is_empty (top_of is)

-- under each pushed frame one is a native's
abbrev based : List Frame → Bool
based [] = true
based (entered ∷ fs) = based fs
based (pushed ∷ fs) = ltb 0 (count native_frame fs) && based fs

record Fit (is : List Item) (fs : List Frame) : Type 0 where
  turns : by_turns is ≡ true
  natives : count native_item is ≡ count native_frame fs
  based_frames : based fs ≡ true

count_left : (fs : List Frame) → count native_frame (without_native fs) ≡ pred (count native_frame fs)
count_left [] = refl
count_left (entered ∷ fs) = refl
count_left (pushed ∷ fs) = count_left fs

count_popped : (b : Bool) (fs : List Frame) → count native_frame (if_true b then without_pushed fs else fs) ≡ count native_frame fs
count_popped true [] = refl
count_popped true (entered ∷ fs) = refl
count_popped true (pushed ∷ fs) = refl
count_popped false fs = refl

count_pushed : (b : Bool) (fs : List Frame) → count native_frame (if_true b then pushed ∷ fs else fs) ≡ count native_frame fs
count_pushed true fs = refl
count_pushed false fs = refl

based_left : (fs : List Frame) → based fs ≡ true → based (without_native fs) ≡ true
based_left [] h = h
based_left (entered ∷ fs) h = h
based_left (pushed ∷ fs) h = based_left fs (and_right (ltb 0 (count native_frame fs)) (based fs) h)

based_popped : (b : Bool) (fs : List Frame) → based fs ≡ true → based (if_true b then without_pushed fs else fs) ≡ true
based_popped true [] h = h
based_popped true (entered ∷ fs) h = h
based_popped true (pushed ∷ fs) h = and_right (ltb 0 (count native_frame fs)) (based fs) h
based_popped false fs h = h

based_pushed : (b : Bool) (fs : List Frame) → 0 < count native_frame fs → based fs ≡ true → based (if_true b then pushed ∷ fs else fs) ≡ true
based_pushed true fs l h = and_both (ltb 0 (count native_frame fs)) (based fs) (lt-ltb 0 (count native_frame fs) l) h
based_pushed false fs l h = h

no_native : (top : Option Item) → (is_empty top || is_call top) ≡ true → not (native_or_attached top) ≡ true
no_native None h = refl
no_native (Some in_native) h = h
no_native (Some (in_call f n)) h = refl
no_native (Some attached) h = h

-- the lowest open item is a native or attached
bottom : (is : List Item) → by_turns is ≡ true → 0 < length is → 0 < count native_item is
bottom [] h l = absurd (omega (arith, l))
bottom (in_native ∷ is) h l = omega arith
bottom (in_call f n ∷ in_native ∷ is) h l = omega arith
bottom (in_call f n ∷ attached ∷ is) h l = omega arith
bottom (attached ∷ is) h l = omega arith
bottom (in_call f n ∷ in_call g m ∷ is) h l = absurd (false≢true h)
bottom (in_call f n ∷ []) h l = absurd (false≢true h)

-- a line of the thread, in step
fit_line : (e : Line) (over : Bool) (is : List Item) (fs : List Frame) → Fit is fs → in_step e (top_of is) over ≡ true → Fit (items_after e is) (frames_after e fs)
unfolding in_step
fit_line (N t env hs) over is fs k s =
    record {
      turns = and_both (not (native_or_attached (top_of is))) (by_turns is) (no_native (top_of is) (and_right (not over) (is_empty (top_of is) || is_call (top_of is)) s)) k.turns;
      natives = ap suc k.natives;
      based_frames = k.based_frames;
    }
fit_line (X t r) over [] fs k s = absurd (false≢true (and_right (not over) false s))
fit_line (X t r) over (in_native ∷ is) fs k s =
    record { turns = and_right (not (native_or_attached (top_of is))) (by_turns is) k.turns; natives = ap pred k.natives ∙ sym (count_left fs); based_frames = based_left fs k.based_frames }
fit_line (X t r) over (in_call f n ∷ is) fs k s = absurd (false≢true (and_right (not over) false s))
fit_line (X t r) over (attached ∷ is) fs k s = absurd (false≢true (and_right (not over) false s))
fit_line (C t env f a b c n) over is fs k s =
    record {
      turns = and_both (native_or_attached (top_of is)) (by_turns is) (and_right (not over) (native_or_attached (top_of is)) s) k.turns;
      natives = k.natives ∙ sym (count_popped (eqb f PopLocalFrame) fs);
      based_frames = based_popped (eqb f PopLocalFrame) fs k.based_frames;
    }
fit_line (R t f r p) over [] fs k s = absurd (false≢true (and_right (not over) false s))
fit_line (R t f r p) over (in_native ∷ is) fs k s = absurd (false≢true (and_right (not over) false s))
fit_line (R t f r p) over (in_call g n ∷ is) fs k s =
    record {
      turns = and_right (native_or_attached (top_of is)) (by_turns is) k.turns;
      natives = k.natives ∙ sym (count_pushed (eqb f PushLocalFrame && is_zero r) fs);
      based_frames = based_pushed (eqb f PushLocalFrame && is_zero r) fs (omega (arith, bottom (in_call g n ∷ is) k.turns (omega arith), k.natives)) k.based_frames;
    }
fit_line (R t f r p) over (attached ∷ is) fs k s = absurd (false≢true (and_right (not over) false s))
fit_line (A t env) over [] fs k s = record { turns = refl; natives = ap suc k.natives; based_frames = k.based_frames }
fit_line (A t env) over (i ∷ is) fs k s = absurd (false≢true (and_right (not over) false s))
fit_line (D t) over [] fs k s = absurd (false≢true (and_right (not over) false s))
fit_line (D t) over (in_native ∷ is) fs k s = absurd (false≢true (and_right (not over) false s))
fit_line (D t) over (in_call f n ∷ is) fs k s = absurd (false≢true (and_right (not over) false s))
fit_line (D t) over (attached ∷ []) fs k s = record { turns = refl; natives = refl; based_frames = refl }
fit_line (D t) over (attached ∷ i ∷ is) fs k s = absurd (false≢true k.turns)
fit_line Z over is fs k s = k
fit_line (states c) over is fs k s = k

fit : (room : Room) (past : History) → Accepted room past → (t : ℕ) → Fit (items t past) (frames t past)
unfolding items frames through
fit room _ at_start t = record { turns = refl; natives = refl; based_frames = refl }
fit room _ (and_line e past n a r k) t = go (is_of t e) refl (fit room past k t)
  where
    step : is_of t e ≡ true → in_step e (top_of (items t past)) (closed past) ≡ true
    step o = subst (λ (s : ℕ). in_step e (top_of (items s past)) (closed past) ≡ true) (thread_is t e o) (passed room e past r).step

    go : (q : Bool) → is_of t e ≡ q → Fit (items t past) (frames t past) → Fit (items t (e ∷ past)) (frames t (e ∷ past))
    go true o ih = rw (own_items t e past o, own_frames t e past o) (fit_line e (closed past) (items t past) (frames t past) ih (step o))
    go false o ih = rw (other_items t e past o, other_frames t e past o) ih

-- no more natives than frames
pub natives_in_frames : (room : Room) (past : History) → Accepted room past → (t : ℕ) → count (λ (i : Item). native_or_attached (Some i)) (items t past) ≤ depth t past
unfolding depth
natives_in_frames room past a t = omega (arith, (fit room past a t).natives, count_length native_frame (frames t past))

-- open items only in a thread with a frame
pub framed_items : (room : Room) (past : History) → Accepted room past → (t : ℕ) → 0 < length (items t past) → 0 < depth t past
framed_items room past a t l = omega (arith, bottom (items t past) (fit room past a t).turns l, natives_in_frames room past a t)

no_frame : (fs : List Frame) → based fs ≡ true → count native_frame fs ≡ 0 → fs ≡ []
no_frame [] h z = refl
no_frame (entered ∷ fs) h z = absurd (omega (arith, z))
no_frame (pushed ∷ fs) h z = absurd (omega (arith, z, ltb-true 0 (count native_frame fs) (and_left (ltb 0 (count native_frame fs)) (based fs) h)))

-- and frames only in a thread with an open item
pub unframed : (room : Room) (past : History) → Accepted room past → (t : ℕ) → items t past ≡ [] → frames t past ≡ []
unframed room past a t is = no_frame (frames t past) (fit room past a t).based_frames (sym (fit room past a t).natives ∙ ap (count native_item) is)

lowest : (above below : List Item) → by_turns (above ++ (attached ∷ below)) ≡ true → below ≡ []
lowest [] [] h = refl
lowest [] (i ∷ below) h = absurd (false≢true h)
lowest (in_native ∷ above) below h = lowest above below (and_right (not (native_or_attached (top_of (above ++ (attached ∷ below))))) (by_turns (above ++ (attached ∷ below))) h)
lowest (in_call f n ∷ above) below h = lowest above below (and_right (native_or_attached (top_of (above ++ (attached ∷ below)))) (by_turns (above ++ (attached ∷ below))) h)
lowest (attached ∷ []) below h = absurd (false≢true h)
lowest (attached ∷ i ∷ above) below h = absurd (false≢true h)

-- an attached item has nothing below it
pub attached_lowest : (room : Room) (past : History) → Accepted room past → (t : ℕ) (above below : List Item) → items t past ≡ above ++ (attached ∷ below) → below ≡ []
attached_lowest room past a t above below is = lowest above below (ap by_turns (sym is) ∙ (fit room past a t).turns)

-- ---- monitors and lines

one_monitor : (e : Line) (m : ℕ) → monitors_after e m ≤ suc m
one_monitor (N t env hs) m = omega arith
one_monitor (X t r) m = omega arith
one_monitor (C t env f a b c n) m = omega arith
one_monitor (R t f r p) m = go (not (is_zero r)) (eqb f MonitorEnter) (eqb f MonitorExit)
  where
    less : pred m ≤ suc m
    less = omega arith

    go : (a b c : Bool) → (if_true a then m else if_true b then suc m else if_true c then pred m else m) ≤ suc m
    go true b c = omega arith
    go false true c = omega arith
    go false false true = less
    go false false false = omega arith
one_monitor (A t env) m = omega arith
one_monitor (D t) m = omega arith
one_monitor Z m = omega arith
one_monitor (states s) m = omega arith

-- no more monitors than lines
pub monitors_in_lines : (past : History) (t : ℕ) → monitors t past ≤ length past
unfolding monitors through
monitors_in_lines [] t = omega arith
monitors_in_lines (e ∷ past) t = go (is_of t e) refl (monitors_in_lines past t)
  where
    go : (q : Bool) → is_of t e ≡ q → monitors t past ≤ length past → monitors t (e ∷ past) ≤ suc (length past)
    go true o ih = omega (arith, own_monitors t e past o, one_monitor e (monitors t past))
    go false o ih = omega (arith, other_monitors t e past o)

-- a trace has at most 1,000,000 lines
pub at_most_a_million : (room : Room) (past : History) → Accepted room past → length past ≤ 1000000
at_most_a_million room _ at_start = omega arith
at_most_a_million room _ (and_line e past n a r k) = omega (arith, n)
