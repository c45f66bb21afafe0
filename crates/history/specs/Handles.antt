-- The handles alive: an earlier line made it and no line since has ended it. Assumes nothing.
use Rattle.std.specs.Prelude.{ℕ, suc, Bool, true, false, not, ◌&&◌, ◌||◌, List, [], ◌∷◌, ◌++◌, map, eqb, ltb}
use Rattle.words.specs.Choice.{if_true◌then◌else◌}
use Rattle.words.specs.Lists.{keep, count}
use Rattle.facts.specs.Table.{fact_of}
use Rattle.facts.specs.Named.{DeleteGlobalRef, DeleteLocalRef, DeleteWeakGlobalRef}
use Rattle.facts.specs.declared.Result.{Result}
use Rattle.lines.specs.Line.{Line, if_N◌then◌else◌, if_C◌then◌else◌, if_R◌then◌else◌, kind, above_zero}
use Rattle.history.specs.Past.{History, thread_of}
use Rattle.history.specs.Frames.{depth}

pub data Alive : Type 0 where
  -- a local: its thread, its frame counted from 1, the handle
  local : ℕ → ℕ → ℕ → Alive
  -- a global or a weak, by its kind
  shared : ℕ → Alive

-- ---- what a line makes, where its thread has d frames

-- L a local in the thread's top frame, G or W a global or weak
abbrev pub result_made : Result → ℕ → ℕ → ℕ → List Alive
result_made Result.Local t d h = local t d h ∷ []
result_made Result.Global t d h = shared h ∷ []
result_made Result.Weak t d h = shared h ∷ []
result_made Result.Identity t d h = []
result_made Result.Buffer t d h = []
result_made Result.Status t d h = []
result_made Result.Nothing t d h = []

-- N makes its handles as locals in the frame that it opens; R makes its result, if that is nonzero
unfoldable pub makes : Line → ℕ → List Alive
makes e d =
    if_N e then (λ t env hs. map (local t (suc d)) hs)
    else if_R e then (λ t f r p. if_true eqb (above_zero r) 0 then [] else result_made (fact_of f).result t d (above_zero r))
    else []

-- ---- which handle it is

abbrev pub is_local : ℕ → ℕ → Alive → Bool
is_local t h (local s d g) = eqb s t && eqb g h
is_local t h (shared g) = false

abbrev pub is_shared : ℕ → Alive → Bool
is_shared h (local s d g) = false
is_shared h (shared g) = eqb g h

-- the same handle: a local in the same thread
abbrev pub same_handle : Alive → Alive → Bool
same_handle (local t d h) = is_local t h
same_handle (shared h) = is_shared h

abbrev pub in_frame : ℕ → ℕ → Alive → Bool
in_frame t d (local s e h) = eqb s t && eqb e d
in_frame t d (shared h) = false

abbrev pub global_or_weak : Alive → Bool
global_or_weak (local t d h) = false
global_or_weak (shared h) = true

-- ---- what ends a handle

-- C of 23, 22, 227 ends the handle in a if it is of that place's kind (a local: in this thread)
unfoldable pub deletes : Line → Alive → Bool
deletes e x =
    if_C e then
    (λ t env f a b c n.
    (eqb f DeleteLocalRef && eqb (kind a) 1 && is_local t a x)
    || (eqb f DeleteGlobalRef && eqb (kind a) 2 && is_shared a x)
    || (eqb f DeleteWeakGlobalRef && eqb (kind a) 3 && is_shared a x))
    else false

-- a local ends with its frame: on X, on C of 20, and on D, which ends all frames of the thread
abbrev pub frame_gone : History → Alive → Bool
frame_gone past (local t d h) = ltb (depth t past) d
frame_gone past (shared h) = false

-- the line e after `past` ends it
unfoldable pub ends : Line → History → Alive → Bool
ends e past x = deletes e x || frame_gone (e ∷ past) x

-- ---- alive

unfoldable pub living : History → List Alive
living [] = []
living (e ∷ past) = makes e (depth (thread_of e) past) ++ keep (λ (x : Alive). not (ends e past x)) (living past)

-- locals alive in a frame of a thread
unfoldable pub alive_in : ℕ → ℕ → History → ℕ
alive_in t d past = count (in_frame t d) (living past)
