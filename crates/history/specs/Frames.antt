-- The frames of a thread: one for each open native or attached item, and those pushed in it. Assumes nothing.
use Rattle.std.specs.Prelude.{ℕ, Bool, true, false, ◌&&◌, List, [], ◌∷◌, eqb, length}
use Rattle.words.specs.Choice.{if_true◌then◌else◌}
use Rattle.facts.specs.Named.{PushLocalFrame, PopLocalFrame}
use Rattle.lines.specs.Line.{Line, if_opens◌then◌else◌, if_X◌then◌else◌, if_C◌then◌else◌, if_R◌then◌else◌, if_D◌then◌else◌, is_zero}
use Rattle.history.specs.Past.{History, through}

pub data Frame : Type 0 where
  entered pushed : Frame

-- X ends all frames of that native, pushed frames included
abbrev pub without_native : List Frame → List Frame
without_native [] = []
without_native (entered ∷ fs) = fs
without_native (pushed ∷ fs) = without_native fs

-- C of 20 ends the top frame, if that frame was pushed
abbrev pub without_pushed : List Frame → List Frame
without_pushed [] = []
without_pushed (entered ∷ fs) = entered ∷ fs
without_pushed (pushed ∷ fs) = fs

-- N and A open a frame; with status 0, 19 pushes one; D ends the thread's frames
abbrev pub frames_after : Line → List Frame → List Frame
frames_after e fs =
    if_opens e then (λ t env hs. entered ∷ fs)
    else if_X e then (λ t r. without_native fs)
    else if_C e then (λ t env f a b c n. if_true eqb f PopLocalFrame then without_pushed fs else fs)
    else if_R e then (λ t f r p. if_true eqb f PushLocalFrame && is_zero r then pushed ∷ fs else fs)
    else if_D e then (λ t. [])
    else fs

-- top first
unfoldable pub frames : ℕ → History → List Frame
frames = through frames_after []

-- how many, so that frames are numbered from 1
unfoldable pub depth : ℕ → History → ℕ
depth t past = length (frames t past)

abbrev pub top_pushed : List Frame → Bool
top_pushed [] = false
top_pushed (entered ∷ fs) = false
top_pushed (pushed ∷ fs) = true
