-- Which lines change what of a thread: those named here, and no other. Assumes nothing.
use Rattle.std.specs.Prelude.{ℕ, ◌≡◌, List, ◌∷◌, ℤ, pos}
use Rattle.facts.specs.Named.{PushLocalFrame, PopLocalFrame, EnsureLocalCapacity, MonitorEnter, MonitorExit}
use Rattle.lines.specs.Line.{Line, N, X, C, R, A, D}
use Rattle.history.specs.Past.{History}
use Rattle.history.specs.Frames.{Frame, pushed, frames}

-- N opens a native, C a call, A an attached item; X, R and D close the top
pub data ChangesItems (t : ℕ) : Line → Type 0 where
  opens_native : (env : ℕ) (hs : List ℕ) → ChangesItems t (N t env hs)
  opens_call : (env f a b c : ℕ) (n : ℤ) → ChangesItems t (C t env f a b c n)
  closes_native : (r : ℕ) → ChangesItems t (X t r)
  closes_call : (f p : ℕ) (r : ℤ) → ChangesItems t (R t f r p)
  attaches : (env : ℕ) → ChangesItems t (A t env)
  detaches : ChangesItems t (D t)

-- N and A open a frame, X ends those of that native, D those of the thread, C of 20 ends the top frame, if that frame was pushed; with status 0, 19 pushes one
pub data ChangesFrames (t : ℕ) (past : History) : Line → Type 0 where
  opens_frame : (env : ℕ) (hs : List ℕ) → ChangesFrames t past (N t env hs)
  opens_attached : (env : ℕ) → ChangesFrames t past (A t env)
  ends_frames : (r : ℕ) → ChangesFrames t past (X t r)
  ends_all_frames : ChangesFrames t past (D t)
  pops_frame : (env a b c : ℕ) (n : ℤ) (below : List Frame) → frames t past ≡ pushed ∷ below → ChangesFrames t past (C t env PopLocalFrame a b c n)
  pushes_frame : (p : ℕ) → ChangesFrames t past (R t PushLocalFrame (pos 0) p)

-- capacities come and go with their frames; with status 0, 26 raises the top frame's
pub data ChangesCapacities (t : ℕ) (past : History) : Line → Type 0 where
  with_frames : (e : Line) → ChangesFrames t past e → ChangesCapacities t past e
  raises_capacity : (p : ℕ) → ChangesCapacities t past (R t EnsureLocalCapacity (pos 0) p)

-- N and A: pending becomes 0; R sets pending
pub data ChangesPending (t : ℕ) : Line → Type 0 where
  clears_pending : (env : ℕ) (hs : List ℕ) → ChangesPending t (N t env hs)
  clears_attached : (env : ℕ) → ChangesPending t (A t env)
  sets_pending : (f p : ℕ) (r : ℤ) → ChangesPending t (R t f r p)

-- with status 0, 217 adds one to the thread's monitors, 218 takes one; on D they become 0
pub data ChangesMonitors (t : ℕ) : Line → Type 0 where
  adds_monitor : (p : ℕ) → ChangesMonitors t (R t MonitorEnter (pos 0) p)
  takes_monitor : (p : ℕ) → ChangesMonitors t (R t MonitorExit (pos 0) p)
  drops_monitors : ChangesMonitors t (D t)
