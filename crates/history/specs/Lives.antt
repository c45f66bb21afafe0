-- Alive in the words of document 01: an earlier line made it and no line since has ended it. Assumes nothing.
use Rattle.std.specs.Prelude.{ℕ, suc, ◌≤◌, ◌<◌, ◌≡◌, ◌≢◌, ℤ, pos, length}
use mathlib.Core.List.{List, [], ◌∷◌, ◌++◌, Memᴰ}
use Rattle.facts.specs.Table.{fact_of}
use Rattle.facts.specs.Named.{PopLocalFrame, DeleteGlobalRef, DeleteLocalRef, DeleteWeakGlobalRef}
use Rattle.facts.specs.declared.Result.TheVariants as Result
use Rattle.lines.specs.Line.{Line, N, X, C, R, D, kind}
use Rattle.history.specs.Past.{History}
use Rattle.history.specs.Frames.{Frame, pushed, frames, depth, without_native}
use Rattle.history.specs.Handles.{Alive, local, shared}

-- the line, after `past`, makes the handle
pub data Makes (past : History) : Line → Alive → Type 0 where
  -- N opens a frame, and makes its handles as locals in that frame
  argument : (t env h : ℕ) (hs : List ℕ) → Memᴰ h hs → Makes past (N t env hs) (local t (suc (depth t past)) h)
  -- R makes its result, if that is nonzero: L a local in the thread's top frame
  local_result : (t f h p : ℕ) → (fact_of f).result ≡ Result.Local → h ≢ 0 → Makes past (R t f (pos h) p) (local t (depth t past) h)
  -- G a global
  global_result : (t f h p : ℕ) → (fact_of f).result ≡ Result.Global → h ≢ 0 → Makes past (R t f (pos h) p) (shared h)
  -- W a weak
  weak_result : (t f h p : ℕ) → (fact_of f).result ≡ Result.Weak → h ≢ 0 → Makes past (R t f (pos h) p) (shared h)

-- the line, after `past`, ends the handle
pub data Ends (past : History) : Line → Alive → Type 0 where
  -- C of 23 ends the handle in a if it is of that place's kind: a local in this thread, in whatever frame
  deletes_local : (t env a b c d : ℕ) (n : ℤ) → kind a ≡ 1 → Ends past (C t env DeleteLocalRef a b c n) (local t d a)
  -- C of 22: a global
  deletes_global : (t env a b c : ℕ) (n : ℤ) → kind a ≡ 2 → Ends past (C t env DeleteGlobalRef a b c n) (shared a)
  -- C of 227: a weak
  deletes_weak : (t env a b c : ℕ) (n : ℤ) → kind a ≡ 3 → Ends past (C t env DeleteWeakGlobalRef a b c n) (shared a)
  -- C of 20 ends the top frame and its locals, if that frame was pushed
  pops : (t env a b c h : ℕ) (n : ℤ) (below : List Frame) → frames t past ≡ pushed ∷ below
      → Ends past (C t env PopLocalFrame a b c n) (local t (suc (length below)) h)
  -- X ends all locals of that native, those in pushed frames included
  leaves : (t r d h : ℕ) → length (without_native (frames t past)) < d → Ends past (X t r) (local t d h)
  -- D ends the thread's locals; their frames are counted from 1
  detaches : (t d h : ℕ) → 1 ≤ d → Ends past (D t) (local t d h)

-- no line of `newer`, which came after `older`, ended it
pub data Spared (x : Alive) (older : History) : History → Type 0 where
  so_far : Spared x older []
  by_line : (e : Line) (newer : History) → ¬ Ends (newer ++ older) e x → Spared x older newer → Spared x older (e ∷ newer)

-- an earlier line made it and no line since has ended it
pub record Lives (x : Alive) (past : History) : Type 0 where
  pub newer : History
  pub maker : Line
  pub older : History
  pub split : past ≡ newer ++ (maker ∷ older)
  pub made : Makes older maker x
  pub spared : Spared x (maker ∷ older) newer

-- a local alive in this thread, in whatever frame
pub record LocalLives (t h : ℕ) (past : History) : Type 0 where
  pub frame : ℕ
  pub lives : Lives (local t frame h) past

-- handle v of thread t: a local of its own, a global or weak
pub data Means (t : ℕ) : ℕ → Alive → Type 0 where
  its_local : (d v : ℕ) → kind v ≡ 1 → Means t v (local t d v)
  a_shared : (v : ℕ) → 2 ≤ kind v → Means t v (shared v)
