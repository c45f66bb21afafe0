-- The class stated of a handle in the words of document 02: by the last O, or by the R of 31 itself. Assumes nothing.
use Rattle.std.specs.Prelude.{ℕ, ◌≤◌, ◌≡◌, ◌≢◌, false, [], ◌∷◌, ◌++◌, pos}
use Rattle.facts.specs.Classes.{class}
use Rattle.facts.specs.Named.{GetObjectClass}
use Rattle.lines.specs.Line.{Line, R, states, O, kind}
use Rattle.history.specs.Past.{History}
use Rattle.history.specs.Handles.{Alive, local, shared, same_handle}
use Rattle.history.specs.Lives.{Makes}

-- the line states that the handle is of the class; a local in whatever frame
pub data States : Line → Alive → ℕ → Type 0 where
  -- O of a local of that thread
  of_local : (t d h c : ℕ) → kind h ≡ 1 → States (states (O t h c)) (local t d h) c
  -- O of a global or weak, whatever the thread
  of_shared : (t h c : ℕ) → 2 ≤ kind h → States (states (O t h c)) (shared h) c
  -- function 31's result is a class, and needs no O
  of_result : (t d h p : ℕ) → h ≢ 0 → States (R t GetObjectClass (pos h) p) (local t d h) class

-- no line of `newer`, which came after `older`, states a class of it or makes it again
pub data Unsaid (x : Alive) (older : History) : History → Type 0 where
  so_far : Unsaid x older []
  by_line : (e : Line) (newer : History) → ((c : ℕ) → ¬ States e x c) → ((y : Alive) → Makes (newer ++ older) e y → same_handle x y ≡ false)
      → Unsaid x older newer → Unsaid x older (e ∷ newer)

-- an earlier line stated it, and the last one counts; what was stated before the handle was made again has ended with it
pub record Stated (x : Alive) (c : ℕ) (past : History) : Type 0 where
  pub newer : History
  pub stater : Line
  pub older : History
  pub split : past ≡ newer ++ (stater ∷ older)
  pub said : States stater x c
  pub last : Unsaid x (stater ∷ older) newer
