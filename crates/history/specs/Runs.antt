-- A run, line after line: each gets a reply, and the program stops at the first that is refused. Assumes nothing.
use Rattle.std.specs.Prelude.{ℕ, ◌≤◌, ◌≡◌, List, [], ◌∷◌, ◌++◌}
use Prim.Native.String.{String}
use Rattle.words.specs.Text.{bytes, with_tabs, line_feed}
use Rattle.history.specs.Acceptance.{Room}
use Rattle.history.specs.Replies.{Reply, accepted, not_accepted, reply, heard}
use Rattle.history.specs.Report.{Run, ended}
use Rattle.history.specs.declared.Finding.{Finding}

abbrev pub findings_in : Reply → List Finding
findings_in (accepted fs) = fs
findings_in (not_accepted k) = []

-- all that was replied to these calls; calls stand newest first
unfoldable pub told : Room → List (List ℕ) → List Finding
told room [] = []
told room (bs ∷ before) = told room before ++ findings_in (reply room (heard room before) bs)

-- after these calls, newest first, the run over these lines, in their order, ends so
pub data Runs (room : Room) : List (List ℕ) → List (List ℕ) → Run → Type 0 where
  no_more : (calls : List (List ℕ)) → Runs room calls [] (ended (heard room calls) 0)
  stops : (calls lines : List (List ℕ)) (bs : List ℕ) (k : ℕ) → reply room (heard room calls) bs ≡ not_accepted k
      → Runs room calls (bs ∷ lines) (ended (heard room calls) k)
  goes_on : (calls lines : List (List ℕ)) (bs : List ℕ) (fs : List Finding) (r : Run) → reply room (heard room calls) bs ≡ accepted fs
      → Runs room (bs ∷ calls) lines r → Runs room calls (bs ∷ lines) r

-- the second has at least the room of the first
pub record Roomier (a b : Room) : Type 0 where
  pub references : a.references ≤ b.references
  pub pins : a.pins ≤ b.pins
  pub identities : a.identities ≤ b.identities

-- the program lends 1,024 reference and 256 pin rows, and room for 1,024 identities
abbrev pub program_room : Room
program_room = record { references = 1024; pins = 256; identities = 1024 }

-- a line as document 01 prints it, a space for a tab
abbrev pub line : String → List ℕ
line s = with_tabs (bytes s) ++ (line_feed ∷ [])
