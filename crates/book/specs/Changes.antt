-- What a move does to the threads, in the words of the history: one of them changes, and nothing else does. Assumes nothing.
use Rattle.std.specs.Prelude.{◌≡◌, ℕ, ◌-◌, ◌≤◌, Bool, false, List, [], ◌∷◌, length, drop, ◌≢◌}
use Rattle.history.specs.Items.{Item}
use Rattle.history.specs.Frames.{Frame}
use Rattle.history.specs.Capacities.{raised}
use Rattle.history.specs.Acceptance.{deepest}
use Rattle.book.specs.Layout.{frames_at, items_at, cell}
use Rattle.book.specs.Threads.{Row, Thread, thread_in, marked_function, item_is, items_in, lines_in, closed_in}
use Rattle.book.specs.Unfit.{overdone_in}

-- ---- a thread after each move

unfoldable pub blank : Thread
blank = record { frames = []; capacities = []; pending = 0; monitors = 0; env = 0 }

-- a frame more, of capacity n
unfoldable pub with_frame : ℕ → Frame → Thread → Thread
with_frame n f x =
    record { frames = f ∷ x.frames; capacities = n ∷ x.capacities; pending = x.pending; monitors = x.monitors; env = x.env }

-- these frames, the lowest of those that it has; the others take their capacities with them
unfoldable pub cut_to : List Frame → Thread → Thread
cut_to fs x =
    record {
      frames = fs;
      capacities = drop (length x.frames - length fs) x.capacities;
      pending = x.pending;
      monitors = x.monitors;
      env = x.env;
    }

unfoldable pub with_raised : ℕ → Thread → Thread
with_raised k x =
    record { frames = x.frames; capacities = raised k x.capacities; pending = x.pending; monitors = x.monitors; env = x.env }

unfoldable pub with_pending : ℕ → Thread → Thread
with_pending v x =
    record { frames = x.frames; capacities = x.capacities; pending = v; monitors = x.monitors; env = x.env }

unfoldable pub with_monitors : ℕ → Thread → Thread
with_monitors v x =
    record { frames = x.frames; capacities = x.capacities; pending = x.pending; monitors = v; env = x.env }

unfoldable pub with_env : ℕ → Thread → Thread
with_env v x =
    record { frames = x.frames; capacities = x.capacities; pending = x.pending; monitors = x.monitors; env = v }

-- an item more, by its function
unfoldable pub pushed_item : ℕ → ℕ → Item
pushed_item f n = item_is (marked_function f) f n

-- nothing changes here
abbrev pub stay {ℓ} : {A : Type ℓ} → A → A
stay x = x

-- ---- the whole book after each move

-- the counts that stand in a row are those of its lists
pub record Kept (c : Row) : Type 0 where
  pub items_fit : c items_at ≤ deepest
  pub frames_fit : c frames_at ≤ deepest

-- from b to e thread t changes so, its open items so, and nothing else does; counts that were kept are kept
pub record Changes (b e : List ℕ) (t : ℕ) (to : Thread → Thread) (turn : List Item → List Item) : Type 0 where
  pub here : thread_in e t ≡ to (thread_in b t)
  pub items : items_in e t ≡ turn (items_in b t)
  pub others : (s : ℕ) → (s ≢ t) → thread_in e s ≡ thread_in b s
  pub other_items : (s : ℕ) → (s ≢ t) → items_in e s ≡ items_in b s
  pub lines : lines_in e ≡ lines_in b
  pub end_mark : closed_in e ≡ closed_in b
  pub as_long : length e ≡ length b
  pub kept : (s : ℕ) → Kept (cell b s) → Kept (cell e s)
  pub as_fit : (s : ℕ) → (s ≢ t) → overdone_in e s ≡ overdone_in b s

-- from b to e the trace comes to n lines, and is closed or not, and no thread changes
pub record Traced (b e : List ℕ) (n : ℕ) (over : Bool) : Type 0 where
  pub threads : (s : ℕ) → thread_in e s ≡ thread_in b s
  pub items : (s : ℕ) → items_in e s ≡ items_in b s
  pub lines : lines_in e ≡ n
  pub end_mark : closed_in e ≡ over
  pub as_long : length e ≡ length b
  pub kept : (s : ℕ) → Kept (cell b s) → Kept (cell e s)
  pub as_fit : (s : ℕ) → overdone_in e s ≡ overdone_in b s

-- nothing has happened yet
pub record Blank (b : List ℕ) : Type 0 where
  pub threads : (t : ℕ) → thread_in b t ≡ blank
  pub items : (t : ℕ) → items_in b t ≡ []
  pub lines : lines_in b ≡ 0
  pub end_mark : closed_in b ≡ false
  pub kept : (t : ℕ) → Kept (cell b t)
