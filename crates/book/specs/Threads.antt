-- What the book stands for: each thread and its open items, and the trace's own numbers. Assumes nothing.
use Rattle.std.specs.Prelude.{ℕ, zero, suc, ◌%◌, min, Bool, true, false, not, ◌&&◌, ◌||◌, eqb, List, [], ◌∷◌, ◌==◌, Option, None, Some}
use Rattle.words.specs.Choice.{if_true◌then◌else◌}
use Rattle.words.specs.Lists.{any, count, sum}
use Rattle.history.specs.Items.{Item, in_native, in_call, attached, native_or_attached}
use Rattle.history.specs.Frames.{Frame, entered, pushed}
use Rattle.history.specs.Acceptance.{deepest}
use Rattle.history.specs.Replies.{most_lines}
use Rattle.history.specs.Thread.{all_threads}
use Rattle.rows.specs.Marks.{bit}
use Rattle.book.specs.Layout.{lines_at, closed_at, env_at, pending_at, monitors_at, frames_at, capacity_at, pushed_at, items_at, natives_at, function_at, asked_at, cell}
use Rattle.book.specs.declared.Item.{Item as Open}

-- the numbers of a row by their columns
abbrev pub Row : Type 0
Row = ℕ → ℕ

-- n things, the last on top
abbrev pub stack {ℓ} : {A : Type ℓ} → (ℕ → A) → ℕ → List A
stack f zero = []
stack f (suc n) = f n ∷ stack f n

-- ---- a thread, but for its open items

pub record Thread : Type 0 where
  -- top first
  pub frames : List Frame
  pub capacities : List ℕ
  pub pending : ℕ
  pub monitors : ℕ
  pub env : ℕ

-- at most 64, whatever stands there
unfoldable pub depth : Row → ℕ
depth c = min (c frames_at) deepest

abbrev pub frame_is : Bool → Frame
frame_is true = pushed
frame_is false = entered

-- any mark but 0 says that frame i was pushed
unfoldable pub is_pushed : Row → ℕ → Bool
is_pushed c i = not (c (pushed_at i) == 0)

unfoldable pub thread_of : Row → Thread
thread_of c =
    record {
      frames = stack (λ i. frame_is (is_pushed c i)) (depth c);
      capacities = stack (λ i. c (capacity_at i)) (depth c);
      pending = c pending_at;
      monitors = c monitors_at;
      env = c env_at;
    }

unfoldable pub thread_in : List ℕ → ℕ → Thread
thread_in b t = thread_of (cell b t)

-- the top frame's capacity, 0 where there is none
abbrev pub top_capacity : List ℕ → ℕ
top_capacity [] = 0
top_capacity (k ∷ ks) = k

-- ---- its open items

-- at most 64, whatever stands there
unfoldable pub opened : Row → ℕ
opened c = min (c items_at) deepest

-- the function of a native, and of an attached item, to push one: no JNI function has these numbers
abbrev pub no_function : ℕ
no_function = 0

abbrev pub attached_function : ℕ
attached_function = 1

-- an item of such a function is marked
abbrev pub marked_function : ℕ → Bool
marked_function f = f == no_function || f == attached_function

-- a call's two numbers are read as unsigned 32-bit ones
abbrev pub item_bound : ℕ
item_bound = 4294967296

-- of the items that are marked that of function 1 is attached, any other a native
unfoldable pub item_is : Bool → ℕ → ℕ → Item
item_is marked f n =
    if_true marked then (if_true eqb f attached_function then attached else in_native)
    else in_call (f % item_bound) (n % item_bound)

unfoldable pub items_of : Row → List Item
items_of c = stack (λ i. item_is (bit (c natives_at) i) (c (function_at i)) (c (asked_at i))) (opened c)

-- top first
unfoldable pub items_in : List ℕ → ℕ → List Item
items_in b t = items_of (cell b t)

-- how many of them are natives, attached items counted as such
abbrev pub natives : List Item → ℕ
natives is = count (λ (i : Item). native_or_attached (Some i)) is

-- the top item as the code has it
unfoldable pub top_is : Option Open → Option Item
top_is None = None
top_is (Some Open.Native) = Some in_native
top_is (Some Open.Attached) = Some attached
top_is (Some (Open.Call f n)) = Some (in_call f n)

-- ---- the trace

-- accepted lines
unfoldable pub lines_in : List ℕ → ℕ
lines_in b = cell b 0 lines_at

-- Z was one of them
unfoldable pub closed_in : List ℕ → Bool
closed_in b = not (cell b 0 closed_at == 0)

-- ---- all threads

-- another thread than t has this env
unfoldable pub env_elsewhere : List ℕ → ℕ → ℕ → Bool
env_elsewhere b t e = any (λ (s : ℕ). not (s == t) && (thread_in b s).env == e) all_threads

-- monitors of all threads, of each at most 1,000,000: a fit book has no more
unfoldable pub all_monitors : List ℕ → ℕ
all_monitors b = sum (λ (t : ℕ). min (thread_in b t).monitors most_lines) all_threads
