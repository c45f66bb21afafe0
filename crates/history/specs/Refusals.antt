-- The numbers 4 to 7, 9 and 10 given instead of an event, in the words of documents 01 and 02. Assumes nothing.
use Rattle.std.specs.Prelude.{ℕ, ◌<◌, ◌≡◌, ◌≢◌, ℤ, length}
use mathlib.Core.List.{List, [], ◌∷◌, Memᴰ}
use Rattle.lines.specs.Line.{Line, Statement, N, X, C, R, A, D, Z, states, K, O, M}
use Rattle.history.specs.Past.{History}
use Rattle.history.specs.Items.{Item, in_native, in_call, attached, items}
use Rattle.history.specs.Frames.{depth}
use Rattle.history.specs.Handles.{Alive, local, shared, living}
use Rattle.history.specs.Buffers.{outstanding}
use Rattle.history.specs.Thread.{all_threads, env_of}
use Rattle.history.specs.Acceptance.{Room}
use Rattle.history.specs.Identities.{identities}
use Rattle.history.specs.Lives.{Makes, Lives, LocalLives, Means}
use Rattle.history.specs.Below.{Known}

-- ---- step order

-- by the thread's stack of open items, top first
pub data InTurn (past : History) : Line → Type 0 where
  -- N is allowed when it is empty or its top is an open call
  first_native : (t env : ℕ) (hs : List ℕ) → items t past ≡ [] → InTurn past (N t env hs)
  inner_native : (t env f n : ℕ) (hs : List ℕ) (below : List Item) → items t past ≡ in_call f n ∷ below → InTurn past (N t env hs)
  -- C and X when the top is a native
  native_leaves : (t r : ℕ) (below : List Item) → items t past ≡ in_native ∷ below → InTurn past (X t r)
  native_calls : (t env f a b c : ℕ) (n : ℤ) (below : List Item) → items t past ≡ in_native ∷ below → InTurn past (C t env f a b c n)
  -- R when the top is an open call of the same function
  call_returns : (t f n p : ℕ) (r : ℤ) (below : List Item) → items t past ≡ in_call f n ∷ below → InTurn past (R t f r p)
  -- A when it is empty, D when the attached item is on top
  thread_attaches : (t env : ℕ) → items t past ≡ [] → InTurn past (A t env)
  thread_detaches : (t : ℕ) (below : List Item) → items t past ≡ attached ∷ below → InTurn past (D t)
  -- C is allowed over an attached item as over a native
  attached_calls : (t env f a b c : ℕ) (n : ℤ) (below : List Item) → items t past ≡ attached ∷ below → InTurn past (C t env f a b c n)
  -- Z may come with items open
  run_ends : InTurn past Z
  -- K, O and M are in step anywhere before Z
  anywhere : (s : Statement) → InTurn past (states s)

pub record InStep (past : History) (e : Line) : Type 0 where
  -- nothing is allowed after Z
  pub before_Z : ¬ Memᴰ Z past
  pub turn : InTurn past e

-- ---- the env of N or A breaks the env rule

-- the line brings the thread an env
pub data Brings (t env : ℕ) : Line → Type 0 where
  by_N : (hs : List ℕ) → Brings t env (N t env hs)
  by_A : Brings t env (A t env)

pub data WrongEnv (past : History) : Line → Type 0 where
  -- a thread's env is that of its first N or A
  another_env : (e : Line) (t env : ℕ) → Brings t env e → env_of t past ≢ 0 → env_of t past ≢ env → WrongEnv past e
  -- no two threads share one
  shared_env : (e : Line) (t env s : ℕ) → Brings t env e → Memᴰ s all_threads → s ≢ t → env_of s past ≡ env → WrongEnv past e

-- ---- it makes a handle already alive, or N names one twice

pub data Twice : List ℕ → Type 0 where
  here : (h : ℕ) (hs : List ℕ) → Memᴰ h hs → Twice (h ∷ hs)
  further : (h : ℕ) (hs : List ℕ) → Twice hs → Twice (h ∷ hs)

pub data MadeAgain (past : History) : Line → Type 0 where
  -- a local: in that thread
  local_again : (e : Line) (t d h : ℕ) → Makes past e (local t d h) → LocalLives t h past → MadeAgain past e
  shared_again : (e : Line) (h : ℕ) → Makes past e (shared h) → Lives (shared h) past → MadeAgain past e
  named_twice : (t env : ℕ) (hs : List ℕ) → Twice hs → MadeAgain past (N t env hs)

-- ---- K of a class declared or reserved; a super, a stated class or an identity's that is neither

pub data WrongClass (past : History) : Line → Type 0 where
  known_already : (c s : ℕ) → Known past c → WrongClass past (states (K c s))
  super_unknown : (c s : ℕ) → ¬ Known past s → WrongClass past (states (K c s))
  class_unknown : (t h c : ℕ) → ¬ Known past c → WrongClass past (states (O t h c))
  identity_of_unknown : (x sort c static final : ℕ) → ¬ Known past c → WrongClass past (states (M x sort c static final))

-- ---- O on a handle not alive: a local in this thread, a global or weak for any

pub data NamesDead (past : History) : Line → Type 0 where
  not_alive : (t h c : ℕ) → ((x : Alive) → Means t h x → ¬ Lives x past) → NamesDead past (states (O t h c))

-- ---- the alive handles, the outstanding buffers, the identities stated, or a thread's items or frames exceed room

pub data Exceeds (room : Room) (past : History) : Type 0 where
  handles : room.references < length (living past) → Exceeds room past
  buffers : room.pins < length (outstanding past) → Exceeds room past
  stated : room.identities < length (identities past) → Exceeds room past
  -- each thread has at most 64 open items and 64 frames
  open_items : (t : ℕ) → 64 < length (items t past) → Exceeds room past
  frames : (t : ℕ) → 64 < depth t past → Exceeds room past

-- ---- tested in this order; 0 where the line is accepted

pub data Given (room : Room) (past : History) (e : Line) : ℕ → Type 0 where
  -- out of step
  four : ¬ InStep past e → Given room past e 4
  -- the env of N or A breaks the env rule
  five : InStep past e → WrongEnv past e → Given room past e 5
  -- it makes a handle already alive (a local: in that thread), or N names one twice
  six : InStep past e → ¬ WrongEnv past e → MadeAgain past e → Given room past e 6
  -- K of a class declared or reserved, a super, a stated class or an identity's that is neither
  nine : InStep past e → ¬ WrongEnv past e → ¬ MadeAgain past e → WrongClass past e → Given room past e 9
  -- O on a handle not alive
  ten : InStep past e → ¬ WrongEnv past e → ¬ MadeAgain past e → ¬ WrongClass past e → NamesDead past e → Given room past e 10
  -- after it the alive handles, the outstanding buffers, the identities stated, or a thread's items or frames would exceed room
  seven : InStep past e → ¬ WrongEnv past e → ¬ MadeAgain past e → ¬ WrongClass past e → ¬ NamesDead past e → Exceeds room (e ∷ past)
      → Given room past e 7
  none : InStep past e → ¬ WrongEnv past e → ¬ MadeAgain past e → ¬ WrongClass past e → ¬ NamesDead past e → ¬ Exceeds room (e ∷ past)
      → Given room past e 0
