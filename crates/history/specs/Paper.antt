-- The breaches in the words of documents 01 and 02, a constructor for each of their sentences. Assumes nothing.
use Rattle.std.specs.Prelude.{ℕ, ◌≤◌, ◌<◌, ◌≡◌, ◌⊎◌, ◌≢◌, false, ℤ, pos, length}
use mathlib.Core.List.{List, ◌∷◌, Memᴰ}
use Rattle.words.specs.Lists.{count, sum}
use Rattle.facts.specs.Table.{fact_of, is_allowed_pending}
use Rattle.facts.specs.Named.{PopLocalFrame, MonitorExit}
use Rattle.facts.specs.Classes.{no_class, class_a, class_b}
use Rattle.facts.specs.declared.Place.{Place}
use Rattle.facts.specs.declared.Result.TheVariants as Result
use Rattle.lines.specs.Line.{Line, X, C, R, D, Z, kind}
use Rattle.history.specs.Past.{History}
use Rattle.history.specs.Frames.{frames, depth, top_pushed}
use Rattle.history.specs.Handles.{Alive, living, alive_in, global_or_weak, shared}
use Rattle.history.specs.Capacities.{capacities}
use Rattle.history.specs.Buffers.{Pin, pin, critical, outstanding}
use Rattle.history.specs.Thread.{all_threads, pending, monitors, env_of}
use Rattle.history.specs.Lives.{Lives, LocalLives, Means}
use Rattle.history.specs.Below.{AtOrBelow}
use Rattle.history.specs.Stated.{Stated}
use Rattle.history.specs.Identified.{Identified, Suits, Writes}

-- ---- what is outstanding

abbrev pub Outstanding : Pin → History → Type 0
Outstanding x past = Memᴰ x (outstanding past)

-- the thread has a critical buffer outstanding
pub record InCritical (t : ℕ) (past : History) : Type 0 where
  pub family : ℕ
  pub buffer : ℕ
  pub out : Outstanding (critical t family buffer) past

-- ---- the places a b c

-- r o l g w are handle places
pub data HandlePlace : Place → Type 0 where
  at_r : HandlePlace Place.Handle
  at_o : HandlePlace Place.HandleOrNull
  at_l : HandlePlace Place.LocalOrNull
  at_g : HandlePlace Place.GlobalOrNull
  at_w : HandlePlace Place.WeakOrNull

-- l g w want a handle of that kind: 1 local, 2 global, 3 weak
pub data Wants : Place → ℕ → Type 0 where
  a_local : Wants Place.LocalOrNull 1
  a_global : Wants Place.GlobalOrNull 2
  a_weak : Wants Place.WeakOrNull 3

-- wrong kind
pub data WrongKind : Place → ℕ → Type 0 where
  -- an identity in a handle place
  identity_there : (p : Place) (v : ℕ) → HandlePlace p → kind v ≡ 0 → WrongKind p v
  -- a handle in an identity place
  handle_there : (v : ℕ) → kind v ≢ 0 → WrongKind Place.Identity v
  -- another kind under l g w
  other_kind : (p : Place) (k v : ℕ) → Wants p k → kind v ≢ k → WrongKind p v

-- thread t names a live handle by v, and its stated class is not the fixed class or below it
pub record OfOtherClass (past : History) (t v fixed : ℕ) : Type 0 where
  pub handle : Alive
  pub named : Means t v handle
  pub lives : Lives handle past
  pub class : ℕ
  pub stated : Stated handle class past
  pub some_fixed : fixed ≢ no_class
  pub not_below : ¬ AtOrBelow past class fixed

-- the value v at a place of which class `fixed` is fixed, or none, of function f called by thread t, breaks the rule: the first that fits
pub data Wrong (past : History) (t f fixed : ℕ) : Place → ℕ → ℕ → Type 0 where
  -- null where r, i or b stands: rule 7
  null_handle : Wrong past t f fixed Place.Handle 0 7
  null_identity : Wrong past t f fixed Place.Identity 0 7
  null_buffer : Wrong past t f fixed Place.Buffer 0 7
  -- wrong kind: rule 4
  wrong_kind : (p : Place) (v : ℕ) → v ≢ 0 → WrongKind p v → Wrong past t f fixed p v 4
  -- local not alive in this thread: 11
  dead_local : (p : Place) (v : ℕ) → HandlePlace p → ¬ WrongKind p v → kind v ≡ 1 → ¬ LocalLives t v past → Wrong past t f fixed p v 11
  -- global or weak not alive: 10
  dead_shared : (p : Place) (v : ℕ) → HandlePlace p → ¬ WrongKind p v → 2 ≤ kind v → ¬ Lives (shared v) past → Wrong past t f fixed p v 10
  -- a live handle whose stated class is not the fixed class or below it: 4
  other_class : (p : Place) (v : ℕ) → HandlePlace p → ¬ WrongKind p v → OfOtherClass past t v fixed → Wrong past t f fixed p v 4
  -- an identity used must have been stated, else rule 5
  not_stated : (v : ℕ) → v ≢ 0 → kind v ≡ 0 → ((sort static final : ℕ) → ¬ Identified v sort static final past) → Wrong past t f fixed Place.Identity v 5
  -- another sort or flag than the function wants is rule 5 too
  not_wanted : (v sort static final : ℕ) → v ≢ 0 → kind v ≡ 0 → Identified v sort static final past → ¬ Suits f sort static → Wrong past t f fixed Place.Identity v 5
  -- a function that writes, on a final field: 6
  final_written : (v sort static : ℕ) → v ≢ 0 → kind v ≡ 0 → Identified v sort static 1 past → Suits f sort static → Writes f → Wrong past t f fixed Place.Identity v 6
  -- buffer not outstanding in its family (and thread, if critical): 8
  not_outstanding : (v : ℕ) → v ≢ 0 → ¬ Outstanding (pin t f v) past → Wrong past t f fixed Place.Buffer v 8

-- ---- a line that comes after `past`: the rule that it breaks, the place, the thing

pub data Broken (past : History) : Line → ℕ → ℕ → ℕ → Type 0 where
  -- 1 to 3 are the places a b c, and thing is its value
  at_a : (t env f a b c rule : ℕ) (n : ℤ) → Wrong past t f (class_a f) (fact_of f).a a rule → Broken past (C t env f a b c n) rule 1 a
  at_b : (t env f a b c rule : ℕ) (n : ℤ) → Wrong past t f (class_b f) (fact_of f).b b rule → Broken past (C t env f a b c n) rule 2 b
  at_c : (t env f a b c rule : ℕ) (n : ℤ) → Wrong past t f no_class (fact_of f).c c rule → Broken past (C t env f a b c n) rule 3 c
  -- X's result is place 1 of kind `o`
  at_result : (t v rule : ℕ) → Wrong past t 0 no_class Place.HandleOrNull v rule → Broken past (X t v) rule 1 v
  -- on C: rule 1 when env is not the thread's (thing is the env)
  other_env : (t env f a b c : ℕ) (n : ℤ) → env ≢ env_of t past → Broken past (C t env f a b c n) 1 0 env
  -- 2 when pending and not allowed
  not_allowed : (t env f a b c : ℕ) (n : ℤ) → pending t past ≡ 1 → is_allowed_pending f ≡ false → Broken past (C t env f a b c n) 2 0 0
  -- 3 when the thread has a critical buffer outstanding and the function is not 222-225
  called_in_critical : (t env f a b c : ℕ) (n : ℤ) → InCritical t past → (f < 222) ⊎ (225 < f) → Broken past (C t env f a b c n) 3 0 0
  -- 9 for 218 with no monitors
  no_monitor : (t env a b c : ℕ) (n : ℤ) → monitors t past ≡ 0 → Broken past (C t env MonitorExit a b c n) 9 0 0
  -- 11 for 20 when the top frame was not pushed
  not_pushed : (t env a b c : ℕ) (n : ℤ) → top_pushed (frames t past) ≡ false → Broken past (C t env PopLocalFrame a b c n) 11 0 0
  -- on X: 3 with a critical buffer of that thread outstanding
  left_in_critical : (t v : ℕ) → InCritical t past → Broken past (X t v) 3 0 0
  -- on D: 3 as on X
  detached_in_critical : (t : ℕ) → InCritical t past → Broken past (D t) 3 0 0
  -- and 9, thing the count, if the thread has monitors
  detached_with_monitors : (t k : ℕ) → k ≡ monitors t past → 0 < k → Broken past (D t) 9 0 k
  -- on R: 11 when the local made leaves more alive in its frame than the capacity; thing is the handle. Judged after the line
  overflow : (t f h p capacity : ℕ) (lower : List ℕ) → (fact_of f).result ≡ Result.Local → h ≢ 0
      → capacities t (R t f (pos h) p ∷ past) ≡ capacity ∷ lower
      → capacity < alive_in t (depth t (R t f (pos h) p ∷ past)) (R t f (pos h) p ∷ past)
      → Broken past (R t f (pos h) p) 11 0 h
  -- on Z, thing being a count, each only if above zero, and judged after the line: 8 buffers outstanding
  buffers_left : (k : ℕ) → k ≡ length (outstanding (Z ∷ past)) → 0 < k → Broken past Z 8 0 k
  -- 9 monitors of all threads
  monitors_left : (k : ℕ) → k ≡ sum (λ t. monitors t (Z ∷ past)) all_threads → 0 < k → Broken past Z 9 0 k
  -- 10 globals and weaks alive
  handles_left : (k : ℕ) → k ≡ count global_or_weak (living (Z ∷ past)) → 0 < k → Broken past Z 10 0 k
