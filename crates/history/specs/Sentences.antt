-- What is proved of the definitions, subject by subject: each field is a theorem. Assumes nothing.
use Rattle.std.specs.Prelude.{ℕ, suc, pred, ◌+◌, ◌≤◌, ◌<◌, max, ◌≡◌, ◌⊎◌, ◌≢◌, ◌↔◌, true, false, ◌&&◌, eqb, ℤ, pos, length, Some}
use mathlib.Core.List.{List, [], ◌∷◌, ◌++◌, map, tail, Memᴰ}
use Rattle.words.specs.Lists.{any, keep, count, joined}
use Rattle.words.specs.Text.{bytes, line_feed}
use Rattle.facts.specs.Table.{◌released_by◌, fact_of, is_function, families, family, is_critical}
use Rattle.facts.specs.Classes.{object, class, string, throwable, no_class}
use Rattle.facts.specs.Identities.{method, field, wanted_of, suits, writes_field}
use Rattle.facts.specs.Named.{PushLocalFrame, PopLocalFrame, DeleteGlobalRef, DeleteLocalRef, EnsureLocalCapacity, GetObjectClass, MonitorEnter, MonitorExit, DeleteWeakGlobalRef}
use Rattle.facts.specs.Results.{is_buffer_result, is_buffer_place}
use Rattle.lines.specs.Line.{Line, Statement, N, X, C, R, A, D, Z, states, K, O, M, kind, is_zero, above_zero}
use Rattle.lines.specs.Reading.{Read, says, refused, read}
use Rattle.history.specs.Past.{History, is_of, closed}
use Rattle.history.specs.Items.{Item, in_native, in_call, attached, items}
use Rattle.history.specs.Frames.{Frame, entered, pushed, frames, depth}
use Rattle.history.specs.Handles.{Alive, local, shared, is_local, is_shared, same_handle, global_or_weak, living, alive_in}
use Rattle.history.specs.Capacities.{capacities}
use Rattle.history.specs.Buffers.{Pin, critical, pin, same_pin, gets, releases, outstanding}
use Rattle.history.specs.Thread.{pending, monitors, env_of}
use Rattle.history.specs.Seen.{Seen, seen, is_alive}
use Rattle.history.specs.Acceptance.{Room, refusal}
use Rattle.history.specs.Breaches.{breach}
use Rattle.history.specs.Findings.{of_line, findings}
use Rattle.history.specs.Replies.{verdict, accepted, not_accepted, reply, heard}
use Rattle.history.specs.Report.{Run, last_field, end_word, run, lines_of, shown}
use Rattle.history.specs.declared.Finding.{Finding}
use Rattle.history.specs.Lives.{Makes, Lives, LocalLives, Means}
use Rattle.history.specs.Classes.{super_of, is_known, leads, most_looks}
use Rattle.history.specs.Below.{Known, Super, Below, AtOrBelow}
use Rattle.history.specs.Statements.{class_by, class_stated}
use Rattle.history.specs.Stated.{States, Stated}
use Rattle.history.specs.Identities.{identity, identity_of, identities}
use Rattle.history.specs.Identified.{Identified, Suits, Writes}
use Rattle.history.specs.declared.Identity.{Identity}
use Rattle.history.specs.Kinds.{of_kind}
use Rattle.history.specs.Paper.{Broken}
use Rattle.history.specs.Order.{Breached, Ordered, most_findings}
use Rattle.history.specs.Accepted.{Accepted}
use Rattle.history.specs.Whole.{Whole}
use Rattle.history.specs.Changes.{ChangesItems, ChangesFrames, ChangesCapacities, ChangesPending, ChangesMonitors}
use Rattle.history.specs.Refusals.{Brings, Exceeds, Given}
use Rattle.history.specs.Times.{Gets, Releases, got, released}
use Rattle.history.specs.Same.{SameFor}
use Rattle.history.specs.Verdicts.{Weighs}
use Rattle.history.specs.Runs.{told, Runs, Roomier, program_room, line}
use Rattle.history.specs.Leaks.{Made, buffer_leak, handle_leak, leaks_of}
use Rattle.history.specs.LeakOrder.{made_in_line, of_making_line, InOrder}
use Rattle.history.specs.Cut.{Cut}
use Rattle.history.specs.Families.{is_get, is_release}
use Rattle.history.specs.Bounds.{Bounded}

pub record OnBreaches : Type 0 where
  -- what is computed of a line is what documents 01 and 02 say of it, and nothing besides, after accepted lines
  pub breaches_are : (room : Room) (past : History) → Accepted room past → (e : Line) (rule place thing : ℕ)
      → (breach e (seen past) rule place ≡ Some thing) ↔ Broken past e rule place thing
  -- the findings are all the breaches of the accepted lines, and nothing besides
  pub findings_are : (room : Room) (past : History) → Accepted room past → (f : Finding) → Memᴰ f (findings past) ↔ Breached f past
  -- in order of line, rule and place
  pub findings_ordered : (past : History) → Ordered (findings past)
  -- each once
  pub found_once : (past : History) (before : List Finding) (f : Finding) (after : List Finding) → findings past ≡ before ++ (f ∷ after) → ¬ Memᴰ f after
  -- a used place gives at most one finding
  pub one_a_place : (past : History) (e : Line) (place r s v w : ℕ) → 1 ≤ place → Broken past e r place v → Broken past e s place w → (r ≡ s) × (v ≡ w)
  -- and a line at most six
  pub at_most : (line : ℕ) (e : Line) (v : Seen) → length (of_line line e v) ≤ most_findings e
  -- on Z, 10 globals and weaks alive: as many as are of kind 2, and as many as are of kind 3
  pub leaks_by_kind : (room : Room) (past : History) → Accepted room past → (k : ℕ)
      → Broken past Z 10 0 k ↔ ((k ≡ count (of_kind 2) (living (Z ∷ past)) + count (of_kind 3) (living (Z ∷ past))) × (0 < k))

pub record OnHandles : Type 0 where
  -- alive: an earlier line made it and no line since has ended it
  pub living_are : (past : History) (x : Alive) → Memᴰ x (living past) ↔ Lives x past
  -- a local, by its thread
  pub local_alive : (past : History) (t h : ℕ) → (is_alive (is_local t h) (seen past) ≡ true) ↔ LocalLives t h past
  -- a global, a weak
  pub shared_alive : (past : History) (h : ℕ) → (is_alive (is_shared h) (seen past) ≡ true) ↔ Lives (shared h) past
  -- a handle is alive once at most
  pub alive_once : (room : Room) (past : History) → Accepted room past → (x : Alive) → count (same_handle x) (living past) ≤ 1
  -- every local alive is of local kind and stands in a frame that is there
  pub local_placed : (room : Room) (past : History) → Accepted room past → (t d h : ℕ) → Lives (local t d h) past → (1 ≤ d) × (d ≤ depth t past) × (kind h ≡ 1)
  -- every other handle alive is global or weak by its kind
  pub shared_kind : (room : Room) (past : History) → Accepted room past → (h : ℕ) → Lives (shared h) past → (kind h ≡ 2) ⊎ (kind h ≡ 3)

pub record OnBuffers : Type 0 where
  -- R makes its result, if that is nonzero: B an outstanding buffer
  pub gets_are : (e : Line) (x : Pin) → Memᴰ x (gets e) ↔ Gets e x
  -- a release ends, at its C, one outstanding buffer of its family equal to b (for critical ones, of this thread)
  pub releases_are : (e : Line) (x : Pin) → (releases e x ≡ true) ↔ Releases e x
  -- got so many times, released so many: the rest is outstanding
  pub got_and_released : (x : Pin) (past : History) → count (same_pin x) (outstanding past) + released x past ≡ got x past
  -- a buffer is a result of the gets and a place of the releases, and of no other function
  pub families_agree : (f : ℕ) → is_function f ≡ true
      → (is_buffer_result (fact_of f).result ≡ any (is_get f) families) × (is_buffer_place (fact_of f).b ≡ any (is_release f) families)
  pub paired : (get release : ℕ) → Memᴰ (get released_by release) families → family get ≡ family release
  -- the last two are critical and belong to the getting thread; the others belong to no thread
  pub of_its_thread : (t f b : ℕ) → is_critical (family f) ≡ true → pin t f b ≡ critical t (family f) b
  pub of_no_thread : (t s f b : ℕ) → is_critical (family f) ≡ false → pin t f b ≡ pin s f b

-- what lines do
pub record OnLines : Type 0 where
  -- the functions that do more than take places and give a result, by their numbers
  pub named : (PushLocalFrame ≡ 19) × (PopLocalFrame ≡ 20) × (DeleteGlobalRef ≡ 22) × (DeleteLocalRef ≡ 23) × (EnsureLocalCapacity ≡ 26)
      × (MonitorEnter ≡ 217) × (MonitorExit ≡ 218) × (DeleteWeakGlobalRef ≡ 227)
  -- at a start a thread has nothing
  pub nothing_at_start : (t : ℕ) → (items t [] ≡ []) × (frames t [] ≡ []) × (capacities t [] ≡ []) × (pending t [] ≡ 0) × (monitors t [] ≡ 0)
  -- N opens a native, C a call; X and R close the top
  pub enter_items : (t env : ℕ) (hs : List ℕ) (past : History) → items t (N t env hs ∷ past) ≡ in_native ∷ items t past
  pub call_items : (t env f a b c : ℕ) (n : ℤ) (past : History) → items t (C t env f a b c n ∷ past) ≡ in_call f (above_zero n) ∷ items t past
  pub leave_items : (t r : ℕ) (past : History) → items t (X t r ∷ past) ≡ tail (items t past)
  pub return_items : (t f p : ℕ) (r : ℤ) (past : History) → items t (R t f r p ∷ past) ≡ tail (items t past)
  -- N opens a frame of capacity 16 plus the number of its handles
  pub enter_frames : (t env : ℕ) (hs : List ℕ) (past : History) → frames t (N t env hs ∷ past) ≡ entered ∷ frames t past
  pub enter_capacities : (t env : ℕ) (hs : List ℕ) (past : History) → capacities t (N t env hs ∷ past) ≡ (16 + length hs) ∷ capacities t past
  -- its handles are counted like others: they are the locals alive in that frame
  pub enter_alive : (t env : ℕ) (hs : List ℕ) (past : History) → alive_in t (depth t (N t env hs ∷ past)) (N t env hs ∷ past) ≡ length hs
  -- pending becomes 0
  pub enter_pending : (t env : ℕ) (hs : List ℕ) (past : History) → pending t (N t env hs ∷ past) ≡ 0
  -- A opens an attached item with a frame of capacity 16, and pending becomes 0
  pub attach_items : (t env : ℕ) (past : History) → items t (A t env ∷ past) ≡ attached ∷ items t past
  pub attach_frames : (t env : ℕ) (past : History) → frames t (A t env ∷ past) ≡ entered ∷ frames t past
  pub attach_capacities : (t env : ℕ) (past : History) → capacities t (A t env ∷ past) ≡ 16 ∷ capacities t past
  pub attach_pending : (t env : ℕ) (past : History) → pending t (A t env ∷ past) ≡ 0
  -- D ends the thread's locals and frames and closes it; monitors then become 0
  pub detach_items : (t : ℕ) (past : History) → items t (D t ∷ past) ≡ tail (items t past)
  pub detach_frames : (t : ℕ) (past : History) → (frames t (D t ∷ past) ≡ []) × (capacities t (D t ∷ past) ≡ [])
  pub detach_locals : (room : Room) (past : History) → Accepted room past → (t d h : ℕ) → ¬ Lives (local t d h) (D t ∷ past)
  pub detach_monitors : (t : ℕ) (past : History) → monitors t (D t ∷ past) ≡ 0
  -- C of 20 ends the top frame, if that frame was pushed
  pub pop_frames : (t env a b c : ℕ) (n : ℤ) (past : History) (below : List Frame) → frames t past ≡ pushed ∷ below
      → frames t (C t env PopLocalFrame a b c n ∷ past) ≡ below
  pub pop_nothing : (t env a b c : ℕ) (n : ℤ) (past : History) (below : List Frame) → frames t past ≡ entered ∷ below
      → frames t (C t env PopLocalFrame a b c n ∷ past) ≡ entered ∷ below
  -- and its capacity with it
  pub pop_capacities : (t env a b c : ℕ) (n : ℤ) (past : History) (below : List Frame) → frames t past ≡ pushed ∷ below
      → capacities t (C t env PopLocalFrame a b c n ∷ past) ≡ tail (capacities t past)
  -- R sets pending, and no call clears it by itself
  pub return_pending : (t f p : ℕ) (r : ℤ) (past : History) → pending t (R t f r p ∷ past) ≡ p
  pub call_pending : (t env f a b c : ℕ) (n : ℤ) (past : History) → pending t (C t env f a b c n ∷ past) ≡ pending t past
  -- with status 0: 19 pushes a frame of capacity max(n,0), n being that of the matching C however much was nested between
  pub push_frames : (t p : ℕ) (past : History) → frames t (R t PushLocalFrame (pos 0) p ∷ past) ≡ pushed ∷ frames t past
  pub matching_push : (t env a b c p : ℕ) (n : ℤ) (inside past : History) → Whole t inside
      → capacities t (R t PushLocalFrame (pos 0) p ∷ (inside ++ (C t env PushLocalFrame a b c n ∷ past)))
      ≡ above_zero n ∷ capacities t (inside ++ (C t env PushLocalFrame a b c n ∷ past))
  -- 26 raises the top frame's capacity to max(old, locals alive in it + max(n,0)), n being likewise that of the matching C
  pub matching_ensure : (t env a b c p : ℕ) (n : ℤ) (inside past : History) → Whole t inside → (old : ℕ) (lower : List ℕ)
      → let before : History = inside ++ (C t env EnsureLocalCapacity a b c n ∷ past) in
      capacities t before ≡ old ∷ lower → capacities t (R t EnsureLocalCapacity (pos 0) p ∷ before) ≡ max old (alive_in t (depth t before) before + above_zero n) ∷ lower
  -- 217 adds one to the thread's monitors; 218 takes one if there is any
  pub enter_monitors : (t p : ℕ) (past : History) → monitors t (R t MonitorEnter (pos 0) p ∷ past) ≡ suc (monitors t past)
  pub exit_monitors : (t p : ℕ) (past : History) → monitors t (R t MonitorExit (pos 0) p ∷ past) ≡ pred (monitors t past)
  -- another status does nothing
  pub other_status_frames : (t f p : ℕ) (r : ℤ) (past : History) → is_zero r ≡ false → frames t (R t f r p ∷ past) ≡ frames t past
  pub other_status_capacities : (t f p : ℕ) (r : ℤ) (past : History) → is_zero r ≡ false → capacities t (R t f r p ∷ past) ≡ capacities t past
  pub other_status_monitors : (t f p : ℕ) (r : ℤ) (past : History) → is_zero r ≡ false → monitors t (R t f r p ∷ past) ≡ monitors t past
  -- no other line changes a thread's open items, its frames, their capacities, what is pending, its monitors
  pub items_kept : (t : ℕ) (e : Line) (past : History) → ¬ ChangesItems t e → items t (e ∷ past) ≡ items t past
  pub frames_kept : (t : ℕ) (e : Line) (past : History) → ¬ ChangesFrames t past e → frames t (e ∷ past) ≡ frames t past
  pub capacities_kept : (t : ℕ) (e : Line) (past : History) → ¬ ChangesCapacities t past e → capacities t (e ∷ past) ≡ capacities t past
  pub pending_kept : (t : ℕ) (e : Line) (past : History) → ¬ ChangesPending t e → pending t (e ∷ past) ≡ pending t past
  pub monitors_kept : (t : ℕ) (e : Line) (past : History) → ¬ ChangesMonitors t e → monitors t (e ∷ past) ≡ monitors t past
  -- there is a capacity for each frame
  pub capacities_fit : (past : History) (t : ℕ) → length (capacities t past) ≡ depth t past
  -- the open call at an R is its matching C
  pub matching_call : (t env f a b c : ℕ) (n : ℤ) (inside past : History) → Whole t inside
      → items t (inside ++ (C t env f a b c n ∷ past)) ≡ in_call f (above_zero n) ∷ items t past
  -- X ends all locals and frames of that native, pushed frames included, and closes it
  pub native_closes : (t r env : ℕ) (hs : List ℕ) (inside past : History) → Whole t inside
      → (frames t (X t r ∷ (inside ++ (N t env hs ∷ past))) ≡ frames t past) × (items t (X t r ∷ (inside ++ (N t env hs ∷ past))) ≡ items t past)
  pub capacities_close : (t r env : ℕ) (hs : List ℕ) (inside past : History) → Whole t inside
      → capacities t (X t r ∷ (inside ++ (N t env hs ∷ past))) ≡ capacities t past
  pub nothing_of_it_lives : (t r env d h : ℕ) (hs : List ℕ) (inside past : History) → Whole t inside → 1 ≤ d
      → Lives (local t d h) (X t r ∷ (inside ++ (N t env hs ∷ past))) → Lives (local t d h) past
  -- what A opens D closes, however much was between: the thread has what it had before, which is no open item and no frame
  pub attached_closes : (room : Room) (t env : ℕ) (inside past : History) → Whole t inside → Accepted room (A t env ∷ past)
      → let after : History = D t ∷ (inside ++ (A t env ∷ past)) in
      (items t after ≡ items t past) × (frames t after ≡ frames t past) × (capacities t after ≡ capacities t past) × (items t past ≡ []) × (frames t past ≡ [])
  -- an attached item has nothing below it
  pub attached_lowest : (room : Room) (past : History) → Accepted room past → (t : ℕ) (above below : List Item) → items t past ≡ above ++ (attached ∷ below)
      → below ≡ []
  -- the lines of other threads, and statements, change nothing of a thread
  pub other_threads : (t : ℕ) (e : Line) (past : History) → is_of t e ≡ false → SameFor t past (e ∷ past)
  -- a thread's env is that of its first N or A, for ever
  pub env_of_first : (t env : ℕ) (first : Line) (newer older : History) → env ≢ 0 → Brings t env first
      → ((v : ℕ) (e : Line) → Brings t v e → ¬ Memᴰ e older)
      → env_of t (newer ++ (first ∷ older)) ≡ env
  -- before it there is none
  pub no_env : (t : ℕ) (past : History) → ((env : ℕ) (e : Line) → Brings t env e → ¬ Memᴰ e past) → env_of t past ≡ 0
  -- no two threads share one
  pub envs_apart : (room : Room) (past : History) → Accepted room past → (s t : ℕ) → s ≢ t → env_of s past ≢ 0 → env_of s past ≢ env_of t past

-- classes, and what is stated of handles
pub record OnClasses : Type 0 where
  -- class numbers 1, 2, 3 and 4 are reserved for object, class, string and throwable; function 31 gives a class
  pub reserved_classes : (object ≡ 1) × (class ≡ 2) × (string ≡ 3) × (throwable ≡ 4) × (GetObjectClass ≡ 31)
  -- a class declared or reserved
  pub known_are : (room : Room) (past : History) → Accepted room past → (c : ℕ) → (is_known (super_of past) c ≡ true) ↔ Known past c
  -- a class is below another when a chain of supers leads there: the test, of at most 4,096 looks, finds every chain
  pub leads_are : (room : Room) (past : History) → Accepted room past → (c k : ℕ) → k ≢ no_class → (leads (super_of past) most_looks c k ≡ true) ↔ AtOrBelow past c k
  -- a class has one super
  pub one_super : (room : Room) (past : History) → Accepted room past → (c s u : ℕ) → Super past c s → Super past c u → s ≡ u
  -- declared classes never go round
  pub never_round : (room : Room) (past : History) → Accepted room past → (c : ℕ) → ¬ Below past c c
  -- the stated class of a handle: the last one counts
  pub class_is : (past : History) (x : Alive) (c : ℕ) → c ≢ no_class → (class_stated past x ≡ c) ↔ Stated x c past
  pub state_class : (t h c : ℕ) (x : Alive) (past : History) → Means t h x → class_stated (states (O t h c) ∷ past) x ≡ c
  -- a handle made, or made again, has none, but for function 31's result: copies inherit none
  pub made_class : (past : History) (e : Line) (x : Alive) → Makes past e x → class_stated (e ∷ past) x ≡ class_by e
  -- no other line changes it
  pub class_kept : (past : History) (e : Line) (x : Alive) → ((c : ℕ) → ¬ States e x c) → ((y : Alive) → Makes past e y → same_handle x y ≡ false)
      → class_stated (e ∷ past) x ≡ class_stated past x
  -- of what is not alive nothing is stated: the statement ends with the handle
  pub class_ended : (past : History) (t h : ℕ) → ((x : Alive) → Means t h x → ¬ Lives x past) → (seen past).class t h ≡ no_class
  -- it is what a judgement of the next line sees, of a handle alive
  pub class_named : (past : History) (t h : ℕ) (x : Alive) → Means t h x → Lives x past → (seen past).class t h ≡ class_stated past x
  -- K states nothing of a handle, and O declares nothing
  pub declares_alone : (c s : ℕ) (x : Alive) (past : History) → class_stated (states (K c s) ∷ past) x ≡ class_stated past x
  pub states_alone : (t h c d : ℕ) (past : History) → super_of (states (O t h c) ∷ past) d ≡ super_of past d
  -- and statements, M among them, change nothing else: no item, frame, capacity, pending, monitor, env, no handle alive and no buffer outstanding
  pub nothing_else : (s : Statement) (past : History) → ((t : ℕ) → SameFor t past (states s ∷ past)) × (living (states s ∷ past) ≡ living past)
      × (outstanding (states s ∷ past) ≡ outstanding past) × (closed (states s ∷ past) ≡ closed past)

-- identities, and what functions want of them
pub record OnIdentities : Type 0 where
  -- sort is 1 method or 2 field
  pub sorts : (method ≡ 1) × (field ≡ 2)
  -- 28-30 and 34-93 want a method that isn't static, and so on, as the paper prints them
  pub suits_are : (f sort static : ℕ) → (suits (wanted_of f) sort static ≡ true) ↔ Suits f sort static
  -- 104-112 and 154-162 write a field
  pub writes_are : (f : ℕ) → (writes_field f ≡ true) ↔ Writes f
  -- what is stated of an identity is what its last M says, whatever came between; sort 0 is no sort
  pub identity_is : (past : History) (x sort static final : ℕ) → sort ≢ 0 → (identity_of past x ≡ identity sort static final) ↔ Identified x sort static final past
  pub stated_last : (x sort c static final : ℕ) (newer older : History) → ((s d u v : ℕ) → ¬ Memᴰ (states (M x s d u v)) newer)
      → identity_of (newer ++ (states (M x sort c static final) ∷ older)) x ≡ identity sort static final
  -- no other line says what it is: a result does not
  pub identity_kept : (e : Line) (past : History) (x : ℕ) → ((s c u v : ℕ) → states (M x s c u v) ≢ e) → identity_of (e ∷ past) x ≡ identity_of past x
  -- an identity is never ended
  pub never_ended : (newer past : History) (x sort static final : ℕ) → Identified x sort static final past
      → let i : Identity = identity_of (newer ++ past) x in Identified x i.sort i.isstatic i.isfinal (newer ++ past)
  -- those stated, each once: so many have taken room
  pub identities_are : (past : History) (x : ℕ) → Memᴰ x (identities past) ↔ ((sort : ℕ) × (static : ℕ) × (final : ℕ) × Identified x sort static final past)
  pub identities_once : (past : History) (before : List ℕ) (x : ℕ) (after : List ℕ) → identities past ≡ before ++ (x ∷ after) → ¬ Memᴰ x after
  -- M declares no class and states none of a handle; what else it leaves as it was is `nothing_else`
  pub identify_alone : (x sort c static final : ℕ) (past : History)
      → ((d : ℕ) → super_of (states (M x sort c static final) ∷ past) d ≡ super_of past d)
      × ((h : Alive) → class_stated (states (M x sort c static final) ∷ past) h ≡ class_stated past h)

pub record OnRefusals : Type 0 where
  -- a line after accepted lines is given exactly the number that documents 01 and 02 say, or none
  pub refusal_is : (room : Room) (e : Line) (past : History) → Accepted room past → (n : ℕ) → (refusal room e past ≡ n) ↔ Given room past e n
  -- 7 exactly when 4, 5, 6, 9 and 10 are not given and the history with the line exceeds room: handles that have ended never count
  pub seven_is_room : (room : Room) (e : Line) (past : History) → Accepted room past
      → (refusal room e past ≡ 7)
      ↔ ((refusal room e past ≢ 4) × (refusal room e past ≢ 5) × (refusal room e past ≢ 6) × (refusal room e past ≢ 9) × (refusal room e past ≢ 10) × Exceeds room (e ∷ past))
  pub within_room : (room : Room) (past : History) → Accepted room past → ¬ Exceeds room past
  -- from a start refusal 8 never comes
  pub never_eight : (room : Room) (past : History) → Accepted room past → (t : ℕ) → Bounded t past
  -- an accepted trace's earlier part is accepted
  pub accepted_before : (room : Room) (newer past : History) → Accepted room (newer ++ past) → Accepted room past
  -- more room, and no 7 from the smaller: equal runs
  pub run_more : (a b : Room) → Roomier a b → (lines : List (List ℕ)) (past : History) → (run a past lines).refusal ≢ 7 → run b past lines ≡ run a past lines

pub record OnLeaks : Type 0 where
  -- ordered by making line
  pub in_order : (ps : List (Made Pin)) (hs : List (Made Alive)) → InOrder (leaks_of ps hs)
  -- then rule and row: of one line first the buffers, then the globals and weaks, all of them, in the order of their rows, and nothing besides
  pub of_one_line : (n : ℕ) (ps : List (Made Pin)) (hs : List (Made Alive))
      → keep (of_making_line n) (leaks_of ps hs)
      ≡ map buffer_leak (keep (made_in_line n) ps) ++ map handle_leak (keep (λ x. global_or_weak x.what && made_in_line n x) hs)

pub record OnInput : Type 0 where
  -- joined again, the lines are the input
  pub lines_joined : (input : List ℕ) → joined (lines_of input) (λ bs. bs) ≡ input
  -- a line ends with its LF, and has no other; what is left at the end, if anything, is a line too, without its LF
  pub lines_cut : (input : List ℕ) → Cut (lines_of input)

pub record OnReplies : Type 0 where
  -- a lent line after accepted lines is what documents 01 and 02 say, in their order: line 1,000,001 is 1 whatever it holds; 1, 2 and 3 come before 4
  pub verdict_is : (room : Room) (past : History) (bs : List ℕ) → Accepted room past → (x : Read) → (verdict room past bs ≡ x) ↔ Weighs room past bs x
  -- after Z everything that reads is 4
  pub after_Z : (room : Room) (past : History) (bs : List ℕ) (e : Line) → Accepted room past → Memᴰ Z past → length past < 1000000 → read bs ≡ says e
      → verdict room past bs ≡ refused 4
  -- whatever is called, the lines heard are accepted lines
  pub heard_accepted : (room : Room) (calls : List (List ℕ)) → Accepted room (heard room calls)
  -- a refused line changes nothing
  pub refusal_changes_nothing : (room : Room) (before : List (List ℕ)) (bs : List ℕ) (k : ℕ) → reply room (heard room before) bs ≡ not_accepted k
      → heard room (bs ∷ before) ≡ heard room before
  pub refused_number : (room : Room) (calls : List (List ℕ)) (bs : List ℕ) (k : ℕ) → reply room (heard room calls) bs ≡ not_accepted k → (1 ≤ k) × (k ≤ 10) × (k ≢ 8)
  -- the findings replied to all calls are those of the lines heard
  pub told_all : (room : Room) (calls : List (List ℕ)) → told room calls ≡ findings (heard room calls)
  -- a whole run is what the replies to its lines make of it
  pub whole_run : (room : Room) (lines : List (List ℕ)) → Runs room [] lines (run room [] lines)
  pub run_told : (room : Room) (calls lines : List (List ℕ)) (r : Run) → Runs room calls lines r
      → (all : List (List ℕ)) × (r.accepted ≡ heard room all) × (findings r.accepted ≡ told room all)
  -- what is printed ends with a number, and as many lines were printed before it
  pub end_counts : (r : Run) → (printed : List ℕ) × (n : ℕ) × (shown r ≡ printed ++ last_field n) × (count (λ b. eqb b line_feed) printed ≡ n)
  -- `refused` whenever a line was refused, after Z too
  pub refused_word : (r : Run) → r.refusal ≢ 0 → end_word r ≡ bytes "refused"
  pub closed_word : (r : Run) → r.refusal ≡ 0 → Memᴰ Z r.accepted → end_word r ≡ bytes "closed"
  pub open_word : (r : Run) → r.refusal ≡ 0 → ¬ Memᴰ Z r.accepted → end_word r ≡ bytes "open"

-- judges that are shut out
pub record ShutOut : Type 0 where
  -- one that refuses always
  pub not_always_refused : (room : Room) → reply room [] (line "Z") ≡ accepted []
  -- one with one reply, and a step that does nothing
  pub not_one_reply : (room : Room) → reply room (heard room (line "Z" ∷ [])) (line "Z") ≡ not_accepted 4
  -- a line of each letter is accepted
  pub each_letter : (room : Room) → Accepted room (Z ∷ X 1 0 ∷ R 1 6 (pos 0) 0 ∷ C 1 100 6 0 0 0 (pos 0) ∷ N 1 100 [] ∷ [])
  -- A and D too
  pub attached_accepted : (room : Room) → Accepted room (D 1 ∷ R 1 6 (pos 0) 0 ∷ C 1 100 6 0 0 0 (pos 0) ∷ A 1 100 ∷ [])
  -- K, O and M too, where there is a row and a place
  pub statements_accepted : Accepted program_room (states (M 8 1 5 0 0) ∷ states (O 1 5 5) ∷ N 1 100 (5 ∷ []) ∷ states (K 5 1) ∷ [])
  -- one that works on the first line only: after the same first line the reply to the same later bytes differs
  pub not_first_only : (reply program_room (heard program_room (line "R 1 4 0 0" ∷ line "C 1 100 4 0 0 0 0" ∷ line "N 1 100 5" ∷ [])) (line "C 1 100 31 5 0 0 0")
      ≡ accepted [])
      × (reply program_room (heard program_room (line "R 1 23 0 0" ∷ line "C 1 100 23 5 0 0 0" ∷ line "N 1 100 5" ∷ [])) (line "C 1 100 31 5 0 0 0")
      ≡ accepted (record { line = 4; rule = 11; place = 1; thing = 5 } ∷ []))
