-- A line of a trace, and which lines documents 01 and 02 allow by themselves. Assumes nothing.
use Rattle.std.specs.Prelude.{ℕ, ◌%◌, Bool, true, false, not, ◌&&◌, ◌||◌, List, [], eqb, leb, ℤ, pos, negsuc, length}
use Rattle.words.specs.Choice.{if_true◌then◌else◌, within}
use Rattle.words.specs.Lists.{any}
use Rattle.numbers.specs.Signed.{is_i32}
use Rattle.facts.specs.Table.{fact_of, is_function}
use Rattle.facts.specs.Named.{PushLocalFrame, EnsureLocalCapacity}
use Rattle.facts.specs.Identities.{method, field}
use Rattle.facts.specs.declared.Place.{Place}
use Rattle.facts.specs.declared.Result.{Result}

-- what is stated of classes and identities; it opens and closes nothing
pub data Statement : Type 0 where
  -- declares a class: class super
  K : ℕ → ℕ → Statement
  -- the class of a handle: thread handle class
  O : ℕ → ℕ → ℕ → Statement
  -- what an identity is: identity sort class static final
  M : ℕ → ℕ → ℕ → ℕ → ℕ → Statement

pub data Line : Type 0 where
  -- Java enters native: thread env, then 0 to 8 handles
  N : ℕ → ℕ → List ℕ → Line
  -- native returns to Java: thread result
  X : ℕ → ℕ → Line
  -- C calls a JNI function: thread env function a b c n
  C : ℕ → ℕ → ℕ → ℕ → ℕ → ℕ → ℤ → Line
  -- the function returns: thread function result pending
  R : ℕ → ℕ → ℤ → ℕ → Line
  -- a thread attaches itself: thread env
  A : ℕ → ℕ → Line
  -- and detaches itself: thread
  D : ℕ → Line
  -- end of the run
  Z : Line
  -- a statement
  states : Statement → Line

-- ---- by the kind of line: what `f` says of its fields, else `d`

module _ {ℓ} {B : Type ℓ} where
  infixr 1 if_N◌then◌else◌
  abbrev pub if_N◌then◌else◌ : Line → (ℕ → ℕ → List ℕ → B) → B → B
  if_N N t env hs then f else d = f t env hs
  if_N X t r then f else d = d
  if_N C t env g a b c n then f else d = d
  if_N R t g r p then f else d = d
  if_N A t env then f else d = d
  if_N D t then f else d = d
  if_N Z then f else d = d
  if_N states s then f else d = d

  infixr 1 if_X◌then◌else◌
  abbrev pub if_X◌then◌else◌ : Line → (ℕ → ℕ → B) → B → B
  if_X N t env hs then f else d = d
  if_X X t r then f else d = f t r
  if_X C t env g a b c n then f else d = d
  if_X R t g r p then f else d = d
  if_X A t env then f else d = d
  if_X D t then f else d = d
  if_X Z then f else d = d
  if_X states s then f else d = d

  infixr 1 if_C◌then◌else◌
  abbrev pub if_C◌then◌else◌ : Line → (ℕ → ℕ → ℕ → ℕ → ℕ → ℕ → ℤ → B) → B → B
  if_C N t env hs then f else d = d
  if_C X t r then f else d = d
  if_C C t env g a b c n then f else d = f t env g a b c n
  if_C R t g r p then f else d = d
  if_C A t env then f else d = d
  if_C D t then f else d = d
  if_C Z then f else d = d
  if_C states s then f else d = d

  infixr 1 if_R◌then◌else◌
  abbrev pub if_R◌then◌else◌ : Line → (ℕ → ℕ → ℤ → ℕ → B) → B → B
  if_R N t env hs then f else d = d
  if_R X t r then f else d = d
  if_R C t env g a b c n then f else d = d
  if_R R t g r p then f else d = f t g r p
  if_R A t env then f else d = d
  if_R D t then f else d = d
  if_R Z then f else d = d
  if_R states s then f else d = d

  infixr 1 if_A◌then◌else◌
  abbrev pub if_A◌then◌else◌ : Line → (ℕ → ℕ → B) → B → B
  if_A N t env hs then f else d = d
  if_A X t r then f else d = d
  if_A C t env g a b c n then f else d = d
  if_A R t g r p then f else d = d
  if_A A t env then f else d = f t env
  if_A D t then f else d = d
  if_A Z then f else d = d
  if_A states s then f else d = d

  infixr 1 if_D◌then◌else◌
  abbrev pub if_D◌then◌else◌ : Line → (ℕ → B) → B → B
  if_D N t env hs then f else d = d
  if_D X t r then f else d = d
  if_D C t env g a b c n then f else d = d
  if_D R t g r p then f else d = d
  if_D A t env then f else d = d
  if_D D t then f else d = f t
  if_D Z then f else d = d
  if_D states s then f else d = d

  -- N, or A, which has no handles
  infixr 1 if_opens◌then◌else◌
  abbrev pub if_opens◌then◌else◌ : Line → (ℕ → ℕ → List ℕ → B) → B → B
  if_opens N t env hs then f else d = f t env hs
  if_opens X t r then f else d = d
  if_opens C t env g a b c n then f else d = d
  if_opens R t g r p then f else d = d
  if_opens A t env then f else d = f t env []
  if_opens D t then f else d = d
  if_opens Z then f else d = d
  if_opens states s then f else d = d

  infixr 1 if_Z◌then◌else◌
  abbrev pub if_Z◌then◌else◌ : Line → B → B → B
  if_Z N t env hs then f else d = d
  if_Z X t r then f else d = d
  if_Z C t env g a b c n then f else d = d
  if_Z R t g r p then f else d = d
  if_Z A t env then f else d = d
  if_Z D t then f else d = d
  if_Z Z then f else d = f
  if_Z states s then f else d = d

  infixr 1 if_states◌then◌else◌
  abbrev pub if_states◌then◌else◌ : Line → B → B → B
  if_states N t env hs then f else d = d
  if_states X t r then f else d = d
  if_states C t env g a b c n then f else d = d
  if_states R t g r p then f else d = d
  if_states A t env then f else d = d
  if_states D t then f else d = d
  if_states Z then f else d = d
  if_states states s then f else d = f

  infixr 1 if_K◌then◌else◌
  abbrev pub if_K◌then◌else◌ : Line → (ℕ → ℕ → B) → B → B
  if_K N t env hs then f else d = d
  if_K X t r then f else d = d
  if_K C t env g a b c n then f else d = d
  if_K R t g r p then f else d = d
  if_K A t env then f else d = d
  if_K D t then f else d = d
  if_K Z then f else d = d
  if_K states (K c s) then f else d = f c s
  if_K states (O t h c) then f else d = d
  if_K states (M x sort c static final) then f else d = d

  infixr 1 if_O◌then◌else◌
  abbrev pub if_O◌then◌else◌ : Line → (ℕ → ℕ → ℕ → B) → B → B
  if_O N t env hs then f else d = d
  if_O X t r then f else d = d
  if_O C t env g a b c n then f else d = d
  if_O R t g r p then f else d = d
  if_O A t env then f else d = d
  if_O D t then f else d = d
  if_O Z then f else d = d
  if_O states (K c s) then f else d = d
  if_O states (O t h c) then f else d = f t h c
  if_O states (M x sort c static final) then f else d = d

  infixr 1 if_M◌then◌else◌
  abbrev pub if_M◌then◌else◌ : Line → (ℕ → ℕ → ℕ → ℕ → ℕ → B) → B → B
  if_M N t env hs then f else d = d
  if_M X t r then f else d = d
  if_M C t env g a b c n then f else d = d
  if_M R t g r p then f else d = d
  if_M A t env then f else d = d
  if_M D t then f else d = d
  if_M Z then f else d = d
  if_M states (K c s) then f else d = d
  if_M states (O t h c) then f else d = d
  if_M states (M x sort c static final) then f else d = f x sort c static final

-- ---- ranges

-- handles, identities, buffers and envs go up to here
abbrev pub largest : ℕ
largest = 18446744073709551615

abbrev pub threads : ℕ
threads = 16

-- classes are numbered from 1 to here
abbrev pub classes : ℕ
classes = 4095

abbrev pub most_handles : ℕ
most_handles = 8

-- a line has at most 224 bytes before LF
abbrev pub longest : ℕ
longest = 224

-- the kind of a handle: 1 local, 2 global, 3 weak; identities have 0
abbrev pub kind : ℕ → ℕ
kind h = h % 4

abbrev pub is_thread : ℕ → Bool
is_thread t = within 1 threads t

abbrev pub is_env : ℕ → Bool
is_env e = within 1 largest e

-- from 0 to `largest`
abbrev pub is_value : ℕ → Bool
is_value v = leb v largest

abbrev pub is_class : ℕ → Bool
is_class c = within 1 classes c

-- nonzero with remainder 0
abbrev pub is_identity : ℕ → Bool
is_identity x = within 1 largest x && eqb (kind x) 0

-- 1 method or 2 field
abbrev pub is_sort : ℕ → Bool
is_sort s = within method field s

-- N handles are local kind; null arguments are left out
abbrev pub is_argument : ℕ → Bool
is_argument h = eqb (kind h) 1 && is_value h

abbrev pub is_zero : ℤ → Bool
is_zero (pos n) = eqb n 0
is_zero (negsuc n) = false

-- max(n,0)
abbrev pub above_zero : ℤ → ℕ
above_zero (pos n) = n
above_zero (negsuc n) = 0

-- an unused place is written 0
abbrev pub place_allows : Place → ℕ → Bool
place_allows Place.Unused v = eqb v 0
place_allows Place.Handle v = is_value v
place_allows Place.HandleOrNull v = is_value v
place_allows Place.LocalOrNull v = is_value v
place_allows Place.GlobalOrNull v = is_value v
place_allows Place.WeakOrNull v = is_value v
place_allows Place.Identity v = is_value v
place_allows Place.Buffer v = is_value v

-- capacity n is used by 19 and 26 only, else 0
abbrev pub capacity_allows : ℕ → ℤ → Bool
capacity_allows f n = if_true eqb f PushLocalFrame || eqb f EnsureLocalCapacity then is_i32 n else is_zero n

-- a value of which a test holds
abbrev pub value_allows : (ℕ → Bool) → ℤ → Bool
value_allows test (pos v) = is_value v && test v
value_allows test (negsuc v) = false

-- handle of that kind or 0
abbrev pub is_made : ℕ → ℕ → Bool
is_made k v = eqb v 0 || eqb (kind v) k

abbrev pub result_allows : Result → ℤ → Bool
result_allows Result.Local = value_allows (is_made 1)
result_allows Result.Global = value_allows (is_made 2)
result_allows Result.Weak = value_allows (is_made 3)
result_allows Result.Identity = value_allows (is_made 0)
result_allows Result.Buffer = value_allows (λ v. true)
result_allows Result.Status = is_i32
result_allows Result.Nothing = is_zero

-- every field is in range and as its function has it
abbrev pub is_allowed : Line → Bool
is_allowed (N t env hs) = is_thread t && is_env env && leb (length hs) most_handles && not (any (λ (h : ℕ). not (is_argument h)) hs)
is_allowed (X t r) = is_thread t && is_value r
is_allowed (C t env f a b c n) =
    is_thread t
    && is_env env
    && is_function f
    && place_allows (fact_of f).a a
    && place_allows (fact_of f).b b
    && place_allows (fact_of f).c c
    && capacity_allows f n
is_allowed (R t f r p) = is_thread t && is_function f && result_allows (fact_of f).result r && leb p 1
is_allowed (A t env) = is_thread t && is_env env
is_allowed (D t) = is_thread t
is_allowed Z = true
is_allowed (states (K c s)) = is_class c && is_class s
is_allowed (states (O t h c)) = is_thread t && is_value h && is_class c
is_allowed (states (M x sort c static final)) = is_identity x && is_sort sort && is_class c && leb static 1 && leb final 1
