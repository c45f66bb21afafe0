-- What an allowed line's fields are: its thread, the handles and buffers that it makes, and what it asks of a call. Assumes nothing.
use Prim.Native.Nat.{ℕ, ◌≤◌}
use mathlib.Core.Path.{◌≡◌, refl, ap, ◌∙◌}
use mathlib.Core.Bool.{Bool, true, false, not, ◌&&◌, ◌||◌, false≢true}
use mathlib.Core.List.Memᴰ
use mathlib.Core.List.{List, [], ◌∷◌, Memᴰ}
use native.Mathlib.Omega.{arith}
use lib.Dec.{eqb, leb}
use lib.IntN.{ℤ, pos, negsuc}
use borrow.Author.Tests.{eqb-true, ne_eqb, leb-true}
use Rattle.words.specs.Choice.{if_true◌then◌else◌}
use Rattle.numbers.specs.Signed.{is_i32, largest_i32}
use Rattle.facts.specs.Table.{fact_of, family, is_critical, is_function, first_function, last_function}
use Rattle.facts.specs.Named.{PushLocalFrame, EnsureLocalCapacity}
use Rattle.facts.specs.Results.{is_buffer_result}
use Rattle.lines.specs.Line.{Line, N, X, C, R, A, D, Z, states, is_allowed, is_thread, is_env, is_value, threads, place_allows, capacity_allows, is_zero, above_zero}
use Rattle.history.specs.Past.{History, thread_of, is_of}
use Rattle.history.specs.Frames.{depth}
use Rattle.history.specs.Handles.{Alive, makes}
use Rattle.history.specs.Buffers.{Pin, ordinary, critical, pin, gets}
use Rattle.history.specs.Lives.{Makes, argument, local_result, global_result, weak_result}
use Rattle.history.proofs.Tests.{and_left, and_right}
use Rattle.history.proofs.Living.{made_makes}
use Rattle.demands.proofs.Encoding.{unplaced, unowned}

-- ---- its thread

thread_of_N : (t env : ℕ) (hs : List ℕ) → is_allowed (N t env hs) ≡ true → is_thread t ≡ true
thread_of_N t env hs h = search and_left depth 8

thread_of_C : (t env f a b c : ℕ) (n : ℤ) → is_allowed (C t env f a b c n) ≡ true → is_thread t ≡ true
thread_of_C t env f a b c n h = search and_left depth 8

thread_of_R : (t f : ℕ) (r : ℤ) (p : ℕ) → is_allowed (R t f r p) ≡ true → is_thread t ≡ true
thread_of_R t f r p h = search and_left depth 8

pub is_a_thread : (e : Line) (t : ℕ) → is_of t e ≡ true → is_allowed e ≡ true → is_thread t ≡ true
is_a_thread (N s env hs) t o h = rw (eqb-true t s o) (thread_of_N s env hs h)
is_a_thread (X s r) t o h = rw (eqb-true t s o) (and_left (is_thread s) (is_value r) h)
is_a_thread (C s env f a b c n) t o h = rw (eqb-true t s o) (thread_of_C s env f a b c n h)
is_a_thread (R s f r p) t o h = rw (eqb-true t s o) (thread_of_R s f r p h)
is_a_thread (A s env) t o h = rw (eqb-true t s o) (and_left (is_thread s) (is_env env) h)
is_a_thread (D s) t o h = rw (eqb-true t s o) h
is_a_thread Z t o h = absurd (false≢true o)
is_a_thread (states s) t o h = absurd (false≢true o)

pub thread_within : (t : ℕ) → is_thread t ≡ true → (1 ≤ t) × (t ≤ threads)
thread_within t h = (leb-true 1 t (and_left (leb 1 t) (leb t threads) h), leb-true t threads (and_right (leb 1 t) (leb t threads) h))

pub not_thread_zero : (t : ℕ) → is_thread t ≡ true → eqb t 0 ≡ false
not_thread_zero t h = ne_eqb t 0 (λ z. omega (arith, (thread_within t h).0))

-- ---- what it makes

made_placed : (past : History) (e : Line) → is_allowed e ≡ true → (x : Alive) → Makes past e x → unplaced x ≡ false
made_placed past _ h _ (argument t env g hs i) = not_thread_zero t (thread_of_N t env hs h)
made_placed past _ h _ (local_result t f g p is nz) = not_thread_zero t (thread_of_R t f (pos g) p h)
made_placed past _ h _ (global_result t f g p is nz) = refl
made_placed past _ h _ (weak_result t f g p is nz) = refl

pub makes_placed : (past : History) (e : Line) → is_allowed e ≡ true → (x : Alive) → Memᴰ x (makes e (depth (thread_of e) past)) → unplaced x ≡ false
makes_placed past e h x m = made_placed past e h x (made_makes past e x m)

pub gets_owned : (e : Line) → is_allowed e ≡ true → (x : Pin) → Memᴰ x (gets e) → unowned x ≡ false
unfolding gets
gets_owned (N t env hs) h x m = absurd (Memᴰ.not-nil m)
gets_owned (X t r) h x m = absurd (Memᴰ.not-nil m)
gets_owned (C t env f a b c n) h x m = absurd (Memᴰ.not-nil m)
gets_owned (R t f r p) h x m = go (is_buffer_result (fact_of f).result && not (eqb (above_zero r) 0)) m
  where
    its_own : unowned (pin t f (above_zero r)) ≡ false
    its_own = unfold pin in of_family (is_critical (family f))
      where
        of_family : (q : Bool) → unowned (if_true q then critical t (family f) (above_zero r) else ordinary (family f) (above_zero r)) ≡ false
        of_family true = not_thread_zero t (thread_of_R t f r p h)
        of_family false = refl

    go : (q : Bool) → Memᴰ x (if_true q then pin t f (above_zero r) ∷ [] else []) → unowned x ≡ false
    go true m = ap unowned (Memᴰ.eq_of_singleton m) ∙ its_own
    go false m = absurd (Memᴰ.not-nil m)
gets_owned (A t env) h x m = absurd (Memᴰ.not-nil m)
gets_owned (D t) h x m = absurd (Memᴰ.not-nil m)
gets_owned Z h x m = absurd (Memᴰ.not-nil m)
gets_owned (states s) h x m = absurd (Memᴰ.not-nil m)

-- ---- what it asks

-- of a C: a function's number, and a size below 2 ^ 31
pub record Asks (f : ℕ) (n : ℤ) : Type 0 where
  pub function_from : first_function ≤ f
  pub function_to : f ≤ last_function
  pub size_to : above_zero n ≤ largest_i32

i32_size : (n : ℤ) → is_i32 n ≡ true → above_zero n ≤ largest_i32
i32_size (pos n) h = leb-true n largest_i32 h
i32_size (negsuc n) h = omega arith

zero_size : (n : ℤ) → is_zero n ≡ true → above_zero n ≤ largest_i32
zero_size (pos n) h = omega (arith, eqb-true n 0 h)
zero_size (negsuc n) h = omega arith

pub asks : (t env f a b c : ℕ) (n : ℤ) → is_allowed (C t env f a b c n) ≡ true → Asks f n
asks t env f a b c n h =
    let front = is_thread t && is_env env in
    let places = front && is_function f && place_allows (fact_of f).a a && place_allows (fact_of f).b b && place_allows (fact_of f).c c in
    let function : is_function f ≡ true = search (and_left, and_right) depth 8 in
    record {
      function_from = leb-true first_function f (and_left (leb first_function f) (leb f last_function) function);
      function_to = leb-true f last_function (and_right (leb first_function f) (leb f last_function) function);
      size_to = go (eqb f PushLocalFrame || eqb f EnsureLocalCapacity) (and_right places (capacity_allows f n) h);
    }
  where
    go : (q : Bool) → (if_true q then is_i32 n else is_zero n) ≡ true → above_zero n ≤ largest_i32
    go true k = i32_size n k
    go false k = zero_size n k
