-- A row and what it stands for pass the same tests: rows found and counted are handles alive and buffers outstanding.
use Prim.Native.Nat.{ℕ}
use mathlib.Core.Path.{◌≡◌, refl, sym, ap, ap₂, fun_ext, ◌∙◌}
use mathlib.Core.Bool.{Bool, true, false, ◌&&◌}
use mathlib.Core.List.{List, [], ◌∷◌}
use native.Mathlib.Decide.{ℕ_discrete}
use borrow.Author.Tests.{eq-eqb, ne_eqb}
use lib.Dec.{eqb, ltb}
use Rattle.words.specs.Choice.{if_true◌then◌else◌}
use Rattle.words.specs.Lists.{of_first}
use Rattle.lines.specs.Line.{kind}
use Rattle.rows.specs.Slots.{held}
use Rattle.rows.specs.Table.{Table, room, found, counted, some_row}
use Rattle.rows.specs.View.{view}
use Rattle.rows.specs.References.{references, is_handle, class_at}
use Rattle.rows.specs.References.{in_frame as in_frame_row, of_thread as of_thread_row}
use Rattle.rows.specs.Pins.{pins, of_thread, is_buffer}
use Rattle.rows.specs.declared.references.Reference.{Reference}
use Rattle.rows.specs.declared.pins.Pin.{Pin as PinRow}
use Rattle.rows.proofs.ViewLaws.{of_first_view}
use Rattle.history.specs.Handles.{Alive, local, shared, is_local, is_shared, in_frame, global_or_weak}
use Rattle.facts.specs.Table.{family, is_critical}
use Rattle.history.specs.Buffers.{Pin, ordinary, critical, pin, same_pin, critical_of}
use Rattle.history.specs.Statements.{names}
use Rattle.tables.proofs.RowCounts.{found_counted, some_row_counted, counted_same, counted_none}
use Rattle.tables.specs.Tables.{alive_of, pin_of, handles_in, buffers_in, class_in}

-- ---- a reference row and its handle

and_turned : (a b : Bool) → (a && b) ≡ (b && a)
and_turned true true = refl
and_turned true false = refl
and_turned false true = refl
and_turned false false = refl

and_grouped : (a b c : Bool) → (a && b && c) ≡ (a && (b && c))
and_grouped true b c = refl
and_grouped false b c = refl

eqb_turned : (a b : ℕ) → eqb a b ≡ eqb b a
eqb_turned a b = go (ℕ_discrete a b)
  where
    go : Dec (a ≡ b) → eqb a b ≡ eqb b a
    go (yes p) = eq-eqb a b p ∙ sym (eq-eqb b a (sym p))
    go (no p) = ne_eqb a b p ∙ sym (ne_eqb b a (λ q. p (sym q)))

and_false : (a b : Bool) → b ≡ false → false ≡ (a && b)
and_false true b e = sym e
and_false false b e = refl

module _ (t : ℕ) (z : t ≡ 0 → ⊥) (x : Reference) where
  -- a test of locals of thread t is the same test of a row of thread t
  by_thread : (test : Bool) (f : Alive → Bool) → (f (shared x.handle) ≡ false) → (f (local x.thread x.frame x.handle) ≡ (eqb x.thread t && test))
      → f (alive_of x) ≡ (test && of_thread_row t x)
  by_thread test f e k = go (ℕ_discrete x.thread 0)
    where
      go : Dec (x.thread ≡ 0) → f (if_true eqb x.thread 0 then shared x.handle else local x.thread x.frame x.handle) ≡ (test && eqb x.thread t)
      go (yes q) = rw (eq-eqb x.thread 0 q) (e ∙ and_false test (eqb x.thread t) (ne_eqb x.thread t (λ p. z (sym p ∙ q))))
      go (no q) = rw (ne_eqb x.thread 0 q) (k ∙ and_turned (eqb x.thread t) test)

  row_of_local : (h : ℕ) → is_local t h (alive_of x) ≡ is_handle t h x
  row_of_local h = by_thread (eqb x.handle h) (is_local t h) refl refl

  row_in_frame : (d : ℕ) → in_frame t d (alive_of x) ≡ in_frame_row t d x
  row_in_frame d = by_thread (eqb x.frame d) (in_frame t d) refl refl

-- no row is of a local of thread 0
no_local_row : (test : Bool) (f : Alive → Bool) (x : Reference) → (f (shared x.handle) ≡ false) → (f (local x.thread x.frame x.handle) ≡ (eqb x.thread 0 && test))
    → f (alive_of x) ≡ false
no_local_row test f x e k = go (eqb x.thread 0) k
  where
    go : (b : Bool) → f (local x.thread x.frame x.handle) ≡ (b && test)
        → f (if_true b then shared x.handle else local x.thread x.frame x.handle) ≡ false
    go true k = e
    go false k = k

row_of_shared : (h : ℕ) (x : Reference) → is_shared h (alive_of x) ≡ is_handle 0 h x
row_of_shared h x = go (eqb x.thread 0)
  where
    go : (b : Bool) → is_shared h (if_true b then shared x.handle else local x.thread x.frame x.handle) ≡ (eqb x.handle h && b)
    go true = and_turned true (eqb x.handle h)
    go false = and_false (eqb x.handle h) false refl

row_of_global : (x : Reference) → global_or_weak (alive_of x) ≡ of_thread_row 0 x
row_of_global x = go (eqb x.thread 0)
  where
    go : (b : Bool) → global_or_weak (if_true b then shared x.handle else local x.thread x.frame x.handle) ≡ b
    go true = refl
    go false = refl

-- ---- what the rows' functions answer

module _ (T : Table) where
  pub local_found : (t h r n : ℕ) → (t ≡ 0 → ⊥) → r ≡ found references (is_handle t h) T → n ≡ room references T → ltb r n ≡ ltb 0 (handles_in T (is_local t h))
  unfolding handles_in
  local_found t h r n z e k =
      ap₂ ltb e k
      ∙ found_counted references (is_handle t h) T
      ∙ ap (ltb 0) (sym (counted_same references (λ x. is_local t h (alive_of x)) (is_handle t h) T (λ x. row_of_local t z x h)))

  pub no_local_found : (t h : ℕ) → t ≡ 0 → false ≡ ltb 0 (handles_in T (is_local t h))
  unfolding handles_in
  no_local_found t h z =
      ap (ltb 0) (sym (counted_none references (λ x. is_local 0 h (alive_of x)) T (λ x. no_local_row (eqb x.handle h) (is_local 0 h) x refl refl)))
      ∙ ap (λ (s : ℕ). ltb 0 (handles_in T (is_local s h))) (sym z)

  pub shared_found : (h r n : ℕ) → r ≡ found references (is_handle 0 h) T → n ≡ room references T → ltb r n ≡ ltb 0 (handles_in T (is_shared h))
  unfolding handles_in
  shared_found h r n e k =
      ap₂ ltb e k
      ∙ found_counted references (is_handle 0 h) T
      ∙ ap (ltb 0) (sym (counted_same references (λ x. is_shared h (alive_of x)) (is_handle 0 h) T (row_of_shared h)))

  pub frame_counted : (t d k : ℕ) → (t ≡ 0 → ⊥) → k ≡ counted references (in_frame_row t d) T → k ≡ handles_in T (in_frame t d)
  unfolding handles_in
  frame_counted t d k z e = e ∙ sym (counted_same references (λ x. in_frame t d (alive_of x)) (in_frame_row t d) T (λ x. row_in_frame t z x d))

  pub no_frame_counted : (t d : ℕ) → t ≡ 0 → ◌≡◌ {A = ℕ} 0 (handles_in T (in_frame t d))
  unfolding handles_in
  no_frame_counted t d z =
      sym (counted_none references (λ x. in_frame 0 d (alive_of x)) T (λ x. no_local_row (eqb x.frame d) (in_frame 0 d) x refl refl))
      ∙ ap (λ (s : ℕ). handles_in T (in_frame s d)) (sym z)

  pub globals_counted : (k : ℕ) → k ≡ counted references (of_thread_row 0) T → k ≡ handles_in T global_or_weak
  unfolding handles_in
  globals_counted k e = e ∙ sym (counted_same references (λ x. global_or_weak (alive_of x)) (of_thread_row 0) T row_of_global)

-- ---- the class in the row of a handle

of_none : (q : Reference → Bool) (f : Reference → ℕ) (xs : List Reference) → ((x : Reference) → q x ≡ false) → ◌≡◌ {A = ℕ} 0 (of_first q f xs)
of_none q f [] e = refl
of_none q f (x ∷ xs) e = rw (e x) (of_none q f xs e)

module _ (T : Table) (t h : ℕ) where
  class_found : (u : ℕ) → ((x : Reference) → names t h (alive_of x) ≡ is_handle u h x) → class_at T (found references (is_handle u h) T) ≡ class_in T t h
  unfolding class_at class_in
  class_found u e =
      of_first_view references (is_handle u h) (λ x. x.class) T
      ∙ ap (λ (q : Reference → Bool). of_first q (λ x. x.class) (held (view references T))) (sym (fun_ext e))

  no_class_found : ((x : Reference) → names t h (alive_of x) ≡ false) → ◌≡◌ {A = ℕ} 0 (class_in T t h)
  unfolding class_in
  no_class_found e = of_none (λ x. names t h (alive_of x)) (λ x. x.class) (held (view references T)) e

  pub no_handle_class : kind h ≡ 0 → ◌≡◌ {A = ℕ} 0 (class_in T t h)
  unfolding names
  no_handle_class e = no_class_found (λ x. rw (eq-eqb (kind h) 0 e) refl)

  pub local_class : (r : ℕ) → (kind h ≡ 0 → ⊥) → kind h ≡ 1 → (t ≡ 0 → ⊥) → r ≡ found references (is_handle t h) T → class_at T r ≡ class_in T t h
  unfolding names
  local_class r n e z er = ap (class_at T) er ∙ class_found t (λ x. rw (ne_eqb (kind h) 0 n, eq-eqb (kind h) 1 e) (row_of_local t z x h))

  -- thread 0 names no local
  pub no_local_class : (kind h ≡ 0 → ⊥) → kind h ≡ 1 → t ≡ 0 → ◌≡◌ {A = ℕ} 0 (class_in T t h)
  unfolding names
  no_local_class n e z =
      no_class_found
      (λ x. rw (ne_eqb (kind h) 0 n, eq-eqb (kind h) 1 e, z) (no_local_row (eqb x.handle h) (is_local 0 h) x refl refl))

  pub shared_class : (r : ℕ) → (kind h ≡ 0 → ⊥) → (kind h ≡ 1 → ⊥) → r ≡ found references (is_handle 0 h) T → class_at T r ≡ class_in T t h
  unfolding names
  shared_class r n e er = ap (class_at T) er ∙ class_found 0 (λ x. rw (ne_eqb (kind h) 0 n, ne_eqb (kind h) 1 e) (row_of_shared h x))

-- ---- a pin row and its buffer

module _ (t : ℕ) (z : t ≡ 0 → ⊥) (x : PinRow) where
  row_of_critical : critical_of t (pin_of x) ≡ of_thread t x
  row_of_critical = go (ℕ_discrete x.thread 0)
    where
      go : Dec (x.thread ≡ 0) → critical_of t (if_true eqb x.thread 0 then ordinary x.family x.buffer else critical x.thread x.family x.buffer) ≡ eqb x.thread t
      go (yes q) = rw (eq-eqb x.thread 0 q) (sym (ne_eqb x.thread t (λ p. z (sym p ∙ q))))
      go (no q) = rw (ne_eqb x.thread 0 q) (eqb_turned t x.thread)

no_critical_row : (x : PinRow) → critical_of 0 (pin_of x) ≡ false
no_critical_row x = go (ℕ_discrete x.thread 0)
  where
    go : Dec (x.thread ≡ 0) → critical_of 0 (if_true eqb x.thread 0 then ordinary x.family x.buffer else critical x.thread x.family x.buffer) ≡ false
    go (yes q) = rw (eq-eqb x.thread 0 q) refl
    go (no q) = rw (ne_eqb x.thread 0 q) (ne_eqb 0 x.thread (λ p. q (sym p)))

module _ (T : Table) where
  pub critical_found : (t : ℕ) (b : Bool) → (t ≡ 0 → ⊥) → b ≡ some_row pins (of_thread t) T → b ≡ ltb 0 (buffers_in T (critical_of t))
  unfolding buffers_in
  critical_found t b z e =
      e
      ∙ some_row_counted pins (of_thread t) T
      ∙ ap (ltb 0) (sym (counted_same pins (λ x. critical_of t (pin_of x)) (of_thread t) T (row_of_critical t z)))

  pub no_critical_found : (t : ℕ) → t ≡ 0 → false ≡ ltb 0 (buffers_in T (critical_of t))
  unfolding buffers_in
  no_critical_found t z =
      ap (ltb 0) (sym (counted_none pins (λ x. critical_of 0 (pin_of x)) T no_critical_row))
      ∙ ap (λ (s : ℕ). ltb 0 (buffers_in T (critical_of s))) (sym z)

-- ---- the buffer of a release

module _ (x : PinRow) (k b : ℕ) where
  abbrev as_row : Bool
  as_row = eqb x.buffer b && eqb x.family k

  -- the same buffer of the same family, as a row and as a pin
  same_row : (eqb k x.family && eqb b x.buffer) ≡ as_row
  same_row = ap₂ ◌&&◌ (eqb_turned k x.family) (eqb_turned b x.buffer) ∙ and_turned (eqb x.family k) (eqb x.buffer b)

  row_of_ordinary : same_pin (ordinary k b) (pin_of x) ≡ is_buffer 0 k b x
  row_of_ordinary = go (eqb x.thread 0)
    where
      go : (o : Bool) → same_pin (ordinary k b) (if_true o then ordinary x.family x.buffer else critical x.thread x.family x.buffer) ≡ (as_row && o)
      go true = same_row ∙ and_turned true as_row
      go false = and_false as_row false refl

  row_of_own : (t : ℕ) → (t ≡ 0 → ⊥) → same_pin (critical t k b) (pin_of x) ≡ is_buffer t k b x
  row_of_own t z = go (ℕ_discrete x.thread 0)
    where
      go : Dec (x.thread ≡ 0)
          → same_pin (critical t k b) (if_true eqb x.thread 0 then ordinary x.family x.buffer else critical x.thread x.family x.buffer) ≡ (as_row && eqb x.thread t)
      go (yes q) = rw (eq-eqb x.thread 0 q) (and_false as_row (eqb x.thread t) (ne_eqb x.thread t (λ p. z (sym p ∙ q))))
      go (no q) =
          rw (ne_eqb x.thread 0 q)
          (and_grouped (eqb t x.thread) (eqb k x.family) (eqb b x.buffer)
          ∙ ap₂ ◌&&◌ (eqb_turned t x.thread) same_row
          ∙ and_turned (eqb x.thread t) as_row)

  no_own_row : same_pin (critical 0 k b) (pin_of x) ≡ false
  no_own_row = go (ℕ_discrete x.thread 0)
    where
      go : Dec (x.thread ≡ 0)
          → same_pin (critical 0 k b) (if_true eqb x.thread 0 then ordinary x.family x.buffer else critical x.thread x.family x.buffer) ≡ false
      go (yes q) = rw (eq-eqb x.thread 0 q) refl
      go (no q) = rw (ne_eqb x.thread 0 q) (ap (λ (o : Bool). o && eqb k x.family && eqb b x.buffer) (ne_eqb 0 x.thread (λ p. q (sym p))))

module _ (T : Table) (t f b k r n : ℕ) (e : k ≡ family f) (o : Bool) (i : o ≡ is_critical k) where
  abbrev released : ℕ
  released = buffers_in T (same_pin (pin t f b))

  pin_critical : o ≡ true → pin t f b ≡ critical t k b
  unfolding pin
  pin_critical c = rw (sym e, sym i ∙ c) refl

  pin_ordinary : o ≡ false → pin t f b ≡ ordinary k b
  unfolding pin
  pin_ordinary c = rw (sym e, sym i ∙ c) refl

  pub own_found : o ≡ true → (t ≡ 0 → ⊥) → r ≡ found pins (is_buffer t k b) T → n ≡ room pins T → ltb r n ≡ ltb 0 released
  unfolding buffers_in
  own_found c z er en =
      ap₂ ltb er en
      ∙ found_counted pins (is_buffer t k b) T
      ∙ ap (ltb 0) (sym (counted_same pins (λ x. same_pin (critical t k b) (pin_of x)) (is_buffer t k b) T (λ x. row_of_own x k b t z)))
      ∙ ap (λ (p : Pin). ltb 0 (buffers_in T (same_pin p))) (sym (pin_critical c))

  pub no_own_found : o ≡ true → t ≡ 0 → false ≡ ltb 0 released
  unfolding buffers_in
  no_own_found c z =
      ap (ltb 0) (sym (counted_none pins (λ x. same_pin (critical 0 k b) (pin_of x)) T (λ x. no_own_row x k b)))
      ∙ ap (λ (s : ℕ). ltb 0 (buffers_in T (same_pin (critical s k b)))) (sym z)
      ∙ ap (λ (p : Pin). ltb 0 (buffers_in T (same_pin p))) (sym (pin_critical c))

  pub ordinary_found : o ≡ false → r ≡ found pins (is_buffer 0 k b) T → n ≡ room pins T → ltb r n ≡ ltb 0 released
  unfolding buffers_in
  ordinary_found c er en =
      ap₂ ltb er en
      ∙ found_counted pins (is_buffer 0 k b) T
      ∙ ap (ltb 0) (sym (counted_same pins (λ x. same_pin (ordinary k b) (pin_of x)) (is_buffer 0 k b) T (λ x. row_of_ordinary x k b)))
      ∙ ap (λ (p : Pin). ltb 0 (buffers_in T (same_pin p))) (sym (pin_ordinary c))
