-- The leaks of what is found are those of the definition, before they are ordered. Assumes nothing.
use Prim.Native.Nat.{ℕ, zero, suc, ◌+◌, ◌-◌, ◌≤◌, ◌<◌, suc-le-suc}
use mathlib.Core.Path.{◌≡◌, refl, sym, ap, ap₂, ◌∙◌}
use mathlib.Core.Bool.{Bool, true, false}
use mathlib.Core.List.{List, [], ◌∷◌, ◌++◌, map, map-append, append_assoc}
use Rattle.std.specs.Prelude.{Option, None, Some}
use native.Mathlib.Nat.{zero-lt-suc}
use native.Mathlib.Omega.{arith}
use borrow.Author.Tests.{lt-ltb, le-ltb, eqb-true}
use lib.Dec.{eqb}
use lib.ListN.{length, length-append, length-map}
use Rattle.words.specs.Choice.{if_true◌then◌else◌}
use Rattle.words.specs.Lists.{keep, count, joined}
use Rattle.rows.specs.Slots.{held}
use Rattle.rows.specs.Table.{Table, each, room, alive, counted}
use Rattle.rows.specs.View.{slot, view}
use Rattle.rows.specs.References.{references, of_thread}
use Rattle.rows.specs.Pins.{pins}
use Rattle.rows.specs.declared.references.Reference.{Reference}
use Rattle.rows.specs.declared.pins.Pin.{Pin}
use Rattle.rows.proofs.SlotLaws.{getD_each}
use Rattle.rows.proofs.ViewLaws.{alive_view, counted_view}
use Rattle.history.specs.Handles.{local, shared, global_or_weak}
use Rattle.history.specs.Buffers.{ordinary, critical}
use Rattle.history.specs.Leaks.{Leak, buffer_leak, handle_leak}
use Rattle.tables.specs.Listing.{made_alive, made_pin}
use Rattle.leaks.specs.declared.entries.Entry.{Entry}
use Rattle.leaks.specs.Entries.{first_reference}
use Rattle.leaks.specs.Found.{of_pin, of_reference, found_at, found_from, found_in}
use Rattle.leaks.proofs.ByLine.{leak_of}

-- ---- slot after slot
held_cons : {A : Type 0} (o : Option A) (s : List (Option A)) → held (o ∷ s) ≡ held (o ∷ []) ++ held s
held_cons None s = refl
held_cons (Some x) s = refl

joined_append : {A : Type 0} (leaks : A → List Leak) (xs ys : List A) → joined (xs ++ ys) leaks ≡ joined xs leaks ++ joined ys leaks
joined_append leaks [] ys = refl
joined_append leaks (x ∷ xs) ys =
    ap (λ (l : List Leak). leaks x ++ l) (joined_append leaks xs ys) ∙ sym (append_assoc (leaks x) (joined xs leaks) (joined ys leaks))

map_held : {A : Type 0} (leaks : A → List Leak) (f : ℕ → Option Entry) (s : ℕ → Option A) (n : ℕ)
    → ((i : ℕ) → i < n → map leak_of (held (f i ∷ [])) ≡ joined (held (s i ∷ [])) leaks) → map leak_of (held (each f n)) ≡ joined (held (each s n)) leaks
map_held leaks f s zero h = refl
map_held leaks f s (suc n) h =
    ap (map leak_of) (held_cons (f zero) (each (λ k. f (suc k)) n)) ∙ map-append leak_of (held (f zero ∷ [])) (held (each (λ k. f (suc k)) n))
    ∙ ap₂ {C = List Leak} (λ a b. a ++ b) (h zero (zero-lt-suc n)) (map_held leaks (λ k. f (suc k)) (λ k. s (suc k)) n (λ i l. h (suc i) (suc-le-suc l)))
    ∙ sym (joined_append leaks (held (s zero ∷ [])) (held (each (λ k. s (suc k)) n)))
    ∙ ap (λ l. joined l leaks) (sym (held_cons (s zero) (each (λ k. s (suc k)) n)))

-- ---- buffers
abbrev of_buffer : Pin → List Leak
of_buffer x = buffer_leak (made_pin x) ∷ []

buffers : (xs : List Pin) → joined xs of_buffer ≡ map buffer_leak (map made_pin xs)
buffers [] = refl
buffers (x ∷ xs) = ap (λ (l : List Leak). buffer_leak (made_pin x) ∷ l) (buffers xs)

at_pin : (p : ℕ) (o : Option Pin) → p < first_reference → map leak_of (held (of_pin p o ∷ [])) ≡ joined (held (o ∷ [])) of_buffer
at_pin p None h = refl
at_pin p (Some x) h = rw (lt-ltb p first_reference h) (ap (λ (l : Leak). l ∷ []) (go (eqb x.thread 0) refl))
  where
    go : (b : Bool) → eqb x.thread 0 ≡ b
        → ◌≡◌ {A = Leak} (record { rule = 8; thread = x.thread; value = x.buffer; line = x.line })
        (buffer_leak (record { what = if_true b then ordinary x.family x.buffer else critical x.thread x.family x.buffer; line = x.line }))
    go true e = λ i. record { rule = 8; thread = eqb-true x.thread 0 e i; value = x.buffer; line = x.line }
    go false e = refl

-- ---- handles
abbrev of_handle : Reference → List Leak
of_handle x = if_true eqb x.thread 0 then handle_leak (made_alive x) ∷ [] else []

handles : (xs : List Reference) → joined xs of_handle ≡ map handle_leak (keep (λ x. global_or_weak x.what) (map made_alive xs))
handles [] = refl
handles (x ∷ xs) = go (eqb x.thread 0) (handles xs)
  where
    go : (b : Bool) → joined xs of_handle ≡ map handle_leak (keep (λ x. global_or_weak x.what) (map made_alive xs))
        → (if_true b then handle_leak (record { what = if_true b then shared x.handle else local x.thread x.frame x.handle; line = x.line }) ∷ [] else []) ++ joined xs of_handle
        ≡ map handle_leak (keep (λ x. global_or_weak x.what) (record { what = if_true b then shared x.handle else local x.thread x.frame x.handle; line = x.line } ∷ map made_alive xs))
    go true ih = ap (λ (l : List Leak). handle_leak (record { what = shared x.handle; line = x.line }) ∷ l) ih
    go false ih = ih

at_reference : (p : ℕ) (o : Option Reference) → first_reference ≤ p → map leak_of (held (of_reference p o ∷ [])) ≡ joined (held (o ∷ [])) of_handle
at_reference p None h = refl
at_reference p (Some x) h = go (eqb x.thread 0) refl
  where
    go : (b : Bool) → eqb x.thread 0 ≡ b
        → map leak_of (held ((if_true b then Some (record { place = p; thread = x.thread; value = x.handle; line = x.line }) else None) ∷ []))
        ≡ (if_true b then handle_leak (record { what = if_true b then shared x.handle else local x.thread x.frame x.handle; line = x.line }) ∷ [] else []) ++ []
    go true e = rw (le-ltb p first_reference h) (λ i. record { rule = 10; thread = eqb-true x.thread 0 e i; value = x.handle; line = x.line } ∷ [])
    go false e = refl

-- ---- both
module _ (R P : Table) where
  pins_found : map leak_of (found_from R P 0 (room pins P)) ≡ map buffer_leak (map made_pin (held (view pins P)))
  unfolding found_from found_at view
  pins_found = map_held of_buffer (λ i. found_at R P (0 + i)) (slot pins P) (room pins P) at ∙ buffers (held (each (slot pins P) (room pins P)))
    where
      at : (i : ℕ) → i < room pins P → map leak_of (held (found_at R P (0 + i) ∷ [])) ≡ joined (held (slot pins P i ∷ [])) of_buffer
      at i l =
          let h : i < first_reference = unfold room in omega arith in
          let e : 0 + i ≡ i = omega arith in
          rw (e, lt-ltb i first_reference h, getD_each (slot pins P) (room pins P) i None l) (at_pin i (slot pins P i) h)

  references_found : map leak_of (found_from R P first_reference (room references R))
      ≡ map handle_leak (keep (λ x. global_or_weak x.what) (map made_alive (held (view references R))))
  unfolding found_from found_at view
  references_found =
      map_held of_handle (λ i. found_at R P (first_reference + i)) (slot references R) (room references R) at ∙ handles (held (each (slot references R) (room references R)))
    where
      at : (i : ℕ) → i < room references R → map leak_of (held (found_at R P (first_reference + i) ∷ [])) ≡ joined (held (slot references R i ∷ [])) of_handle
      at i l =
          let h : first_reference ≤ first_reference + i = omega arith in
          let e : first_reference + i - first_reference ≡ i = omega arith in
          rw (le-ltb (first_reference + i) first_reference h, e, getD_each (slot references R) (room references R) i None l) (at_reference (first_reference + i) (slot references R i) h)

  pub leaks_found : map leak_of (found_in R P)
      ≡ map buffer_leak (map made_pin (held (view pins P))) ++ map handle_leak (keep (λ x. global_or_weak x.what) (map made_alive (held (view references R))))
  unfolding found_in
  leaks_found =
      map-append leak_of (found_from R P 0 (room pins P)) (found_from R P first_reference (room references R))
      ∙ ap₂ {C = List Leak} (λ a b. a ++ b) pins_found references_found

  -- ---- how many they are
  pub many_found : length (found_in R P) ≡ alive pins P + counted references (of_thread 0) R
  many_found =
      omega (
        arith,
        length-map (found_in R P) leak_of,
        ap length leaks_found,
        length-append (map buffer_leak (map made_pin (held (view pins P)))) (map handle_leak (keep (λ x. global_or_weak x.what) (map made_alive (held (view references R))))),
        length-map (map made_pin (held (view pins P))) buffer_leak,
        length-map (held (view pins P)) made_pin,
        length-map (keep (λ x. global_or_weak x.what) (map made_alive (held (view references R)))) handle_leak,
        alive_view pins P,
        counted_view references (of_thread 0) R,
        shared_ones (held (view references R)),
      )
    where
      shared_ones : (xs : List Reference) → count (of_thread 0) xs ≡ length (keep (λ x. global_or_weak x.what) (map made_alive xs))
      shared_ones [] = refl
      shared_ones (x ∷ xs) = go (eqb x.thread 0) (shared_ones xs)
        where
          go : (b : Bool) → count (of_thread 0) xs ≡ length (keep (λ x. global_or_weak x.what) (map made_alive xs))
              → (if_true b then suc (count (of_thread 0) xs) else count (of_thread 0) xs)
              ≡ length (keep (λ x. global_or_weak x.what) (record { what = if_true b then shared x.handle else local x.thread x.frame x.handle; line = x.line } ∷ map made_alive xs))
          go true ih = ap suc ih
          go false ih = ih
