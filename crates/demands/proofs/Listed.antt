-- The list of leaks over tied tables is that of the history. Assumes nothing.
use Prim.Native.Nat.{ℕ, ◌+◌, ◌*◌, ◌/◌, ◌≤◌, ◌<◌}
use mathlib.Core.Path.{◌≡◌, refl, sym, ap, ap₂, ◌∙◌}
use mathlib.Core.Logic.{◌⊎◌, inl, inr, ◌↔◌}
use mathlib.Core.Bool.{Bool, true, false, not}
use mathlib.Core.List.{List, [], ◌∷◌, ◌++◌, map, map-map, Memᴰ}
use Rattle.std.specs.Prelude.{Option, None, Some}
use native.Mathlib.Omega.{arith}
use lib.Dec.{ltb}
use lib.ListN.{length, drop, length-append}
use borrow.Author.Tests.{ltb-true, lt-ltb, le-ltb}
use Rattle.words.specs.Choice.{if_true◌then◌else◌, one}
use Rattle.words.specs.Lists.{count, joined}
use Rattle.lines.specs.Line.{Z}
use Rattle.rows.specs.Slots.{held}
use Rattle.rows.specs.View.{view}
use Rattle.rows.specs.References.{references}
use Rattle.rows.specs.Pins.{pins}
use Rattle.rows.specs.declared.references.Reference.{Reference}
use Rattle.rows.specs.declared.pins.Pin.{Pin as PinRow}
use Rattle.history.specs.Past.{History, closed}
use Rattle.history.specs.Handles.{Alive, local, shared, global_or_weak}
use Rattle.history.specs.Buffers.{Pin, ordinary, critical}
use Rattle.history.specs.Statements.{class_stated}
use Rattle.history.specs.Leaks.{Leak, made_at, by_what, leaks_of}
use Rattle.history.specs.Acceptance.{Room}
use Rattle.history.specs.Accepted.{Accepted}
use Rattle.history.proofs.Counts.{count_cons, count_length}
use Rattle.history.proofs.Tests.{never_true, true_not_false}
use Rattle.history.proofs.Turns.{closed_is}
use Rattle.history.proofs.LeakOrder.{length_leaks}
use Rattle.book.specs.Threads.{closed_in}
use Rattle.book.specs.Unfit.{unfit}
use Rattle.tables.specs.Tables.{Tables, reference_of, pin_row_of}
use Rattle.tables.specs.Listing.{made_alive, made_pin, leaks_in, leak_numbers, numbers_of, written, not_written, lists, list_into, list_of}
use Rattle.tables.proofs.Leaking.{held_within}
use Rattle.demands.specs.PastRows.{padded, reference_rows, pin_rows}
use Rattle.demands.specs.Tied.{encoded, reference_row, pin_row, Tied, AllTied}
use Rattle.demands.specs.Leaks.{leaks, list_after}
use Rattle.demands.proofs.Encoding.{unplaced, unowned}
use Rattle.demands.proofs.Placed.{rows_placed, pins_owned}
use Rattle.demands.proofs.PastRoom.{rows_short, pins_short}
use Rattle.demands.proofs.Weighed.{references_encoded, pins_encoded, held_references, held_pins}
use Rattle.demands.proofs.Started.{fit_book}

-- ---- rows read back

module _ {A B : Type 0} where
  held_encoded_is : (f : B → A) (s : List (Option B)) → held (encoded f s) ≡ map f (held s)
  held_encoded_is f [] = refl
  held_encoded_is f (None ∷ s) = held_encoded_is f s
  held_encoded_is f (Some x ∷ s) = ap (λ (l : List A). f x ∷ l) (held_encoded_is f s)

-- what gives back all but what nothing in the list is
map_back : {A : Type 0} (g : A → Bool) (f : A → A) → ((x : A) → g x ≡ false → f x ≡ x) → (l : List A) → count g l ≡ 0 → map f l ≡ l
map_back g f h [] z = refl
map_back {A} g f h (x ∷ l) z = go (g x) (h x) (count_cons g x l) (map_back g f h l)
  where
    go : (b : Bool) → (b ≡ false → f x ≡ x) → count g (x ∷ l) ≡ one b + count g l → (count g l ≡ 0 → map f l ≡ l) → f x ∷ map f l ≡ x ∷ l
    go true k e ih = absurd (omega (arith, e, z))
    go false k e ih = ap₂ (λ (y : A) (m : List A). y ∷ m) (k refl) (ih (omega (arith, e, z)))

handle_back : (n class : ℕ) (x : Alive) → unplaced x ≡ false → made_alive (reference_of n class x) ≡ made_at n x
handle_back n class (local t d h) k = rw k
handle_back n class (shared h) k = refl

pin_back : (n : ℕ) (x : Pin) → unowned x ≡ false → made_pin (pin_row_of n x) ≡ made_at n x
pin_back n (ordinary k b) h = refl
pin_back n (critical t k b) h = rw h

-- ---- the list

module _ (room : Room) (T : Tables) (past : History) (tied : Tied room T past) (so_far : Accepted room past) where
  handles_back : map made_alive (held (view references T.references)) ≡ held (reference_rows past)
  handles_back =
      let slots = padded room.references (reference_rows past) in
      ap (λ (v : List (Option Reference)). map made_alive (held v)) (references_encoded room T past tied so_far)
      ∙ ap (map made_alive) (held_encoded_is (reference_row past) slots ∙ ap (map (reference_row past)) (held_references room T past tied so_far))
      ∙ map-map made_alive (reference_row past) (held (reference_rows past))
      ∙ map_back (by_what unplaced) (λ x. made_alive (reference_row past x)) (λ x k. handle_back x.line (class_stated past x.what) x.what k) (held (reference_rows past)) (rows_placed room past so_far)

  pins_back : map made_pin (held (view pins T.pins)) ≡ held (pin_rows past)
  pins_back =
      let slots = padded room.pins (pin_rows past) in
      ap (λ (v : List (Option PinRow)). map made_pin (held v)) (pins_encoded room T past tied so_far)
      ∙ ap (map made_pin) (held_encoded_is pin_row slots ∙ ap (map pin_row) (held_pins room T past tied so_far))
      ∙ map-map made_pin pin_row (held (pin_rows past))
      ∙ map_back (by_what unowned) (λ x. made_pin (pin_row x)) (λ x k. pin_back x.line x.what k) (held (pin_rows past)) (pins_owned room past so_far)

  pub leaks_tied : leaks_in T ≡ leaks past
  unfolding leaks_in leaks
  leaks_tied = ap₂ leaks_of pins_back handles_back

pub list_tied : (room : Room) (T : Tables) (past : History) → AllTied room T past → Accepted room past → (ns : List ℕ) → list_of T ns ≡ list_after past ns
unfolding list_of list_after
list_tied room T past k so_far ns =
    rw (fit_book room T past k.tables k.opened so_far, k.tables.end_mark, leaks_tied room T past k.tables so_far)

-- ---- how many

pub leaks_many : (past : History) → length (leaks past) ≡ length (held (pin_rows past)) + count (by_what global_or_weak) (held (reference_rows past))
unfolding leaks
leaks_many past = length_leaks (held (pin_rows past)) (held (reference_rows past))

-- no more than there are rows
pub leaks_fit : (room : Room) (past : History) → Accepted room past → length (leaks past) ≤ room.pins + room.references
leaks_fit room past so_far =
    omega (
      arith,
      leaks_many past,
      held_within (pin_rows past),
      pins_short room past so_far,
      count_length (by_what global_or_weak) (held (reference_rows past)),
      held_within (reference_rows past),
      rows_short room past so_far,
    )

-- ---- when which number is given

not_written_so : (j k : ℕ) → not_written j ≡ not_written k → j ≡ k
not_written_so j k h = cc

written_not : (n k : ℕ) → written n ≡ not_written k → ⊥
written_not n k h = let z : ◌≡◌ {A = ℕ} 0 1 = cc in omega arith

-- what is answered where a list may be written: 7 where the slice holds fewer records, and nothing is written
module _ (xs : List Leak) (ns : List ℕ) where
  into_keeps : (k : ℕ) → (list_into xs ns).reply ≡ not_written k → (k ≡ 7) × ((list_into xs ns).left ≡ ns) × (length ns / leak_numbers < length xs)
  unfolding list_into
  into_keeps k = go (ltb (length ns / leak_numbers) (length xs)) refl
    where
      go : (q : Bool) → ltb (length ns / leak_numbers) (length xs) ≡ q
          → (if_true q then lists (not_written 7) ns else lists (written (length xs)) (joined xs numbers_of ++ drop (length (joined xs numbers_of)) ns)).reply ≡ not_written k
          → (k ≡ 7)
          × ((if_true q then lists (not_written 7) ns else lists (written (length xs)) (joined xs numbers_of ++ drop (length (joined xs numbers_of)) ns)).left ≡ ns)
          × (length ns / leak_numbers < length xs)
      go true e h = (sym (not_written_so 7 k h), refl, ltb-true (length ns / leak_numbers) (length xs) e)
      go false e h = absurd (written_not (length xs) k h)

  into_short : length ns / leak_numbers < length xs → (list_into xs ns).reply ≡ not_written 7
  unfolding list_into
  into_short h = rw (lt-ltb (length ns / leak_numbers) (length xs) h)

numbers_many : (xs : List Leak) → length (joined xs numbers_of) ≡ length xs * 4
numbers_many [] = refl
numbers_many (x ∷ xs) = omega (arith, length-append (numbers_of x) (joined xs numbers_of), numbers_many xs)

-- where the slice has room for all
pub into_listed : (xs : List Leak) (ns : List ℕ) → length xs * 4 ≤ length ns
    → list_into xs ns ≡ lists (written (length xs)) (joined xs (λ x. x.rule ∷ x.thread ∷ x.value ∷ x.line ∷ []) ++ drop (length xs * 4) ns)
unfolding list_into
into_listed xs ns room = rw (le-ltb (length ns / leak_numbers) (length xs) (omega (arith, room))) (ap (λ (n : ℕ). lists (written (length xs)) (joined xs numbers_of ++ drop n ns)) (numbers_many xs))

pub after_listed : (past : History) (ns : List ℕ) → Memᴰ Z past → length (leaks past) * 4 ≤ length ns
    → list_after past ns ≡ lists (written (length (leaks past))) (joined (leaks past) (λ x. x.rule ∷ x.thread ∷ x.value ∷ x.line ∷ []) ++ drop (length (leaks past) * 4) ns)
unfolding list_after
after_listed past ns m room = rw ((closed_is past).1 m) (into_listed (leaks past) ns room)

module _ (T : Tables) (ns : List ℕ) where
  -- whatever the tables hold
  list_kept : (k : ℕ) (p q : Bool) → (if_true p then lists (not_written 8) ns else if_true q then lists (not_written 4) ns else list_into (leaks_in T) ns).reply ≡ not_written k
      → ((if_true p then lists (not_written 8) ns else if_true q then lists (not_written 4) ns else list_into (leaks_in T) ns).left ≡ ns)
      × ((k ≡ 8) ⊎ (k ≡ 4) ⊎ (k ≡ 7)) × (k ≡ 8 → p ≡ true)
  list_kept k true q h = (refl, inl (sym (not_written_so 8 k h)), λ e. refl)
  list_kept k false true h = (refl, inr (inl (sym (not_written_so 4 k h))), λ e. absurd (omega (arith, e, not_written_so 4 k h)))
  list_kept k false false h = let (is, kept, short) = into_keeps (leaks_in T) ns k h in (kept, inr (inr is), λ e. absurd (omega (arith, e, is)))

  pub list_keeps : (k : ℕ) → (list_of T ns).reply ≡ not_written k → (list_of T ns).left ≡ ns
  unfolding list_of
  list_keeps k h = (list_kept k (unfit T.book) (not (closed_in T.book)) h).0

  pub list_is_numbered : (k : ℕ) → (list_of T ns).reply ≡ not_written k → (k ≡ 8) ⊎ (k ≡ 4) ⊎ (k ≡ 7)
  unfolding list_of
  list_is_numbered k h = (list_kept k (unfit T.book) (not (closed_in T.book)) h).1

  pub list_eight_is : ((list_of T ns).reply ≡ not_written 8) ↔ (unfit T.book ≡ true)
  unfolding list_of
  list_eight_is = (λ h. (list_kept 8 (unfit T.book) (not (closed_in T.book)) h).2 refl, λ u. rw u)

module _ (past : History) (ns : List ℕ) where
  -- after a history
  pub four_is : ((list_after past ns).reply ≡ not_written 4) ↔ (¬ Memᴰ Z past)
  unfolding list_after
  four_is = (go (closed past) refl, λ before_Z. rw (never_true (closed past) (λ c. before_Z ((closed_is past).0 c))))
    where
      go : (q : Bool) → closed past ≡ q → (if_true not q then lists (not_written 4) ns else list_into (leaks past) ns).reply ≡ not_written 4 → ¬ Memᴰ Z past
      go true e h m = omega (arith, (into_keeps (leaks past) ns 4 h).0)
      go false e h m = true_not_false (closed past) ((closed_is past).1 m) e

  pub seven_is_listed : ((list_after past ns).reply ≡ not_written 7) ↔ (Memᴰ Z past × (length ns / leak_numbers < length (leaks past)))
  unfolding list_after
  seven_is_listed = (go (closed past) refl, λ (m, short). rw ((closed_is past).1 m) (into_short (leaks past) ns short))
    where
      go : (q : Bool) → closed past ≡ q → (if_true not q then lists (not_written 4) ns else list_into (leaks past) ns).reply ≡ not_written 7
          → Memᴰ Z past × (length ns / leak_numbers < length (leaks past))
      go true e h = ((closed_is past).0 e, (into_keeps (leaks past) ns 7 h).2)
      go false e h = absurd (omega (arith, not_written_so 4 7 h))
