-- Tied tables are tied again after an accepted line: first all but the open items, then the open items. Assumes nothing.
use Prim.Native.Nat.{ℕ, suc, ◌-◌, ◌/◌, ◌≤◌, ◌<◌}
use mathlib.Core.Path.{◌≡◌, refl, sym, ap, ◌∙◌}
use mathlib.Core.Bool.{Bool, true, false, ◌&&◌}
use mathlib.Core.List.{List, ◌∷◌, tail}
use native.Mathlib.Decide.{ℕ_discrete}
use native.Mathlib.Omega.{arith}
use lib.Dec.{eqb, leb, ltb}
use lib.ListN.{length}
use borrow.Author.Tests.{ne_eqb, ltb-true}
use Rattle.words.specs.Choice.{if_true◌then◌else◌}
use Rattle.words.specs.Lists.{count}
use Rattle.facts.specs.Named.{PushLocalFrame}
use Rattle.lines.specs.Line.{Line, N, X, C, R, A, D, Z, states, K, O, M, is_allowed, is_zero, threads, classes, above_zero}
use Rattle.history.specs.Past.{History, thread_of, is_of, closed}
use Rattle.history.specs.Items.{Item, items, items_after, top_of, asked}
use Rattle.history.specs.Frames.{Frame, pushed, frames, frames_after, depth}
use Rattle.history.specs.Handles.{in_frame, living, alive_in}
use Rattle.history.specs.Thread.{monitors}
use Rattle.history.specs.Acceptance.{Room, deepest}
use Rattle.history.specs.Replies.{most_lines}
use Rattle.history.specs.Accepted.{Accepted, and_line}
use Rattle.history.proofs.Tests.{eqb_self}
use Rattle.history.proofs.Accepting.{passed}
use Rattle.history.proofs.Threads.{own_items, other_items}
use Rattle.history.proofs.Stacks.{monitors_in_lines}
use Rattle.book.specs.Layout.{whole, cell, Stands}
use Rattle.book.specs.Threads.{Thread, thread_in, items_in, lines_in, closed_in, no_function, attached_function}
use Rattle.book.specs.Moves.{line_counted, closed_set}
use Rattle.book.specs.Changes.{pushed_item, stay, Kept, Changes, Traced}
use Rattle.book.proofs.Changing.{item_pushed_changes, pushed_native, pushed_attached, pushed_call, item_popped_changes}
use Rattle.book.proofs.Tracing.{line_counted_traces, closed_set_traces}
use Rattle.tables.specs.Tables.{Tables, handles_in}
use Rattle.tables.specs.Acting.{book_after, classes_after, acted, items_moved}
use Rattle.classes.specs.Identities.{identity_room, place_of}
use Rattle.classes.proofs.PutLaws.{put_length}
use Rattle.classes.proofs.SuperLaws.{declared_length}
use Rattle.tables.specs.Stepping.{with_items}
use Rattle.demands.specs.Tied.{past_classes, past_thread, Tied, ItemsTied}
use Rattle.demands.proofs.Weighed.{frames_own, handles_tied, own_frames_tied}
use Rattle.demands.proofs.PastRoom.{Roomy, roomy}
use Rattle.demands.proofs.Allowed.{is_a_thread, thread_within, asks}
use Rattle.demands.proofs.RowsActed.{references_acted, pins_acted}
use Rattle.demands.proofs.BookActed.{thread_after, past_thread_own, past_thread_other, enter_changes, attach_changes, detach_changes, leave_changes, call_changes, return_changes}

-- ---- all but the open items

-- a book that says what the history with the line says; its open items are those of b
record Booked (b c : List ℕ) (e : Line) (past : History) : Type 0 where
  threads_so : (s : ℕ) → thread_in c s ≡ past_thread s (e ∷ past)
  items_same : (s : ℕ) → items_in c s ≡ items_in b s
  lines_so : lines_in c ≡ suc (length past)
  closed_so : closed_in c ≡ closed (e ∷ past)
  as_long : length c ≡ length b
  counts_kept : (s : ℕ) → Kept (cell b s) → Kept (cell c s)

module _ (room : Room) (T : Tables) (past : History) (tied : Tied room T past) (so_far : Accepted room past) (few : length past < most_lines) where
  abbrev asked_of : ℕ → ℕ
  asked_of t = asked (top_of (items t past))

  abbrev held_in : ℕ → ℕ
  held_in t = handles_in T.references (in_frame t (length (thread_in T.book t).frames))

  held_tied : (t : ℕ) → held_in t ≡ alive_in t (depth t past) past
  unfolding alive_in depth
  held_tied t =
      handles_tied room T past tied so_far (in_frame t (length (thread_in T.book t).frames))
      ∙ ap (λ (fs : List Frame). count (in_frame t (length fs)) (living past)) (own_frames_tied room T past tied so_far t)

  own_monitors_tied : (t : ℕ) → (thread_in T.book t).monitors ≡ monitors t past
  unfolding past_thread
  own_monitors_tied t = ap (λ (x : Thread). x.monitors) (tied.threads t)

  -- a line of thread t
  booked : (e : Line) (t : ℕ) (c : List ℕ) → t ≤ threads → ((s : ℕ) → is_of s e ≡ eqb s t) → closed (e ∷ past) ≡ closed past
      → Changes T.book c t (thread_after e (held_in t) (asked_of t)) stay → Booked T.book (line_counted c) e past
  booked e t c within of not_over change =
      record {
        threads_so = λ s. counted.threads s ∙ at s (ℕ_discrete s t);
        items_same = λ s. counted.items s ∙ same s (ℕ_discrete s t);
        lines_so = counted.lines ∙ ap suc (change.lines ∙ tied.lines);
        closed_so = counted.end_mark ∙ change.end_mark ∙ tied.end_mark ∙ sym not_over;
        as_long = counted.as_long ∙ change.as_long;
        counts_kept = λ s k. counted.kept s (change.kept s k);
      }
    where
      counted : Traced c (line_counted c) (suc (lines_in c)) (closed_in c)
      counted = line_counted_traces c (omega (arith, change.as_long, tied.long)) (omega (arith, change.lines, tied.lines))

      at : (s : ℕ) → Dec (s ≡ t) → thread_in c s ≡ past_thread s (e ∷ past)
      at s (yes is) =
          rw is
          (change.here
          ∙ ap (thread_after e (held_in t) (asked_of t)) (tied.threads t)
          ∙ ap (λ (k : ℕ). thread_after e k (asked_of t) (past_thread t past)) (held_tied t)
          ∙ sym (past_thread_own t e past (of t ∙ eqb_self t)))
      at s (no other) = change.others s other ∙ tied.threads s ∙ sym (past_thread_other s e past (of s ∙ ne_eqb s t other))

      same : (s : ℕ) → Dec (s ≡ t) → items_in c s ≡ items_in T.book s
      same s (yes is) = rw is change.items
      same s (no other) = change.other_items s other

  module _ (e : Line) (t : ℕ) (own : is_of t e ≡ true) (fine : is_allowed e ≡ true) where
    in_book : t ≤ threads
    in_book = (thread_within t (is_a_thread e t own fine)).1

    stands : Stands T.book t
    stands = omega (arith, in_book, tied.long)

  frames_left : (e : Line) → Roomy room e past → length (frames_after e (frames (thread_of e) past)) ≤ deepest
  frames_left e fits = omega (arith, fits.frames_few, ap length (frames_own e past))

  book_acted : (e : Line) → is_allowed e ≡ true → Roomy room e past → Booked T.book (line_counted (book_after e (asked_of (thread_of e)) T)) e past
  unfolding book_after closed
  book_acted (N t env hs) fine fits =
      let e = N t env hs in
      booked e t _ (in_book e t (eqb_self t) fine) (λ s. refl) refl
      (enter_changes T.book t (stands e t (eqb_self t) fine) (held_in t) (asked_of t) env hs
      (omega (arith, frames_left e fits, ap length (own_frames_tied room T past tied so_far t))))
  book_acted (X t r) fine fits =
      let e = X t r in
      booked e t _ (in_book e t (eqb_self t) fine) (λ s. refl) refl
      (leave_changes T.book t (stands e t (eqb_self t) fine) (held_in t) (asked_of t) r)
  book_acted (C t env f a b c n) fine fits =
      let e = C t env f a b c n in
      booked e t _ (in_book e t (eqb_self t) fine) (λ s. refl) refl
      (call_changes T.book t (stands e t (eqb_self t) fine) (held_in t) (asked_of t) env f a b c n)
  book_acted (R t f r p) fine fits =
      let e = R t f r p in
      booked e t _ (in_book e t (eqb_self t) fine) (λ s. refl) refl
      (return_changes T.book t (stands e t (eqb_self t) fine) (held_in t) (asked_of t) f p r
      (λ k. pushes k (frames_left e fits))
      (omega (arith, own_monitors_tied t, monitors_in_lines past t)))
    where
      pushes : (eqb f PushLocalFrame && is_zero r) ≡ true → length (if_true eqb f PushLocalFrame && is_zero r then pushed ∷ frames t past else frames t past) ≤ deepest
          → length (thread_in T.book t).frames < deepest
      pushes k l =
          omega (arith, l, ap (λ (q : Bool). length (if_true q then pushed ∷ frames t past else frames t past)) k, ap length (own_frames_tied room T past tied so_far t))
  book_acted (A t env) fine fits =
      let e = A t env in
      booked e t _ (in_book e t (eqb_self t) fine) (λ s. refl) refl
      (attach_changes T.book t (stands e t (eqb_self t) fine) (held_in t) (asked_of t) env
      (omega (arith, frames_left e fits, ap length (own_frames_tied room T past tied so_far t))))
  book_acted (D t) fine fits =
      let e = D t in
      booked e t _ (in_book e t (eqb_self t) fine) (λ s. refl) refl (detach_changes T.book t (stands e t (eqb_self t) fine) (held_in t) (asked_of t))
  book_acted Z fine fits =
      record {
        threads_so = λ s. counted.threads s ∙ over.threads s ∙ tied.threads s ∙ sym (past_thread_other s Z past refl);
        items_same = λ s. counted.items s ∙ over.items s;
        lines_so = counted.lines ∙ ap suc (over.lines ∙ tied.lines);
        closed_so = counted.end_mark ∙ over.end_mark;
        as_long = counted.as_long ∙ over.as_long;
        counts_kept = λ s k. counted.kept s (over.kept s k);
      }
    where
      over : Traced T.book (closed_set T.book) (lines_in T.book) true
      over = closed_set_traces T.book (omega (arith, tied.long))

      counted : Traced (closed_set T.book) (line_counted (closed_set T.book)) (suc (lines_in (closed_set T.book))) (closed_in (closed_set T.book))
      counted = line_counted_traces (closed_set T.book) (omega (arith, over.as_long, tied.long)) (omega (arith, over.lines, tied.lines))
  book_acted (states s) fine fits =
      record {
        threads_so = λ t. counted.threads t ∙ tied.threads t ∙ sym (past_thread_other t (states s) past refl);
        items_same = counted.items;
        lines_so = counted.lines ∙ ap suc tied.lines;
        closed_so = counted.end_mark ∙ tied.end_mark;
        as_long = counted.as_long;
        counts_kept = counted.kept;
      }
    where
      counted : Traced T.book (line_counted T.book) (suc (lines_in T.book)) (closed_in T.book)
      counted = line_counted_traces T.book (omega (arith, tied.long)) (omega (arith, tied.lines))

-- all but the open items is tied again; n is what was asked of the open call on top
-- the class table is the one that the lines leave
classes_acted : (room : Room) (T : Tables) (past : History) → Tied room T past → (e : Line) → classes_after e T.classes ≡ past_classes (length T.classes) (e ∷ past)
unfolding past_classes
classes_acted room T past tied e = ap (classes_after e) tied.class_table

pub same_length : (e : Line) (cs : List ℕ) → length (classes_after e cs) ≡ length cs
unfolding classes_after
same_length (N t env hs) cs = refl
same_length (X t r) cs = refl
same_length (C t env f a b c n) cs = refl
same_length (R t f r p) cs = refl
same_length (A t env) cs = refl
same_length (D t) cs = refl
same_length Z cs = refl
same_length (states (K c s)) cs = declared_length cs c s
same_length (states (O t h c)) cs = refl
same_length (states (M x sort c static final)) cs = put_length cs (place_of cs x) x sort static final

pub next : (room : Room) (T : Tables) (e : Line) (past : History) → Tied room T past → Accepted room (e ∷ past)
    → Tied room (acted (suc (length past)) e (asked (top_of (items (thread_of e) past))) T) (e ∷ past)
unfolding acted
next room T e past tied (and_line _ _ few fine no_refusal so_far) =
    let book = book_acted room T past tied so_far few e fine (roomy room e past (passed room e past no_refusal).rooms) in
    record {
      reference_table = references_acted room T past tied so_far e fine (passed room e past no_refusal);
      pin_table = pins_acted room T past tied so_far e fine;
      threads = book.threads_so;
      lines = book.lines_so;
      end_mark = book.closed_so;
      long = omega (arith, book.as_long, tied.long);
      class_table = classes_acted room T past tied e ∙ ap (λ (n : ℕ). past_classes n (e ∷ past)) (sym (same_length e T.classes));
      all_classes = omega (arith, same_length e T.classes, tied.all_classes);
      places = unfold identity_room in ap (λ (n : ℕ). (n - classes) / 4) (same_length e T.classes) ∙ tied.places;
    }

-- and has not touched the open items
pub items_untouched : (room : Room) (T : Tables) (e : Line) (past : History) → Tied room T past → ItemsTied T.book past → Accepted room (e ∷ past)
    → ItemsTied (acted (suc (length past)) e (asked (top_of (items (thread_of e) past))) T).book past
unfolding acted
items_untouched room T e past tied opened (and_line _ _ few fine no_refusal so_far) =
    let book = book_acted room T past tied so_far few e fine (roomy room e past (passed room e past no_refusal).rooms) in
    record { open_items = λ s. book.items_same s ∙ opened.open_items s; counts = λ s. book.counts_kept s (opened.counts s) }

-- ---- the open items

-- a book whose open items are the history's with the line; all else is that of b
record Moved (b c : List ℕ) (e : Line) (past : History) : Type 0 where
  items_so : ItemsTied c (e ∷ past)
  threads_same : (s : ℕ) → thread_in c s ≡ thread_in b s
  lines_same : lines_in c ≡ lines_in b
  closed_same : closed_in c ≡ closed_in b
  as_long : length c ≡ length b

module _ (b : List ℕ) (past : History) (long : whole ≤ length b) (opened : ItemsTied b past) where
  -- a line of thread t
  moved : (e : Line) (t : ℕ) (c : List ℕ) (turn : List Item → List Item) → ((s : ℕ) → is_of s e ≡ eqb s t) → turn (items t past) ≡ items_after e (items t past)
      → Changes b c t stay turn → Moved b c e past
  moved e t c turn of so change =
      record {
        items_so = record { open_items = λ s. at s (ℕ_discrete s t); counts = λ s. change.kept s (opened.counts s) };
        threads_same = λ s. same s (ℕ_discrete s t);
        lines_same = change.lines;
        closed_same = change.end_mark;
        as_long = change.as_long;
      }
    where
      at : (s : ℕ) → Dec (s ≡ t) → items_in c s ≡ items s (e ∷ past)
      at s (yes is) = rw is (change.items ∙ ap turn (opened.open_items t) ∙ so ∙ sym (own_items t e past (of t ∙ eqb_self t)))
      at s (no other) = change.other_items s other ∙ opened.open_items s ∙ sym (other_items s e past (of s ∙ ne_eqb s t other))

      same : (s : ℕ) → Dec (s ≡ t) → thread_in c s ≡ thread_in b s
      same s (yes is) = rw is change.here
      same s (no other) = change.others s other

  module _ (e : Line) (t : ℕ) (own : is_of t e ≡ true) (fine : is_allowed e ≡ true) where
    row_stands : Stands b t
    row_stands = omega (arith, long, (thread_within t (is_a_thread e t own fine)).1)

  some_room : (t : ℕ) → ltb (length (items t past)) deepest ≡ true → length (items_in b t) < deepest
  some_room t h = omega (arith, ltb-true (length (items t past)) deepest h, ap length (opened.open_items t))

  items_acted : (room : Room) (e : Line) → is_allowed e ≡ true → Roomy room e past → Moved b (items_moved e b) e past
  unfolding items_moved
  items_acted room (N t env hs) fine fits =
      let e = N t env hs in
      moved e t _ (λ is. pushed_item no_function 0 ∷ is) (λ s. refl) (ap (λ (i : Item). i ∷ items t past) (pushed_native 0))
      (item_pushed_changes b t no_function 0 (row_stands e t (eqb_self t) fine) (some_room t fits.items_few))
  items_acted room (X t r) fine fits =
      moved (X t r) t _ tail (λ s. refl) refl (item_popped_changes b t (row_stands (X t r) t (eqb_self t) fine))
  items_acted room (C t env f a d c n) fine fits =
      let e = C t env f a d c n in
      let k = asks t env f a d c n fine in
      moved e t _ (λ is. pushed_item f (above_zero n) ∷ is) (λ s. refl)
      (ap (λ (i : Item). i ∷ items t past) (pushed_call f (above_zero n) (omega (arith, k.function_from)) (omega (arith, k.function_to)) (omega (arith, k.size_to))))
      (item_pushed_changes b t f (above_zero n) (row_stands e t (eqb_self t) fine) (some_room t fits.items_few))
  items_acted room (R t f r p) fine fits =
      moved (R t f r p) t _ tail (λ s. refl) refl (item_popped_changes b t (row_stands (R t f r p) t (eqb_self t) fine))
  items_acted room (A t env) fine fits =
      let e = A t env in
      moved e t _ (λ is. pushed_item attached_function 0 ∷ is) (λ s. refl) (ap (λ (i : Item). i ∷ items t past) (pushed_attached 0))
      (item_pushed_changes b t attached_function 0 (row_stands e t (eqb_self t) fine) (some_room t fits.items_few))
  items_acted room (D t) fine fits = moved (D t) t _ tail (λ s. refl) refl (item_popped_changes b t (row_stands (D t) t (eqb_self t) fine))
  items_acted room Z fine fits =
      record {
        items_so = record { open_items = λ s. opened.open_items s ∙ sym (other_items s Z past refl); counts = opened.counts };
        threads_same = λ s. refl;
        lines_same = refl;
        closed_same = refl;
        as_long = refl;
      }
  items_acted room (states s) fine fits =
      record {
        items_so = record { open_items = λ t. opened.open_items t ∙ sym (other_items t (states s) past refl); counts = opened.counts };
        threads_same = λ t. refl;
        lines_same = refl;
        closed_same = refl;
        as_long = refl;
      }

-- the open items are tied again
pub next_items : (room : Room) (b : List ℕ) (e : Line) (past : History) → whole ≤ length b → ItemsTied b past → Accepted room (e ∷ past) → ItemsTied (items_moved e b) (e ∷ past)
next_items room b e past long opened (and_line _ _ few fine no_refusal so_far) =
    (items_acted b past long opened room e fine (roomy room e past (passed room e past no_refusal).rooms)).items_so

-- and nothing else is touched
pub rest_untouched : (room : Room) (T : Tables) (e : Line) (past : History) → Tied room T (e ∷ past) → ItemsTied T.book past → Accepted room (e ∷ past)
    → Tied room (with_items e T) (e ∷ past)
rest_untouched room T e past tied opened (and_line _ _ few fine no_refusal so_far) =
    let m = items_acted T.book past tied.long opened room e fine (roomy room e past (passed room e past no_refusal).rooms) in
    record {
      reference_table = tied.reference_table;
      pin_table = tied.pin_table;
      threads = λ s. m.threads_same s ∙ tied.threads s;
      lines = m.lines_same ∙ tied.lines;
      end_mark = m.closed_same ∙ tied.end_mark;
      long = omega (arith, m.as_long, tied.long);
      class_table = tied.class_table;
      all_classes = tied.all_classes;
      places = tied.places;
    }
