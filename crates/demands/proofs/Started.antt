-- A start ties the tables to no line at all; and tied tables have a fit book. Assumes nothing.
use Prim.Native.Nat.{ℕ, ◌-◌, ◌/◌}
use mathlib.Core.Path.{◌≡◌, refl, sym, ap, ◌∙◌}
use mathlib.Core.Bool.{false}
use mathlib.Core.List.{[]}
use native.Mathlib.Omega.{arith}
use lib.ListN.{length, replicate, length-replicate}
use borrow.Author.Tests.{le-ltb}
use Rattle.history.specs.Past.{History, through, closed}
use Rattle.history.specs.Items.{items}
use Rattle.history.specs.Frames.{frames, depth}
use Rattle.history.specs.Capacities.{capacities}
use Rattle.history.specs.Thread.{pending, monitors, env_of}
use Rattle.lines.specs.Line.{classes}
use Rattle.history.specs.Acceptance.{Room}
use Rattle.history.specs.Accepted.{Accepted}
use Rattle.history.proofs.Stacks.{natives_in_frames, framed_items, monitors_in_lines, at_most_a_million}
use Rattle.rows.specs.Table.{room}
use Rattle.rows.specs.References.{references}
use Rattle.rows.specs.Pins.{pins}
use Rattle.book.specs.Threads.{Thread, thread_in, items_in, natives}
use Rattle.book.specs.Unfit.{overdoes, unfit}
use Rattle.book.specs.Changes.{blank}
use Rattle.book.proofs.Changing.{frames_within, items_within}
use Rattle.book.proofs.Tracing.{cleared_blank, cleared_long}
use Rattle.book.proofs.Fitness.{not_overdone, stays_fit}
use Rattle.tables.specs.Tables.{Tables}
use Rattle.tables.specs.Stepping.{unfit_tables, start_of}
use Rattle.classes.specs.Identities.{identity_room}
use Rattle.demands.specs.PastRows.{reference_rows, pin_rows}
use Rattle.demands.specs.Tied.{reference_row, pin_row, past_references, past_pins, past_classes, past_thread, Tied, ItemsTied}
use Rattle.demands.specs.Calls.{room_of, Long}
use Rattle.demands.proofs.Encoding.{encoded_cleared}

-- ---- a start

blank_past : (t : ℕ) → blank ≡ past_thread t []
unfolding blank past_thread frames capacities pending monitors env_of through
blank_past t = refl

no_classes : (n : ℕ) → replicate n 0 ≡ past_classes n []
unfolding past_classes
no_classes n = refl

pub started : (T : Tables) → Long T → Tied (room_of T) (start_of T) []
unfolding start_of room_of
started T (long, all) =
    let clear = cleared_blank T.book in
    record {
      reference_table = unfold past_references reference_rows in encoded_cleared references (reference_row []) T.references;
      pin_table = unfold past_pins pin_rows in encoded_cleared pins pin_row T.pins;
      threads = λ t. clear.threads t ∙ blank_past t;
      lines = clear.lines;
      end_mark = unfold closed in clear.end_mark;
      long = omega (arith, cleared_long T.book);
      class_table = no_classes (length T.classes) ∙ ap (λ (n : ℕ). past_classes n []) (sym (length-replicate {A = ℕ} (length T.classes) 0));
      all_classes = omega (arith, length-replicate {A = ℕ} (length T.classes) 0);
      places = unfold identity_room in ap (λ (n : ℕ). (n - classes) / 4) (length-replicate {A = ℕ} (length T.classes) 0);
    }

pub items_started : (T : Tables) → ItemsTied (start_of T).book []
unfolding start_of items through
items_started T = let clear = cleared_blank T.book in record { open_items = clear.items; counts = clear.kept }

-- ---- fitness

pub fit_book : (room : Room) (T : Tables) (past : History) → Tied room T past → ItemsTied T.book past → Accepted room past → unfit T.book ≡ false
fit_book room T past tied opened so_far =
    stays_fit T.book tied.long (omega (arith, tied.lines, at_most_a_million room past so_far)) (λ t x y. opened.counts t)
    (λ t x y. unfold overdoes in
    not_overdone (length (items_in T.book t)) (length (thread_in T.book t).frames) (natives (items_in T.book t)) (thread_in T.book t).monitors
    (items_within T.book t)
    (frames_within T.book t)
    (omega (arith, ap natives (opened.open_items t), natives_in_frames room past so_far t, deep t))
    (λ l. omega (arith, framed_items room past so_far t (omega (arith, ap length (opened.open_items t))), deep t))
    (omega (arith, held t, monitors_in_lines past t, at_most_a_million room past so_far)))
  where
    deep : (t : ℕ) → length (thread_in T.book t).frames ≡ depth t past
    deep t = unfold depth past_thread in ap (λ (x : Thread). length x.frames) (tied.threads t)

    held : (t : ℕ) → (thread_in T.book t).monitors ≡ monitors t past
    held t = unfold past_thread in ap (λ (x : Thread). x.monitors) (tied.threads t)

pub fit : (room : Room) (T : Tables) (past : History) → Tied room T past → ItemsTied T.book past → Accepted room past → unfit_tables T ≡ false
fit room T past tied opened so_far = rw (fit_book room T past tied opened so_far, le-ltb (length T.classes) classes tied.all_classes)
