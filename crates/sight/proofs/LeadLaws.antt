-- What is found or counted by a guide is what a look at all rows finds and counts. Assumes nothing.
use Prim.Native.Nat.{ℕ, ◌+◌}
use mathlib.Core.Path.{◌≡◌, sym, ap, ◌∙◌}
use mathlib.Core.Bool.{Bool, false, ◌||◌}
use mathlib.Core.List.{List}
use lib.Dec.{eqb, ltb}
use lib.ListN.{length, get_or}
use borrow.Author.Tests.{eqb-false, ltb-false}
use Rattle.lines.proofs.Tests.{neither}
use Rattle.rows.specs.Table.{Table, free_row, alive, counted, some_row, found}
use Rattle.rows.specs.Frees.{free_from}
use Rattle.rows.specs.References.{references, in_frame, is_handle}
use Rattle.rows.specs.Pins.{pins, of_thread, is_buffer}
use Rattle.guide.specs.References.{places, used_at, low_at, cell_of, found_in, Leads, scans, by_guide}
use Rattle.guide.specs.Pins as pin
use Rattle.guide.proofs.Telling.{leads_finds, leads_free, guide_counts, guide_used}
use Rattle.guide.proofs.PinGuideLaws.{pin_leads_finds, pin_guide_counts}
use Rattle.tables.proofs.RowCounts.{some_row_counted}

-- there are words
some_words : (G : List ℕ) (o : Bool) → o ≡ eqb (length G) 0 → o ≡ false → length G ≡ 0 → ⊥
some_words G o eo n = eqb-false (length G) 0 (sym eo ∙ n)

module _ (T : Table) (G : List ℕ) where
  -- where there are words
  pub rows_used : (n : ℕ) (o : Bool) → o ≡ eqb (length G) 0 → Leads T G → o ≡ false → n ≡ get_or G used_at 0 → n ≡ alive references T
  rows_used n o eo (scans z) f e = absurd (some_words G o eo f z)
  rows_used n o eo (by_guide g) f e = e ∙ guide_used T G g

  pub lowest_found : (r : ℕ) → Leads T G → r ≡ free_from references T (get_or G low_at 0) → r ≡ free_row references T
  lowest_found r w e = e ∙ leads_free T G w

module _ (T : Table) (G : List ℕ) (t : ℕ) where
  pub row_found : (h r : ℕ) → Leads T G → r ≡ found_in T G t h → r ≡ found references (is_handle t h) T
  row_found h r w e = e ∙ leads_finds T G t h w

  pub pin_row_found : (f b r : ℕ) → pin.Leads T G → r ≡ pin.found_in T G t f b → r ≡ found pins (is_buffer t f b) T
  pin_row_found f b r w e = e ∙ pin_leads_finds T G t f b w

  -- where there are words, and a number for the frame among them
  pub frame_held : (d n : ℕ) (o : Bool) → o ≡ eqb (length G) 0 → Leads T G → ((o || ltb 16 t) || ltb 64 d) ≡ false → n ≡ get_or G (places + cell_of t d) 0 → n ≡ counted references (in_frame t d) T
  frame_held d n o eo w f e = go w
    where
      words_and_thread : (o ≡ false) × (ltb 16 t ≡ false)
      words_and_thread = neither o (ltb 16 t) (neither (o || ltb 16 t) (ltb 64 d) f).0

      go : Leads T G → n ≡ counted references (in_frame t d) T
      go (scans z) = absurd (some_words G o eo words_and_thread.0 z)
      go (by_guide g) = e ∙ guide_counts T G t d g (ltb-false 16 t words_and_thread.1) (ltb-false 64 d (neither (o || ltb 16 t) (ltb 64 d) f).1)

  -- and for the thread
  pub thread_held : (n : ℕ) (o : Bool) → o ≡ eqb (length G) 0 → pin.Leads T G → (o || ltb 16 t) ≡ false → n ≡ get_or G (pin.places + pin.cell_of t) 0 → ltb 0 n ≡ some_row pins (of_thread t) T
  thread_held n o eo w f e = go w
    where
      words_and_thread : (o ≡ false) × (ltb 16 t ≡ false)
      words_and_thread = neither o (ltb 16 t) f

      go : pin.Leads T G → ltb 0 n ≡ some_row pins (of_thread t) T
      go (pin.scans z) = absurd (some_words G o eo words_and_thread.0 z)
      go (pin.by_guide g) = ap (ltb 0) (e ∙ pin_guide_counts T G t g (ltb-false 16 t words_and_thread.1)) ∙ sym (some_row_counted pins (of_thread t) T)
