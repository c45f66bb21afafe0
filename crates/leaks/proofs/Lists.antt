-- The slice that the leaks fill, and the four answers. Assumes nothing.
use Prim.Native.Nat.{ℕ, ◌+◌, ◌*◌, ◌/◌, ◌≤◌, ◌<◌}
use mathlib.Core.Path.{◌≡◌, refl, sym, ap, ap₂, ◌∙◌}
use mathlib.Core.Bool.{Bool, true, false}
use mathlib.Core.List.{List, [], ◌∷◌, ◌++◌, map}
use native.Mathlib.Omega.{arith}
use borrow.Author.Tests.{lt-ltb, le-ltb}
use lib.ListN.{length, take, drop, length-append, length-map}
use lib.Seq.{take_all, length-take-le}
use Rattle.words.specs.Lists.{joined}
use Rattle.rows.specs.Table.{Table, room, alive, counted}
use Rattle.rows.specs.References.{references, of_thread}
use Rattle.rows.specs.Pins.{pins}
use Rattle.history.specs.Leaks.{Leak, leaks_of, by_line}
use Rattle.history.proofs.Counts.{count_all}
use Rattle.book.specs.Threads.{closed_in}
use Rattle.book.specs.Unfit.{unfit}
use Rattle.tables.specs.Tables.{Tables}
use Rattle.tables.specs.Listing.{leak_numbers, numbers_of, leaks_in, written, not_written, lists, list_into, list_of}
use Rattle.tables.proofs.RowCounts.{alive_most, counted_most}
use Rattle.leaks.specs.declared.entries.Entry.{Entry}
use Rattle.leaks.specs.Entries.{entries, first_reference, entries_in, ruled}
use Rattle.leaks.specs.Found.{places, found_from, found_in, Added}
use Rattle.leaks.specs.Sorting.{Same, Ordered}
use Rattle.leaks.proofs.EntryLaws.{length_entries, numbers_in}
use Rattle.leaks.proofs.PassLaws.{same_trans}
use Rattle.leaks.proofs.Sameness.{sorted_same}
use Rattle.leaks.proofs.ByLine.{leak_of, ordered, map_ordered, same_ordered, ascending_ordered}
use Rattle.leaks.proofs.FoundLaws.{added_both}
use Rattle.leaks.proofs.Places.{found_climbing}
use Rattle.leaks.proofs.Records.{leaks_found, many_found}

-- ---- the leaks are those found, by making line
leaks_are : (T : Tables) → leaks_in T ≡ map leak_of (ordered (found_in T.references T.pins))
unfolding leaks_in leaks_of
leaks_are T = ap by_line (sym (leaks_found T.references T.pins)) ∙ sym (map_ordered (found_in T.references T.pins))

pub many_leaks : (T : Tables) → length (leaks_in T) ≡ alive pins T.pins + counted references (of_thread 0) T.references
unfolding Same
many_leaks T =
    let xs = found_in T.references T.pins in
    omega (
      arith,
      ap length (leaks_are T),
      length-map (ordered xs) leak_of,
      count_all (ordered xs),
      count_all xs,
      same_ordered xs (λ e. true),
      many_found T.references T.pins,
    )

length_records : (xs : List Leak) → length (joined xs numbers_of) ≡ length xs * leak_numbers
length_records [] = refl
length_records (x ∷ xs) = omega (arith, length-append (numbers_of x) (joined xs numbers_of), length_records xs)

-- ---- as the code counts them
module _ (R P : Table) (a g : ℕ) (outstanding : a ≡ alive pins P) (globals : g ≡ counted references (of_thread 0) R) where
  pub few_leaks : a + g ≤ places
  few_leaks = let h : room pins P ≤ first_reference = unfold room in omega arith in omega (arith, alive_most pins P, counted_most references (of_thread 0) R)

  pub front_fits : (ns : List ℕ) → a + g ≤ length ns / leak_numbers → length (take ((a + g) * leak_numbers) ns) ≡ length (found_in R P) * leak_numbers
  front_fits ns h = omega (arith, length-take-le ((a + g) * leak_numbers) ns (omega arith), many_found R P)

-- ---- a slice that they fill
module _ (R P : Table) (n size : ℕ) (outstanding : n ≡ room pins P) (sized : size ≡ length (found_in R P) * leak_numbers) where
  both : length (found_in R P) ≡ length (found_from R P 0 n) + length (found_from R P first_reference (room references R))
  unfolding found_in
  both = rw outstanding (length-append (found_from R P 0 (room pins P)) (found_from R P first_reference (room references R)))

  pub pins_fit : (0 + n ≤ places) × (0 + length (found_from R P 0 n) ≤ size / leak_numbers)
  unfolding room
  pins_fit = (omega arith, omega (arith, both))

  module _ (k : ℕ) (alive : k ≡ room references R) where
    pub references_fit : (at : ℕ) → at ≡ 0 + length (found_from R P 0 n) → (first_reference + k ≤ places) × (at + length (found_from R P first_reference k) ≤ size / leak_numbers)
    unfolding room
    references_fit at e = (omega arith, omega (arith, both, ap (λ (m : ℕ). length (found_from R P first_reference m)) alive))

    -- both collected, in the whole of it
    collected : {xs ys zs : List Entry} {at m : ℕ} → Added (found_from R P 0 n) 0 at xs ys → Added (found_from R P first_reference k) at m ys zs → length zs ≡ size / leak_numbers
        → zs ≡ found_in R P
    unfolding found_in
    collected {xs} {ys} {zs} {at} {m} a b e =
        let h = added_both a b in
        let l = length-append (found_from R P 0 n) (found_from R P first_reference k) in
        let f = ap (λ (j : ℕ). length (found_from R P first_reference j)) alive in
        sym (take_all m zs (omega (arith, h.many, l, both, f))) ∙ h.front
        ∙ ap₂ (λ (i j : ℕ). found_from R P 0 i ++ found_from R P first_reference j) outstanding alive

sorted_found : (R P : Table) (xs ys : List Entry) → xs ≡ found_in R P → Ordered xs ys → ys ≡ ordered (found_in R P)
unfolding Same
sorted_found R P xs ys e o =
    sorted_same ys (ordered (found_in R P)) (same_trans (ordered (found_in R P)) xs ys o.same (rw e (same_ordered (found_in R P)))) o.sorted
    (ascending_ordered (found_in R P) (found_climbing R P))

as_records : (xs : List Entry) → joined (map ruled xs) entries.numbers ≡ joined (map leak_of xs) numbers_of
as_records [] = refl
as_records (x ∷ xs) = ap (λ (l : List ℕ). numbers_of (leak_of x) ++ l) (as_records xs)

pub filled : (T : Tables) (ns ms : List ℕ) (n k at m : ℕ) {xs ys zs : List Entry} → n ≡ room pins T.pins → k ≡ room references T.references
    → length ms ≡ length (found_in T.references T.pins) * leak_numbers → length ns ≡ length ms
    → Added (found_from T.references T.pins 0 n) 0 at xs ys → Added (found_from T.references T.pins first_reference k) at m ys (entries_in ms)
    → Ordered (entries_in ms) zs → entries_in ns ≡ map ruled zs → ns ≡ joined (leaks_in T) numbers_of
filled T ns ms n k at m {xs} {ys} {zs} p r sized same a b o u =
    let R = T.references in
    let P = T.pins in
    let e = sorted_found R P (entries_in ms) zs (collected R P n (length ms) p sized k r a b (length_entries ms)) o in
    numbers_in (length (found_in R P)) ns (same ∙ sized) ∙ ap (λ (l : List Entry). joined l entries.numbers) u ∙ as_records zs
    ∙ ap (λ (l : List Entry). joined (map leak_of l) numbers_of) e ∙ ap (λ (l : List Leak). joined l numbers_of) (sym (leaks_are T))

-- ---- what is answered
module _ (T : Tables) (ns : List ℕ) where
  pub short_book : (b : Bool) → b ≡ unfit T.book → b ≡ true → lists (not_written 8) ns ≡ list_of T ns
  unfolding list_of
  short_book b e t = rw (sym e ∙ t)

  module _ (b : Bool) (fit : b ≡ unfit T.book) (whole : b ≡ false) (c : Bool) (shut : c ≡ closed_in T.book) where
    pub trace_open : c ≡ false → lists (not_written 4) ns ≡ list_of T ns
    unfolding list_of
    trace_open o = rw (sym fit ∙ whole, sym shut ∙ o)

    module _ (closed : c ≡ true) (a g : ℕ) (outstanding : a ≡ alive pins T.pins) (globals : g ≡ counted references (of_thread 0) T.references) where
      many : length (leaks_in T) ≡ a + g
      many = omega (arith, many_leaks T)

      into : list_into (leaks_in T) ns ≡ list_of T ns
      unfolding list_of
      into = rw (sym fit ∙ whole, sym shut ∙ closed)

      pub no_room : length ns / leak_numbers < a + g → lists (not_written 7) ns ≡ list_of T ns
      no_room h = few ∙ into
        where
          few : lists (not_written 7) ns ≡ list_into (leaks_in T) ns
          few = unfold list_into in rw (lt-ltb (length ns / leak_numbers) (length (leaks_in T)) (omega (arith, many)))

      -- at the front
      pub all_written : (vs : List ℕ) → a + g ≤ length ns / leak_numbers → vs ≡ joined (leaks_in T) numbers_of
          → lists (written (a + g)) (vs ++ drop ((a + g) * leak_numbers) ns) ≡ list_of T ns
      all_written vs h e = enough ∙ into
        where
          l : length vs ≡ (a + g) * leak_numbers
          l = omega (arith, ap length e, length_records (leaks_in T), many)

          left : vs ++ drop ((a + g) * leak_numbers) ns ≡ joined (leaks_in T) numbers_of ++ drop (length (joined (leaks_in T) numbers_of)) ns
          left = ap (λ (k : ℕ). vs ++ drop k ns) (sym l) ∙ ap (λ (x : List ℕ). x ++ drop (length x) ns) e

          enough : lists (written (a + g)) (vs ++ drop ((a + g) * leak_numbers) ns) ≡ list_into (leaks_in T) ns
          enough =
              unfold list_into in
              rw (le-ltb (length ns / leak_numbers) (length (leaks_in T)) (omega (arith, many)))
              (ap₂ lists (ap written (sym many)) left)

-- neither book nor classes are looked at for the leaks
pub by_rows : (R P : Table) (b b' cs cs' : List ℕ)
    → leaks_in (record { references = R; pins = P; book = b; classes = cs }) ≡ leaks_in (record { references = R; pins = P; book = b'; classes = cs' })
unfolding leaks_in
by_rows R P b b' cs cs' = refl
