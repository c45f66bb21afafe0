-- The last line and the leaks printed, and the output whole. Assumes nothing.
use Prim.Native.Nat.{ℕ, ◌+◌, ◌*◌, ◌-◌, ◌≤◌, ◌<◌}
use mathlib.Core.Path.{◌≡◌, refl, sym, ap, ap₂, subst, ◌∙◌}
use mathlib.Core.Bool.{Bool, true, false, ◌||◌, false≢true}
use mathlib.Core.List.{List, [], ◌++◌}
use native.Mathlib.Omega.{arith}
use lib.ListN.{length, take, drop, length-append, length-drop}
use lib.Seq.{take_at, drop_at, drop-drop}
use Rattle.std.specs.Prelude.{min}
use Rattle.numbers.specs.Writing.{put}
use Rattle.report.specs.Shown.{longest_leak}
use Rattle.program.specs.declared.streams.Streams.{Streams}
use Rattle.tables.specs.Tables.{Tables, tables}
use Rattle.tables.specs.Listing.{leak_numbers, leaks_in, list_of}
use Rattle.program.specs.Progress.{buffer_size, most_leaks, Few}
use Rattle.program.specs.Printing.{output, Newest, Due, Whole, Reported, HasPrinted}
use Rattle.program.specs.Listing.{listing_of, records_in, Lists, shown_from}
use Rattle.program.specs.Running.{Left, Good, RecordsLeft, LeaksLeft}
use Rattle.program.proofs.Records.{shown_none, shown_pieces}

-- ---- bytes at the front of a buffer are printed

module _ {out' : List ℕ} {n : ℕ} (out bytes : List ℕ) (size : n ≡ length bytes) (is : out' ≡ put out 0 bytes) where
  front : take n out' ≡ bytes
  front = ap₂ take size is ∙ take_at bytes (drop (0 + length bytes) out) (length bytes) refl

  pub printable : {moved : ℕ} (s : Streams) → Newest s moved → Due s bytes → Few s n → Newest s moved × (n ≤ length out') × Due s (take n out') × Few s n
  printable s newest due few =
      (newest, omega (arith, size, ap length is ∙ length-append bytes (drop (0 + length bytes) out)), subst (Due s) (sym front) due, few)

-- ---- of what is left

module _ {bytes : List ℕ} (s : Streams) (xs ys : List ℕ) (left : Left s bytes) (parts : bytes ≡ xs ++ ys) where
  next_due : Due s xs
  unfolding Left Due
  next_due =
      record {
        input = left.input;
        read = left.read;
        says = λ more behind. ap (take (length xs)) ((left.says more behind).0 ∙ parts) ∙ take_at xs ys (length xs) refl;
      }

  then_left : {q : Streams} → HasPrinted s (length xs) q → Left q ys
  unfolding Left
  then_left h =
      subst (λ (x : Streams). Left x ys) (sym h.after)
      (record {
        input = left.input;
        read = left.read;
        says = λ more behind.
            let there = left.says more behind in
            let out = output s.leaks (left.input ++ more) in
            let rest : drop s.printed out ≡ xs ++ ys = there.0 ∙ parts in (
              sym (drop-drop (length xs) s.printed out) ∙ ap (drop (length xs)) rest ∙ drop_at xs ys (length xs) refl,
              omega (arith, ap length rest, length-append xs ys, length-drop s.printed out, there.1),
            );
      })

none_left : (s : Streams) → Left s [] → Whole s
unfolding Left Whole
none_left s left =
    record {
      input = left.input;
      read = left.read;
      says = λ more behind.
          let there = left.says more behind in
          omega (arith, ap length there.0, there.1, length-drop s.printed (output s.leaks (left.input ++ more)));
    }

-- ---- the records, a piece after the other

-- the list looks at no classes
pub whatever_classes : (s : Streams) (rs ms ps ns b cs ds : List ℕ) → LeaksLeft s (tables rs ms ps ns b cs) → LeaksLeft s (tables rs ms ps ns b ds)
unfolding LeaksLeft listing_of list_of leaks_in
whatever_classes s rs ms ps ns b cs ds h = h

pub listed_left : {asked : Bool} {ns' : List ℕ} {n : ℕ} (s : Streams) (T : Tables) (ns : List ℕ) → asked ≡ s.leaks → Lists asked T ns n ns' → length ns ≡ most_leaks * leak_numbers
    → LeaksLeft s T → Good s → RecordsLeft s ns' 0 n
unfolding LeaksLeft
listed_left {asked} {ns'} {n} s T ns e l size left good =
    let here = left ns size good in
    subst (λ (k : ℕ). RecordsLeft s ns' 0 k) (sym (l.count ∙ ap (λ (b : Bool). records_in (listing_of b T ns).reply) e))
    (subst (λ (m : List ℕ). RecordsLeft s m 0 (records_in (listing_of s.leaks T ns).reply)) (sym (l.left ∙ ap (λ (b : Bool). (listing_of b T ns).left) e)) here)

-- as many are left where a piece begins
pub left_from : (s : Streams) (ns : List ℕ) (from count : ℕ) → from < count → RecordsLeft s ns (min from count) (count - min from count) → RecordsLeft s ns from (count - from)
left_from s ns from count h = let here : min from count ≡ from = omega arith in subst (λ (d : ℕ). RecordsLeft s ns d (count - d)) here

pub good : {b : Bool} (s : Streams) → b ≡ s.unreadable || s.unwritable → b ≡ false → Good s
good s e f = go s.unreadable s.unwritable refl refl (sym e ∙ f)
  where
    go : (x y : Bool) → s.unreadable ≡ x → s.unwritable ≡ y → x || y ≡ false → Good s
    go true y ex ey h = absurd (false≢true (sym h))
    go false true ex ey h = absurd (false≢true (sym h))
    go false false ex ey h = (ex, ey)

module _ {s : Streams} {ns : List ℕ} {from to count n : ℕ} (here : RecordsLeft s ns from (count - from))
    (piece : (from < to) × (to ≤ count) × (longest_leak * (to - from) ≤ buffer_size)) (size : n ≡ length (shown_from ns from (to - from))) (short : n ≤ longest_leak * (to - from)) where
  parts : shown_from ns from (count - from) ≡ shown_from ns from (to - from) ++ shown_from ns to (count - to)
  parts = shown_pieces ns from to count (omega (arith, piece.0)) piece.1

  pub piece_due : Due s (shown_from ns from (to - from))
  piece_due = next_due s (shown_from ns from (to - from)) (shown_from ns to (count - to)) here.left parts

  pub piece_few : Few s n
  piece_few = record { read = here.few.read; printed = omega (arith, here.few.printed, short, piece.1, piece.0) }

  pub rest_left : {q : Streams} → HasPrinted s n q → RecordsLeft q ns to (count - to)
  rest_left {q} h =
      record {
        within = omega (arith, here.within, piece.0, piece.1);
        few = record {
          read = omega (arith, ap (λ (x : Streams). x.read) h.after, here.few.read);
          printed = omega (arith, ap (λ (x : Streams). x.printed) h.after, here.few.printed, short, piece.1, piece.0);
        };
        left = then_left s (shown_from ns from (to - from)) (shown_from ns to (count - to)) here.left parts (subst (λ (k : ℕ). HasPrinted s k q) size h);
      }

pub all_printed : {s : Streams} {ns : List ℕ} {done count : ℕ} → count ≤ done → (Good s → RecordsLeft s ns done (count - done)) → Reported s
unfolding Reported
all_printed {s} {ns} {done} {count} h here = λ r w. none_left s (subst (Left s) (shown_none ns done count h) (here (r, w)).left)

pub failed_reported : {b : Bool} (s : Streams) → b ≡ s.unreadable || s.unwritable → b ≡ true → Reported s
unfolding Reported
failed_reported s e t = λ r w. absurd (false≢true (sym (ap₂ ◌||◌ r w) ∙ sym e ∙ t))
