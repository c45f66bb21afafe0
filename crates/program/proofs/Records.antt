-- The records that are listed are the leaks of the history, and what is printed of them. Assumes nothing.
use Prim.Native.Nat.{ℕ, zero, suc, ◌+◌, ◌*◌, ◌/◌, ◌-◌, ◌≤◌, ◌<◌}
use mathlib.Core.Path.{◌≡◌, refl, sym, ap, ap₂, subst, ◌∙◌}
use mathlib.Core.Bool.{Bool, true, false, not}
use mathlib.Core.List.{List, [], ◌∷◌, ◌++◌, append_assoc}
use native.Mathlib.Nat.{add-zero, suc-add}
use native.Mathlib.Numerals.{add-one}
use native.Mathlib.Omega.{arith}
use borrow.Author.Tests.{le-ltb}
use lib.ListN.{length, get_or, drop}
use Rattle.words.specs.Choice.{if_true◌then◌else◌}
use Rattle.words.specs.Lists.{joined}
use Rattle.history.specs.Past.{History, closed}
use Rattle.history.specs.Leaks.{Leak, shown_leak}
use Rattle.history.specs.Accepted.{Accepted}
use Rattle.history.specs.Runs.{program_room}
use Rattle.report.specs.Shown.{leak}
use Rattle.report.proofs.Parts.{Parts}
use Rattle.tables.specs.Tables.{Tables}
use Rattle.tables.specs.Listing.{leak_numbers, numbers_of, Listing, lists, not_written, list_into, list_of}
use Rattle.leaks.specs.Reply.{reply_of}
use Rattle.std.specs.Prelude.{Result}
use Rattle.lines.specs.declared.refusal.Refusal.{Refusal}
use Rattle.demands.specs.Tied.{AllTied}
use Rattle.demands.specs.Leaks.{leaks, list_after, shown_leaks}
use Rattle.demands.proofs.Listed.{list_tied, leaks_fit}
use Rattle.program.specs.Progress.{most_leaks}
use Rattle.program.specs.Listing.{listing_of, records_in, Lists, leak_at, leaks_from, shown_from}

-- ---- one piece of the records after the other

module _ (ns : List ℕ) where
  pub shown_next : (i to : ℕ) → i < to → Parts (shown_from ns i (to - i)) (shown_leak (leak_at ns i)) (shown_from ns (i + 1) (to - (i + 1)))
  unfolding shown_from
  shown_next i to h =
      let size : to - i ≡ suc (to - (i + 1)) = omega arith in
      record { whole = ap (λ (n : ℕ). joined (leaks_from ns i n) shown_leak) size ∙ ap (λ (k : ℕ). shown_leak (leak_at ns i) ++ joined (leaks_from ns k (to - (i + 1))) shown_leak) (sym (add-one i)) }

  pub shown_none : (i to : ℕ) → to ≤ i → shown_from ns i (to - i) ≡ []
  unfolding shown_from
  shown_none i to h = let none : to - i ≡ 0 = omega arith in ap (λ (n : ℕ). joined (leaks_from ns i n) shown_leak) none

  shown_add : (m i n : ℕ) → shown_from ns i (m + n) ≡ shown_from ns i m ++ shown_from ns (i + m) n
  unfolding shown_from
  shown_add zero i n = let all : 0 + n ≡ n = omega arith in ap (shown_from ns i) all ∙ ap (λ (k : ℕ). shown_from ns k n) (sym (add-zero i))
  shown_add (suc m) i n =
      let there : suc i + m ≡ i + suc m = omega arith in
      ap (shown_from ns i) (suc-add m n)
      ∙ ap (λ (bs : List ℕ). shown_leak (leak_at ns i) ++ bs) (shown_add m (suc i) n ∙ ap (λ (k : ℕ). shown_from ns (suc i) m ++ shown_from ns k n) there)
      ∙ sym (append_assoc (shown_leak (leak_at ns i)) (shown_from ns (suc i) m) (shown_from ns (i + suc m) n))

  pub shown_pieces : (from to n : ℕ) → from ≤ to → to ≤ n → shown_from ns from (n - from) ≡ shown_from ns from (to - from) ++ shown_from ns to (n - to)
  shown_pieces from to n h k =
      let size : n - from ≡ (to - from) + (n - to) = omega arith in
      let there : from + (to - from) ≡ to = omega arith in
      ap (shown_from ns from) size ∙ shown_add (to - from) from (n - to) ∙ ap (λ (i : ℕ). shown_from ns from (to - from) ++ shown_from ns i (n - to)) there

-- ---- the records written are the leaks

module _ (a b c d : ℕ) (ns : List ℕ) where
  one_on : (i : ℕ) → leak_at (a ∷ b ∷ c ∷ d ∷ ns) (suc i) ≡ leak_at ns i
  one_on i =
      let at : ℕ → ℕ = λ k. get_or (a ∷ b ∷ c ∷ d ∷ ns) k 0 in
      let first : suc i * leak_numbers ≡ suc (suc (suc (suc (i * leak_numbers)))) = omega arith in
      let second : suc i * leak_numbers + 1 ≡ suc (suc (suc (suc (i * leak_numbers + 1)))) = omega arith in
      let third : suc i * leak_numbers + 2 ≡ suc (suc (suc (suc (i * leak_numbers + 2)))) = omega arith in
      let fourth : suc i * leak_numbers + 3 ≡ suc (suc (suc (suc (i * leak_numbers + 3)))) = omega arith in
      λ j. leak (at (first j)) (at (second j)) (at (third j)) (at (fourth j))

  all_on : (i n : ℕ) → leaks_from (a ∷ b ∷ c ∷ d ∷ ns) (suc i) n ≡ leaks_from ns i n
  all_on i zero = refl
  all_on i (suc n) = ap₂ (λ (x : Leak) (xs : List Leak). x ∷ xs) (one_on i) (all_on (suc i) n)

read_back : (xs : List Leak) (rest : List ℕ) → leaks_from (joined xs numbers_of ++ rest) 0 (length xs) ≡ xs
read_back [] rest = refl
read_back (x ∷ xs) rest =
    ap (λ (ys : List Leak). x ∷ ys) (all_on x.rule x.thread x.value x.line (joined xs numbers_of ++ rest) 0 (length xs) ∙ read_back xs rest)

-- ---- the list, as the code has it

module _ {asked : Bool} (T : Tables) (ns : List ℕ) where
  pub none_asked : asked ≡ false → Lists asked T ns 0 ns
  unfolding listing_of
  none_asked is = rw is (record { count = refl; left = refl })

  pub replied : {ns' : List ℕ} {n : ℕ} (r : Result ℕ Refusal) → asked ≡ true → lists (reply_of r) ns' ≡ list_of T ns → n ≡ records_in (reply_of r) → Lists asked T ns n ns'
  unfolding listing_of
  replied r is e count = rw is (record { count = count ∙ ap (λ (l : Listing). records_in l.reply) e; left = ap (λ (l : Listing). l.left) e })

-- ---- the list is that of the history

-- these bytes are printed of it
pub record Has (l : Listing) (bytes : List ℕ) : Type 0 where
  pub few : records_in l.reply ≤ most_leaks
  pub shown : shown_from l.left 0 (records_in l.reply) ≡ bytes

listed_so : (is_closed : Bool) (xs : List Leak) (ns : List ℕ) → length xs ≤ most_leaks → length ns ≡ most_leaks * leak_numbers
    → Has (if_true not is_closed then lists (not_written 4) ns else list_into xs ns) (if_true is_closed then joined xs shown_leak else [])
unfolding shown_from list_into
listed_so false xs ns few size = record { few = omega arith; shown = refl }
listed_so true xs ns few size =
    let fits : length xs ≤ length ns / leak_numbers = omega (arith, few, ap (λ (n : ℕ). n / leak_numbers) size) in
    rw (le-ltb (length ns / leak_numbers) (length xs) fits)
    (record { few = few; shown = ap (λ (ys : List Leak). joined ys shown_leak) (read_back xs (drop (length (joined xs numbers_of)) ns)) })

-- what is printed behind the report after these lines
abbrev pub leaks_shown : Bool → History → List ℕ
leaks_shown true past = shown_leaks past
leaks_shown false past = []

pub listed : (asked : Bool) (T : Tables) (past : History) → AllTied program_room T past → Accepted program_room past → (ns : List ℕ) → length ns ≡ most_leaks * leak_numbers
    → Has (listing_of asked T ns) (leaks_shown asked past)
unfolding listing_of list_after shown_leaks shown_from
listed false T past tied so_far ns size = record { few = omega arith; shown = refl }
listed true T past tied so_far ns size =
    subst (λ (l : Listing). Has l (shown_leaks past)) (sym (list_tied program_room T past tied so_far ns))
    (listed_so (closed past) (leaks past) ns (omega (arith, leaks_fit program_room past so_far)) size)
