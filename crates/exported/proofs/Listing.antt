-- What is told of the list of leaks. Assumes nothing.
use Prim.Native.Nat.{ℕ, ◌+◌, ◌/◌, ◌≤◌}
use mathlib.Core.Path.{◌≡◌, sym, ap, subst, ◌∙◌}
use mathlib.Core.Bool.{Bool, true, false, not}
use mathlib.Core.List.{List, ◌++◌}
use Rattle.std.specs.Prelude.{Result, Ok, Err}
use native.Mathlib.Omega.{arith}
use lib.Dec.{ltb}
use lib.IntN.{ℤ, pos}
use lib.ListN.{length, drop}
use mir.Syntax.{w32}
use mir.Val.{SFits, to_z}
use mir.ValLaws.{to_z_pos}
use borrow.Author.Rules.{sfits_of}
use Rattle.words.specs.Choice.{if_true◌then◌else◌}
use Rattle.words.specs.Lists.{joined}
use Rattle.rows.specs.Table.{most}
use Rattle.book.specs.Threads.{closed_in}
use Rattle.book.specs.Unfit.{unfit}
use Rattle.tables.specs.Tables.{Tables}
use Rattle.tables.specs.Listing.{leaks_in, leak_numbers, numbers_of, written, not_written, Listing, lists, list_into, list_of}
use Rattle.tables.proofs.Leaking.{leaks_within}
use Rattle.lines.specs.declared.refusal.Refusal.{Refusal}
use Rattle.leaks.specs.Reply.{reply_of}
use Rattle.exported.specs.Listed.{Few, tells_list, list_told, number_listed}

-- ---- the number told

module _ (l : Result ℕ Refusal) (n : ℕ) where
  pub count_fits : l ≡ Ok n → Few l → SFits w32 (pos n)
  count_fits e few = let h : n ≤ 2147483647 = subst Few e few in sfits_of (omega arith)

  pub count_listed : l ≡ Ok n → Few l → to_z w32 n ≡ number_listed l
  count_listed e few = to_z_pos w32 n (count_fits e few).sfits ∙ sym (ap number_listed e)

-- ---- how many there may be

written_as : (n k : ℕ) → written n ≡ written k → n ≡ k
written_as n k h = cc

not_both : (n k : ℕ) → not_written k ≡ written n → ⊥
not_both n k h = let z : ◌≡◌ {A = ℕ} 0 1 = cc in omega arith

written_few : (T : Tables) (ns : List ℕ) (n : ℕ) → (list_of T ns).reply ≡ written n → n ≤ most + most
unfolding list_of list_into
written_few T ns n = go (unfit T.book) (not (closed_in T.book)) (ltb (length ns / leak_numbers) (length (leaks_in T)))
  where
    go : (p q s : Bool)
        → (if_true p then lists (not_written 8) ns
        else if_true q then lists (not_written 4) ns
        else if_true s then lists (not_written 7) ns
        else lists (written (length (leaks_in T))) (joined (leaks_in T) numbers_of ++ drop (length (joined (leaks_in T) numbers_of)) ns)).reply
        ≡ written n
        → n ≤ most + most
    go true q s h = absurd (not_both n 8 h)
    go false true s h = absurd (not_both n 4 h)
    go false false true h = absurd (not_both n 7 h)
    go false false false h = omega (arith, written_as (length (leaks_in T)) n h, leaks_within T)

module _ (T : Tables) (ns : List ℕ) where
  pub few_listed : (r : Result ℕ Refusal) {ns' : List ℕ} → lists (reply_of r) ns' ≡ list_of T ns → Few r
  few_listed r {ns'} e = go r (ap (λ (l : Listing). l.reply) e)
    where
      go : (r : Result ℕ Refusal) → reply_of r ≡ (list_of T ns).reply → Few r
      go (Ok n) h = omega (arith, written_few T ns n (sym h))
      go (Err k) h = tt

  pub listing_told : (r : Result ℕ Refusal) {ns' : List ℕ} {n : ℤ} → lists (reply_of r) ns' ≡ list_of T ns → n ≡ number_listed r → tells_list n ns' ≡ list_told (list_of T ns)
  unfolding list_told
  listing_told r {ns'} {n} e h = ap (λ (m : ℤ). tells_list m ns') h ∙ ap list_told e
