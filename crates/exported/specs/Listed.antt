-- What C and Rust are told of the leaks: a number, and the numbers of the slice that are left. Assumes nothing.
use Rattle.std.specs.Prelude.{ℕ, ◌≤◌, List, ℤ, pos, neg_ℤ, Result, IfOk}
use Rattle.numbers.specs.Signed.{largest_i32}
use Rattle.tables.specs.Listing.{Listed as Reply, written, not_written, Listing}
use Rattle.lines.specs.declared.refusal.Refusal.{Refusal}
use Rattle.leaks.specs.Reply.{reply_of}

pub record ToldList : Type 0 where
  pub number : ℤ
  pub left : List ℕ

abbrev pub tells_list : ℤ → List ℕ → ToldList
tells_list n ns = record { number = n; left = ns }

-- how many records were written, or below zero the number given instead
abbrev pub reply_number : Reply → ℤ
reply_number (written n) = pos n
reply_number (not_written k) = neg_ℤ (pos k)

unfoldable pub list_told : Listing → ToldList
list_told l = tells_list (reply_number l.reply) l.left

-- ---- on the way there

abbrev pub number_listed : Result ℕ Refusal → ℤ
number_listed l = reply_number (reply_of l)

-- a number that can be told
abbrev pub Few : Result ℕ Refusal → Type 0
Few l = IfOk l (λ n. n ≤ largest_i32)
