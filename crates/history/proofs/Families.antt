-- The table and the families agree: a buffer is a result of the gets and a place of the releases, and of no other function. Assumes nothing.
use Prim.Native.Nat.{ℕ}
use mathlib.Core.Path.{◌≡◌, refl}
use mathlib.Core.Bool.{Bool, true, false, not, ◌&&◌, beq, false≢true}
use mathlib.Core.List.{Memᴰ}
use native.Mathlib.Omega.{arith}
use lib.Dec.{eqb, leb}
use borrow.Author.Tests.{eqb-true, leb-true}
use Rattle.words.specs.Lists.{any}
use Rattle.facts.specs.Table.{Pair, ◌released_by◌, table, fact_of, is_function, families, family, is_critical}
use Rattle.facts.specs.Results.{is_buffer_result, is_buffer_place}
use Rattle.history.specs.Buffers.{critical, pin}
use Rattle.history.specs.Families.{is_get, is_release}
use Rattle.history.proofs.Tests.{and_left, and_right}
use Rattle.history.proofs.Counts.{all_pass}
use Rattle.history.proofs.Order.{from, in_from}

agrees : ℕ → Bool
agrees f = beq (is_buffer_result (fact_of f).result) (any (is_get f) families) && beq (is_buffer_place (fact_of f).b) (any (is_release f) families)

-- one computed test over the whole table
all_agree : any (λ f. not (agrees f)) (from 4 229) ≡ false
unfolding agrees fact_of table
all_agree = refl

beq_is : (a b : Bool) → beq a b ≡ true → a ≡ b
beq_is true true h = refl
beq_is true false h = absurd (false≢true h)
beq_is false true h = absurd (false≢true h)
beq_is false false h = refl

-- get and release are those of the families
pub families_agree : (f : ℕ) → is_function f ≡ true
    → (is_buffer_result (fact_of f).result ≡ any (is_get f) families) × (is_buffer_place (fact_of f).b ≡ any (is_release f) families)
unfolding agrees
families_agree f h =
    let low = leb-true 4 f (and_left (leb 4 f) (leb f 232) h) in
    let high = leb-true f 232 (and_right (leb 4 f) (leb f 232) h) in
    let k = all_pass agrees (from 4 229) f all_agree (in_from 229 4 f low (omega arith)) in
    let gets : Bool = beq (is_buffer_result (fact_of f).result) (any (is_get f) families) in
    let releases : Bool = beq (is_buffer_place (fact_of f).b) (any (is_release f) families) in (
      beq_is (is_buffer_result (fact_of f).result) (any (is_get f) families) (and_left gets releases k),
      beq_is (is_buffer_place (fact_of f).b) (any (is_release f) families) (and_right gets releases k),
    )

one_family : Pair → Bool
one_family (get released_by release) = eqb (family get) (family release)

all_paired : any (λ x. not (one_family x)) families ≡ false
unfolding one_family family
all_paired = refl

-- a get and its release are of one family
pub paired : (get release : ℕ) → Memᴰ (get released_by release) families → family get ≡ family release
unfolding one_family
paired get release m = eqb-true _ _ (all_pass one_family families (get released_by release) all_paired m)

-- an ordinary buffer belongs to no thread
pub of_no_thread : (t s f b : ℕ) → is_critical (family f) ≡ false → pin t f b ≡ pin s f b
unfolding pin
of_no_thread t s f b h = rw h

-- a critical one to the getting thread
pub of_its_thread : (t f b : ℕ) → is_critical (family f) ≡ true → pin t f b ≡ critical t (family f) b
unfolding pin
of_its_thread t f b h = rw h
