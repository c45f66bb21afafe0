-- How many handles alive, and how many buffers outstanding, pass a test after a line. Assumes nothing.
use Prim.Native.Nat.{ℕ, zero, suc, ◌+◌}
use mathlib.Core.Path.{◌≡◌, refl, ap, ◌∙◌, fun_ext}
use mathlib.Core.Bool.{Bool, true, false, not, ◌&&◌}
use mathlib.Core.List.{List, [], ◌∷◌, Memᴰ}
use native.Mathlib.Omega.{arith}
use lib.Dec.{ltb}
use lib.IntN.{ℤ}
use Rattle.words.specs.Choice.{one}
use Rattle.words.specs.Lists.{count, keep, but_first}
use Rattle.facts.specs.Table.{fact_of}
use Rattle.facts.specs.Results.{is_buffer_place}
use Rattle.lines.specs.Line.{Line, Statement, C, Z, states}
use Rattle.history.specs.Past.{History, thread_of, is_of}
use Rattle.history.specs.Frames.{depth}
use Rattle.history.specs.Handles.{Alive, local, shared, makes, deletes, ends, living}
use Rattle.history.specs.Buffers.{Pin, pin, same_pin, gets, releases, outstanding}
use Rattle.history.proofs.Tests.{true_not_false}
use Rattle.history.proofs.Counts.{count_append, count_keep, count_but_first, keep_all, some_member}
use Rattle.history.proofs.Threads.{other_depth}
use Rattle.history.proofs.Living.{frame_stands}
use Rattle.history.proofs.Buffers.{same_pin_is}

none_first : {A : Type 0} (l : List A) → but_first (λ (x : A). false) l ≡ l
none_first [] = refl
none_first {A} (x ∷ l) = ap (λ (m : List A). x ∷ m) (none_first l)

-- those made, and those of before that did not end
pub living_after : (test : Alive → Bool) (e : Line) (past : History)
    → count test (living (e ∷ past)) ≡ count test (makes e (depth (thread_of e) past)) + count (λ x. not (ends e past x) && test x) (living past)
unfolding living
living_after test e past =
    omega (
      arith,
      count_append test (makes e (depth (thread_of e) past)) (keep (λ (x : Alive). not (ends e past x)) (living past)),
      count_keep test (λ (x : Alive). not (ends e past x)) (living past),
    )

-- those got, and those of before without the first that is released
pub outstanding_after : (test : Pin → Bool) (e : Line) (past : History)
    → count test (outstanding (e ∷ past)) ≡ count test (gets e) + count test (but_first (releases e) (outstanding past))
unfolding outstanding
outstanding_after test e past = count_append test (gets e) (but_first (releases e) (outstanding past))

-- ---- a C that releases, and one that does not

module _ (t env f a b c : ℕ) (n : ℤ) where
  pub releasing : (q : Bool) → is_buffer_place (fact_of f).b ≡ q → releases (C t env f a b c n) ≡ (λ x. q && same_pin (pin t f b) x)
  unfolding releases
  releasing q is = fun_ext λ x. ap (λ (u : Bool). u && same_pin (pin t f b) x) is

  -- a release takes the buffer that it names, if that is outstanding
  pub released_after : (test : Pin → Bool) (l : List Pin) → is_buffer_place (fact_of f).b ≡ true
      → count test (but_first (releases (C t env f a b c n)) l) + one (ltb 0 (count (same_pin (pin t f b)) l) && test (pin t f b)) ≡ count test l
  released_after test l is = rw (releasing true is) (count_but_first test (same_pin (pin t f b)) (test (pin t f b)) (λ x h. ap test (same_pin_is (pin t f b) x h)) l)

  -- another C takes nothing
  pub nothing_released : (l : List Pin) → is_buffer_place (fact_of f).b ≡ false → but_first (releases (C t env f a b c n)) l ≡ l
  nothing_released l is = rw (releasing false is) (none_first l)

-- ---- a line of no thread, that makes and deletes nothing

module _ (e : Line) (apart : (t : ℕ) → is_of t e ≡ false) (kept : (x : Alive) → deletes e x ≡ false) (past : History) where
  not_ended : (x : Alive) → Memᴰ x (living past) → ends e past x ≡ false
  unfolding ends
  not_ended (local t d h) m = rw (kept (local t d h)) (ap (λ (n : ℕ). ltb n d) (other_depth t e past (apart t)) ∙ frame_stands past (local t d h) m)
  not_ended (shared h) m = rw (kept (shared h))

  none_ended : count (ends e past) (living past) ≡ 0
  none_ended = go (count (ends e past) (living past)) refl
    where
      go : (n : ℕ) → count (ends e past) (living past) ≡ n → count (ends e past) (living past) ≡ 0
      go zero e = e
      go (suc n) is =
          let (x, m, h) = some_member (ends e past) (living past) (omega (arith, is)) in
          true_not_false (ends e past x) h (not_ended x m)

  same_living : makes e (depth (thread_of e) past) ≡ [] → living (e ∷ past) ≡ living past
  unfolding living
  same_living nothing = rw nothing (keep_all (ends e past) (living past) none_ended)

pub end_living : (past : History) → living (Z ∷ past) ≡ living past
unfolding makes deletes
end_living past = same_living Z (λ t. refl) (λ x. refl) past refl

pub end_outstanding : (past : History) → outstanding (Z ∷ past) ≡ outstanding past
unfolding outstanding gets releases
end_outstanding past = none_first (outstanding past)

pub stated_living : (s : Statement) (past : History) → living (states s ∷ past) ≡ living past
unfolding makes deletes
stated_living s past = same_living (states s) (λ t. refl) (λ x. refl) past refl

pub stated_outstanding : (s : Statement) (past : History) → outstanding (states s ∷ past) ≡ outstanding past
unfolding outstanding gets releases
stated_outstanding s past = none_first (outstanding past)
