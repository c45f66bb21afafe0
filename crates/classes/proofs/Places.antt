-- Places searched one after another by a test: laws of `first_from` and `first_around`. Assumes nothing.
use Prim.Native.Nat.{ℕ, zero, suc, ◌+◌, ◌-◌, ◌≤◌, ◌<◌}
use mathlib.Core.Path.{◌≡◌, refl, sym, ◌∙◌}
use mathlib.Core.Bool.{Bool, true, false, false≢true}
use native.Mathlib.Decide.{dec_lt}
use native.Mathlib.Omega.{arith}
use borrow.Author.Tests.{lt-ltb, le-ltb}
use Rattle.words.specs.Choice.{if_true◌then◌else◌}
use Rattle.classes.specs.Identities.{before as before_place, first_from, first_around}
use Rattle.std.specs.Prelude.{Option, None, Some, unwrap_or}
use lib.Dec.{ltb}

-- ---- a place before `to`, or none

module _ (i n to : ℕ) where
  pub seen_before : i < to → i ≡ n → Some i ≡ before_place to n
  seen_before l e = rw (← e, lt-ltb i to l) refl

  pub none_before : to ≤ i → i ≡ n → None ≡ before_place to n
  none_before l e = rw (← e, le-ltb i to l) refl

-- the first of two that is there, or the room
pub either_before : (r s : Option ℕ) (m n own room : ℕ) → r ≡ before_place room m → s ≡ before_place own n
    → unwrap_or r (unwrap_or s room) ≡ (if_true ltb m room then m else if_true ltb n own then n else room)
either_before r s m n own room e f = rw (e, f) (go (ltb m room) (ltb n own))
  where
    go : (p q : Bool) → unwrap_or (if_true p then Some m else None) (unwrap_or (if_true q then Some n else None) room) ≡ (if_true p then m else if_true q then n else room)
    go true q = refl
    go false true = refl
    go false false = refl

module _ (test : ℕ → Bool) where
  -- ---- a search that goes up: from place i to place `to`

  module _ (i to : ℕ) where
    pub search_hit : i < to → test i ≡ true → i ≡ first_from test i (to - i)
    unfolding first_from
    search_hit l y =
        let e : to - i ≡ suc (to - suc i) = omega arith in
        rw (e, y) refl

    pub search_on : i < to → test i ≡ false → first_from test (i + 1) (to - (i + 1)) ≡ first_from test i (to - i)
    unfolding first_from
    search_on l n =
        let e : to - i ≡ suc (to - (i + 1)) = omega arith in
        let s : i + 1 ≡ suc i = omega arith in
        rw (e, n, s) refl

    pub search_over : to ≤ i → i ≡ first_from test i (to - i)
    unfolding first_from
    search_over l =
        let e : to - i ≡ 0 = omega arith in
        rw e refl

  -- ---- what it found and what it passed

  pub found_passes : (i n : ℕ) → first_from test i n < i + n → test (first_from test i n) ≡ true
  unfolding first_from
  found_passes i zero l = absurd (omega arith)
  found_passes i (suc n) l = go (λ m. found_passes (suc i) n m) (test i) refl l
    where
      go : (first_from test (suc i) n < suc i + n → test (first_from test (suc i) n) ≡ true)
          → (b : Bool) → test i ≡ b
          → (if_true b then i else first_from test (suc i) n) < i + suc n
          → test (if_true b then i else first_from test (suc i) n) ≡ true
      go ih true e l = e
      go ih false e l = ih (omega arith)

  pub passed_fails : (i n k : ℕ) → i ≤ k → k < first_from test i n → test k ≡ false
  unfolding first_from
  passed_fails i zero k g l = absurd (omega arith)
  passed_fails i (suc n) k g l = go (λ m h. passed_fails (suc i) n k m h) (test i) refl (dec_lt i k) l
    where
      go : (suc i ≤ k → k < first_from test (suc i) n → test k ≡ false)
          → (b : Bool) → test i ≡ b → Dec (i < k)
          → k < (if_true b then i else first_from test (suc i) n)
          → test k ≡ false
      go ih true e d l = absurd (omega arith)
      go ih false e (yes m) l = ih m l
      go ih false e (no m) l =
          let s : k ≡ i = omega arith in
          rw s e

  -- ---- a search that goes round, from its own place

  module _ (room own behind : ℕ) (e : behind ≡ first_from test own (room - own)) where
    pub around_behind : behind < room → behind ≡ first_around test room own
    unfolding first_around
    around_behind l = rw (lt-ltb (first_from test own (room - own)) room (rw e at l)) e

    module _ (over : room ≤ behind) (before : ℕ) (f : before ≡ first_from test 0 own) where
      pub around_before : before < own → before ≡ first_around test room own
      unfolding first_around
      around_before l = rw (le-ltb (first_from test own (room - own)) room (rw e at over), lt-ltb (first_from test 0 own) own (rw f at l)) f

      pub around_none : own ≤ before → room ≡ first_around test room own
      unfolding first_around
      around_none l = rw (le-ltb (first_from test own (room - own)) room (rw e at over), le-ltb (first_from test 0 own) own (rw f at l)) refl

  -- how it ended, with this place
  data Ended (room own : ℕ) : ℕ → Type 0 where
    behind : first_from test own (room - own) < room → Ended room own (first_from test own (room - own))
    before : room ≤ first_from test own (room - own) → first_from test 0 own < own → Ended room own (first_from test 0 own)
    nowhere : room ≤ first_from test own (room - own) → own ≤ first_from test 0 own → Ended room own room

  ended : (room own : ℕ) → Ended room own (first_around test room own)
  ended room own = go (dec_lt (first_from test own (room - own)) room) (dec_lt (first_from test 0 own) own)
    where
      go : Dec (first_from test own (room - own) < room) → Dec (first_from test 0 own < own) → Ended room own (first_around test room own)
      go (yes l) d = rw (← around_behind room own (first_from test own (room - own)) refl l) (behind l)
      go (no l) (yes m) = rw (← around_before room own (first_from test own (room - own)) refl (omega arith) (first_from test 0 own) refl m) (before (omega arith) m)
      go (no l) (no m) =
          rw (← around_none room own (first_from test own (room - own)) refl (omega arith) (first_from test 0 own) refl (omega arith)) (nowhere (omega arith) (omega arith))

  module _ (room own : ℕ) (within : own ≤ room) where
    pub around_le : first_around test room own ≤ room
    around_le = go (ended room own)
      where
        go : {r : ℕ} → Ended room own r → r ≤ room
        go (behind l) = omega arith
        go (before o l) = omega arith
        go (nowhere o n) = omega arith

    pub around_passes : first_around test room own < room → test (first_around test room own) ≡ true
    around_passes = go (ended room own)
      where
        go : {r : ℕ} → Ended room own r → r < room → test r ≡ true
        go (behind l) m = found_passes own (room - own) (omega arith)
        go (before o l) m = found_passes 0 own (omega arith)
        go (nowhere o n) m = absurd (omega arith)

    pub around_fails : room ≤ first_around test room own → (k : ℕ) → k < room → test k ≡ false
    around_fails = go (ended room own)
      where
        each : room ≤ first_from test own (room - own) → own ≤ first_from test 0 own → (k : ℕ) → k < room → Dec (k < own) → test k ≡ false
        each o n k l (yes m) = passed_fails 0 own k (omega arith) (omega arith)
        each o n k l (no m) = passed_fails own (room - own) k (omega arith) (omega arith)

        go : {r : ℕ} → Ended room own r → room ≤ r → (k : ℕ) → k < room → test k ≡ false
        go (behind l) m k h = absurd (omega arith)
        go (before o l) m k h = absurd (omega arith)
        go (nowhere o n) m k h = each o n k h (dec_lt k own)

-- ---- a test that fewer places pass: where the place found passes it, that one is found again

module _ (p q : ℕ → Bool) (fewer : (k : ℕ) → q k ≡ true → p k ≡ true) where
  fails_too : (k : ℕ) → p k ≡ false → q k ≡ false
  fails_too k e = go (q k) refl
    where
      go : (b : Bool) → q k ≡ b → b ≡ false
      go true y = absurd (false≢true (sym e ∙ fewer k y))
      go false n = refl

  found_again : (i n : ℕ) → (first_from p i n < i + n → q (first_from p i n) ≡ true) → first_from p i n ≡ first_from q i n
  unfolding first_from
  found_again i zero h = refl
  found_again i (suc n) h = go (λ m. found_again (suc i) n m) (p i) refl h
    where
      go : ((first_from p (suc i) n < suc i + n → q (first_from p (suc i) n) ≡ true) → first_from p (suc i) n ≡ first_from q (suc i) n)
          → (b : Bool) → p i ≡ b
          → ((if_true b then i else first_from p (suc i) n) < i + suc n → q (if_true b then i else first_from p (suc i) n) ≡ true)
          → (if_true b then i else first_from p (suc i) n) ≡ (if_true q i then i else first_from q (suc i) n)
      go ih true e h = rw (h (omega arith)) refl
      go ih false e h = rw (fails_too i e) (ih (λ l. h (omega arith)))

  pub around_again : (room own : ℕ) → own ≤ room
      → (first_around p room own < room → q (first_around p room own) ≡ true)
      → first_around q room own ≡ first_around p room own
  around_again room own w h = sym (go (ended p room own) h)
    where
      missed : room ≤ first_from p own (room - own) → first_from p own (room - own) ≡ first_from q own (room - own)
      missed o = found_again own (room - own) (λ l. absurd (omega arith))

      go : {r : ℕ} → Ended p room own r → (r < room → q r ≡ true) → r ≡ first_around q room own
      go (behind l) h = around_behind q room own (first_from p own (room - own)) (found_again own (room - own) (λ _. h l)) l
      go (before o l) h =
          around_before q room own (first_from p own (room - own)) (missed o) o (first_from p 0 own) (found_again 0 own (λ _. h (omega arith))) l
      go (nowhere o n) h =
          around_none q room own (first_from p own (room - own)) (missed o) o (first_from p 0 own) (found_again 0 own (λ l. absurd (omega arith))) n

-- the same places pass
pub around_same : (p q : ℕ → Bool) → ((k : ℕ) → q k ≡ p k) → (room own : ℕ) → own ≤ room → first_around q room own ≡ first_around p room own
around_same p q same room own w =
    around_again p q (λ k y. sym (same k) ∙ y) room own w (λ l. same (first_around p room own) ∙ around_passes p room own w l)
