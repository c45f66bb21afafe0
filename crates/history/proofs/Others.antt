-- The lines of other threads change nothing of a thread. Assumes nothing.
use Prim.Native.Nat.{ℕ}
use mathlib.Core.Path.{◌≡◌, refl, ap, ◌∙◌}
use mathlib.Core.Bool.{Bool, true, false, not, ◌&&◌, and-false}
use mathlib.Core.List.{[], ◌∷◌, Memᴰ}
use native.Mathlib.Omega.{arith}
use lib.Dec.{eqb}
use borrow.Author.Tests.{eqb-false, ne_eqb}
use Rattle.words.specs.Choice.{if_true◌then◌else◌}
use Rattle.words.specs.Lists.{count, but_first}
use Rattle.facts.specs.Table.{fact_of, family, is_critical}
use Rattle.facts.specs.Results.{is_buffer_result, is_buffer_place}
use Rattle.lines.specs.Line.{Line, N, X, C, R, A, D, Z, states, above_zero}
use Rattle.history.specs.Past.{History, is_of}
use Rattle.history.specs.Handles.{Alive, local, shared, living}
use Rattle.history.specs.Buffers.{Pin, ordinary, critical, pin, same_pin, gets, releases, outstanding}
use Rattle.history.specs.Lives.{Makes, argument, local_result, global_result, weak_result, Ends, deletes_local, deletes_global, deletes_weak, pops, leaves, detaches, Lives}
use Rattle.history.specs.Same.{SameFor}
use Rattle.history.proofs.Tests.{eqb_self, never_true, true_not_false}
use Rattle.history.proofs.Counts.{count_append}
use Rattle.history.proofs.Threads.{other_items, other_frames, other_capacities, other_pending, other_monitors, other_env_of}
use Rattle.history.proofs.Living.{unless_made, lives_on, living_are}
use Rattle.history.proofs.Buffers.{after_release, same_pin_is, same_pin_self}

-- the locals that a line makes or ends are of its thread
abbrev Own : Line → Alive → Type 0
Own e (local t d h) = is_of t e ≡ true
Own e (shared h) = Unit {0}

made_by_own : (e : Line) (past : History) (x : Alive) → Makes past e x → Own e x
made_by_own _ past _ (argument t env h hs i) = eqb_self t
made_by_own _ past _ (local_result t f h p is nz) = eqb_self t
made_by_own _ past _ (global_result t f h p is nz) = tt
made_by_own _ past _ (weak_result t f h p is nz) = tt

ends_own : (e : Line) (past : History) (x : Alive) → Ends past e x → Own e x
ends_own _ past _ (deletes_local t env a b c d n k) = eqb_self t
ends_own _ past _ (deletes_global t env a b c n k) = tt
ends_own _ past _ (deletes_weak t env a b c n k) = tt
ends_own _ past _ (pops t env a b c h n below is) = eqb_self t
ends_own _ past _ (leaves t r d h k) = eqb_self t
ends_own _ past _ (detaches t d h l) = eqb_self t

-- a local was alive before the line of another thread
pub alive_beside : (t d h : ℕ) (e : Line) (past : History) → is_of t e ≡ false → Memᴰ (local t d h) (living (e ∷ past)) → Memᴰ (local t d h) (living past)
alive_beside t d h e past o = unless_made e past (local t d h) (λ m. true_not_false _ (made_by_own e past (local t d h) m) o)

-- a buffer of one thread is none of another's
not_same : (t s f k b v : ℕ) → (t ≡ s → ⊥) → same_pin (critical t k b) (pin s f v) ≡ false
unfolding pin
not_same t s f k b v d = go (is_critical (family f))
  where
    go : (q : Bool) → same_pin (critical t k b) (if_true q then critical s (family f) v else ordinary (family f) v) ≡ false
    go true = rw (ne_eqb t s d)
    go false = refl

not_that : (t s f k b v : ℕ) → (t ≡ s → ⊥) → same_pin (pin s f v) (critical t k b) ≡ false
not_that t s f k b v d =
    never_true (same_pin (pin s f v) (critical t k b)) (λ h.
    true_not_false _ (ap (λ (x : Pin). same_pin x (pin s f v)) (same_pin_is (pin s f v) (critical t k b) h) ∙ same_pin_self (pin s f v)) (not_same t s f k b v d))

still_lives : (t d h : ℕ) (e : Line) (past : History) → is_of t e ≡ false → Lives (local t d h) past → Lives (local t d h) (e ∷ past)
still_lives t d h e past o k = lives_on e past (local t d h) (λ x. true_not_false _ (ends_own e past (local t d h) x) o) k

gets_none : (t k b : ℕ) (e : Line) → is_of t e ≡ false → count (same_pin (critical t k b)) (gets e) ≡ 0
unfolding gets
gets_none t k b (N s env hs) o = refl
gets_none t k b (X s r) o = refl
gets_none t k b (C s env f x y z n) o = refl
gets_none t k b (R s f r p) o = go (is_buffer_result (fact_of f).result && not (eqb (above_zero r) 0))
  where
    go : (q : Bool) → count (same_pin (critical t k b)) (if_true q then pin s f (above_zero r) ∷ [] else []) ≡ 0
    go true = rw (not_same t s f k b (above_zero r) (eqb-false _ _ o))
    go false = refl
gets_none t k b (A s env) o = refl
gets_none t k b (D s) o = refl
gets_none t k b Z o = refl
gets_none t k b (states s) o = refl

releases_none : (t k b : ℕ) (e : Line) → is_of t e ≡ false → releases e (critical t k b) ≡ false
unfolding releases
releases_none t k b (N s env hs) o = refl
releases_none t k b (X s r) o = refl
releases_none t k b (C s env f x y z n) o = rw (not_that t s f k b y (eqb-false _ _ o)) (and-false (is_buffer_place (fact_of f).b))
releases_none t k b (R s f r p) o = refl
releases_none t k b (A s env) o = refl
releases_none t k b (D s) o = refl
releases_none t k b Z o = refl
releases_none t k b (states s) o = refl

same_critical_of : (t k b : ℕ) (e : Line) (past : History) → is_of t e ≡ false
    → count (same_pin (critical t k b)) (outstanding (e ∷ past)) ≡ count (same_pin (critical t k b)) (outstanding past)
unfolding outstanding
same_critical_of t k b e past o =
    omega (
      arith,
      count_append (same_pin (critical t k b)) (gets e) (but_first (releases e) (outstanding past)),
      gets_none t k b e o,
      rw (releases_none t k b e o) at (after_release e (critical t k b) (outstanding past)),
    )

-- lines of other threads change nothing of a thread
pub other_threads : (t : ℕ) (e : Line) (past : History) → is_of t e ≡ false → SameFor t past (e ∷ past)
other_threads t e past o =
    record {
      same_items = other_items t e past o;
      same_frames = other_frames t e past o;
      same_capacities = other_capacities t e past o;
      same_pending = other_pending t e past o;
      same_monitors = other_monitors t e past o;
      same_env = other_env_of t e past o;
      same_locals = λ d h. (
        λ k. (living_are past (local t d h)).0 (alive_beside t d h e past o ((living_are (e ∷ past) (local t d h)).1 k)),
        still_lives t d h e past o,
      );
      same_critical = λ k b. same_critical_of t k b e past o;
    }
