-- Statements: 9 and 10 are given exactly when document 02 says so, and nothing else of a trace is changed by one. Assumes nothing.
use Prim.Native.Nat.{ℕ}
use mathlib.Core.Path.{◌≡◌, refl, sym}
use mathlib.Core.Logic.{◌↔◌}
use mathlib.Core.Bool.{Bool, true, false, not, ◌&&◌, false≢true, and-false}
use mathlib.Core.List.{◌∷◌}
use Rattle.lines.specs.Line.{Line, Statement, N, X, C, R, A, D, Z, states, K, O, M}
use Rattle.history.specs.Past.{History, closed}
use Rattle.history.specs.Handles.{living}
use Rattle.history.specs.Buffers.{outstanding}
use Rattle.history.specs.Same.{SameFor}
use Rattle.history.specs.Seen.{seen, handle_alive}
use Rattle.history.specs.Classes.{super_of, is_known}
use Rattle.history.specs.Below.{Known}
use Rattle.history.specs.Acceptance.{Room, classes_right, names_alive}
use Rattle.history.specs.Accepted.{Accepted}
use Rattle.history.specs.Refusals.{WrongClass, known_already, super_unknown, class_unknown, identity_of_unknown, NamesDead, not_alive}
use Rattle.history.proofs.Tests.{never_true, true_not_false}
use Rattle.history.proofs.Classes.{known_are}
use Rattle.history.proofs.Stated.{alive_named}
use Rattle.history.proofs.After.{stated_living, stated_outstanding}
use Rattle.history.proofs.Others.{other_threads}

-- ---- 9

module _ (room : Room) (past : History) (so_far : Accepted room past) where
  unknown : (c : ℕ) → is_known (super_of past) c ≡ false → ¬ Known past c
  unknown c h k = true_not_false (is_known (super_of past) c) ((known_are room past so_far c).1 k) h

  not_known : (c : ℕ) → ¬ Known past c → is_known (super_of past) c ≡ false
  not_known c n = never_true (is_known (super_of past) c) (λ h. n ((known_are room past so_far c).0 h))

  -- K of a class declared or reserved; a super, a stated class or an identity's that is neither
  pub classes_are : (e : Line) → (classes_right e (seen past) ≡ false) ↔ WrongClass past e
  unfolding classes_right seen
  classes_are (N t env hs) = (λ h. absurd (false≢true (sym h)), λ w. elim w [ ])
  classes_are (X t r) = (λ h. absurd (false≢true (sym h)), λ w. elim w [ ])
  classes_are (C t env f a b c n) = (λ h. absurd (false≢true (sym h)), λ w. elim w [ ])
  classes_are (R t f r p) = (λ h. absurd (false≢true (sym h)), λ w. elim w [ ])
  classes_are (A t env) = (λ h. absurd (false≢true (sym h)), λ w. elim w [ ])
  classes_are (D t) = (λ h. absurd (false≢true (sym h)), λ w. elim w [ ])
  classes_are Z = (λ h. absurd (false≢true (sym h)), λ w. elim w [ ])
  classes_are (states (O t h c)) = (λ k. class_unknown t h c (unknown c k), back)
    where
      back : WrongClass past (states (O t h c)) → is_known (super_of past) c ≡ false
      back (class_unknown _ _ _ n) = not_known c n
  classes_are (states (M x sort c static final)) = (λ k. identity_of_unknown x sort c static final (unknown c k), back)
    where
      back : WrongClass past (states (M x sort c static final)) → is_known (super_of past) c ≡ false
      back (identity_of_unknown _ _ _ _ _ n) = not_known c n
  classes_are (states (K c s)) = (go (is_known (super_of past) c) refl (is_known (super_of past) s) refl, back)
    where
      go : (a : Bool) → is_known (super_of past) c ≡ a → (b : Bool) → is_known (super_of past) s ≡ b → (not a && b) ≡ false → WrongClass past (states (K c s))
      go true ea b eb h = known_already c s ((known_are room past so_far c).0 ea)
      go false ea true eb h = absurd (false≢true (sym h))
      go false ea false eb h = super_unknown c s (unknown s eb)

      back : WrongClass past (states (K c s)) → (not (is_known (super_of past) c) && is_known (super_of past) s) ≡ false
      back (known_already _ _ k) = rw ((known_are room past so_far c).1 k)
      back (super_unknown _ _ n) = rw (not_known s n, and-false)

-- ---- 10: O on a handle not alive

pub names_are : (past : History) (e : Line) → (names_alive e (seen past) ≡ false) ↔ NamesDead past e
unfolding names_alive
names_are past (N t env hs) = (λ h. absurd (false≢true (sym h)), λ w. elim w [ ])
names_are past (X t r) = (λ h. absurd (false≢true (sym h)), λ w. elim w [ ])
names_are past (C t env f a b c n) = (λ h. absurd (false≢true (sym h)), λ w. elim w [ ])
names_are past (R t f r p) = (λ h. absurd (false≢true (sym h)), λ w. elim w [ ])
names_are past (A t env) = (λ h. absurd (false≢true (sym h)), λ w. elim w [ ])
names_are past (D t) = (λ h. absurd (false≢true (sym h)), λ w. elim w [ ])
names_are past Z = (λ h. absurd (false≢true (sym h)), λ w. elim w [ ])
names_are past (states (K c s)) = (λ h. absurd (false≢true (sym h)), λ w. elim w [ ])
names_are past (states (M x sort c static final)) = (λ h. absurd (false≢true (sym h)), λ w. elim w [ ])
names_are past (states (O t h c)) = (
  λ k. not_alive t h c (λ x m l. true_not_false (handle_alive t h (seen past)) ((alive_named past t h).1 (x, m, l)) k),
  back,
)
  where
    back : NamesDead past (states (O t h c)) → handle_alive t h (seen past) ≡ false
    back (not_alive _ _ _ n) = never_true (handle_alive t h (seen past)) (λ k. let (x, m, l) = (alive_named past t h).0 k in n x m l)

-- ---- a statement changes nothing else

pub states_alone : (t h c d : ℕ) (past : History) → super_of (states (O t h c) ∷ past) d ≡ super_of past d
unfolding super_of
states_alone t h c d past = refl

pub nothing_else : (s : Statement) (past : History) → ((t : ℕ) → SameFor t past (states s ∷ past)) × (living (states s ∷ past) ≡ living past)
    × (outstanding (states s ∷ past) ≡ outstanding past) × (closed (states s ∷ past) ≡ closed past)
nothing_else s past = (λ t. other_threads t (states s) past refl, stated_living s past, stated_outstanding s past, unfold closed in refl)
