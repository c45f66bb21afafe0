-- Findings put one behind another are those of their list.
use Prim.Native.Nat.{ℕ, zero, suc, ◌+◌, ◌≤◌, ◌<◌, min}
use mathlib.Core.Path.{◌≡◌, refl, sym, ap, ap₂, ◌∙◌}
use mathlib.Core.Bool.{Bool, true, false}
use mathlib.Core.List.{List, [], ◌∷◌, ◌++◌, append_assoc, append-nil}
use Rattle.std.specs.Prelude.{Option, None, Some, nat_eq}
use Rattle.std.specs.Option.{option_eq}
use native.Mathlib.Omega.{arith}
use native.Mathlib.Decide.{dec_lt}
use borrow.Author.Tests.{lt-leb}
use lib.ListN.{length, set, take, replicate, length-append}
use Rattle.words.specs.Lists.{joined}
use Rattle.history.specs.Breaches.{when, is_rule}
use Rattle.history.specs.Findings.{rules, places, found}
use Rattle.history.specs.declared.Finding.{Finding}
use Rattle.answers.specs.declared.Findings.{Findings}
use Rattle.answers.specs.declared.Judged.{Judged}
use Rattle.answers.specs.Answer.{most_found, no_finding, findings_of, with_found, found_if}
use Rattle.answers.specs.Listed.{of_rule, listed, whole_of, breach_of}

module _ {A : Type 0} (z : A) where
  -- fewer of the same behind
  shorter : (k n : ℕ) → k ≤ n → take k (replicate (suc n) z) ≡ take k (replicate n z)
  shorter zero n h = refl
  shorter (suc k) zero h = absurd (omega arith)
  shorter (suc k) (suc n) h = ap (λ (l : List A). z ∷ l) (shorter k n (omega arith))

  -- a place is left: x goes there
  set_next : (x : A) (fs : List A) (k n : ℕ) → length fs < k → k ≤ n → set (take k (fs ++ replicate n z)) (length fs) x ≡ take k ((fs ++ (x ∷ [])) ++ replicate n z)
  set_next x [] zero n h g = absurd (omega arith)
  set_next x [] (suc k) zero h g = absurd (omega arith)
  set_next x [] (suc k) (suc n) h g = ap (λ (l : List A). x ∷ l) (sym (shorter k n (omega arith)))
  set_next x (f ∷ fs) zero n h g = absurd (omega arith)
  set_next x (f ∷ fs) (suc k) n h g = ap (λ (l : List A). f ∷ l) (set_next x fs k n (omega arith) (omega arith))

  -- no place is left: nothing changes
  take_full : (x : A) (fs : List A) (k n : ℕ) → k ≤ length fs → take k (fs ++ replicate n z) ≡ take k ((fs ++ (x ∷ [])) ++ replicate n z)
  take_full x fs zero n h = refl
  take_full x [] (suc k) n h = absurd (omega arith)
  take_full x (f ∷ fs) (suc k) n h = ap (λ (l : List A). f ∷ l) (take_full x fs k n (omega arith))

-- ---- one finding more

module _ (fs : List Finding) (f : Finding) where
  one_longer : length (fs ++ (f ∷ [])) ≡ length fs + 1
  one_longer = length-append fs (f ∷ [])

  room_left : length fs < most_found → with_found (findings_of fs) f ≡ findings_of (fs ++ (f ∷ []))
  unfolding with_found findings_of
  room_left h =
      let at : min (length fs) most_found ≡ length fs = omega arith in
      let longer : length fs + 1 ≡ min (length (fs ++ (f ∷ []))) most_found = omega (arith, one_longer) in
      rw (at, lt-leb most_found (length fs) h)
      (λ i. record { count = longer i; found = set_next no_finding f fs most_found most_found h (omega arith) i })

  no_room : most_found ≤ length fs → with_found (findings_of fs) f ≡ findings_of (fs ++ (f ∷ []))
  unfolding with_found findings_of
  no_room h =
      let at : min (length fs) most_found ≡ most_found = omega arith in
      let still : most_found ≡ min (length (fs ++ (f ∷ []))) most_found = omega (arith, one_longer) in
      rw at
      (λ i. record { count = still i; found = take_full no_finding f fs most_found most_found h i })

  pub one_more : with_found (findings_of fs) f ≡ findings_of (fs ++ (f ∷ []))
  one_more = go (dec_lt (length fs) most_found)
    where
      go : Dec (length fs < most_found) → with_found (findings_of fs) f ≡ findings_of (fs ++ (f ∷ []))
      go (yes h) = room_left h
      go (no h) = no_room (omega (arith, h))

-- one finding more, if there is one
pub one_more_if : (fs : List Finding) (is : Bool) (line rule place thing : ℕ)
    → found_if (findings_of fs) is line rule place thing ≡ findings_of (fs ++ found line rule place (when is thing))
unfolding found_if
one_more_if fs true line rule place thing = one_more fs (record { line = line; rule = rule; place = place; thing = thing })
one_more_if fs false line rule place thing = ap findings_of (sym (append-nil fs))

then_found : {s : Findings} (fs : List Finding) (is : Bool) (line rule place thing : ℕ) → s ≡ findings_of fs
    → found_if s is line rule place thing ≡ findings_of (fs ++ found line rule place (when is thing))
then_found fs is line rule place thing e =
    ap (λ (t : Findings). found_if t is line rule place thing) e ∙ one_more_if fs is line rule place thing

pub one_after : {a b g : Findings} (is : Bool) (line rule place thing : ℕ) → a ≡ found_if b is line rule place thing → b ≡ g → a ≡ found_if g is line rule place thing
one_after is line rule place thing h e = h ∙ ap (λ (t : Findings). found_if t is line rule place thing) e

-- the same, where the code's own test says whether there is one
pub one_after_test : {a b g : Findings} {is is' : Bool} (line rule place thing : ℕ) → a ≡ found_if b is line rule place thing → is ≡ is' → b ≡ g → a ≡ found_if g is' line rule place thing
one_after_test line rule place thing h t e = h ∙ ap₂ (λ (u : Findings) (v : Bool). found_if u v line rule place thing) e t

-- ---- the findings of one rule, and of all

-- a rule is that of a place, or not
pub same_rule : (r : ℕ) (o : Option ℕ) → option_eq nat_eq (Some r) o ≡ is_rule r o
same_rule r None = refl
same_rule r (Some q) = refl

abbrev pub of_one_rule : Judged → ℕ → List Finding
of_one_rule x rule = joined places λ place. found x.line rule place (breach_of x rule place)

four_joined : {A : Type 0} (fs a b c d : List A) → (((fs ++ a) ++ b) ++ c) ++ d ≡ fs ++ (a ++ (b ++ (c ++ (d ++ []))))
four_joined fs a b c d =
    append_assoc ((fs ++ a) ++ b) c d
    ∙ append_assoc (fs ++ a) b (c ++ d)
    ∙ append_assoc fs a (b ++ (c ++ d))
    ∙ ap (λ l. fs ++ (a ++ (b ++ (c ++ l)))) (sym (append-nil d))

pub one_rule_more : {s r : Findings} (fs : List Finding) (x : Judged) (rule : ℕ) (whole : Bool) (thing : ℕ) → whole_of x rule ≡ when whole thing
    → s ≡ findings_of fs → r ≡ of_rule s x rule whole thing → r ≡ findings_of (fs ++ of_one_rule x rule)
unfolding of_rule
one_rule_more {s} fs x rule whole thing w e h =
    let l = x.line in
    let p0 = then_found fs whole l rule 0 thing e in
    let p1 = then_found (fs ++ found l rule 0 (when whole thing)) (is_rule rule x.rule1) l rule 1 x.a p0 in
    let p2 = then_found ((fs ++ found l rule 0 (when whole thing)) ++ found l rule 1 (when (is_rule rule x.rule1) x.a)) (is_rule rule x.rule2) l rule 2 x.b p1 in
    let p3 =
    then_found
    (((fs ++ found l rule 0 (when whole thing)) ++ found l rule 1 (when (is_rule rule x.rule1) x.a)) ++ found l rule 2 (when (is_rule rule x.rule2) x.b))
    (is_rule rule x.rule3)
    l
    rule
    3
    x.c
    p2
    in
    h
    ∙ p3
    ∙ ap findings_of
    (four_joined fs (found l rule 0 (when whole thing)) (found l rule 1 (when (is_rule rule x.rule1) x.a)) (found l rule 2 (when (is_rule rule x.rule2) x.b))
    (found l rule 3 (when (is_rule rule x.rule3) x.c))
    ∙ ap (λ (o : Option ℕ). fs ++ (found l rule 0 o ++ joined {A = Finding} (1 ∷ 2 ∷ 3 ∷ []) λ place. found l rule place (breach_of x rule place))) (sym w))

-- one rule after another
abbrev gathered : List Finding → List ℕ → (ℕ → List Finding) → List Finding
gathered fs [] g = fs
gathered fs (r ∷ rs) g = gathered (fs ++ g r) rs g

gathered_is : (fs : List Finding) (rs : List ℕ) (g : ℕ → List Finding) → gathered fs rs g ≡ fs ++ joined rs g
gathered_is fs [] g = sym (append-nil fs)
gathered_is fs (r ∷ rs) g = gathered_is (fs ++ g r) rs g ∙ append_assoc fs (g r) (joined rs g)

pub all_rules : {r : Findings} (x : Judged) → r ≡ findings_of (gathered [] rules (of_one_rule x)) → r ≡ findings_of (listed x)
unfolding listed
all_rules x e = e ∙ ap findings_of (gathered_is [] rules (of_one_rule x))
