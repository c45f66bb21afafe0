-- How many findings a line can have: a used place gives at most one, a line at most six. Assumes nothing.
use Prim.Native.Nat.{ℕ, zero, suc, ◌+◌, ◌≤◌, ◌<◌}
use mathlib.Core.Path.{◌≡◌, refl, sym, ap, ◌∙◌, fun_ext}
use mathlib.Core.Bool.{Bool, true, false, not, ◌&&◌}
use mathlib.Core.List.{List, [], ◌∷◌}
use Rattle.std.specs.Prelude.{Option, None, Some}
use native.Mathlib.Omega.{arith}
use lib.Dec.{eqb, ltb}
use lib.IntN.{ℤ}
use lib.ListN.{length, length-append}
use borrow.Author.Tests.{eqb-true, ne_eqb}
use Rattle.words.specs.Choice.{one}
use Rattle.words.specs.Lists.{joined, sum}
use Rattle.facts.specs.Table.{fact_of, table, is_allowed_pending, is_allowed_critical}
use Rattle.facts.specs.Named.{PopLocalFrame, MonitorExit}
use Rattle.facts.specs.declared.Place.TheVariants as Place
use Rattle.lines.specs.Line.{Line, N, X, C, R, A, D, Z, states, above_zero}
use Rattle.history.specs.Past.{History, thread_of}
use Rattle.history.specs.Frames.{top_pushed}
use Rattle.history.specs.Handles.{global_or_weak}
use Rattle.history.specs.Seen.{Seen}
use Rattle.history.specs.Acceptance.{everything}
use Rattle.history.specs.Breaches.{when, place_rule, place_at, class_at, value_at, function_of, rule_at, is_rule, in_critical, overflows, line_rule, call_rule, detach_rule, end_rule, breach}
use Rattle.history.specs.Findings.{rules, places, found, of_line}
use Rattle.history.specs.Paper.{Wrong, Broken, at_a, at_b, at_c, at_result, other_env, not_allowed, called_in_critical, no_monitor, not_pushed, left_in_critical, detached_in_critical, detached_with_monitors, overflow, buffers_left, monitors_left, handles_left}
use Rattle.history.specs.Order.{most_findings}
use Rattle.history.proofs.Tests.{one_most}
use Rattle.history.proofs.Order.{from}
use Rattle.history.proofs.Places.{one_wrong}

-- ---- a used place

place_wrong : (past : History) (e : Line) (r place v : ℕ) → 1 ≤ place → Broken past e r place v
    → Wrong past (thread_of e) (function_of e) (class_at e place) (place_at e place) (value_at e place) r × (value_at e place ≡ v)
place_wrong past _ _ _ _ l (at_a t env f a b c rule n w) = (w, refl)
place_wrong past _ _ _ _ l (at_b t env f a b c rule n w) = (w, refl)
place_wrong past _ _ _ _ l (at_c t env f a b c rule n w) = (w, refl)
place_wrong past _ _ _ _ l (at_result t v rule w) = (w, refl)
place_wrong past _ _ _ _ l (other_env t env f a b c n d) = absurd (omega arith)
place_wrong past _ _ _ _ l (not_allowed t env f a b c n h k) = absurd (omega arith)
place_wrong past _ _ _ _ l (called_in_critical t env f a b c n h k) = absurd (omega arith)
place_wrong past _ _ _ _ l (no_monitor t env a b c n h) = absurd (omega arith)
place_wrong past _ _ _ _ l (not_pushed t env a b c n h) = absurd (omega arith)
place_wrong past _ _ _ _ l (left_in_critical t v h) = absurd (omega arith)
place_wrong past _ _ _ _ l (detached_in_critical t h) = absurd (omega arith)
place_wrong past _ _ _ _ l (detached_with_monitors t k e m) = absurd (omega arith)
place_wrong past _ _ _ _ l (overflow t f h p capacity lower is nz cs above) = absurd (omega arith)
place_wrong past _ _ _ _ l (buffers_left k e z) = absurd (omega arith)
place_wrong past _ _ _ _ l (monitors_left k e z) = absurd (omega arith)
place_wrong past _ _ _ _ l (handles_left k e z) = absurd (omega arith)

-- a used place gives at most one finding
pub one_a_place : (past : History) (e : Line) (place r s v w : ℕ) → 1 ≤ place → Broken past e r place v → Broken past e s place w → (r ≡ s) × (v ≡ w)
one_a_place past e place r s v w l x y =
    let (a, b) = place_wrong past e r place v l x in
    let (c, d) = place_wrong past e s place w l y in
    (one_wrong past (thread_of e) (function_of e) (class_at e place) (place_at e place) (value_at e place) r s a c, sym b ∙ d)

-- ---- sums

length_joined : {A : Type 0} (ks : List ℕ) (f : ℕ → List A) → length (joined ks f) ≡ sum (λ k. length (f k)) ks
length_joined [] f = refl
length_joined (k ∷ ks) f = omega (arith, length-append (f k) (joined ks f), length_joined ks f)

sum_add : (f g : ℕ → ℕ) (ks : List ℕ) → sum (λ k. f k + g k) ks ≡ sum f ks + sum g ks
sum_add f g [] = refl
sum_add f g (k ∷ ks) = omega (arith, sum_add f g ks)

sum_zero : (ks : List ℕ) → sum (λ k. 0) ks ≡ 0
sum_zero [] = refl
sum_zero (k ∷ ks) = omega (arith, sum_zero ks)

-- rows first or columns first
sum_swap : (f : ℕ → ℕ → ℕ) (js ks : List ℕ) → sum (λ j. sum (f j) ks) js ≡ sum (λ k. sum (λ j. f j k) js) ks
sum_swap f [] ks = sym (sum_zero ks)
sum_swap f (j ∷ js) ks = ap (λ (n : ℕ). sum (f j) ks + n) (sum_swap f js ks) ∙ sym (sum_add (f j) (λ k. sum (λ i. f i k) js) ks)

none_above : (r n lo : ℕ) → r < lo → sum (λ k. one (eqb k r)) (from lo n) ≡ 0
none_above r zero lo h = refl
none_above r (suc n) lo h = rw (ne_eqb lo r (λ e. omega (arith, e))) (omega (arith, none_above r n (suc lo) (omega arith)))

-- a number stands once among those that rise
once : (r n lo : ℕ) → sum (λ k. one (eqb k r)) (from lo n) ≤ 1
once r zero lo = omega arith
once r (suc n) lo = go (eqb lo r) refl (once r n (suc lo))
  where
    go : (q : Bool) → eqb lo r ≡ q → sum (λ k. one (eqb k r)) (from (suc lo) n) ≤ 1 → one q + sum (λ k. one (eqb k r)) (from (suc lo) n) ≤ 1
    go true e ih = omega (arith, none_above r n (suc lo) (omega (arith, eqb-true lo r e)))
    go false e ih = omega arith

-- ---- the findings of a line, by place

abbrev given : Option ℕ → ℕ
given None = 0
given (Some x) = 1

length_found : (line rule place : ℕ) (b : Option ℕ) → length (found line rule place b) ≡ given b
length_found line rule place None = refl
length_found line rule place (Some x) = refl

given_when : (b : Bool) (x : ℕ) → given (when b x) ≡ one b
given_when true x = refl
given_when false x = refl

by_place : (line : ℕ) (b : ℕ → ℕ → Option ℕ) (js ks : List ℕ)
    → length (joined js λ j. joined ks λ k. found line j k (b j k)) ≡ sum (λ k. sum (λ j. given (b j k)) js) ks
by_place line b js ks =
    length_joined js (λ j. joined ks λ k. found line j k (b j k))
    ∙ ap (λ (f : ℕ → ℕ). sum f js) (fun_ext λ j. length_joined ks (λ k. found line j k (b j k)) ∙ ap (λ (f : ℕ → ℕ). sum f ks) (fun_ext λ k. length_found line j k (b j k)))
    ∙ sum_swap (λ j k. given (b j k)) js ks

-- of a place that breaks a rule, that rule alone
one_rule : (o : Option ℕ) (x : ℕ) → sum (λ rule. given (when (is_rule rule o) x)) rules ≤ 1
one_rule None x = omega arith
one_rule (Some r) x = rw (ap (λ (f : ℕ → ℕ). sum f rules) (fun_ext λ rule. given_when (eqb rule r) x)) (once r 11 1)

module _ (e : Line) (v : Seen) where
  at_place : ℕ → ℕ
  at_place place = sum (λ rule. given (breach e v rule place)) rules

  used_place : (place : ℕ) → 1 ≤ place → at_place place ≤ 1
  unfolding at_place breach
  used_place place l = rw (ne_eqb place 0 (λ z. omega (arith, z))) (one_rule (rule_at e v place) (value_at e place))

  unused_place : (place : ℕ) → 1 ≤ place → rule_at e v place ≡ None → at_place place ≡ 0
  unfolding at_place breach
  unused_place place l is = rw (ne_eqb place 0 (λ z. omega (arith, z)), is)

  whole_line : ℕ
  whole_line = sum (λ rule. given (line_rule e v rule)) rules

  line_counts : (line : ℕ) → length (of_line line e v) ≡ whole_line + (at_place 1 + (at_place 2 + (at_place 3 + 0)))
  unfolding of_line at_place whole_line breach
  line_counts line = by_place line (breach e v) rules places

most_when : (b : Bool) (x : ℕ) → given (when b x) ≤ 1
most_when b x = omega (arith, given_when b x, one_most b)

most_and : (b c : Bool) (x : ℕ) → given (when (b && c) x) ≤ one b
most_and true c x = most_when c x
most_and false c x = omega arith

module _ (t env f a b c : ℕ) (n : ℤ) (v : Seen) where
  call : Line
  call = C t env f a b c n

  -- 9 is for 218 alone, 11 for 20 alone
  whole_call : whole_line call v ≤ 3 + (one (eqb f MonitorExit) + one (eqb f PopLocalFrame))
  unfolding whole_line line_rule call_rule call
  whole_call =
      omega (
        arith,
        most_when (not (eqb env (v.env t))) env,
        most_when (eqb (v.pending t) 1 && not (is_allowed_pending f)) 0,
        most_when (in_critical t v && not (is_allowed_critical f)) 0,
        most_and (eqb f MonitorExit) (eqb (v.monitors t) 0) 0,
        most_and (eqb f PopLocalFrame) (not (top_pushed (v.frames t))) 0,
      )

  one_place : (fact_of f).b ≡ Place.Unused → (fact_of f).c ≡ Place.Unused → (at_place call v 2 ≡ 0) × (at_place call v 3 ≡ 0)
  unfolding rule_at place_rule call
  one_place is that = (unused_place call v 2 (omega arith) (rw is), unused_place call v 3 (omega arith) (rw that))

  call_most : (line : ℕ) → length (of_line line call v) ≤ 6
  unfolding fact_of table
  call_most line = go (eqb f MonitorExit) refl (eqb f PopLocalFrame) refl whole_call
    where
      all_places : ((at_place call v 1 ≤ 1) × (at_place call v 2 ≤ 1) × (at_place call v 3 ≤ 1))
      all_places = (used_place call v 1 (omega arith), used_place call v 2 (omega arith), used_place call v 3 (omega arith))

      go : (x : Bool) → eqb f MonitorExit ≡ x → (y : Bool) → eqb f PopLocalFrame ≡ y → whole_line call v ≤ 3 + (one x + one y) → length (of_line line call v) ≤ 6
      go true ex y ey w =
          let k = eqb-true f MonitorExit ex in
          omega (arith, line_counts call v line, all_places, one_most y, one_place (ap (λ (g : ℕ). (fact_of g).b) k) (ap (λ (g : ℕ). (fact_of g).c) k))
      go false ex true ey w =
          let k = eqb-true f PopLocalFrame ey in
          omega (arith, line_counts call v line, all_places, one_place (ap (λ (g : ℕ). (fact_of g).b) k) (ap (λ (g : ℕ). (fact_of g).c) k))
      go false ex false ey w = omega (arith, line_counts call v line, all_places)

-- a line that has no places
no_places : (line : ℕ) (e : Line) (v : Seen) → ((place : ℕ) → rule_at e v place ≡ None) → length (of_line line e v) ≡ whole_line e v
no_places line e v h =
    omega (arith, line_counts e v line, unused_place e v 1 (omega arith) (h 1), unused_place e v 2 (omega arith) (h 2), unused_place e v 3 (omega arith) (h 3))

-- at most six findings a line
pub at_most : (line : ℕ) (e : Line) (v : Seen) → length (of_line line e v) ≤ most_findings e
unfolding whole_line line_rule rule_at place_rule detach_rule end_rule call
at_most line (N t env hs) v = omega (arith, no_places line (N t env hs) v (λ place. refl))
at_most line (X t r) v =
    omega (
      arith,
      line_counts (X t r) v line,
      most_when (in_critical t v) 0,
      used_place (X t r) v 1 (omega arith),
      unused_place (X t r) v 2 (omega arith) refl,
      unused_place (X t r) v 3 (omega arith) refl,
    )
at_most line (C t env f a b c n) v = call_most t env f a b c n v line
at_most line (R t f r p) v = omega (arith, no_places line (R t f r p) v (λ place. refl), most_when (overflows t f (above_zero r) v) (above_zero r))
at_most line (A t env) v = omega (arith, no_places line (A t env) v (λ place. refl))
at_most line (D t) v =
    omega (arith, no_places line (D t) v (λ place. refl), most_when (in_critical t v) 0, most_when (ltb 0 (v.monitors t)) (v.monitors t))
at_most line Z v =
    omega (
      arith,
      no_places line Z v (λ place. refl),
      most_when (ltb 0 (v.buffers everything)) (v.buffers everything),
      most_when (ltb 0 v.all_monitors) v.all_monitors,
      most_when (ltb 0 (v.handles global_or_weak)) (v.handles global_or_weak),
    )
at_most line (states s) v = omega (arith, no_places line (states s) v (λ place. refl))
