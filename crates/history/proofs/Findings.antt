-- The findings are all the breaches of the accepted lines, each once, in order. Assumes nothing.
use Prim.Native.Nat.{ℕ, suc, ◌≤◌}
use mathlib.Core.Path.{◌≡◌, refl, sym, ap, ◌∙◌, subst}
use mathlib.Core.Logic.{inl, inr, ◌↔◌}
use mathlib.Core.List.Memᴰ
use mathlib.Core.List.{List, [], ◌∷◌, ◌++◌, Memᴰ}
use Rattle.std.specs.Prelude.{Option, None, Some}
use native.Mathlib.Omega.{arith}
use lib.ListN.{length}
use Rattle.words.specs.Lists.{joined}
use Rattle.facts.specs.declared.Place.{Place}
use Rattle.lines.specs.Line.{Line}
use Rattle.history.specs.Past.{History}
use Rattle.history.specs.Seen.{Seen, seen}
use Rattle.history.specs.Breaches.{breach}
use Rattle.history.specs.Acceptance.{Room}
use Rattle.history.specs.Accepted.{Accepted}
use Rattle.history.specs.Findings.{rules, places, found, of_line, findings}
use Rattle.history.specs.declared.Finding.{Finding}
use Rattle.history.specs.Paper.{Wrong, null_handle, null_identity, null_buffer, wrong_kind, dead_local, dead_shared, other_class, not_stated, not_wanted, final_written, not_outstanding}
use Rattle.history.specs.Paper.{Broken, at_a, at_b, at_c, at_result, other_env, not_allowed, called_in_critical, no_monitor, not_pushed, left_in_critical, detached_in_critical, detached_with_monitors, overflow, buffers_left, monitors_left, handles_left}
use Rattle.history.specs.Order.{Breached, Ordered, no_more, then_more}
use Rattle.history.proofs.Tests.{either}
use Rattle.history.proofs.Order.{joined_member, member_joined, in_from, ordered_append, joined_ordered, ordered_once}
use Rattle.history.proofs.Accepting.{before, accepted_before}
use Rattle.history.proofs.Breaches.{breaches_are}

-- ---- rules and places

wrong_rule : (past : History) (t f fixed : ℕ) (p : Place) (v r : ℕ) → Wrong past t f fixed p v r → (1 ≤ r) × (r ≤ 11)
wrong_rule past t f fixed _ _ _ null_handle = omega arith
wrong_rule past t f fixed _ _ _ null_identity = omega arith
wrong_rule past t f fixed _ _ _ null_buffer = omega arith
wrong_rule past t f fixed _ _ _ (wrong_kind p v nz k) = omega arith
wrong_rule past t f fixed _ _ _ (dead_local p v hp fit k d) = omega arith
wrong_rule past t f fixed _ _ _ (dead_shared p v hp fit k d) = omega arith
wrong_rule past t f fixed _ _ _ (other_class p v hp fit o) = omega arith
wrong_rule past t f fixed _ _ _ (not_stated v nz k n) = omega arith
wrong_rule past t f fixed _ _ _ (not_wanted v s u l nz k i n) = omega arith
wrong_rule past t f fixed _ _ _ (final_written v s u nz k i w o) = omega arith
wrong_rule past t f fixed _ _ _ (not_outstanding v nz o) = omega arith

broken_rule : (past : History) (e : Line) (rule place v : ℕ) → Broken past e rule place v → (1 ≤ rule) × (rule ≤ 11) × (place ≤ 3)
broken_rule past _ _ _ _ (at_a t env f a b c rule n w) = omega (arith, wrong_rule past t f _ _ a rule w)
broken_rule past _ _ _ _ (at_b t env f a b c rule n w) = omega (arith, wrong_rule past t f _ _ b rule w)
broken_rule past _ _ _ _ (at_c t env f a b c rule n w) = omega (arith, wrong_rule past t f _ _ c rule w)
broken_rule past _ _ _ _ (at_result t v rule w) = omega (arith, wrong_rule past t 0 _ _ v rule w)
broken_rule past _ _ _ _ (other_env t env f a b c n d) = omega arith
broken_rule past _ _ _ _ (not_allowed t env f a b c n h k) = omega arith
broken_rule past _ _ _ _ (called_in_critical t env f a b c n h k) = omega arith
broken_rule past _ _ _ _ (no_monitor t env a b c n h) = omega arith
broken_rule past _ _ _ _ (not_pushed t env a b c n h) = omega arith
broken_rule past _ _ _ _ (left_in_critical t v h) = omega arith
broken_rule past _ _ _ _ (detached_in_critical t h) = omega arith
broken_rule past _ _ _ _ (detached_with_monitors t k e l) = omega arith
broken_rule past _ _ _ _ (overflow t f h p capacity lower is nz cs above) = omega arith
broken_rule past _ _ _ _ (buffers_left k e l) = omega arith
broken_rule past _ _ _ _ (monitors_left k e l) = omega arith
broken_rule past _ _ _ _ (handles_left k e l) = omega arith

-- ---- a line's findings

record Is (g : Finding) (line rule place : ℕ) (b : Option ℕ) : Type 0 where
  at_line : g.line ≡ line
  at_rule : g.rule ≡ rule
  at_place : g.place ≡ place
  thing : b ≡ Some g.thing

found_is : (g : Finding) (line rule place : ℕ) (b : Option ℕ) → Memᴰ g (found line rule place b) → Is g line rule place b
found_is g line rule place None m = absurd (Memᴰ.not-nil m)
found_is g line rule place (Some v) m =
    let e = Memᴰ.eq_of_singleton m in
    record {
      at_line = ap (λ (f : Finding). f.line) e;
      at_rule = ap (λ (f : Finding). f.rule) e;
      at_place = ap (λ (f : Finding). f.place) e;
      thing = sym (ap (λ (f : Finding). Some f.thing) e);
    }

is_found : (g : Finding) (line rule place : ℕ) (b : Option ℕ) → Is g line rule place b → Memᴰ g (found line rule place b)
is_found g line rule place b k =
    rw k.thing (Memᴰ.head λ i. record { line = k.at_line i; rule = k.at_rule i; place = k.at_place i; thing = g.thing })

found_ordered : (line rule place : ℕ) (b : Option ℕ) → Ordered (found line rule place b)
found_ordered line rule place None = no_more
found_ordered line rule place (Some v) = then_more _ [] (λ g m. absurd (Memᴰ.not-nil m)) no_more

module _ (line : ℕ) (e : Line) (v : Seen) where
  of_place : ℕ → ℕ → List Finding
  of_place rule place = found line rule place (breach e v rule place)

  of_rule : ℕ → List Finding
  of_rule rule = joined places (of_place rule)

  rule_is : (g : Finding) (rule : ℕ) → Memᴰ g (of_rule rule) → (place : ℕ) × Is g line rule place (breach e v rule place)
  unfolding of_rule of_place
  rule_is g rule m =
      let (place, i, k) = joined_member places (of_place rule) m in
      (place, found_is g line rule place (breach e v rule place) k)

  rule_ordered : (rule : ℕ) → Ordered (of_rule rule)
  unfolding of_rule of_place
  rule_ordered rule =
      joined_ordered 4 0 (of_place rule) (λ place. found_ordered line rule place (breach e v rule place))
      (λ j k x y h i m.
      let a = found_is x line rule j (breach e v rule j) i in
      let c = found_is y line rule k (breach e v rule k) m in
      inr (a.at_line ∙ sym c.at_line, inr (a.at_rule ∙ sym c.at_rule, omega (arith, a.at_place, c.at_place))))

  pub line_ordered : Ordered (of_line line e v)
  unfolding of_line of_rule of_place
  line_ordered =
      joined_ordered 11 1 of_rule rule_ordered
      (λ j k x y h i m.
      let (p, a) = rule_is x j i in
      let (q, c) = rule_is y k m in
      inr (a.at_line ∙ sym c.at_line, inl (omega (arith, a.at_rule, c.at_rule))))

-- the findings of a line are its breaches
pub line_is : (room : Room) (past : History) → Accepted room past → (e : Line) (g : Finding)
    → Memᴰ g (of_line (suc (length past)) e (seen past)) ↔ ((g.line ≡ suc (length past)) × Broken past e g.rule g.place g.thing)
unfolding of_line of_rule of_place seen
line_is room past so_far e g = (
  λ m.
      let (rule, i, k) = joined_member rules (of_rule (suc (length past)) e (seen past)) m in
      let (place, is) = rule_is (suc (length past)) e (seen past) g rule k in
      let same = ap (λ (r : ℕ). breach e (seen past) r g.place) is.at_rule ∙ ap (breach e (seen past) rule) is.at_place in
      (is.at_line, (breaches_are room past so_far e g.rule g.place g.thing).0 (same ∙ is.thing)),
  λ k.
      let (low, high, place) = broken_rule past e g.rule g.place g.thing k.1 in
      member_joined rules (of_rule (suc (length past)) e (seen past)) g.rule (in_from 11 1 g.rule low (omega arith))
      (member_joined places (of_place (suc (length past)) e (seen past) g.rule) g.place (in_from 4 0 g.place (omega arith) (omega arith))
      (is_found g (suc (length past)) g.rule g.place (breach e (seen past) g.rule g.place)
      (record { at_line = k.0; at_rule = refl; at_place = refl; thing = (breaches_are room past so_far e g.rule g.place g.thing).1 k.1 }))),
)

-- ---- all findings

finding_breached : (room : Room) (past : History) → Accepted room past → (g : Finding) → Memᴰ g (findings past) → Breached g past
unfolding findings
finding_breached room [] a g m = absurd (Memᴰ.not-nil m)
finding_breached room (e ∷ past) a g m =
    either (Memᴰ.append_cases (findings past) m)
    (λ h. later (finding_breached room past (before room e past a) g h))
    (λ h.
    let (line, broken) = (line_is room past (before room e past a) e g).0 h in
    record { newer = []; condemned = e; older = past; split = refl; line = line; broken = broken })
  where
    later : Breached g past → Breached g (e ∷ past)
    later k =
        record { newer = e ∷ k.newer; condemned = k.condemned; older = k.older; split = ap (λ (h : History). e ∷ h) k.split; line = k.line; broken = k.broken }

breached_finding : (newer : History) (e : Line) (older : History) (g : Finding) → Memᴰ g (of_line (suc (length older)) e (seen older)) → Memᴰ g (findings (newer ++ (e ∷ older)))
unfolding findings
breached_finding [] e older g m = Memᴰ.append_right (findings older) m
breached_finding (x ∷ n) e older g m = Memᴰ.append_left (of_line (suc (length (n ++ (e ∷ older)))) x (seen (n ++ (e ∷ older)))) (breached_finding n e older g m)

-- the findings are all the breaches of the accepted lines, and nothing besides
pub findings_are : (room : Room) (past : History) → Accepted room past → (f : Finding) → Memᴰ f (findings past) ↔ Breached f past
findings_are room past a f = (
  finding_breached room past a f,
  λ k.
      let so_far = before room k.condemned k.older (accepted_before room k.newer (k.condemned ∷ k.older) (subst (Accepted room) k.split a)) in
      rw k.split (breached_finding k.newer k.condemned k.older f ((line_is room k.older so_far k.condemned f).1 (k.line, k.broken))),
)

line_number : (past : History) (e : Line) (g : Finding) → Memᴰ g (of_line (suc (length past)) e (seen past)) → g.line ≡ suc (length past)
unfolding of_line of_rule of_place
line_number past e g m =
    let (rule, i, k) = joined_member rules (of_rule (suc (length past)) e (seen past)) m in
    let (place, is) = rule_is (suc (length past)) e (seen past) g rule k in
    is.at_line

within_lines : (past : History) (g : Finding) → Memᴰ g (findings past) → g.line ≤ length past
unfolding findings
within_lines [] g m = absurd (Memᴰ.not-nil m)
within_lines (e ∷ past) g m =
    either (Memᴰ.append_cases (findings past) m) (λ h. omega (arith, within_lines past g h)) (λ h. omega (arith, line_number past e g h))

-- they stand in order of line, rule and place
pub findings_ordered : (past : History) → Ordered (findings past)
unfolding findings
findings_ordered [] = no_more
findings_ordered (e ∷ past) =
    ordered_append (findings past) (of_line (suc (length past)) e (seen past)) (findings_ordered past) (line_ordered (suc (length past)) e (seen past))
    (λ x y i j. inl (omega (arith, within_lines past x i, line_number past e y j)))

-- and each once
pub found_once : (past : History) (before : List Finding) (f : Finding) (after : List Finding) → findings past ≡ before ++ (f ∷ after) → ¬ Memᴰ f after
found_once past before f after is = ordered_once before f after (subst Ordered is (findings_ordered past))
