-- What is judged of a line lists its findings, rule by rule, and nothing judged lists none.
use Prim.Native.Nat.{ℕ, suc}
use mathlib.Core.Path.{◌≡◌, refl, ◌∙◌}
use mathlib.Core.Bool.{Bool, true, false, not, ◌&&◌, ◌||◌, false≢true}
use mathlib.Core.List.{List, [], ◌++◌, append-nil}
use Rattle.std.specs.Prelude.{Option, None, Some}
use borrow.Author.Tests.{not-true}
use lib.IntN.{ℤ}
use Rattle.std.specs.Option.{is_none}
use Rattle.words.specs.Lists.{joined}
use Rattle.lines.specs.Line.{N, R, A, D, Z, above_zero}
use Rattle.history.specs.Handles.{global_or_weak}
use Rattle.history.specs.Acceptance.{everything}
use Rattle.history.specs.Seen.{Seen}
use Rattle.history.specs.Breaches.{when, is_rule, some_of, place_rule, rule_at, line_rule, end_rule, overflows, breach, in_critical, detach_rule}
use Rattle.history.specs.Findings.{rules, found, of_line}
use Rattle.history.specs.declared.Finding.{Finding}
use Rattle.answers.specs.declared.Judged.{Judged}
use Rattle.answers.specs.Listed.{listed, is_clean}

-- a rule is one of eleven
pub by_rules : (f g : ℕ → List Finding) → f 1 ≡ g 1 → f 2 ≡ g 2 → f 3 ≡ g 3 → f 4 ≡ g 4 → f 5 ≡ g 5 → f 6 ≡ g 6 → f 7 ≡ g 7 → f 8 ≡ g 8 → f 9 ≡ g 9 → f 10 ≡ g 10 → f 11 ≡ g 11
    → joined rules f ≡ joined rules g
by_rules f g p1 p2 p3 p4 p5 p6 p7 p8 p9 p10 p11 i =
    p1 i ++ (p2 i ++ (p3 i ++ (p4 i ++ (p5 i ++ (p6 i ++ (p7 i ++ (p8 i ++ (p9 i ++ (p10 i ++ (p11 i ++ []))))))))))

-- the findings of one rule, where the whole line and the three places are as seen
abbrev pub as_seen : ℕ → ℕ → Option ℕ → Option ℕ → Option ℕ → Option ℕ → ℕ → ℕ → ℕ → List Finding
as_seen line k w o1 o2 o3 a b c =
    found line (suc k) 0 w
    ++ (found line (suc k) 1 (when (is_rule (suc k) o1) a)
    ++ (found line (suc k) 2 (when (is_rule (suc k) o2) b)
    ++ (found line (suc k) 3 (when (is_rule (suc k) o3) c) ++ [])))

pub return_listed : (line t f p : ℕ) (r : ℤ) (v : Seen) → of_line line (R t f r p) v ≡ found line 11 0 (when (overflows t f (above_zero r) v) (above_zero r))
unfolding of_line breach rule_at line_rule place_rule
return_listed line t f p r v =
    let x = found line 11 0 (when (overflows t f (above_zero r) v) (above_zero r)) in
    append-nil (x ++ []) ∙ append-nil x

pub end_listed : (line : ℕ) (v : Seen)
    → of_line line Z v
    ≡ found line 8 0 (some_of (v.buffers everything))
    ++ (found line 9 0 (some_of v.all_monitors) ++ found line 10 0 (some_of (v.handles global_or_weak)))
unfolding of_line breach rule_at line_rule end_rule place_rule
end_listed line v =
    three
    (found line 8 0 (some_of (v.buffers everything)))
    (found line 9 0 (some_of v.all_monitors))
    (found line 10 0 (some_of (v.handles global_or_weak)))
  where
    three : (a b c : List Finding) → (a ++ []) ++ ((b ++ []) ++ ((c ++ []) ++ [])) ≡ a ++ (b ++ c)
    three a b c = λ i. append-nil a i ++ (append-nil b i ++ (append-nil (c ++ []) ∙ append-nil c) i)

-- ---- D

pub detach_listed : (line t : ℕ) (v : Seen)
    → of_line line (D t) v ≡ found line 3 0 (when (in_critical t v) 0) ++ found line 9 0 (some_of (v.monitors t))
unfolding of_line breach rule_at line_rule detach_rule place_rule
detach_listed line t v = two (found line 3 0 (when (in_critical t v) 0)) (found line 9 0 (some_of (v.monitors t)))
  where
    two : (a b : List Finding) → (a ++ []) ++ ((b ++ []) ++ []) ≡ a ++ b
    two a b = λ i. append-nil a i ++ (append-nil (b ++ []) ∙ append-nil b) i

-- ---- N and A have none

pub attach_listed : (line t env : ℕ) (v : Seen) → of_line line (A t env) v ≡ []
unfolding of_line breach rule_at line_rule place_rule
attach_listed line t env v = refl

pub enter_listed : (line t env : ℕ) (hs : List ℕ) (v : Seen) → of_line line (N t env hs) v ≡ []
unfolding of_line breach rule_at line_rule place_rule
enter_listed line t env hs v = refl

-- ---- nothing judged

both_true : (a b : Bool) → (a && b) ≡ true → (a ≡ true) × (b ≡ true)
both_true true b h = (refl, h)
both_true false b h = absurd (false≢true h)

both_false : (a b : Bool) → not (a || b) ≡ true → (not a ≡ true) × (b ≡ false)
both_false true b h = absurd (false≢true h)
both_false false b h = (refl, not-true b h)

none_is : (o : Option ℕ) → is_none o ≡ true → o ≡ None
none_is None h = refl
none_is (Some r) h = absurd (false≢true h)

pub clean_listed : (x : Judged) → is_clean x ≡ true → listed x ≡ []
unfolding listed
clean_listed x h =
    let c3 = both_true (not (x.foreign || x.pending || x.critical || x.unheld || x.unpushed) && is_none x.rule1 && is_none x.rule2) (is_none x.rule3) h in
    let c2 = both_true (not (x.foreign || x.pending || x.critical || x.unheld || x.unpushed) && is_none x.rule1) (is_none x.rule2) c3.0 in
    let c1 = both_true (not (x.foreign || x.pending || x.critical || x.unheld || x.unpushed)) (is_none x.rule1) c2.0 in
    let w5 = both_false (x.foreign || x.pending || x.critical || x.unheld) x.unpushed c1.0 in
    let w4 = both_false (x.foreign || x.pending || x.critical) x.unheld w5.0 in
    let w3 = both_false (x.foreign || x.pending) x.critical w4.0 in
    let w2 = both_false x.foreign x.pending w3.0 in
    let w1 = not-true x.foreign w2.0 in
    let p1 = none_is x.rule1 c1.1 in
    let p2 = none_is x.rule2 c2.1 in
    let p3 = none_is x.rule3 c3.1 in
    λ i.
    listed
    (record {
      line = x.line;
      foreign = w1 i;
      env = x.env;
      pending = w2.1 i;
      critical = w3.1 i;
      unheld = w4.1 i;
      unpushed = w5.1 i;
      rule1 = p1 i;
      a = x.a;
      rule2 = p2 i;
      b = x.b;
      rule3 = p3 i;
      c = x.c;
    })
