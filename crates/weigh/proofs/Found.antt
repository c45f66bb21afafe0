-- The findings of a line are told by what was looked up for it. Assumes nothing.
use Prim.Native.Nat.{ℕ, zero, suc, ◌<◌}
use mathlib.Core.Path.{◌≡◌, refl, sym, ap, ◌∙◌}
use mathlib.Core.Bool.{Bool, not, ◌&&◌}
use mathlib.Core.List.{List, []}
use Rattle.std.specs.Prelude.{Option, None}
use native.Mathlib.Decide.{dec_lt}
use native.Mathlib.Omega.{arith}
use borrow.Author.Tests.{lt-ltb, le-ltb, lt-leb, le-leb}
use lib.Dec.{eqb, leb, ltb}
use lib.IntN.{ℤ, pos}
use lib.ListN.{length}
use Rattle.words.specs.Choice.{if_true◌then◌else◌}
use Rattle.words.specs.Lists.{joined}
use Rattle.facts.specs.Table.{fact_of}
use Rattle.facts.specs.Classes.{no_class, class_a, class_b}
use Rattle.facts.specs.Results.{is_local_result}
use Rattle.facts.specs.declared.Place.{Place}
use Rattle.facts.specs.declared.Result.{Result}
use Rattle.lines.specs.Line.{Statement, X, C, R, D, Z, states, above_zero}
use Rattle.lines.specs.Events.{is_status, result_in_line}
use Rattle.rows.specs.Table.{Table}
use Rattle.history.specs.Handles.{in_frame}
use Rattle.history.specs.Seen.{Seen}
use Rattle.history.specs.Breaches.{when, place_rule, may_take, is_there, rule_here, rule_at, line_rule, call_rule, exceeds, overflows, breach}
use Rattle.history.specs.Findings.{places, found, of_line}
use Rattle.book.specs.Layout.{capacity_at, cell}
use Rattle.book.specs.Threads.{stack, depth, thread_of, thread_in, top_capacity}
use Rattle.book.proofs.Frames.{length_frames}
use Rattle.answers.specs.Listed.{listed}
use Rattle.answers.proofs.Found.{of_one_rule}
use Rattle.answers.proofs.OfLine.{by_rules, as_seen, return_listed, detach_listed, end_listed}
use Rattle.tables.specs.Tables.{Tables, handles_in, seen_in}
use Rattle.sight.specs.Spots.{class_here, handle_spot, place_fits, place_spot}
use Rattle.sight.specs.Returns.{over_capacity, overflows_in, return_sight}
use Rattle.sight.specs.Sights.{call_sight, leave_sight, detach_sight, end_sight}
use Rattle.weigh.specs.Call.{judged_call}
use Rattle.weigh.specs.Leave.{judged_leave}
use Rattle.weigh.specs.Returns.{found_return}
use Rattle.weigh.specs.Detach.{found_detach}
use Rattle.weigh.specs.End.{found_end}
use Rattle.weigh.proofs.PlaceLaws.{judged_there}

-- ---- C

module _ (T : Tables) (line t env f a b c : ℕ) (n : ℤ) where
  -- what is told of a place gives its rule
  rule_told : (fixed : ℕ) (p : Place) (h : ℕ) → place_rule p h (place_spot fixed p T t f h).there (place_spot fixed p T t f h).fits ≡ rule_here fixed p t f h (seen_in T)
  unfolding place_spot place_fits
  rule_told fixed p h = judged_there h (is_there p t f h (seen_in T)) (class_here fixed T t h) (may_take f ((seen_in T).identity h)) p

  pub call_found : listed (judged_call line env f a b c (call_sight T t f a b c)) ≡ of_line line (C t env f a b c n) (seen_in T)
  unfolding listed judged_call call_sight of_line breach rule_at line_rule call_rule
  call_found =
      by_rules (of_one_rule (judged_call line env f a b c (call_sight T t f a b c)))
      (λ rule. joined places λ place. found line rule place (breach (C t env f a b c n) (seen_in T) rule place))
      (same 0) (same 1) (same 2) (same 3) (same 4) (same 5) (same 6) (same 7) (same 8) (same 9) (same 10)
    where
      told : ℕ → Place → ℕ → Option ℕ
      told fixed p h = place_rule p h (place_spot fixed p T t f h).there (place_spot fixed p T t f h).fits

      same : (k : ℕ)
          → as_seen line k (call_rule t env f (seen_in T) (suc k)) (told (class_a f) (fact_of f).a a) (told (class_b f) (fact_of f).b b) (told no_class (fact_of f).c c) a b c
          ≡ as_seen line k (call_rule t env f (seen_in T) (suc k)) (rule_here (class_a f) (fact_of f).a t f a (seen_in T)) (rule_here (class_b f) (fact_of f).b t f b (seen_in T)) (rule_here no_class (fact_of f).c t f c (seen_in T)) a b c
      same k i =
          as_seen line k (call_rule t env f (seen_in T) (suc k)) (rule_told (class_a f) (fact_of f).a a i) (rule_told (class_b f) (fact_of f).b b i)
          (rule_told no_class (fact_of f).c c i) a b c

-- ---- X

module _ (T : Tables) (line t r : ℕ) where
  pub leave_found : listed (judged_leave line r (leave_sight T t r)) ≡ of_line line (X t r) (seen_in T)
  unfolding listed judged_leave leave_sight handle_spot of_line breach rule_at line_rule place_rule is_there
  leave_found =
      by_rules (of_one_rule (judged_leave line r (leave_sight T t r)))
      (λ rule. joined places λ place. found line rule place (breach (X t r) (seen_in T) rule place))
      (same 0) (same 1) (same 2) (same 3) (same 4) (same 5) (same 6) (same 7) (same 8) (same 9) (same 10)
    where
      here : Option ℕ
      here = rule_here no_class Place.HandleOrNull t 0 r (seen_in T)

      same : (k : ℕ) → as_seen line k (line_rule (X t r) (seen_in T) (suc k)) here None None r 0 0 ≡ as_seen line k (line_rule (X t r) (seen_in T) (suc k)) here None None r r r
      same k = refl

-- ---- R

below_next : (c k : ℕ) → ltb c (suc k) ≡ leb c k
below_next c k = go (dec_lt k c)
  where
    go : Dec (k < c) → ltb c (suc k) ≡ leb c k
    go (yes h) = le-ltb c (suc k) (omega arith) ∙ sym (lt-leb c k h)
    go (no h) = lt-ltb c (suc k) (omega (arith, h)) ∙ sym (le-leb c k (omega (arith, h)))

exceeds_stack : (g : ℕ → ℕ) (d k : ℕ) → exceeds (stack g d) (suc k) ≡ (ltb 0 d && leb (top_capacity (stack g d)) k)
exceeds_stack g zero k = refl
exceeds_stack g (suc d) k = rw (lt-ltb 0 (suc d) (omega arith)) (below_next (g d) k)

capacity_passed : (H : Table) (b : List ℕ) (t : ℕ)
    → exceeds (thread_in b t).capacities (suc (handles_in H (in_frame t (length (thread_in b t).frames)))) ≡ over_capacity H b t
unfolding over_capacity thread_in thread_of
capacity_passed H b t =
    exceeds_stack (λ i. cell b t (capacity_at i)) (depth (cell b t)) (handles_in H (in_frame t (length (thread_in b t).frames)))
    ∙ ap (λ (d : ℕ). ltb 0 d && leb (top_capacity (thread_in b t).capacities) (handles_in H (in_frame t (length (thread_in b t).frames)))) (sym (length_frames (cell b t)))

-- only a local overflows, and its status is no result
overflow_as : (line h : ℕ) (s : ℤ) (over : Bool) (k : Result)
    → found line 11 0 (when (is_local_result k && not (eqb (above_zero (if_true is_status k then s else pos h)) 0) && over) (above_zero (if_true is_status k then s else pos h)))
    ≡ found line 11 0 (when (is_local_result k && not (eqb h 0) && over) h)
overflow_as line h s over Result.Local = refl
overflow_as line h s over Result.Global = refl
overflow_as line h s over Result.Weak = refl
overflow_as line h s over Result.Identity = refl
overflow_as line h s over Result.Buffer = refl
overflow_as line h s over Result.Status = refl
overflow_as line h s over Result.Nothing = refl

pub return_found : (T : Tables) (line t f h p : ℕ) (s : ℤ) → found_return line h (return_sight T t f h) ≡ of_line line (R t f (result_in_line f h s) p) (seen_in T)
unfolding found_return return_sight overflows_in overflows seen_in
return_found T line t f h p s =
    sym
    (return_listed line t f p (result_in_line f h s) (seen_in T)
    ∙ ap
    (λ (o : Bool). found line 11 0 (when (is_local_result (fact_of f).result && not (eqb (above_zero (result_in_line f h s)) 0) && o) (above_zero (result_in_line f h s))))
    (capacity_passed T.references T.book t)
    ∙ overflow_as line h s (over_capacity T.references T.book t) (fact_of f).result)

-- ---- D

pub detach_found : (T : Tables) (line t : ℕ) → found_detach line (detach_sight T t) ≡ of_line line (D t) (seen_in T)
unfolding found_detach detach_sight
detach_found T line t = sym (detach_listed line t (seen_in T))

-- ---- Z

pub end_found : (T : Tables) (line : ℕ) → found_end line (end_sight T) ≡ of_line line Z (seen_in T)
unfolding found_end end_sight
end_found T line = sym (end_listed line (seen_in T))

-- ---- a statement has no findings

pub statement_found : (line : ℕ) (s : Statement) (v : Seen) → of_line line (states s) v ≡ []
unfolding of_line breach rule_at line_rule place_rule
statement_found line s v = refl
