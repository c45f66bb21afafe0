-- Calls of the judge: what the contracts say is the step over lent tables, and so what is proved of it. Assumes nothing.
use Prim.Native.Nat.{ℕ}
use mathlib.Core.Path.{◌≡◌, refl, ap, ap₂, sym, ◌∙◌}
use mathlib.Core.Bool.{Bool, true, false, true≢false}
use mathlib.Core.List.{List, [], ◌∷◌}
use Rattle.std.specs.Prelude.{Ok, Err}
use Rattle.lines.specs.declared.refusal.Refusal.{Refusal}
use Rattle.lines.specs.Numbered.{number_of}
use Rattle.history.specs.Replies.{Reply, accepted, not_accepted}
use Rattle.answers.specs.Answer.{Answer, answered}
use Rattle.answers.proofs.Numbers.{its_number, number_most}
use Rattle.tables.specs.Tables.{Tables}
use Rattle.tables.specs.Stepping.{step_of, start_of}
use Rattle.events.specs.Outcome.{Outcome}
use Rattle.judge.specs.Outcome.{step_outcome}
use Rattle.demands.specs.Calls.{after}
use Rattle.demands.proofs.Demands.{demands}
use Rattle.promises.specs.Calls.{Starts, Steps, started, stepped}
use Rattle.promises.specs.Promises.{RefusalChangesNothing, RefusalNumber, TablesAre, Answers, RefusalAnswers}

-- ---- what the contracts say

start_is : {T S : Tables} → Starts T S → S ≡ start_of T
start_is c = sym c.given_back ∙ c.promised ∙ ap start_of c.lent

step_is : {T S : Tables} {bs : List ℕ} {r : Answer} → Steps T bs r S → (r ≡ answered (step_of T bs).reply) × (S ≡ (step_of T bs).left)
unfolding step_outcome
step_is {T} {S} {bs} {r} c = (
  ap (λ (o : Outcome). o.answer) c.promised ∙ ap₂ (λ (X : Tables) (x : List ℕ). answered (step_of X x).reply) c.lent c.line,
  sym c.given_back ∙ ap (λ (o : Outcome). o.left) c.promised ∙ ap₂ (λ (X : Tables) (x : List ℕ). (step_of X x).left) c.lent c.line,
)

-- ---- a refusal

-- an answer that refuses is of a reply that does, by the number of the refusal
refuses : (T : Tables) (bs : List ℕ) (k : Refusal) → Err k ≡ answered (step_of T bs).reply → (step_of T bs).reply ≡ not_accepted (number_of k)
refuses T bs k h = go (step_of T bs).reply refl h
  where
    of_answer : Answer → Refusal
    of_answer (Ok f) = k
    of_answer (Err r) = r

    is_found : Answer → Bool
    is_found (Ok f) = true
    is_found (Err r) = false

    go : (x : Reply) → (step_of T bs).reply ≡ x → Err k ≡ answered x → (step_of T bs).reply ≡ not_accepted (number_of k)
    go (accepted fs) e q = absurd (true≢false (sym (ap is_found q)))
    go (not_accepted j) e q =
        let n = (demands.of_any_tables T).refusal_numbered bs j e in
        e ∙ ap not_accepted (sym (its_number j n.0 n.1) ∙ ap number_of (sym (ap of_answer q)))

pub refusal_changes_nothing : RefusalChangesNothing
refusal_changes_nothing T S bs r k c e =
    let s = step_is c in
    s.1 ∙ (demands.of_any_tables T).refusal_changes_nothing bs (number_of k) (refuses T bs k (sym e ∙ s.0))

pub refusal_number : RefusalNumber
refusal_number T S bs k c = number_most k

-- ---- after a start

pub tables_are : TablesAre
unfolding after
tables_are T S [] (started c) = start_is c
tables_are T S (bs ∷ calls) (stepped {S = X} before c) = (step_is c).1 ∙ ap (λ (Y : Tables). (step_of Y bs).left) (tables_are T X calls before)

pub answers : Answers
answers T S S' calls bs r long before c =
    (step_is c).0
    ∙ ap (λ (X : Tables). answered (step_of X bs).reply) (tables_are T S calls before)
    ∙ ap answered ((demands.from_a_start T long calls).replies bs)

pub refusal_answers : RefusalAnswers
refusal_answers T S S' calls bs k long before c =
    sym ((demands.from_a_start T long calls).replies bs)
    ∙ ap (λ (X : Tables). (step_of X bs).reply) (sym (tables_are T S calls before))
    ∙ refuses S bs k (step_is c).0
