-- The code's events and lines: an event that is read is meant as the line, and an event that is meant is read. Assumes nothing.
use mathlib.Core.Path.{◌≡◌, refl, ap, ap₂, sym, subst, ◌∙◌}
use mathlib.Core.Bool.{Bool, true, false, not, ◌&&◌}
use mathlib.Core.List.{List, [], ◌∷◌, ◌++◌}
use Prim.Native.Nat.{ℕ, suc, zero, ◌-◌, ◌≤◌}
use native.Mathlib.Omega.{arith}
use lib.Dec.{eqb, leb}
use lib.IntN.{ℤ, pos, negsuc}
use lib.ListN.{length, take, drop, replicate, length-drop, take-append-drop}
use lib.Seq.{take-append_seam, drop-append_seam, length-take-le}
use borrow.Author.Tests.{eqb-true, leb-true, not-false}
use Rattle.std.specs.Prelude.{Result as Answer, Ok, Err}
use Rattle.words.specs.Choice.{if_true◌then◌else◌}
use Rattle.words.specs.Lists.{any}
use Rattle.facts.specs.Table.{fact_of, is_function}
use Rattle.facts.specs.declared.Result.{Result}
use Rattle.lines.specs.Line.{K, O, M, Line, N, X, C, R, A, D, Z, states, is_allowed, is_thread, is_env, is_argument, is_zero, is_made, result_allows, value_allows, above_zero, most_handles}
use Rattle.lines.specs.Reading.{says, refused}
use Rattle.lines.specs.Events.{is_status, gives_status, event_in, event_of, padded, slots_of, not_zero, with_slots, meant_in, meant}
use Rattle.lines.specs.declared.Event.{Event}
use Rattle.lines.specs.declared.refusal.Refusal.{Refusal}
use Rattle.lines.proofs.Tests.{all4, neither}
use Rattle.lines.proofs.Numbered.{never}

-- ---- slots

pub no_slots : (n : ℕ) → any not_zero (replicate n 0) ≡ false
no_slots zero = refl
no_slots (suc n) = no_slots n

all_zero : (hs : List ℕ) → any not_zero hs ≡ false → hs ≡ replicate (length hs) 0
all_zero [] h = refl
all_zero (x ∷ hs) h =
    let k = neither (not_zero x) (any not_zero hs) h in
    ap₂ (λ (y : ℕ) (ys : List ℕ). y ∷ ys) (eqb-true x 0 (not-false (eqb x 0) k.0)) (all_zero hs k.1)

with_slots_said : (n : ℕ) (hs : List ℕ) (x e : Line) → with_slots n hs x ≡ says e
    → (n ≤ most_handles) × (any not_zero (drop n hs) ≡ false) × (is_allowed x ≡ true) × (x ≡ e)
with_slots_said n hs x e = go (leb n most_handles) refl (any not_zero (drop n hs)) refl (is_allowed x) refl
  where
    go : (a : Bool) → leb n most_handles ≡ a → (b : Bool) → any not_zero (drop n hs) ≡ b → (c : Bool) → is_allowed x ≡ c
        → (if_true a && not b && c then says x else refused 3) ≡ says e
        → (n ≤ most_handles) × (any not_zero (drop n hs) ≡ false) × (is_allowed x ≡ true) × (x ≡ e)
    go true p false q true r h = (leb-true n most_handles p, q, r, cc)
    go true p false q false r h = absurd (never h)
    go true p true q c r h = absurd (never h)
    go false p b q c r h = absurd (never h)

-- the slots past the first n are zero
padded_take : (n : ℕ) (hs : List ℕ) → length hs ≡ most_handles → n ≤ most_handles → any not_zero (drop n hs) ≡ false → padded (take n hs) ≡ hs
padded_take n hs l h z =
    let a = length-take-le n hs (omega arith) in
    let b = length-drop n hs in
    let k : most_handles - length (take n hs) ≡ length (drop n hs) = omega arith in
    ap (λ (i : ℕ). take n hs ++ replicate i 0) k ∙ ap (λ (x : List ℕ). take n hs ++ x) (sym (all_zero (drop n hs) z)) ∙ take-append-drop n hs

-- ---- writing what was read

plain_value : (test : ℕ → Bool) (r : ℤ) → value_allows test r ≡ true → pos (above_zero r) ≡ r
plain_value test (pos v) h = refl
plain_value test (negsuc v) h = let z : ◌≡◌ {A = ℕ} 0 1 = cc in absurd (omega arith)

plain_zero : (r : ℤ) → is_zero r ≡ true → pos (above_zero r) ≡ r
plain_zero (pos v) h = refl
plain_zero (negsuc v) h = let z : ◌≡◌ {A = ℕ} 0 1 = cc in absurd (omega arith)

-- a result that is no status has no sign
pub plain_result : (k : Result) (r : ℤ) → is_status k ≡ false → result_allows k r ≡ true → pos (above_zero r) ≡ r
plain_result Result.Local r s h = plain_value (is_made 1) r h
plain_result Result.Global r s h = plain_value (is_made 2) r h
plain_result Result.Weak r s h = plain_value (is_made 3) r h
plain_result Result.Identity r s h = plain_value (is_made 0) r h
plain_result Result.Buffer r s h = plain_value (λ v. true) r h
plain_result Result.Status r s h = let z : ◌≡◌ {A = ℕ} 0 1 = cc in absurd (omega arith)
plain_result Result.Nothing r s h = plain_zero r h

return_meant : (t f : ℕ) (r : ℤ) (p : ℕ) → is_allowed (R t f r p) ≡ true → meant_in (event_in (R t f r p)) (padded []) ≡ says (R t f r p)
return_meant t f r p h = go (gives_status f) refl
  where
    go : (s : Bool) → gives_status f ≡ s
        → meant_in (if_true s then Event.Return t f 0 r p else Event.Return t f (above_zero r) (pos 0) p) (padded []) ≡ says (R t f r p)
    go true e = rw (e, h)
    go false e =
        let k = all4 (is_thread t) (is_function f) (result_allows (fact_of f).result r) (leb p 1) h in
        let q = plain_result (fact_of f).result r e k.2 in
        rw (e, q, h)

pub meant_read : (e : Line) → is_allowed e ≡ true → meant (event_of (says e)) (slots_of (says e)) ≡ says e
meant_read (N t env hs) h =
    let k = all4 (is_thread t) (is_env env) (leb (length hs) most_handles) (not (any (λ (x : ℕ). not (is_argument x)) hs)) h in
    let d : any not_zero (drop (length hs) (padded hs)) ≡ false = rw (drop-append_seam hs (replicate (most_handles - length hs) 0)) (no_slots (most_handles - length hs)) in
    rw (k.2, d, take-append_seam hs (replicate (most_handles - length hs) 0), h)
meant_read (X t r) h = rw h
meant_read (C t env f a b c n) h = rw h
meant_read (R t f r p) h = return_meant t f r p h
meant_read (A t env) h = rw h
meant_read (D t) h = rw h
meant_read Z h = refl
meant_read (states (K c s)) h = rw h
meant_read (states (O t v c)) h = rw h
meant_read (states (M x sort c static final)) h = rw h

-- ---- reading what was written

abbrev Same : Event → List ℕ → Line → Type 0
Same ev hs e = (event_in e ≡ ev) × (slots_of (says e) ≡ hs) × (is_allowed e ≡ true)

no_handles : (hs : List ℕ) → length hs ≡ most_handles → any not_zero hs ≡ false → padded [] ≡ hs
no_handles hs l z = padded_take 0 hs l (omega arith) z

zero_is : (s : ℤ) → is_zero s ≡ true → pos 0 ≡ s
zero_is (pos n) h = ap pos (sym (eqb-true n 0 h))
zero_is (negsuc n) h = let z : ◌≡◌ {A = ℕ} 0 1 = cc in absurd (omega arith)

return_same : (t f r : ℕ) (s : ℤ) (p : ℕ) (hs : List ℕ) (e : Line) → length hs ≡ most_handles
    → meant_in (Event.Return t f r s p) hs ≡ says e → Same (Event.Return t f r s p) hs e
return_same t f r s p hs e l = go (gives_status f) refl (eqb r 0) refl (is_zero s) refl
  where
    go : (x : Bool) → gives_status f ≡ x → (y : Bool) → eqb r 0 ≡ y → (z : Bool) → is_zero s ≡ z
        → (if_true x then (if_true y then with_slots 0 hs (R t f s p) else refused 3) else (if_true z then with_slots 0 hs (R t f (pos r) p) else refused 3)) ≡ says e
        → Same (Event.Return t f r s p) hs e
    go true a true b z c h =
        let k = with_slots_said 0 hs (R t f s p) e h in
        subst (Same (Event.Return t f r s p) hs) k.3
        (rw a (ap (λ (i : ℕ). Event.Return t f i s p) (sym (eqb-true r 0 b))), no_handles hs l k.1, k.2)
    go true a false b z c h = absurd (never h)
    go false a y b true c h =
        let k = with_slots_said 0 hs (R t f (pos r) p) e h in
        subst (Same (Event.Return t f r s p) hs) k.3
        (rw a (ap (λ (i : ℤ). Event.Return t f r i p) (zero_is s c)), no_handles hs l k.1, k.2)
    go false a y b false c h = absurd (never h)

same_meant : (ev : Event) (hs : List ℕ) (e : Line) → length hs ≡ most_handles → meant_in ev hs ≡ says e → Same ev hs e
same_meant (Event.Enter t env n) hs e l h =
    let k = with_slots_said n hs (N t env (take n hs)) e h in
    let a = length-take-le n hs (let m = k.0 in omega arith) in
    subst (Same (Event.Enter t env n) hs) k.3
    (ap (Event.Enter t env) a, padded_take n hs l k.0 k.1, k.2)
same_meant (Event.Leave t r) hs e l h =
    let k = with_slots_said 0 hs (X t r) e h in
    subst (Same (Event.Leave t r) hs) k.3
    (refl, no_handles hs l k.1, k.2)
same_meant (Event.Call t env f a b c n) hs e l h =
    let k = with_slots_said 0 hs (C t env f a b c n) e h in
    subst (Same (Event.Call t env f a b c n) hs) k.3
    (refl, no_handles hs l k.1, k.2)
same_meant (Event.Return t f r s p) hs e l h = return_same t f r s p hs e l h
same_meant (Event.Attach t env) hs e l h =
    let k = with_slots_said 0 hs (A t env) e h in
    subst (Same (Event.Attach t env) hs) k.3
    (refl, no_handles hs l k.1, k.2)
same_meant (Event.Detach t) hs e l h =
    let k = with_slots_said 0 hs (D t) e h in
    subst (Same (Event.Detach t) hs) k.3
    (refl, no_handles hs l k.1, k.2)
same_meant (Event.Declare c s) hs e l h =
    let k = with_slots_said 0 hs (states (K c s)) e h in
    subst (Same (Event.Declare c s) hs) k.3
    (refl, no_handles hs l k.1, k.2)
same_meant (Event.State t v c) hs e l h =
    let k = with_slots_said 0 hs (states (O t v c)) e h in
    subst (Same (Event.State t v c) hs) k.3
    (refl, no_handles hs l k.1, k.2)
same_meant (Event.Identify x sort c static final) hs e l h =
    let k = with_slots_said 0 hs (states (M x sort c static final)) e h in
    subst (Same (Event.Identify x sort c static final) hs) k.3
    (refl, no_handles hs l k.1, k.2)
same_meant Event.End hs e l h =
    let k = with_slots_said 0 hs Z e h in
    subst (Same Event.End hs) k.3
    (refl, no_handles hs l k.1, refl)

pub read_meant : (r : Answer Event Refusal) (hs : List ℕ) (e : Line) → length hs ≡ most_handles → meant r hs ≡ says e
    → (event_of (says e) ≡ r) × (slots_of (says e) ≡ hs) × (is_allowed e ≡ true)
read_meant (Ok ev) hs e l h = let k = same_meant ev hs e l h in (ap Ok k.0, k.1, k.2)
read_meant (Err k) hs e l h = absurd (never h)
