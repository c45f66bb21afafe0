-- What C was told of a line it can write again, and no two lines are told alike. Assumes nothing.
use mathlib.Core.Path.{◌≡◌, refl, ap, ap₂, sym, ◌∙◌}
use mathlib.Core.Bool.{Bool, true, false}
use mathlib.Core.List.{List, [], ◌∷◌, ◌++◌, map}
use Prim.Native.Nat.{ℕ, suc, ◌-◌}
use native.Mathlib.Omega.{arith}
use lib.Dec.{leb}
use lib.IntN.{ℤ, pos, negsuc}
use lib.ListN.{length, replicate, length-map}
use borrow.Author.Tests.{leb-true, lt-leb}
use Rattle.std.specs.Prelude.{Ok}
use Rattle.words.specs.Choice.{if_true◌then◌else◌}
use Rattle.facts.specs.Table.{fact_of, is_function}
use Rattle.numbers.specs.Signed.{largest_i32, is_i32}
use Rattle.lines.specs.Line.{K, O, M, Line, N, X, C, R, A, D, Z, states, is_allowed, is_thread, above_zero, result_allows, largest, most_handles}
use Rattle.lines.specs.Forms.{letter_of, numbers_of}
use Rattle.lines.specs.Reading.{says}
use Rattle.lines.specs.Events.{gives_status, event_in, slots_of, meant_in, meant}
use Rattle.lines.specs.Apart.{as_told, numbers_told}
use Rattle.lines.specs.Handed.{signed_of, handed, handed_slots}
use Rattle.lines.specs.declared.Event.TheVariants as Event
use Rattle.lines.proofs.Tests.{all4}
use Rattle.lines.proofs.FormLaws.{call_i32}
use Rattle.lines.proofs.RangeLaws.{status_i32}
use Rattle.lines.proofs.Meant.{plain_result, meant_read}

-- a capacity or a status comes back from what it is told as
pub signed_back : (z : ℤ) → is_i32 z ≡ true → signed_of (as_told z) ≡ z
signed_back (pos n) h = rw h
signed_back (negsuc n) h =
    let l = leb-true n largest_i32 h in
    let back : largest - (largest - n) ≡ n = omega arith in
    rw (lt-leb (largest - n) largest_i32 (omega arith)) (ap negsuc back)

plain_told : (hs : List ℕ) → map as_told (map pos hs) ≡ hs
plain_told [] = refl
plain_told (h ∷ hs) = ap (λ (ws : List ℕ). h ∷ ws) (plain_told hs)

-- a result without a sign is told as itself
plain_result_told : (r : ℤ) → pos (above_zero r) ≡ r → as_told r ≡ above_zero r
plain_result_told (pos n) h = refl
plain_result_told (negsuc n) h = let z : ◌≡◌ {A = ℕ} 0 1 = cc in absurd (omega arith)

-- the event that is handed over, and the slots beside it
abbrev Handed : Line → Type 0
Handed e = (handed (letter_of e) (length (numbers_of e)) (numbers_told e) ≡ event_in e) × (handed_slots (letter_of e) (numbers_told e) ≡ slots_of (says e))

pub told_again : (e : Line) → is_allowed e ≡ true → Handed e
told_again (N t env hs) h =
    let l = length-map hs pos in
    let n : suc (suc (length (map pos hs))) - 2 ≡ length hs = omega arith in
    let m : 10 - suc (suc (length (map pos hs))) ≡ most_handles - length hs = omega arith in
    (ap (Event.Enter t env) n, ap₂ (λ (ws : List ℕ) (k : ℕ). ws ++ replicate k 0) (plain_told hs) m)
told_again (X t r) h = (refl, refl)
told_again (C t env f a b c n) h = (ap (Event.Call t env f a b c) (signed_back n (call_i32 t env f a b c n h)), refl)
told_again (R t f r p) h = (go (gives_status f) refl, refl)
  where
    allowed : result_allows (fact_of f).result r ≡ true
    allowed = (all4 (is_thread t) (is_function f) (result_allows (fact_of f).result r) (leb p 1) h).2

    go : (s : Bool) → gives_status f ≡ s
        → (if_true s then Event.Return t f 0 (signed_of (as_told r)) p else Event.Return t f (as_told r) (pos 0) p)
        ≡ (if_true s then Event.Return t f 0 r p else Event.Return t f (above_zero r) (pos 0) p)
    go true e = ap (λ (z : ℤ). Event.Return t f 0 z p) (signed_back r (status_i32 (fact_of f).result r e allowed))
    go false e = ap (λ (n : ℕ). Event.Return t f n (pos 0) p) (plain_result_told r (plain_result (fact_of f).result r e allowed))
told_again (A t env) h = (refl, refl)
told_again (D t) h = (refl, refl)
told_again Z h = (refl, refl)
told_again (states (K c s)) h = (refl, refl)
told_again (states (O t v c)) h = (refl, refl)
told_again (states (M x sort c static final)) h = (refl, refl)

-- the writers take it for the same line
pub written_again : (e : Line) → is_allowed e ≡ true → meant (Ok (handed (letter_of e) (length (numbers_of e)) (numbers_told e))) (handed_slots (letter_of e) (numbers_told e)) ≡ says e
written_again e h = let k = told_again e h in ap₂ meant_in k.0 k.1 ∙ meant_read e h

pub told_once : (e f : Line) → is_allowed e ≡ true → is_allowed f ≡ true → letter_of e ≡ letter_of f → length (numbers_of e) ≡ length (numbers_of f) → numbers_told e ≡ numbers_told f
    → says e ≡ says f
told_once e f h g l n w =
    sym (written_again e h)
    ∙ ap₂ (λ (b : ℕ) (ws : List ℕ). meant_in (handed b (length (numbers_of e)) ws) (handed_slots b ws)) l w
    ∙ ap (λ (k : ℕ). meant_in (handed (letter_of f) k (numbers_told f)) (handed_slots (letter_of f) (numbers_told f))) n
    ∙ written_again f g
