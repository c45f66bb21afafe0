-- Sizes and a sign as the numbers that are told to C, and a line's numbers among them. Assumes nothing.
use mathlib.Core.Path.{◌≡◌, refl, ap, ap₂, sym, ◌∙◌}
use mathlib.Core.Bool.{Bool, true, false}
use mathlib.Core.List.{List, [], ◌∷◌, ◌++◌, map, map-append}
use mathlib.Core.Logic.{inl, inr}
use Prim.Native.Nat.{ℕ, zero, suc, ◌+◌, ◌-◌, ◌≤◌, ◌<◌}
use native.Mathlib.Omega.{arith}
use lib.Dec.{eqb}
use Rattle.std.specs.Prelude.{Result, Ok}
use lib.IntN.{ℤ}
use lib.ListN.{length, get_or, set, take, drop, replicate, take-append-drop}
use lib.Seq.{length-take-le}
use borrow.Author.Tests.{eq-eqb, ne_eqb}
use Rattle.numbers.specs.Signed.{signed}
use Rattle.lines.specs.Line.{K, O, M, Line, N, X, C, R, A, D, Z, states}
use Rattle.lines.specs.Forms.{most_fields, no_place, form_of, numbers_of}
use Rattle.lines.specs.Reading.{Read, says}
use Rattle.lines.specs.Events.{event_in, event_of}
use Rattle.lines.specs.Apart.{as_told, numbers_told, apart, apart_of, numbers_left}
use Rattle.lines.specs.Sizes.{signed_at, minus_place, line_in, sizes_told}
use Rattle.lines.specs.Gathered.{Headed}
use Rattle.lines.specs.declared.Event.{Event}
use Rattle.lines.specs.declared.heads.Head.{Head}
use Rattle.lines.specs.declared.refusal.Refusal.{Refusal}
use Rattle.lines.proofs.Signs.{Away, away, away_next}
use Rattle.lines.proofs.Answered.{event_said}
use Rattle.lines.proofs.GatheredLaws.{line_in_numbered}

-- ---- sizes, of which that at place k is below zero

-- it is none of them
plain_told : (i k : ℕ) (vs : List ℕ) → Away k i (length vs) → map as_told (signed_at i k vs) ≡ vs
unfolding signed_at
plain_told i k [] a = refl
plain_told i k (v ∷ vs) a = rw (away k i (length vs) a) (ap (λ (ws : List ℕ). v ∷ ws) (plain_told (suc i) k vs (away_next k i (length vs) a)))

-- it is the j-th
signed_told : (i k j : ℕ) (vs : List ℕ) → i + j ≡ k → j < length vs → map as_told (signed_at i k vs) ≡ set vs j (as_told (signed true (get_or vs j 0)))
unfolding signed_at
signed_told i k j [] e h = absurd (omega arith)
signed_told i k zero (v ∷ vs) e h =
    rw (eq-eqb i k (omega arith)) (ap (λ (ws : List ℕ). as_told (signed true v) ∷ ws) (plain_told (suc i) k vs (inl (omega arith))))
signed_told i k (suc j) (v ∷ vs) e h =
    rw (ne_eqb i k (λ z. omega arith)) (ap (λ (ws : List ℕ). v ∷ ws) (signed_told (suc i) k j vs (omega arith) (omega arith)))

-- ---- for the code

module _ (b : ℕ) (vs : List ℕ) (ten : length vs ≡ most_fields) where
  pub told_plain : vs ≡ sizes_told b false vs
  told_plain = sym (plain_told 0 no_place vs (inr (omega arith)))

  module _ {k : ℕ} (place : k ≡ (form_of b).signed) where
    pub told_none : most_fields ≤ k → vs ≡ sizes_told b true vs
    told_none h = sym (plain_told 0 (form_of b).signed vs (inr (omega arith)))

    pub told_signed : {w : ℕ} → k < most_fields → w ≡ as_told (signed true (get_or vs k 0)) → set vs k w ≡ sizes_told b true vs
    told_signed {w} h e = ap (set vs k) e ∙ sym (signed_told 0 (form_of b).signed k vs (omega arith) (omega arith))

-- ---- a line's numbers, and no size past them

length_signed : (i k : ℕ) (vs : List ℕ) → length (signed_at i k vs) ≡ length vs
unfolding signed_at
length_signed i k [] = refl
length_signed i k (v ∷ vs) = ap suc (length_signed (suc i) k vs)

signed_append : (i k : ℕ) (us vs : List ℕ) → signed_at i k (us ++ vs) ≡ signed_at i k us ++ signed_at (i + length us) k vs
unfolding signed_at
signed_append i k [] vs = let e : i ≡ i + 0 = omega arith in ap (λ (j : ℕ). signed_at j k vs) e
signed_append i k (u ∷ us) vs =
    let e : suc i + length us ≡ i + suc (length us) = omega arith in
    ap (λ (ns : List ℤ). signed (eqb i k) u ∷ ns) (signed_append (suc i) k us vs ∙ ap (λ (j : ℕ). signed_at (suc i) k us ++ signed_at j k vs) e)

none_told : (i k n : ℕ) → map as_told (signed_at i k (replicate n 0)) ≡ replicate n 0
unfolding signed_at
none_told i k zero = refl
none_told i k (suc n) = ap₂ (λ (w : ℕ) (ws : List ℕ). w ∷ ws) (none (eqb i k)) (none_told (suc i) k n)
  where
    none : (t : Bool) → as_told (signed t 0) ≡ 0
    none true = refl
    none false = refl

-- how many there are, and the numbers in ten slots
counted : (b n : ℕ) (minus : Bool) (vs : List ℕ) (e : Line) → length vs ≡ most_fields → line_in b n minus vs ≡ says e → length (numbers_of e) ≡ n
counted b n minus vs e ten h =
    let k = line_in_numbered b n minus vs e h in
    ap length k.1.numbers ∙ length_signed 0 (minus_place b minus) (take n vs) ∙ length-take-le n vs (omega (arith, k.0))

line_told : (b n : ℕ) (minus : Bool) (vs : List ℕ) (e : Line) → length vs ≡ most_fields → line_in b n minus vs ≡ says e
    → drop (length (numbers_of e)) vs ≡ replicate (most_fields - length (numbers_of e)) 0 → sizes_told b minus vs ≡ numbers_told e
line_told b n minus vs e ten h none =
    let k = minus_place b minus in
    let same = (line_in_numbered b n minus vs e h).1.numbers in
    let rest : List ℕ = replicate (most_fields - length (numbers_of e)) 0 in
    let past : drop n vs ≡ rest = ap (λ (i : ℕ). drop i vs) (sym (counted b n minus vs e ten h)) ∙ none in
    ap (λ (ws : List ℕ). map as_told (signed_at 0 k ws)) (sym (take-append-drop n vs) ∙ ap (λ (ws : List ℕ). take n vs ++ ws) past)
    ∙ ap (map as_told) (signed_append 0 k (take n vs) rest)
    ∙ map-append as_told (signed_at 0 k (take n vs)) (signed_at (0 + length (take n vs)) k rest)
    ∙ ap₂ (λ (us ws : List ℕ). us ++ ws) (ap (map as_told) (sym same)) (none_told (0 + length (take n vs)) k (most_fields - length (numbers_of e)))

-- N has two numbers at least
enters_two : (e : Line) {t env k : ℕ} → event_in e ≡ Event.Enter t env k → 2 ≤ length (numbers_of e)
enters_two (N t env hs) h = omega arith
enters_two (X t r) h = omega arith
enters_two (C t env f a b c n) h = omega arith
enters_two (R t f r p) h = omega arith
enters_two (A t env) h = omega arith
enters_two (D t) h = let z : ◌≡◌ {A = ℕ} 0 1 = cc in absurd (omega arith)
enters_two Z h = let z : ◌≡◌ {A = ℕ} 0 1 = cc in absurd (omega arith)
enters_two (states (K c s)) h = omega arith
enters_two (states (O t v c)) h = omega arith
enters_two (states (M x sort c static final)) h = omega arith

pub enter_few : (b n : ℕ) (minus : Bool) (vs : List ℕ) {t env k : ℕ} → length vs ≡ most_fields → event_of (line_in b n minus vs) ≡ Ok (Event.Enter t env k) → (2 ≤ n) × (n ≤ most_fields)
enter_few b n minus vs {t} {env} {k} ten h =
    let s = event_said (line_in b n minus vs) (Event.Enter t env k) h in
    let c = counted b n minus vs s.0 ten s.1 in
    let two = enters_two s.0 s.2 in
    (omega arith, (line_in_numbered b n minus vs s.0 s.1).0)

-- ---- what is told of what was read

module _ (b n : ℕ) (minus : Bool) (vs : List ℕ) (ten : length vs ≡ most_fields) {e : Event} (told : event_of (line_in b n minus vs) ≡ Ok e) where
  pub apart_line : {x : Read} {r : Result Head Refusal} {left : List ℕ} (ws : List ℕ) → Headed x r vs → line_in b n minus vs ≡ x → left ≡ sizes_told b minus vs
      → (Ok (apart b n) ≡ apart_of x) × (left ≡ numbers_left x ws)
  apart_line {x} ws r same w =
      let s = event_said (line_in b n minus vs) e told in
      let l = s.0 in
      let k = line_in_numbered b n minus vs l s.1 in
      let q : x ≡ says l = sym same ∙ s.1 in
      rw q (sym (ap₂ (λ (c : ℕ) (m : ℕ). Ok (apart c m)) k.1.letter (counted b n minus vs l ten s.1)), w ∙ line_told b n minus vs l ten s.1 (r.rest l q))
