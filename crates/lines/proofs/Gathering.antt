-- What is gathered of numbers: how many, whether one is out of range, their sizes. Assumes nothing.
use mathlib.Core.Path.{◌≡◌, refl, ap, ap₂, sym, ◌∙◌}
use mathlib.Core.Bool.{Bool, true, false, not, ◌&&◌, ◌||◌}
use mathlib.Core.List.{List, [], ◌∷◌, map}
use Rattle.std.specs.Prelude.{Option, None, Some}
use Prim.Native.Nat.{ℕ, suc, ◌+◌, ◌≤◌, ◌<◌}
use native.Mathlib.Omega.{arith}
use native.Mathlib.Decide.{dec_le, dec_lt}
use lib.Dec.{eqb, leb, ltb}
use lib.IntN.{ℤ, pos, negsuc, nat_abs}
use lib.ListN.{length, set, length-set, length-map}
use borrow.Author.Tests.{lt-ltb, le-ltb, le-leb, lt-leb, ltb-false, leb-true, leb-false}
use Rattle.words.specs.Choice.{if_true◌then◌else◌}
use Rattle.words.specs.Lists.{any}
use Rattle.words.specs.Text.{tab}
use Rattle.numbers.specs.Decimal.{number}
use Rattle.numbers.specs.Reading.{bounded, found}
use Rattle.numbers.specs.Writing.{put}
use Rattle.numbers.specs.declared.Field.{Field}
use Rattle.numbers.proofs.Put.{put_none, put_cons}
use Rattle.numbers.specs.Signed.{is_negative}
use Rattle.lines.specs.Line.{largest}
use Rattle.lines.specs.Forms.{most_fields}
use Rattle.lines.specs.Reading.{and_number, numbers}
use Rattle.lines.specs.Gathered.{fields_from, tally, wrong, Gathered, gathered_as, and_field, taken, gathered}
use Rattle.lines.specs.declared.heads.Tally.{Tally}
use Rattle.lines.proofs.Field.{field_fits, next_field, past_end}
use Rattle.lines.proofs.Tests.{neither, or_false, or_true, or_or}

-- ---- numbers out of range, when only that at place k may be below zero

abbrev pub too_large : ℤ → Bool
too_large z = ltb largest (nat_abs z)

abbrev pub wrong_at : ℕ → ℕ → ℤ → Bool
wrong_at k i z = too_large z || (is_negative z && not (eqb i k))

-- from place i on
unfoldable pub any_wrong : ℕ → ℕ → List ℤ → Bool
any_wrong k i [] = false
any_wrong k i (n ∷ ns) = wrong_at k i n || any_wrong k (i + 1) ns

-- ---- one field

-- it is counted, and whether it is wrong is kept
record Counted (k : ℕ) (g : Gathered) (z : ℤ) (r : Gathered) : Type 0 where
  count : r.tally.count ≡ g.tally.count + 1
  out : r.tally.out ≡ (g.tally.out || wrong_at k g.tally.count z)

counted : (k : ℕ) (g : Gathered) (z : ℤ) → Counted k g z (and_field k g (bounded largest (Some z)))
counted k g (pos n) = go (leb n largest) refl
  where
    go : (t : Bool) → leb n largest ≡ t → Counted k g (pos n) (and_field k g (if_true t then Field.Plus n else Field.Out))
    go true h = record { count = refl; out = rw (le-ltb largest n (leb-true n largest h)) (sym (or_false g.tally.out)) }
    go false h = record { count = refl; out = rw (lt-ltb largest n (leb-false n largest h)) (sym (or_true g.tally.out)) }
counted k g (negsuc n) = go (leb (suc n) largest) refl
  where
    go : (t : Bool) → leb (suc n) largest ≡ t → Counted k g (negsuc n) (and_field k g (if_true t then Field.Minus (suc n) else Field.Out))
    go true h = record { count = refl; out = rw (le-ltb largest (suc n) (leb-true (suc n) largest h)) }
    go false h = record { count = refl; out = rw (lt-ltb largest (suc n) (leb-false (suc n) largest h)) (sym (or_true g.tally.out)) }

-- its size is kept, if it is not wrong
valued : (k : ℕ) (g : Gathered) (z : ℤ) → wrong_at k g.tally.count z ≡ false
    → and_field k g (bounded largest (Some z))
    ≡ gathered_as (tally (g.tally.count + 1) g.tally.out (g.tally.minus || is_negative z)) (set g.values g.tally.count (nat_abs z))
valued k g (pos n) h =
    let l = ltb-false largest n (neither (too_large (pos n)) false h).0 in
    rw (le-leb n largest l, or_false g.tally.minus)
valued k g (negsuc n) h =
    let q = neither (too_large (negsuc n)) (not (eqb g.tally.count k)) h in
    let l = ltb-false largest (suc n) q.0 in
    rw (le-leb (suc n) largest l, q.1, or_false g.tally.out, or_true g.tally.minus)

pub taken_one : (k : ℕ) (g : Gathered) (x : Field) → g.tally.count < most_fields → taken k g x ≡ and_field k g x
unfolding taken
taken_one k g x h = rw (lt-ltb g.tally.count most_fields h)

pub taken_none : (k : ℕ) (g : Gathered) (x : Field) → most_fields ≤ g.tally.count → taken k g x ≡ gathered_as wrong g.values
unfolding taken
taken_none k g x h = rw (le-ltb g.tally.count most_fields h)

-- one that is no number, or one too many, is mended by no other
taken_over : (k : ℕ) (g : Gathered) (x : Field) → most_fields < (taken k g x).tally.count → taken k g x ≡ gathered_as wrong g.values
taken_over k g x h = go (dec_lt g.tally.count most_fields) x h
  where
    go : Dec (g.tally.count < most_fields) → (x : Field) → most_fields < (taken k g x).tally.count → taken k g x ≡ gathered_as wrong g.values
    go (no l) x h = taken_none k g x (omega arith)
    go (yes l) (Field.Plus n) h = let c = ap (λ (r : Gathered). r.tally.count) (taken_one k g (Field.Plus n) l) in absurd (omega arith)
    go (yes l) (Field.Minus n) h = let c = ap (λ (r : Gathered). r.tally.count) (taken_one k g (Field.Minus n) l) in absurd (omega arith)
    go (yes l) Field.Out h = let c = ap (λ (r : Gathered). r.tally.count) (taken_one k g Field.Out l) in absurd (omega arith)
    go (yes l) Field.Bad h = taken_one k g Field.Bad l

wrong_stays : (k : ℕ) (vs : List ℕ) (ws : List (List ℕ)) → gathered k (gathered_as wrong vs) ws ≡ gathered_as wrong vs
unfolding gathered
wrong_stays k vs [] = refl
wrong_stays k vs (w ∷ ws) =
    ap (λ (g : Gathered). gathered k g ws) (taken_none k (gathered_as wrong vs) (bounded largest (number w)) (omega arith)) ∙ wrong_stays k vs ws

pub nothing_mends : (k : ℕ) (g : Gathered) (x : Field) (ws : List (List ℕ)) → most_fields < (taken k g x).tally.count → gathered k (taken k g x) ws ≡ taken k g x
nothing_mends k g x ws h = let e = taken_over k g x h in ap (λ (r : Gathered). gathered k r ws) e ∙ wrong_stays k g.values ws ∙ sym e

-- ---- all fields

-- how many numbers there are, from i on; one past the most where one is none or there are more
abbrev pub counted_from : ℕ → Option (List ℤ) → ℕ
counted_from i None = suc most_fields
counted_from i (Some ns) = if_true leb (i + length ns) most_fields then i + length ns else suc most_fields

past_most : (i : ℕ) (o : Option (List ℤ)) → most_fields < i → counted_from i o ≡ suc most_fields
past_most i None h = refl
past_most i (Some ns) h = rw (lt-leb (i + length ns) most_fields (omega arith))

no_more : (i : ℕ) (o : Option (List ℤ)) (a : Option ℤ) → most_fields ≤ i → counted_from i (and_number a o) ≡ suc most_fields
no_more i o None h = refl
no_more i None (Some n) h = refl
no_more i (Some ns) (Some n) h = rw (lt-leb (i + suc (length ns)) most_fields (omega arith))

one_more : (i : ℕ) (n : ℤ) (o : Option (List ℤ)) → counted_from (i + 1) o ≡ counted_from i (and_number (Some n) o)
one_more i n None = refl
one_more i n (Some ns) =
    let k : i + 1 + length ns ≡ i + suc (length ns) = omega arith in
    ap (λ (m : ℕ). if_true leb m most_fields then m else suc most_fields) k

end_count : (n : ℕ) → n ≤ suc most_fields → n ≡ (if_true leb (n + 0) most_fields then n + 0 else suc most_fields)
end_count n h = go (dec_le n most_fields)
  where
    go : Dec (n ≤ most_fields) → n ≡ (if_true leb (n + 0) most_fields then n + 0 else suc most_fields)
    go (yes l) = rw (le-leb (n + 0) most_fields (omega arith)) (omega arith)
    go (no l) = rw (lt-leb (n + 0) most_fields (omega arith)) (omega arith)

pub gathered_count : (k : ℕ) (ws : List (List ℕ)) (g : Gathered) → g.tally.count ≤ suc most_fields
    → (gathered k g ws).tally.count ≡ counted_from g.tally.count (numbers ws)
unfolding gathered numbers
gathered_count k [] g h = end_count g.tally.count h
gathered_count k (w ∷ ws) g h = go (dec_lt g.tally.count most_fields) (number w) refl (gathered_count k ws)
  where
    go : Dec (g.tally.count < most_fields) → (a : Option ℤ) → number w ≡ a
        → ((g : Gathered) → g.tally.count ≤ suc most_fields → (gathered k g ws).tally.count ≡ counted_from g.tally.count (numbers ws))
        → (gathered k (taken k g (bounded largest a)) ws).tally.count ≡ counted_from g.tally.count (and_number a (numbers ws))
    go (yes l) None e ih =
        let t : taken k g (bounded largest None) ≡ gathered_as wrong g.values = taken_one k g Field.Bad l in
        rw t (ih (gathered_as wrong g.values) (omega arith) ∙ past_most (suc most_fields) (numbers ws) (omega arith))
    go (yes l) (Some z) e ih =
        let r = and_field k g (bounded largest (Some z)) in
        let t : taken k g (bounded largest (Some z)) ≡ r = taken_one k g (bounded largest (Some z)) l in
        let c : r.tally.count ≡ g.tally.count + 1 = (counted k g z).count in
        ap (λ (x : Gathered). (gathered k x ws).tally.count) t
        ∙ ih r (omega arith)
        ∙ ap (λ (n : ℕ). counted_from n (numbers ws)) c
        ∙ one_more g.tally.count z (numbers ws)
    go (no l) a e ih =
        let t : taken k g (bounded largest a) ≡ gathered_as wrong g.values = taken_none k g (bounded largest a) (omega arith) in
        ap (λ (x : Gathered). (gathered k x ws).tally.count) t
        ∙ ih (gathered_as wrong g.values) (omega arith)
        ∙ past_most (suc most_fields) (numbers ws) (omega arith)
        ∙ sym (no_more g.tally.count (numbers ws) a (omega arith))

-- whether one is wrong
pub gathered_out : (k : ℕ) (ws : List (List ℕ)) (ns : List ℤ) (g : Gathered) → numbers ws ≡ Some ns → g.tally.count + length ns ≤ most_fields
    → (gathered k g ws).tally.out ≡ (g.tally.out || any_wrong k g.tally.count ns)
unfolding gathered numbers any_wrong
gathered_out k [] ns g e h = let n : ns ≡ [] = cc in rw n (sym (or_false g.tally.out))
gathered_out k (w ∷ ws) ns g e h = go (number w) refl (numbers ws) refl (gathered_out k ws) e
  where
    go : (a : Option ℤ) → number w ≡ a → (b : Option (List ℤ)) → numbers ws ≡ b
        → ((ms : List ℤ) (g : Gathered) → numbers ws ≡ Some ms → g.tally.count + length ms ≤ most_fields
        → (gathered k g ws).tally.out ≡ (g.tally.out || any_wrong k g.tally.count ms))
        → and_number a b ≡ Some ns
        → (gathered k (taken k g (bounded largest a)) ws).tally.out ≡ (g.tally.out || any_wrong k g.tally.count ns)
    go None p b q ih e = let z : ◌≡◌ {A = ℕ} 0 1 = cc in absurd (omega arith)
    go (Some z) p None q ih e = let z : ◌≡◌ {A = ℕ} 0 1 = cc in absurd (omega arith)
    go (Some z) p (Some ms) q ih e =
        let n : ns ≡ z ∷ ms = cc in
        let l : length ns ≡ suc (length ms) = ap length n in
        let r = and_field k g (bounded largest (Some z)) in
        let t : taken k g (bounded largest (Some z)) ≡ r = taken_one k g (bounded largest (Some z)) (omega arith) in
        let c = counted k g z in
        let i : r.tally.count ≡ g.tally.count + 1 = c.count in
        ap (λ (x : Gathered). (gathered k x ws).tally.out) t
        ∙ ih ms r q (omega arith)
        ∙ ap₂ (λ (o : Bool) (j : ℕ). o || any_wrong k j ms) c.out i
        ∙ or_or g.tally.out (wrong_at k g.tally.count z) (any_wrong k (g.tally.count + 1) ms)
        ∙ ap (λ (x : List ℤ). g.tally.out || any_wrong k g.tally.count x) (sym n)

-- all of it, where none is wrong
pub gathered_values : (k : ℕ) (ws : List (List ℕ)) (ns : List ℤ) (g : Gathered) → numbers ws ≡ Some ns
    → g.tally.count + length ns ≤ most_fields → length g.values ≡ most_fields → any_wrong k g.tally.count ns ≡ false
    → gathered k g ws
    ≡ gathered_as (tally (g.tally.count + length ns) g.tally.out (g.tally.minus || any is_negative ns)) (put g.values g.tally.count (map nat_abs ns))
unfolding gathered numbers any_wrong
gathered_values k [] ns g e h v f =
    let n : ns ≡ [] = cc in
    let c : g.tally.count ≡ g.tally.count + 0 = omega arith in
    rw n (ap₂ (λ (t : Tally) (x : List ℕ). gathered_as t x)
    (ap₂ (λ (i : ℕ) (m : Bool). tally i g.tally.out m) c (sym (or_false g.tally.minus)))
    (sym (put_none g.values g.tally.count)))
gathered_values k (w ∷ ws) ns g e h v f = go (number w) refl (numbers ws) refl (gathered_values k ws) e
  where
    go : (a : Option ℤ) → number w ≡ a → (b : Option (List ℤ)) → numbers ws ≡ b
        → ((ms : List ℤ) (g : Gathered) → numbers ws ≡ Some ms
        → g.tally.count + length ms ≤ most_fields → length g.values ≡ most_fields → any_wrong k g.tally.count ms ≡ false
        → gathered k g ws
        ≡ gathered_as (tally (g.tally.count + length ms) g.tally.out (g.tally.minus || any is_negative ms)) (put g.values g.tally.count (map nat_abs ms)))
        → and_number a b ≡ Some ns
        → gathered k (taken k g (bounded largest a)) ws
        ≡ gathered_as (tally (g.tally.count + length ns) g.tally.out (g.tally.minus || any is_negative ns)) (put g.values g.tally.count (map nat_abs ns))
    go None p b q ih e = let z : ◌≡◌ {A = ℕ} 0 1 = cc in absurd (omega arith)
    go (Some z) p None q ih e = let z : ◌≡◌ {A = ℕ} 0 1 = cc in absurd (omega arith)
    go (Some z) p (Some ms) q ih e =
        let n : ns ≡ z ∷ ms = cc in
        let l : length ns ≡ suc (length ms) = ap length n in
        let x : any_wrong k g.tally.count (z ∷ ms) ≡ false = ap (any_wrong k g.tally.count) (sym n) ∙ f in
        let y = neither (wrong_at k g.tally.count z) (any_wrong k (g.tally.count + 1) ms) x in
        let i = g.tally.count in
        let r = gathered_as (tally (i + 1) g.tally.out (g.tally.minus || is_negative z)) (set g.values i (nat_abs z)) in
        let t : taken k g (bounded largest (Some z)) ≡ r = taken_one k g (bounded largest (Some z)) (omega arith) ∙ valued k g z y.0 in
        let c : i + 1 + length ms ≡ i + length ns = omega arith in
        let m : length (map nat_abs ms) ≡ length ms = length-map ms nat_abs in
        ap (λ (x : Gathered). gathered k x ws) t
        ∙ ih ms r q (omega arith) (length-set g.values i (nat_abs z) ∙ v) y.1
        ∙ ap₂ (λ (t : Tally) (x : List ℕ). gathered_as t x)
        (ap₂ (λ (i : ℕ) (m : Bool). tally i g.tally.out m) c
        (or_or g.tally.minus (is_negative z) (any is_negative ms) ∙ ap (λ (x : List ℤ). g.tally.minus || any is_negative x) (sym n)))
        (put_cons g.values i (nat_abs z) (map nat_abs ms) (omega arith) ∙ ap (λ (x : List ℤ). put g.values i (map nat_abs x)) (sym n))

-- ---- for the code, a field at a time

pub takes : (k : ℕ) (g : Gathered) {x : Field} (y : Field) → g.tally.count < most_fields → x ≡ y → and_field k g y ≡ taken k g x
takes k g {x} y h e = ap (and_field k g) (sym e) ∙ sym (taken_one k g x h)

pub turn : (k : ℕ) (g : Gathered) (s : List ℕ) (at : ℕ) → at ≤ length s
    → gathered k g (fields_from s at) ≡ gathered k (taken k g (found largest tab s at).field) (fields_from s ((found largest tab s at).next + 1))
unfolding gathered found
turn k g s at h = ap (gathered k g) (next_field s at h)

pub over_end : (k : ℕ) (g : Gathered) (s : List ℕ) (at : ℕ) → length s < at → gathered k g (fields_from s at) ≡ g
unfolding gathered
over_end k g s at h = ap (gathered k g) (past_end s at h)

pub next_fits : (s : List ℕ) (at : ℕ) → at ≤ length s → (at ≤ (found largest tab s at).next) × ((found largest tab s at).next ≤ length s)
unfolding found
next_fits s at h = let k = field_fits s at h in (omega arith, omega arith)
