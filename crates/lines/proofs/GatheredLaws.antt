-- What is gathered of a line's fields makes the line that it is read as, and its slots. Assumes nothing.
use mathlib.Core.Path.{◌≡◌, refl, ap, ap₂, sym, ◌∙◌}
use mathlib.Core.Bool.{Bool, true, false, ◌&&◌}
use mathlib.Core.List.{List, [], ◌++◌, map}
use Rattle.std.specs.Prelude.{Option, None, Some, Ok}
use Prim.Native.Nat.{ℕ, suc, ◌+◌, ◌-◌, ◌≤◌, ◌<◌}
use native.Mathlib.Omega.{arith}
use native.Mathlib.Decide.{dec_le}
use lib.IntN.{ℤ, pos, nat_abs}
use lib.ListN.{length, take, drop, replicate, length-map}
use lib.Seq.{take_at, drop_at}
use borrow.Author.Tests.{le-leb, lt-leb}
use Rattle.std.proofs.lemmas.List.{drop-replicate}
use Rattle.words.specs.Choice.{if_true◌then◌else◌}
use Rattle.words.specs.Lists.{any}
use Rattle.numbers.specs.Signed.{is_negative}
use Rattle.lines.specs.Line.{K, O, M, Line, N, X, C, R, A, D, Z, states, above_zero}
use Rattle.lines.specs.Forms.{most_fields, form_of, numbers_of}
use Rattle.lines.specs.Reading.{Read, says, refused, numbers, line_of, if_numbers}
use Rattle.lines.specs.Writing.{lettered, written}
use Rattle.lines.specs.Events.{gives_status, event_in, event_of, padded, slots_of}
use Rattle.lines.specs.Sizes.{numbers_in, right_count, line_in, named, slots_in}
use Rattle.lines.specs.Gathered.{tally, nothing_yet, no_values, Gathered, gathered_as, gathered, made}
use Rattle.lines.specs.declared.heads.Tally.{Tally}
use Rattle.lines.specs.declared.Event.{Event}
use Rattle.lines.proofs.Answered.{event_said}
use Rattle.lines.proofs.Tests.{and_false}
use Rattle.lines.proofs.Formed.{within_high, most_few}
use Rattle.lines.proofs.Gathering.{any_wrong, counted_from, gathered_count, gathered_out, gathered_values}
use Rattle.lines.proofs.Numbered.{never, if_allowed_said, in_form_said, Numbered, line_said}
use Rattle.lines.proofs.FormLaws.{enter_line, enter_in}
use Rattle.lines.proofs.Signs.{wrong_refused, sizes_back}

abbrev pub gathered_of : ℕ → List (List ℕ) → Gathered
gathered_of b ws = gathered (form_of b).signed (gathered_as nothing_yet no_values) ws

abbrev made_of : ℕ → Gathered → Read
made_of b g = made b g.tally g.values

right_most : (b n : ℕ) → right_count b n ≡ true → n ≤ most_fields
right_most b n h = omega (arith, within_high (form_of b).least (form_of b).most n h, most_few b)

over_most : (b n : ℕ) → most_fields < n → right_count b n ≡ false
over_most b n l = go (right_count b n) refl
  where
    go : (t : Bool) → right_count b n ≡ t → right_count b n ≡ false
    go true h = absurd (omega (arith, right_most b n h))
    go false h = h

-- ---- by the count

made_two : (b : ℕ) (g : Gathered) → right_count b g.tally.count ≡ false → made_of b g ≡ refused 2
unfolding made line_in
made_two b g h = rw (h, and_false g.tally.out)

made_three : (b : ℕ) (g : Gathered) → right_count b g.tally.count ≡ true → g.tally.out ≡ true → made_of b g ≡ refused 3
unfolding made
made_three b g h o = rw (h, o)

line_two : (b : ℕ) (ns : List ℤ) → right_count b (length ns) ≡ false → line_of b ns ≡ refused 2
unfolding line_of
line_two b ns h = rw h

count_of : (b : ℕ) (ws : List (List ℕ)) (o : Option (List ℤ)) → numbers ws ≡ o → (gathered_of b ws).tally.count ≡ counted_from 0 o
count_of b ws o e = gathered_count (form_of b).signed ws (gathered_as nothing_yet no_values) (omega arith) ∙ ap (counted_from 0) e

-- the numbers at the front, where none is out of range
made_right : (b : ℕ) (ns : List ℤ) → right_count b (length ns) ≡ true → any_wrong (form_of b).signed 0 ns ≡ false
    → made b (tally (length ns) false (any is_negative ns)) (map nat_abs ns ++ drop (length (map nat_abs ns)) no_values) ≡ line_of b ns
unfolding made line_in
made_right b ns r w =
    rw r
    (ap (λ (vs : List ℕ). line_of b (numbers_in b (any is_negative ns) vs)) (take_at (map nat_abs ns) (drop (length (map nat_abs ns)) no_values) (length ns) (length-map ns nat_abs))
    ∙ ap (line_of b) (sizes_back b ns (right_most b (length ns) r) w))

module _ (b : ℕ) (ws : List (List ℕ)) (ns : List ℤ) (e : numbers ws ≡ Some ns) where
  many : most_fields < length ns → made_of b (gathered_of b ws) ≡ line_of b ns
  many l =
      let c : counted_from 0 (Some ns) ≡ suc most_fields = rw (lt-leb (0 + length ns) most_fields (omega arith)) in
      made_two b (gathered_of b ws) (ap (right_count b) (count_of b ws (Some ns) e ∙ c) ∙ over_most b (suc most_fields) (omega arith))
      ∙ sym (line_two b ns (over_most b (length ns) l))

  few_count : length ns ≤ most_fields → (gathered_of b ws).tally.count ≡ length ns
  few_count l =
      let z : 0 + length ns ≡ length ns = omega arith in
      count_of b ws (Some ns) e ∙ rw (le-leb (0 + length ns) most_fields (omega arith)) z

  right_gathered : right_count b (length ns) ≡ true → any_wrong (form_of b).signed 0 ns ≡ false
      → gathered_of b ws ≡ gathered_as (tally (length ns) false (any is_negative ns)) (map nat_abs ns ++ drop (length (map nat_abs ns)) no_values)
  right_gathered r f =
      let l = right_most b (length ns) r in
      let z : 0 + length ns ≡ length ns = omega arith in
      let y : 0 + length (map nat_abs ns) ≡ length (map nat_abs ns) = omega arith in
      gathered_values (form_of b).signed ws ns (gathered_as nothing_yet no_values) e (omega arith) refl f
      ∙ ap₂ (λ (i j : ℕ). gathered_as (tally i false (any is_negative ns)) (map nat_abs ns ++ drop j no_values)) z y

  few : length ns ≤ most_fields → (r : Bool) → right_count b (length ns) ≡ r → (w : Bool) → any_wrong (form_of b).signed 0 ns ≡ w
      → made_of b (gathered_of b ws) ≡ line_of b ns
  few l false r w f = made_two b (gathered_of b ws) (ap (right_count b) (few_count l) ∙ r) ∙ sym (line_two b ns r)
  few l true r true f =
      made_three b (gathered_of b ws) (ap (right_count b) (few_count l) ∙ r) (gathered_out (form_of b).signed ws ns (gathered_as nothing_yet no_values) e (omega arith) ∙ f)
      ∙ sym (wrong_refused b ns r f)
  few l true r false f = ap (made_of b) (right_gathered r f) ∙ made_right b ns r f

pub made_numbers : (b : ℕ) (ws : List (List ℕ)) → made_of b (gathered_of b ws) ≡ if_numbers b (numbers ws)
made_numbers b ws = go (numbers ws) refl
  where
    go : (o : Option (List ℤ)) → numbers ws ≡ o → made_of b (gathered_of b ws) ≡ if_numbers b o
    go None e = made_two b (gathered_of b ws) (ap (right_count b) (count_of b ws None e) ∙ over_most b (suc most_fields) (omega arith))
    go (Some ns) e = by_length (dec_le (length ns) most_fields)
      where
        by_length : Dec (length ns ≤ most_fields) → made_of b (gathered_of b ws) ≡ line_of b ns
        by_length (yes l) = few b ws ns e l (right_count b (length ns)) refl (any_wrong (form_of b).signed 0 ns) refl
        by_length (no l) = many b ws ns e (omega arith)

-- no size stands past those of a line's numbers

rest_none : (n : ℕ) → n ≤ most_fields → (vs : List ℕ) → length vs ≡ n → drop n (vs ++ drop (length vs) no_values) ≡ replicate (most_fields - n) 0
rest_none n h vs l = drop_at vs (drop (length vs) no_values) n l ∙ ap (λ (i : ℕ). drop i no_values) l ∙ drop-replicate n most_fields 0

said_right : (b : ℕ) (ns : List ℤ) (e : Line) → line_of b ns ≡ says e → (right_count b (length ns) ≡ true) × (any_wrong (form_of b).signed 0 ns ≡ false)
unfolding line_of
said_right b ns e h = let r = (in_form_said (form_of b) ns e h).count in (r, go r (any_wrong (form_of b).signed 0 ns) refl)
  where
    go : right_count b (length ns) ≡ true → (w : Bool) → any_wrong (form_of b).signed 0 ns ≡ w → any_wrong (form_of b).signed 0 ns ≡ false
    go r true f = absurd (never (sym (wrong_refused b ns r f) ∙ h))
    go r false f = f

pub made_rest : (b : ℕ) (ws : List (List ℕ)) (e : Line) → if_numbers b (numbers ws) ≡ says e
    → drop (length (numbers_of e)) (gathered_of b ws).values ≡ replicate (most_fields - length (numbers_of e)) 0
made_rest b ws e = go (numbers ws) refl
  where
    go : (o : Option (List ℤ)) → numbers ws ≡ o → if_numbers b o ≡ says e
        → drop (length (numbers_of e)) (gathered_of b ws).values ≡ replicate (most_fields - length (numbers_of e)) 0
    go None p h = absurd (never h)
    go (Some ns) p h =
        let k = said_right b ns e h in
        let l = right_most b (length ns) k.0 in
        ap₂ (λ (i : ℕ) (vs : List ℕ). drop i vs) (ap length (line_said b ns e h).numbers) (ap (λ (g : Gathered). g.values) (right_gathered b ws ns p k.0 k.1))
        ∙ rest_none (length ns) l (map nat_abs ns) (length-map ns nat_abs)
        ∙ ap (λ (ms : List ℤ). replicate (most_fields - length ms) 0) (sym (line_said b ns e h).numbers)

-- ---- the slots beside it

abbrev Slots : ℕ → List ℕ → Line → Type 0
Slots n vs e = slots_in (event_in e) n vs ≡ slots_of (says e)

return_slots : (n : ℕ) (vs : List ℕ) (t f : ℕ) (r : ℤ) (p : ℕ) → Slots n vs (R t f r p)
return_slots n vs t f r p = go (gives_status f)
  where
    go : (s : Bool) → slots_in (if_true s then Event.Return t f 0 r p else Event.Return t f (above_zero r) (pos 0) p) n vs ≡ padded []
    go true = refl
    go false = refl

slots_said : (n : ℕ) (vs : List ℕ) (e : Line) → ((t env : ℕ) (hs : List ℕ) → e ≡ N t env hs → hs ≡ named n vs) → Slots n vs e
slots_said n vs (N t env hs) h = ap padded (sym (h t env hs refl))
slots_said n vs (X t r) h = refl
slots_said n vs (C t env f a b c k) h = refl
slots_said n vs (R t f r p) h = return_slots n vs t f r p
slots_said n vs (A t env) h = refl
slots_said n vs (D t) h = refl
slots_said n vs Z h = refl
slots_said n vs (states (K c s)) h = refl
slots_said n vs (states (O t k c)) h = refl
slots_said n vs (states (M x sort c static final)) h = refl

-- N names the handles after thread and env
module _ (b n : ℕ) (minus : Bool) (vs : List ℕ) (ten : length vs ≡ most_fields) where
  handles_are : (t env : ℕ) (hs : List ℕ) → line_in b n minus vs ≡ says (N t env hs) → hs ≡ named n vs
  unfolding line_in
  handles_are t env hs s = go (right_count b n) refl s
    where
      same : right_count b n ≡ true → line_in b n minus vs ≡ says (N t env hs) → hs ≡ named n vs
      same r s =
          let e = (line_said b (numbers_in b minus (take n vs)) (N t env hs) (rw r at s)).letter in
          let k = if_allowed_said (enter_line n vs) (N t env hs) (enter_in b n minus vs ten r (sym e) ∙ s) in
          cc

      go : (right : Bool) → right_count b n ≡ right → line_in b n minus vs ≡ says (N t env hs) → hs ≡ named n vs
      go true r s = same r s
      go false r s = absurd (never (rw r at s))

  slots_made : {e : Event} → event_of (line_in b n minus vs) ≡ Ok e → slots_in e n vs ≡ slots_of (line_in b n minus vs)
  slots_made {e} p =
      let s = event_said (line_in b n minus vs) e p in
      ap (λ (x : Event). slots_in x n vs) (sym s.2)
      ∙ slots_said n vs s.0 (λ t env hs q. handles_are t env hs (s.1 ∙ ap says q))
      ∙ ap slots_of (sym s.1)

  pub event_left : {e : Event} {x : Read} {hs : List ℕ} → event_of (line_in b n minus vs) ≡ Ok e → line_in b n minus vs ≡ x → hs ≡ slots_in e n vs → (Ok e ≡ event_of x) × (hs ≡ slots_of x)
  event_left p m h = (sym p ∙ ap event_of m, h ∙ slots_made p ∙ ap slots_of m)

-- ---- for the code

-- what n numbers say has those numbers
pub line_in_numbered : (b n : ℕ) (minus : Bool) (vs : List ℕ) (e : Line) → line_in b n minus vs ≡ says e
    → (n ≤ most_fields) × Numbered b (numbers_in b minus (take n vs)) e
unfolding line_in
line_in_numbered b n minus vs e = go (right_count b n) refl
  where
    go : (r : Bool) → right_count b n ≡ r → (if_true r then line_of b (numbers_in b minus (take n vs)) else refused 2) ≡ says e
        → (n ≤ most_fields) × Numbered b (numbers_in b minus (take n vs)) e
    go true r h = (right_most b n r, line_said b (numbers_in b minus (take n vs)) e h)
    go false r h = absurd (never h)

-- and is written as them
pub line_in_said : (b n : ℕ) (minus : Bool) (vs : List ℕ) (e : Line) → line_in b n minus vs ≡ says e
    → (n ≤ most_fields) × (lettered b (numbers_in b minus (take n vs)) ≡ written e)
unfolding written
line_in_said b n minus vs e h =
    let k = line_in_numbered b n minus vs e h in
    (k.0, sym (ap₂ lettered k.1.letter k.1.numbers))

module _ (b : ℕ) (t : Tally) (vs : List ℕ) where
  pub out_made : t.out ≡ true → right_count b t.count ≡ true → refused 3 ≡ made b t vs
  unfolding made
  out_made o r = rw (o, r)

  pub in_made : (t.out && right_count b t.count) ≡ false → line_in b t.count t.minus vs ≡ made b t vs
  unfolding made
  in_made h = rw h
