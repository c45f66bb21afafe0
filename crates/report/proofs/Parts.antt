-- Laws of what is printed: its parts, how long they are, and one put behind the other. Assumes nothing.
use mathlib.Core.Path.{◌≡◌, refl, ap, ap₂, sym, ◌∙◌}
use mathlib.Core.Bool.{Bool, true, false}
use mathlib.Core.List.{List, [], ◌∷◌, ◌++◌, append_assoc}
use Prim.Native.Nat.{ℕ, min, suc, ◌+◌, ◌≤◌, ◌<◌}
use native.Mathlib.Omega.{arith}
use native.Mathlib.Decide.{dec_le}
use Rattle.std.proofs.lemmas.List.{take_all}
use native.Mathlib.Numerals.{add-one}
use lib.ListN.{length, get_or, take, drop, set, length-append, drop_of_length-le}
use lib.Seq.{drop-cons, paste, take-length}
use borrow.Author.Tests.{le-leb, ne_eqb}
use Rattle.words.specs.Lists.{joined}
use Rattle.words.specs.Text.{bytes, tab, line_feed}
use Rattle.numbers.specs.Decimal.{digits}
use Rattle.numbers.specs.Writing.{put, Puts}
use Rattle.std.specs.Prelude.{Option, None, Some}
use Rattle.numbers.proofs.Put.{put_one, put_put, length_put, roomy}
use Rattle.history.specs.Report.{field_then, last_field, shown_finding, word_for, end_line}
use Rattle.history.specs.Leaks.{shown_leak}
use Rattle.history.specs.declared.Finding.{Finding}
use Rattle.answers.specs.Answer.{no_finding}
use Rattle.report.specs.Shown.{leak, field_with, two_fields, three_fields, end_head, leak_head, Fills}

-- ---- zs is xs and then ys

pub record Parts (zs xs ys : List ℕ) : Type 0 where
  pub whole : zs ≡ xs ++ ys

pub length_parts : {zs xs ys : List ℕ} → Parts zs xs ys → length zs ≡ length xs + length ys
length_parts {zs} {xs} {ys} p = ap length p.whole ∙ length-append xs ys

pub length_field : (n after : ℕ) → length (field_with n after) ≡ suc (length (digits n))
length_field n after = length-append (digits n) (after ∷ []) ∙ omega arith

pub two_parts : (b c : ℕ) → Parts (two_fields b c) (field_with b tab) (field_with c line_feed)
two_parts b c = record { whole = refl }

pub three_parts : (a b c : ℕ) → Parts (three_fields a b c) (field_with a tab) (two_fields b c)
three_parts a b c = record { whole = refl }

three_are : (a b c : ℕ) → field_then a (field_then b (last_field c)) ≡ three_fields a b c
three_are a b c =
    sym (append_assoc (digits a) (tab ∷ []) (two_fields b c) ∙ ap (field_then a) (append_assoc (digits b) (tab ∷ []) (last_field c)))

pub finding_parts : (f : Finding) → Parts (shown_finding f) (field_with f.line tab) (three_fields f.rule f.place f.thing)
finding_parts f =
    record {
      whole =
          ap (field_then f.line) (three_are f.rule f.place f.thing)
          ∙ sym (append_assoc (digits f.line) (tab ∷ []) (three_fields f.rule f.place f.thing));
    }

pub end_parts : (closed : Bool) (lines refusal printed : ℕ)
    → Parts (end_line closed lines refusal printed) (end_head closed refusal) (three_fields lines refusal printed)
end_parts closed lines refusal printed =
    record {
      whole =
          ap (λ (bs : List ℕ). bytes "end" ++ (tab ∷ (word_for refusal closed ++ (tab ∷ bs)))) (three_are lines refusal printed)
          ∙ ap (λ (bs : List ℕ). bytes "end" ++ (tab ∷ bs)) (sym (append_assoc (word_for refusal closed) (tab ∷ []) (three_fields lines refusal printed)));
    }

-- of a leak, its numbers and the last three of them
abbrev pub leak_fields : ℕ → ℕ → ℕ → ℕ → List ℕ
leak_fields rule thread value line = field_with rule tab ++ three_fields thread value line

module _ (rule thread value line : ℕ) where
  pub leak_parts : Parts (shown_leak (leak rule thread value line)) leak_head (leak_fields rule thread value line)
  leak_parts =
      record {
        whole =
            ap (λ (bs : List ℕ). bytes "leak" ++ (tab ∷ (digits rule ++ (tab ∷ bs)))) (three_are thread value line)
            ∙ ap (λ (bs : List ℕ). bytes "leak" ++ (tab ∷ bs)) (sym (append_assoc (digits rule) (tab ∷ []) (three_fields thread value line)));
      }

  pub fields_parts : Parts (leak_fields rule thread value line) (field_with rule tab) (three_fields thread value line)
  fields_parts = record { whole = refl }

-- what stands before the numbers, by the tests
module _ (closed : Bool) (refusal : ℕ) where
  pub head_refused : (refusal ≡ 0 → ⊥) → end_head closed refusal ≡ bytes "end" ++ (tab ∷ (bytes "refused" ++ (tab ∷ [])))
  head_refused h = rw (ne_eqb refusal 0 h)

  pub head_closed : refusal ≡ 0 → closed ≡ true → end_head closed refusal ≡ bytes "end" ++ (tab ∷ (bytes "closed" ++ (tab ∷ [])))
  head_closed h t = rw (h, t)

  pub head_open : refusal ≡ 0 → closed ≡ false → end_head closed refusal ≡ bytes "end" ++ (tab ∷ (bytes "open" ++ (tab ∷ [])))
  head_open h t = rw (h, t)

-- ---- the findings of an answer, one after the other

-- of a list of k at most
pub take_least : (c k : ℕ) (xs : List Finding) → length xs ≤ k → take (min c k) xs ≡ take c xs
take_least c k xs h = go (dec_le c k)
  where
    go : Dec (c ≤ k) → take (min c k) xs ≡ take c xs
    go (yes l) = let e : min c k ≡ c = omega arith in rw e
    go (no l) = let e : min c k ≡ k = omega arith in rw e (take_all k xs h ∙ sym (take_all c xs (omega arith)))

-- the findings from number i on
abbrev pub rest : List Finding → ℕ → List ℕ
rest xs i = joined (drop i xs) shown_finding

pub rest_next : (xs : List Finding) (i : ℕ) → i < length xs → Parts (rest xs i) (shown_finding (get_or xs i no_finding)) (rest xs (i + 1))
rest_next xs i h = record { whole = rw (add-one, drop-cons xs i no_finding h) }

pub rest_end : (xs : List Finding) (i : ℕ) → length xs ≤ i → rest xs i ≡ []
rest_end xs i h = rw (drop_of_length-le xs {i = i} h)

-- ---- bytes put where there is room

pub fills_as : {d : List ℕ} {at : ℕ} {xs ys : List ℕ} {r : ℕ} {d' : List ℕ} → ys ≡ xs → Fills d at xs r d' → Fills d at ys r d'
fills_as e f = rw e f

pub fills_puts : {d : List ℕ} {at : ℕ} {xs : List ℕ} {r : ℕ} {d' : List ℕ} → Fills d at xs r d' → Puts d at xs (Some r) d'
fills_puts f = roomy f.fits (ap Some f.past) f.left

-- one part is put, and the other behind it
module _ {zs xs ys d e : List ℕ} {at p : ℕ} (parts : Parts zs xs ys) (f : Fills d at xs p e) where
  pub put_on : put e p ys ≡ put d at zs
  put_on = ap₂ (λ (x : List ℕ) (k : ℕ). put x k ys) f.left f.past ∙ put_put d at xs ys f.fits ∙ ap (put d at) (sym parts.whole)

  pub fills_then : {d' : List ℕ} {r : ℕ} → Fills e p ys r d' → Fills d at zs r d'
  fills_then g =
      record {
        fits = omega (arith, length_parts parts, f.past, g.fits, ap length f.left, length_put d at xs f.fits);
        past = omega (arith, length_parts parts, f.past, g.past);
        left = g.left ∙ put_on;
      }

-- what `numbers::write` wrote, and a byte behind it
module _ {e : List ℕ} {r : Option ℕ} (d : List ℕ) (at : ℕ) (xs : List ℕ) (b : ℕ) (room : at + length (xs ++ (b ∷ [])) ≤ length d) (w : Puts d at xs r e) where
  fits : at + length xs < length d
  fits = omega (arith, length-append xs (b ∷ []))

  replied : r ≡ Some (at + length xs)
  replied = w.reply ∙ rw (le-leb (at + length xs) (length d) (omega (arith, fits)))

  wrote : {p : ℕ} → r ≡ Some p → Fills d at xs p e
  wrote {p} g =
      let h : Some p ≡ Some (at + length xs) = sym g ∙ replied in
      record { fits = omega (arith, fits); past = cc; left = w.left ∙ rw (le-leb (at + length xs) (length d) (omega (arith, fits))) }

  pub to_fits : {p : ℕ} → r ≡ Some p → p < length e
  to_fits g = omega (arith, fits, (wrote g).past, ap length (wrote g).left, length_put d at xs (omega (arith, fits)))

  pub fills_one : {p : ℕ} → r ≡ Some p → Fills d at (xs ++ (b ∷ [])) (p + 1) (set e p b)
  fills_one {p} g =
      fills_then {ys = b ∷ []} (record { whole = refl }) (wrote g)
      (record { fits = omega (arith, to_fits g); past = refl; left = put_one e p b (to_fits g) })

  pub not_short : r ≡ None → ⊥
  not_short g = let h : None ≡ Some (at + length xs) = sym g ∙ replied in let z : ◌≡◌ {A = ℕ} 0 1 = cc in omega arith

-- a whole copy
pub fills_copied : {d' : List ℕ} (d : List ℕ) (at : ℕ) (s : List ℕ) (i : ℕ) → at + length s ≤ length d → i ≡ length s → d' ≡ paste d at s i
    → Fills d at s (at + i) d'
fills_copied d at s i room e h =
    record {
      fits = room;
      past = ap (λ (k : ℕ). at + k) e;
      left =
          h ∙ ap (paste d at s) e
          ∙ append_assoc (take at d) (take (length s) s) (drop (at + length s) d)
          ∙ ap (λ (x : List ℕ). take at d ++ (x ++ drop (at + length s) d)) (take-length s);
    }
